-- The value of a float: a number of at most 53 binary digits, times or over a power of 2, in lowest terms.
use Rattle.std.specs.Prelude.{◌≡◌, ◌≢◌, ◌⊎◌, ◌+◌, ◌-◌, ◌*◌, ◌%◌, ◌^◌, ◌<◌, ◌≤◌, ◌≤ℤ◌, ◌<ℤ◌, ◌+ℤ◌, ℕ, ℤ, zero, suc, pos, negsuc, neg_ℤ, unsigned_abs, Bool, true, false}
use Rattle.std.specs.Int.{◌∣◌}
use Rattle.std.proofs.Common.{refl, sym, ap, arith, inl, inr, ◌∙◌}
use Rattle.std.proofs.lemmas.Int.{ints}
use Rattle.std.proofs.lemmas.Nat.{pow-add, pow_pos}
use Rattle.std.proofs.Math.Nat.{mul-le-mul_left, one-dvd, pow-le-pow_right}
use Rattle.ratio_integer.specs.Fraction.{IsHeldLowest, IsLowestTerms, IsLowestTermsOf}
use Rattle.ratio_integer.specs.OddPart.{IsOddPart}
use Rattle.ratio_integer.specs.Range.{IsHeld, IsRange}
use Rattle.ratio_integer.proofs.CommonDivisors.{gcd_coprime}
use Rattle.ratio_integer.proofs.Halving.{odd_beside}
use Rattle.ratio_integer.proofs.LowestTerms.{over_one}
use Rattle.ratio_approximation.proofs.HeldAround.{between_held}
use Rattle.ratio_core.proofs.SignedNumbers.{size_is, with_sign-mul}
use Rattle.ratio_core.specs.Signs.{with_sign}

-- ---- signs

twice : (s : Bool) (n : ℕ) → with_sign s n +ℤ with_sign s n ≡ with_sign s (2 * n)
twice false n = omega (arith, ints)
twice true zero = refl
twice true (suc n) = omega (arith, ints)

not_above : (n : ℕ) → neg_ℤ (pos n) ≤ℤ pos 0
not_above zero = omega (arith, ints)
not_above (suc n) = omega (arith, ints)

-- a number nearer to 0 on the same side is in range
smaller_held : (lo hi : ℤ) (s : Bool) (m n : ℕ) → IsRange lo hi → m ≤ n → IsHeld lo hi (with_sign s n) → IsHeld lo hi (with_sign s m)
smaller_held lo hi false m n range less held = between_held lo hi (pos n) (pos m) range held (inl (omega (arith, ints), omega (arith, ints)))
smaller_held lo hi true zero n range less held = between_held lo hi (neg_ℤ (pos n)) (pos 0) range held (inr (not_above n, omega (arith, ints)))
smaller_held lo hi true (suc m) zero range less held = absurd (omega arith)
smaller_held lo hi true (suc m) (suc n) range less held = between_held lo hi (negsuc n) (negsuc m) range held (inr (omega (arith, ints), omega (arith, ints)))

-- ---- the loop that doubles

fewer_held : (lo hi : ℤ) (s : Bool) (n i j : ℕ) → IsRange lo hi → i ≤ j → IsHeld lo hi (with_sign s (n * 2 ^ j)) → IsHeld lo hi (with_sign s (n * 2 ^ i))
fewer_held lo hi s n i j range less held =
    let two : 1 ≤ 2 = omega arith in
    smaller_held lo hi s (n * 2 ^ i) (n * 2 ^ j) range (mul-le-mul_left n (pow-le-pow_right two less)) held

pub begun_is : (s : Bool) (n : ℕ) → with_sign s n ≡ with_sign s (n * 2 ^ 0)
begun_is s n = ap (with_sign s) (let e : 2 ^ 0 ≡ 1 = refl in let h : n ≡ n * 2 ^ 0 = omega arith in h)

pub doubled_is : (s : Bool) (n i : ℕ) (x y : ℤ) → x ≡ with_sign s (n * 2 ^ i) → y ≡ x +ℤ x → y ≡ with_sign s (n * 2 ^ (i + 1))
doubled_is s n i x y x-is y-is =
    let e : 2 ^ (i + 1) ≡ 2 ^ i * 2 ^ 1 = pow-add 2 i 1 in
    let h : 2 * (n * 2 ^ i) ≡ n * 2 ^ (i + 1) = rw e (omega arith) in
    y-is ∙ rw x-is (twice s (n * 2 ^ i)) ∙ ap (with_sign s) h

pub begun_out : (lo hi : ℤ) (s : Bool) (n times : ℕ) (z : ℤ) → IsRange lo hi → z ≡ with_sign s n → ¬ (IsHeld lo hi z) → ¬ (IsHeld lo hi (with_sign s (n * 2 ^ times)))
begun_out lo hi s n times z range z-is out held = out (rw (z-is, begun_is s n) (fewer_held lo hi s n 0 times range (omega arith) held))

pub doubled_out : (lo hi : ℤ) (s : Bool) (n i times : ℕ) (x : ℤ) → IsRange lo hi → i < times → x ≡ with_sign s (n * 2 ^ i) → ¬ (IsHeld lo hi (x +ℤ x)) → ¬ (IsHeld lo hi (with_sign s (n * 2 ^ times)))
doubled_out lo hi s n i times x range less x-is out held =
    out (rw (doubled_is s n i x (x +ℤ x) x-is refl) (fewer_held lo hi s n (i + 1) times range (omega arith) held))

-- ---- an odd number and a power of 2

power_positive : (down : ℕ) → pos 0 <ℤ pos (1 * 2 ^ down)
power_positive down = (let h = pow_pos down in omega (arith, ints))

power_nonzero : (k : ℕ) → pos (2 ^ k) ≢ pos 0
power_nonzero k = λ e. (let above = pow_pos k in let z : 2 ^ k ≡ 0 = cc in omega arith)

odd_only : (odd down : ℕ) → odd % 2 ≡ 1 → (k : ℕ) → k ∣ odd → k ∣ 1 * 2 ^ down → k ≡ 1
odd_only odd down is = gcd_coprime odd (1 * 2 ^ down) 1 (odd_beside odd 1 down 1 is (one-dvd odd, one-dvd 1, λ k x y. y)) refl

odd_lowest : (s : Bool) (odd up down : ℕ) → odd % 2 ≡ 1 → (up ≡ 0) ⊎ (down ≡ 0) → IsLowestTerms (with_sign s (odd * 2 ^ up)) (pos (1 * 2 ^ down))
odd_lowest s odd up down is (inl none) =
    let e : 2 ^ 0 ≡ 1 = refl in
    let size : unsigned_abs (with_sign s (odd * 2 ^ up)) ≡ odd = size_is s (odd * 2 ^ up) ∙ (rw none (let h : odd * 2 ^ 0 ≡ odd = omega arith in h)) in
    record { positive = power_positive down; only_one = λ k x y. odd_only odd down is k (rw size at x) y }
odd_lowest s odd up down is (inr none) = over_one _ _ (rw none refl)

one_none : (x y : ℕ) → ((x - y ≡ 0) ⊎ (y - x ≡ 0))
one_none zero y = inl (omega arith)
one_none (suc x) zero = inr (omega arith)
one_none (suc x) (suc y) = elim (one_none x y) [
  | inl h ↦ inl (omega arith)
  | inr h ↦ inr (omega arith)
]

powers_same : (whole odd zeros up down : ℕ) → whole ≡ odd * 2 ^ zeros → whole * 2 ^ up * (1 * 2 ^ (down - (up + zeros))) ≡ odd * 2 ^ ((up + zeros) - down) * 2 ^ down
powers_same whole odd zeros up down is =
    let first : 2 ^ (zeros + up) ≡ 2 ^ zeros * 2 ^ up = pow-add 2 zeros up in
    let second : 2 ^ ((zeros + up) + (down - (up + zeros))) ≡ 2 ^ (zeros + up) * 2 ^ (down - (up + zeros)) = pow-add 2 (zeros + up) (down - (up + zeros)) in
    let third : 2 ^ (((up + zeros) - down) + down) ≡ 2 ^ ((up + zeros) - down) * 2 ^ down = pow-add 2 ((up + zeros) - down) down in
    let same : (zeros + up) + (down - (up + zeros)) ≡ ((up + zeros) - down) + down = omega arith in
    let left : whole * 2 ^ up * (1 * 2 ^ (down - (up + zeros))) ≡ odd * 2 ^ ((zeros + up) + (down - (up + zeros))) = rw (is, second, first) (omega arith) in
    let right : odd * 2 ^ (((up + zeros) - down) + down) ≡ odd * 2 ^ ((up + zeros) - down) * 2 ^ down = rw third (omega arith) in
    left ∙ ap (λ t. odd * 2 ^ t) same ∙ right

-- the odd part, times the powers that are left above and below, is the lowest terms
pub parts_lowest : (s : Bool) (whole odd zeros up down more less : ℕ) → IsOddPart whole odd zeros → more ≡ (up + zeros) - down → less ≡ down - (up + zeros)
    → IsLowestTermsOf (with_sign s (whole * 2 ^ up)) (pos (2 ^ down)) (with_sign s (odd * 2 ^ more)) (with_sign false (1 * 2 ^ less))
parts_lowest s whole odd zeros up down more less part more-is less-is = record {
  fraction = power_nonzero down;
  same = rw (more-is, less-is) (with_sign-mul s (whole * 2 ^ up) (1 * 2 ^ (down - (up + zeros))) ∙ ap (with_sign s) (powers_same whole odd zeros up down part.whole) ∙ sym (with_sign-mul s (odd * 2 ^ ((up + zeros) - down)) (2 ^ down)));
  lowest = odd_lowest s odd more less part.odd (rw (more-is, less-is) (one_none (up + zeros) down));
}

nothing : (s : Bool) → with_sign s 0 ≡ pos 0
nothing false = refl
nothing true = refl

pub zero_lowest : (lo hi : ℤ) (s : Bool) (whole up down : ℕ) (a b : ℤ) → IsRange lo hi → whole ≡ 0 → a ≡ pos 0 → b ≡ pos 1 → IsHeldLowest lo hi (with_sign s (whole * 2 ^ up)) (pos (2 ^ down)) a b
zero_lowest lo hi s whole up down a b range none a-is b-is =
    let size : whole * 2 ^ up ≡ 0 = rw none (omega arith) in
    let numer : with_sign s (whole * 2 ^ up) ≡ pos 0 = ap (with_sign s) size ∙ nothing s in
    rw (a-is, b-is) (record {
      terms = record { fraction = power_nonzero down; same = rw numer (omega (arith, ints)); lowest = over_one (pos 0) (pos 1) refl };
      numer_held = (let high = range.high in let low = range.low in grind (arith, ints));
      denom_held = (let high = range.high in let low = range.low in grind (arith, ints));
    })
