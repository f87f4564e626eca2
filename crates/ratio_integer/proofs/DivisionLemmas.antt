-- Truncated division of whole numbers, and what follows for floored division and divisors.
use Rattle.std.specs.Prelude.{◌≡◌, ◌≢◌, ◌⊎◌, ◌↔◌, ◌*◌, ◌/◌, ◌%◌, ◌<◌, ◌≤◌, ◌≤ℤ◌, ◌<ℤ◌, ◌+ℤ◌, ◌-ℤ◌, ◌*ℤ◌, ℕ, ℤ, Bool, zero, suc, pos, negsuc, neg_ℤ, unsigned_abs, int_div, int_rem}
use Rattle.std.proofs.Common.{refl, sym, ap, arith, inl, inr, ◌∙◌}
use Rattle.std.proofs.Math.Nat.{dvd-mul_left, mod-eq-zero_of_dvd, div-le_self, mod-le, le_of_dvd}
use Rattle.std.proofs.lemmas.Int.{ints, quot-rem, rem_below, unsigned_abs-mul}
use Rattle.std.proofs.lemmas.Nat.{mul-le, div-add-mod'}
use lib.IntN.{+ℤ_idr, -ℤ_one, pred_ℤ-*ℤ, *ℤ-zero, zero-*ℤ, *ℤ-negsuc, *ℤ-one, neg_ℤ-neg_ℤ, one}
use Rattle.ratio_integer.specs.Division.{GcdHeld, IsAboveMax, IsFloored, IsMultiple}
use Rattle.ratio_integer.specs.Comparison.{Tells}
use Rattle.ratio_integer.specs.Range.{IsHeld, IsRange}

-- ---- magnitudes

pub abs-neg : (n : ℕ) → unsigned_abs (neg_ℤ (pos n)) ≡ n
abs-neg zero = refl
abs-neg (suc n) = refl

pub abs-zero : (z : ℤ) → unsigned_abs z ≡ 0 → z ≡ pos 0
abs-zero (pos n) h = ap pos h
abs-zero (negsuc n) h = absurd (omega arith)

pub abs_pos : (z : ℤ) → z ≢ pos 0 → 0 < unsigned_abs z
abs_pos (pos zero) h = absurd (h refl)
abs_pos (pos (suc n)) h = omega arith
abs_pos (negsuc n) h = omega arith

-- the magnitude of a remainder
pub abs-rem : (a d : ℤ) → unsigned_abs (int_rem a d) ≡ unsigned_abs a % unsigned_abs d
abs-rem (pos a) d = refl
abs-rem (negsuc a) d = abs-neg (suc a % unsigned_abs d)

-- ---- multiples

pub multiple-rem : (a b : ℤ) → IsMultiple a b ↔ (int_rem a b ≡ pos 0)
multiple-rem a b = (
  (λ (k, e). abs-zero _ (abs-rem a b ∙ mod-eq-zero_of_dvd (unsigned_abs b) (rw (ap unsigned_abs e ∙ unsigned_abs-mul k b) (dvd-mul_left (unsigned_abs b) (unsigned_abs k))))),
  (λ e. (int_div a b, sym (quot-rem a b) ∙ ap (λ r. int_div a b *ℤ b +ℤ r) e ∙ +ℤ_idr _)),
)

-- ---- floored division

-- dividing by 2 or more gives at most the half
pub halved : (a b : ℕ) → 2 ≤ b → 2 * (a / b) ≤ a
halved a b h = omega (arith, mul-le (a / b) 2 (a / b) b (omega arith) h, div-add-mod' a b)

-- the quotient of two numbers in range is in range, except for -hi-1 by -1
pub quotient_held : (lo hi a b : ℤ) → IsRange lo hi → IsHeld lo hi a → IsHeld lo hi b → b ≢ pos 0 → ¬ (IsAboveMax hi a b) → IsHeld lo hi (int_div a b)
quotient_held lo hi (pos n) (pos k) range ha hb nz out = grind (arith, ints, div-le_self n k)
quotient_held lo hi (pos n) (negsuc k) range ha hb nz out = grind (arith, ints, div-le_self n (suc k))
quotient_held lo hi (negsuc n) (pos k) range ha hb nz out = grind (arith, ints, div-le_self (suc n) k)
quotient_held lo hi (negsuc n) (negsuc zero) range ha hb nz out =
    let other : negsuc n ≢ neg_ℤ hi -ℤ pos 1 = λ e. out (record { numer = e; denom = refl }) in
    grind (arith, ints, div-le_self (suc n) 1)
quotient_held lo hi (negsuc n) (negsuc (suc k)) range ha hb nz out = grind (arith, ints, halved (suc n) (suc (suc k)) (omega arith))

pub remainder_held : (lo hi a b : ℤ) → IsRange lo hi → IsHeld lo hi a → IsHeld lo hi (int_rem a b)
remainder_held lo hi (pos n) b range ha = grind (arith, ints, mod-le n (unsigned_abs b))
remainder_held lo hi (negsuc n) b range ha = grind (arith, ints, mod-le (suc n) (unsigned_abs b))

-- if the remainder is on the divisor's side of 0, the truncated quotient is the floored one
pub floored_same : (a b : ℤ) → b ≢ pos 0 → ((int_rem a b ≤ℤ pos 0) × (b <ℤ pos 0)) ⊎ ((pos 0 ≤ℤ int_rem a b) × (pos 0 ≤ℤ b)) → IsFloored a b (int_div a b) (int_rem a b)
floored_same a b nz side =
    let below : unsigned_abs (int_rem a b) < unsigned_abs b = rem_below a b (abs_pos b nz) in
    record { sum = sym (quot-rem a b); rest = grind (arith, ints) }

product-less : (q b r a : ℤ) → q *ℤ b +ℤ r ≡ a → a ≡ (q -ℤ pos 1) *ℤ b +ℤ (r +ℤ b)
product-less q b r a e =
    let less : (q -ℤ pos 1) *ℤ b ≡ q *ℤ b -ℤ b = ap (λ (z : ℤ). z *ℤ b) (-ℤ_one q) ∙ pred_ℤ-*ℤ q b in
    omega (arith, ints)

-- if it is on the other side, the floored quotient is one less
pub floored_less : (a b : ℤ) → ((int_rem a b <ℤ pos 0) × (pos 0 <ℤ b)) ⊎ ((pos 0 <ℤ int_rem a b) × (b <ℤ pos 0)) → IsFloored a b (int_div a b -ℤ pos 1) (int_rem a b +ℤ b)
floored_less a b side =
    let nz : b ≢ pos 0 = grind (arith, ints) in
    let below : unsigned_abs (int_rem a b) < unsigned_abs b = rem_below a b (abs_pos b nz) in
    record { sum = product-less _ b _ a (quot-rem a b); rest = grind (arith, ints) }

-- the two cases of `div_mod_floor`
unfoldable pub Side : ℤ → ℤ → Type 0
Side r b = ((r <ℤ pos 0) × (pos 0 <ℤ b)) ⊎ ((pos 0 <ℤ r) × (b <ℤ pos 0))

unfoldable pub Same : ℤ → ℤ → Type 0
Same r b = ((r ≤ℤ pos 0) × (b <ℤ pos 0)) ⊎ ((pos 0 ≤ℤ r) × (pos 0 ≤ℤ b))

pub sides : (r b : ℤ) → b ≢ pos 0 → Side r b ⊎ Same r b
unfolding Side Same
sides r b nz = grind (arith, ints)

-- the remainder is moved to the divisor's side
pub moved : (a b q r one q' r' : ℤ) → q ≡ int_div a b → r ≡ int_rem a b → one ≡ pos 1 → Side r b → q' ≡ q -ℤ one → r' ≡ r +ℤ b → IsFloored a b q' r'
unfolding Side
moved a b q r one q' r' eq er eo s e f =
    let q-is : q' ≡ int_div a b -ℤ pos 1 = omega (arith, ints) in
    let r-is : r' ≡ int_rem a b +ℤ b = omega (arith, ints) in
    rw (q-is, r-is) (floored_less a b (rw er at s))

-- the remainder stays
pub left : (a b q r : ℤ) → b ≢ pos 0 → q ≡ int_div a b → r ≡ int_rem a b → Same r b → IsFloored a b q r
unfolding Same
left a b q r nz eq er s = rw (eq, er) (floored_same a b nz (rw er at s))

-- the moved remainder is in range
pub moved_held : (lo hi a b r : ℤ) → IsRange lo hi → IsHeld lo hi a → IsHeld lo hi b → r ≡ int_rem a b → Side r b → IsHeld lo hi (r +ℤ b)
unfolding Side
moved_held lo hi a b r range ha hb er s =
    let h : IsHeld lo hi r = rw er (remainder_held lo hi a b range ha) in
    grind (arith, ints)

-- the test of `div_mod_floor`, by the sign of b
pub other_side : (r b nought : ℤ) (t : Bool) → nought ≡ pos 0 → b ≢ pos 0 → ((b <ℤ pos 0) × Tells t (nought <ℤ r) (r ≤ℤ nought)) ⊎ ((pos 0 ≤ℤ b) × Tells t (r <ℤ nought) (nought ≤ℤ r)) → Tells t (Side r b) (Same r b)
unfolding Side Same
other_side r b nought t z nz (inl (h, inl (e, k))) = inl (e, inr (omega (arith, ints), omega (arith, ints)))
other_side r b nought t z nz (inl (h, inr (e, k))) = inr (e, inl (omega (arith, ints), omega (arith, ints)))
other_side r b nought t z nz (inr (h, inl (e, k))) = inl (e, inl (omega (arith, ints), grind (arith, ints)))
other_side r b nought t z nz (inr (h, inr (e, k))) = inr (e, inr (omega (arith, ints), omega (arith, ints)))

pub multiple-zero : (a b : ℤ) → b ≡ pos 0 → IsMultiple a b ↔ (a ≡ pos 0)
multiple-zero a b z = ((λ (k, e). e ∙ ap (λ (t : ℤ). k *ℤ t) z ∙ *ℤ-zero k), (λ e. (pos 0, e ∙ sym (zero-*ℤ b))))

pub multiple_of_minus_one : (a b : ℤ) → b ≡ negsuc 0 → IsMultiple a b
unfolding one
multiple_of_minus_one a b e =
    (neg_ℤ a, sym (ap (λ (t : ℤ). neg_ℤ a *ℤ t) e ∙ *ℤ-negsuc (neg_ℤ a) 0 ∙ ap neg_ℤ (*ℤ-one (neg_ℤ a)) ∙ neg_ℤ-neg_ℤ a))

pub low_below : (lo hi : ℤ) → IsRange lo hi → lo ≤ℤ pos 0
low_below lo hi range = grind (arith, ints)

-- ---- what `gcd` requires, as plain comparisons

pub gcd_bounded : (lo hi a b : ℤ) → lo ≤ℤ pos 0 → b ≢ pos 0 → pos (unsigned_abs b) ≤ℤ hi → GcdHeld lo hi a b
gcd_bounded lo hi a b low nz h = record {
  each = λ m is.
      let s : pos 0 ≤ℤ m = is.sign in
      let le : unsigned_abs m ≤ unsigned_abs b = le_of_dvd (abs_pos b nz) is.divisor.1 in
      record { above = omega (arith, ints); below = omega (arith, ints) };
}
