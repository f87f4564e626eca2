-- Floored division: there is only one quotient and one remainder, and when the quotient of two numbers in range is in range.
use Rattle.std.specs.Prelude.{◌≡◌, ◌≢◌, ◌+◌, ◌*◌, ◌%◌, ◌<◌, ◌≤◌, ◌+ℤ◌, ◌-ℤ◌, ◌*ℤ◌, ℕ, ℤ, zero, suc, pos, negsuc, neg_ℤ, int_div, int_rem}
use Rattle.std.proofs.Common.{refl, sym, ap, arith, ◌∙◌, ⊎_elim}
use Rattle.std.proofs.Math.Nat.{div-one}
use Rattle.std.proofs.lemmas.Int.{ints}
use borrow.Author.Differences.{up, down, same_in}
use lib.IntN.{*ℤ_comm, neg_ℤ-neg_ℤ}
use Rattle.ratio_integer.specs.Division.{FlooredHeld, IsAboveMax, IsFloored}
use Rattle.ratio_integer.specs.HeldResults.{FlooredHeldButOne, QuotientHeldButOne}
use Rattle.ratio_integer.specs.Range.{IsHeld, IsRange}
use Rattle.ratio_integer.proofs.DivisionLemmas.{Same, Side, floored_less, floored_same, halved, quotient_held, sides}
use Rattle.ratio_integer.proofs.Whole.{neg-mul}

-- ---- one quotient and one remainder

apart : (a : ℤ) (d : ℕ) (q : ℤ) (r : ℕ) → a ≡ q *ℤ pos d +ℤ pos r → up a + down q * d ≡ down a + up q * d + r
apart a d q r e = omega (arith, ints)

same_quotient : (m n d r s : ℕ) → m * d + r ≡ n * d + s → r < d → s < d → m ≡ n
same_quotient m n d r s e less_r less_s = grind arith

unique_upright : (a : ℤ) (d : ℕ) (q p : ℤ) (r s : ℕ) → a ≡ q *ℤ pos d +ℤ pos r → a ≡ p *ℤ pos d +ℤ pos s → r < d → s < d → (q ≡ p) × (r ≡ s)
unique_upright a d q p r s e f less_r less_s =
    let first : up a + down q * d ≡ down a + up q * d + r = apart a d q r e in
    let second : up a + down p * d ≡ down a + up p * d + s = apart a d p s f in
    let sums : (up q + down p) * d + r ≡ (up p + down q) * d + s = omega arith in
    let same : up q + down p ≡ up p + down q = same_quotient (up q + down p) (up p + down q) d r s sums less_r less_s in
    (same_in q p (omega arith), omega (arith, ap (λ t. t * d) same))

pub floored_unique : (a b q r p s : ℤ) → IsFloored a b q r → IsFloored a b p s → (q ≡ p) × (r ≡ s)
floored_unique a (pos d) q (pos r) p (pos s) x y =
    let one = unique_upright a d q p r s x.sum y.sum (grind (arith, ints, x.rest)) (grind (arith, ints, y.rest)) in
    (one.0, ap pos one.1)
floored_unique a (pos d) q (negsuc r) p s x y = absurd (grind (arith, ints, x.rest))
floored_unique a (pos d) q r p (negsuc s) x y = absurd (grind (arith, ints, y.rest))
floored_unique a (negsuc d) q r p s x y =
    let one = unique_turned (neg_ℤ r) (neg_ℤ s) refl refl in
    (one.0, sym (neg_ℤ-neg_ℤ r) ∙ ap neg_ℤ one.1 ∙ neg_ℤ-neg_ℤ s)
  where
    turned : (k t : ℤ) → a ≡ k *ℤ negsuc d +ℤ t → neg_ℤ a ≡ k *ℤ pos (suc d) +ℤ neg_ℤ t
    turned k t e =
        let other : k *ℤ negsuc d ≡ neg_ℤ (k *ℤ pos (suc d)) = *ℤ_comm k (negsuc d) ∙ neg-mul (pos (suc d)) k ∙ ap neg_ℤ (*ℤ_comm (pos (suc d)) k) in
        omega (arith, ints)

    unique_turned : (m n : ℤ) → m ≡ neg_ℤ r → n ≡ neg_ℤ s → (q ≡ p) × (m ≡ n)
    unique_turned (pos m) (pos n) e f =
        let first : neg_ℤ a ≡ q *ℤ pos (suc d) +ℤ pos m = rw e (turned q r x.sum) in
        let second : neg_ℤ a ≡ p *ℤ pos (suc d) +ℤ pos n = rw f (turned p s y.sum) in
        let one = unique_upright (neg_ℤ a) (suc d) q p m n first second (grind (arith, ints, x.rest)) (grind (arith, ints, y.rest)) in
        (one.0, ap pos one.1)
    unique_turned (negsuc m) n e f = absurd (grind (arith, ints, x.rest))
    unique_turned m (negsuc n) e f = absurd (grind (arith, ints, y.rest))

-- ---- when the quotient is in range

at_least_two : (m k : ℕ) → 0 < k → 0 < m % k → 2 ≤ k
at_least_two m zero up left_over = absurd (omega arith)
at_least_two m (suc zero) up left_over = absurd (omega arith)
at_least_two m (suc (suc k)) up left_over = omega arith

pub less_held : (lo hi a b : ℤ) → IsRange lo hi → IsHeld lo hi a → IsHeld lo hi b → Side (int_rem a b) b → IsHeld lo hi (int_div a b -ℤ pos 1)
unfolding Side
less_held lo hi (pos n) (pos k) range ha hb side = absurd (grind (arith, ints))
less_held lo hi (pos n) (negsuc k) range ha hb side = grind (arith, ints, halved n (suc k) (at_least_two n (suc k) (omega arith) (grind (arith, ints))))
less_held lo hi (negsuc n) (pos k) range ha hb side = grind (arith, ints, halved (suc n) k (at_least_two (suc n) k (grind (arith, ints)) (grind (arith, ints))))
less_held lo hi (negsuc n) (negsuc k) range ha hb side = absurd (grind (arith, ints))

-- it is in range, except for -hi-1 by -1
pub floored_held : (lo hi a b : ℤ) → IsRange lo hi → IsHeld lo hi a → IsHeld lo hi b → b ≢ pos 0 → ¬ (IsAboveMax hi a b) → FlooredHeld lo hi a b
unfolding Side Same
floored_held lo hi a b range ha hb nonzero out = record {
  each = λ q r is. ⊎_elim
      (λ side. rw (floored_unique a b q r _ _ is (floored_less a b side)).0 (less_held lo hi a b range ha hb side))
      (λ same. rw (floored_unique a b q r _ _ is (floored_same a b nonzero same)).0 (quotient_held lo hi a b range ha hb nonzero out))
      (sides (int_rem a b) b nonzero);
}

-- ---- when it is not

quotient_at_top : (h : ℕ) (n d : ℤ) → IsAboveMax (pos h) n d → int_div n d ≡ pos (suc h)
quotient_at_top h n d is =
    let top : n ≡ negsuc h = (let e = is.numer in omega (arith, ints)) in
    rw (top, is.denom) (ap pos (div-one (suc h)))

floored_at_top : (h : ℕ) (n d : ℤ) → IsAboveMax (pos h) n d → IsFloored n d (pos (suc h)) (pos 0)
floored_at_top h n d is =
    let e = is.numer in
    let f = is.denom in
    record { sum = rw f (omega (arith, ints)); rest = grind (arith, ints) }

-- ---- so exactly there

pub quotient_held_but_one : QuotientHeldButOne
quotient_held_but_one lo (pos h) a b range a_held b_held nonzero = (
  (λ held is. let bad = (rw (quotient_at_top h a b is) at held).below in omega (arith, ints)),
  quotient_held lo (pos h) a b range a_held b_held nonzero,
)
quotient_held_but_one lo (negsuc h) a b range a_held b_held nonzero = absurd (let high = range.high in omega (arith, ints))

pub floored_held_but_one : FlooredHeldButOne
floored_held_but_one lo (pos h) a b range a_held b_held nonzero = (
  (λ held is. let bad = (held.each (pos (suc h)) (pos 0) (floored_at_top h a b is)).below in omega (arith, ints)),
  floored_held lo (pos h) a b range a_held b_held nonzero,
)
floored_held_but_one lo (negsuc h) a b range a_held b_held nonzero = absurd (let high = range.high in omega (arith, ints))
