-- The loop that computes a power by squaring.
use Rattle.std.specs.Prelude.{◌≡◌, ◌≢◌, ◌⊎◌, ◌*◌, ◌/◌, ◌%◌, ◌^◌, ◌≤◌, ◌≤ℤ◌, ◌<ℤ◌, ◌*ℤ◌, ◌+ℤ◌, ℕ, ℤ, zero, suc, pos, negsuc, unsigned_abs}
use Rattle.std.specs.Int.{int_pow}
use Rattle.std.proofs.Common.{refl, sym, ap, arith, ◌∙◌, inl, inr, pow-suc}
use Rattle.std.proofs.lemmas.Int.{ints, unsigned_abs-mul}
use Rattle.std.proofs.lemmas.Nat.{mul-le}
use Rattle.std.proofs.Math.Nat.{one-le-pow}
use lib.IntN.{*ℤ_comm, pos-*ℤ-pos, negsuc-*ℤ-negsuc, *ℤ-zero}
use Rattle.ratio_integer.specs.Range.{IsHeld, IsRange}
use Rattle.ratio_integer.proofs.DivisionLemmas.{low_below}
use Rattle.ratio_integer.proofs.Whole.{mul_assoc}
use Rattle.ratio_core.specs.Power.{PowersHeld}
use Rattle.ratio_core.proofs.NumbersExist.{held_decided}
use Rattle.ratio_core.proofs.PowerLemmas.{int_pow-double, int_pow-suc, int_pow-zero}
use Rattle.ratio_core.proofs.ProductOrder.{down_times, up_times}

-- ---- the loop

-- the result `total` is p * s^left
pub record PowerSoFar (total p s : ℤ) (left : ℕ) : Type 0 where
  pub whole : total ≡ p *ℤ int_pow s left
  pub size : 2 ≤ unsigned_abs s → (p ≡ pos 1) ⊎ (2 ≤ unsigned_abs p)

one-times : (t : ℤ) → pos 1 *ℤ t ≡ t
one-times t = omega (arith, ints)

start : (z : ℤ) (e : ℕ) → PowerSoFar (int_pow z e) (pos 1) z e
start z e = record { whole = sym (one-times (int_pow z e)); size = λ k. inl refl }

even-half : (left : ℕ) → left % 2 ≢ 1 → left ≡ 2 * (left / 2)
even-half left h = omega arith

odd-half : (left : ℕ) → left % 2 ≡ 1 → left ≡ suc (2 * (left / 2))
odd-half left h = omega arith

root : (a : ℕ) → 2 ≤ a * a → 2 ≤ a
root zero h = absurd (omega arith)
root (suc zero) h = absurd (omega arith)
root (suc (suc a)) h = omega arith

root-size : (s : ℤ) → 2 ≤ unsigned_abs (s *ℤ s) → 2 ≤ unsigned_abs s
root-size s h = root (unsigned_abs s) (rw (unsigned_abs-mul s s) at h)

-- if `left` is even: half as many squares
even : (total p s : ℤ) (left : ℕ) → PowerSoFar total p s left → left % 2 ≢ 1 → PowerSoFar total p (s *ℤ s) (left / 2)
even total p s left g h = record {
  whole = g.whole ∙ ap (λ k. p *ℤ int_pow s k) (even-half left h) ∙ ap (λ (t : ℤ). p *ℤ t) (sym (int_pow-double s (left / 2)));
  size = λ k. g.size (root-size s k);
}

swap-last : (p x s : ℤ) → p *ℤ (x *ℤ s) ≡ (p *ℤ s) *ℤ x
swap-last p x s = ap (λ (t : ℤ). p *ℤ t) (*ℤ_comm x s) ∙ sym (mul_assoc p s x)

odd-whole : (total p s : ℤ) (left : ℕ) → total ≡ p *ℤ int_pow s left → left % 2 ≡ 1 → total ≡ (p *ℤ s) *ℤ int_pow (s *ℤ s) (left / 2)
odd-whole total p s left e h =
    e
    ∙ ap (λ k. p *ℤ int_pow s k) (odd-half left h)
    ∙ ap (λ (t : ℤ). p *ℤ t) (int_pow-suc s (2 * (left / 2)) ∙ ap (λ (t : ℤ). t *ℤ s) (sym (int_pow-double s (left / 2))))
    ∙ swap-last p (int_pow (s *ℤ s) (left / 2)) s

grows : (a b : ℕ) → 1 ≤ a → 2 ≤ b → 2 ≤ a * b
grows a b h k = omega (arith, mul-le 1 2 a b h k)

-- if `left` is odd: one factor goes to p
odd : (total p s w : ℤ) (left : ℕ) → PowerSoFar total p s left → left % 2 ≡ 1 → w ≡ p *ℤ s → PowerSoFar total w (s *ℤ s) (left / 2)
odd total p s w left g h e = rw e (record {
  whole = odd-whole total p s left g.whole h;
  size = λ k. inr (rw (unsigned_abs-mul p s) (grows (unsigned_abs p) (unsigned_abs s) (nonzero (g.size (root-size s k))) (root-size s k)));
})
  where
    nonzero : (p ≡ pos 1) ⊎ (2 ≤ unsigned_abs p) → 1 ≤ unsigned_abs p
    nonzero (inl o) = rw o (omega arith)
    nonzero (inr o) = omega arith

pub last : (total p s : ℤ) (left : ℕ) → PowerSoFar total p s left → left ≤ 0 → p ≡ total
last total p s left g h =
    let e : left ≡ 0 = omega arith in
    sym (g.whole ∙ ap (λ k. p *ℤ int_pow s k) e ∙ ap (λ (t : ℤ). p *ℤ t) (int_pow-zero s) ∙ *ℤ_comm p (pos 1) ∙ one-times p)

-- ---- numbers out of range

pub square : (s : ℤ) → s *ℤ s ≡ pos (unsigned_abs s * unsigned_abs s)
square (pos n) = pos-*ℤ-pos n n
square (negsuc n) = negsuc-*ℤ-negsuc n n

square-pow : (s : ℤ) (k : ℕ) → int_pow (s *ℤ s) k ≡ pos ((unsigned_abs s * unsigned_abs s) ^ k)
square-pow s k = ap (λ (t : ℤ). int_pow t k) (square s)

-- if w is out of range, so is w * k for k ≥ 1
out_times : (lo hi w : ℤ) (k : ℕ) → IsRange lo hi → 1 ≤ k → ¬ (IsHeld lo hi w) → ¬ (IsHeld lo hi (w *ℤ pos k))
out_times lo hi w k range h out held = go w out held
  where
    low : lo ≤ℤ pos 0
    low = low_below lo hi range

    high : pos 2 ≤ℤ hi
    high = range.high

    go : (w : ℤ) → ¬ (IsHeld lo hi w) → IsHeld lo hi (w *ℤ pos k) → ⊥
    go (pos n) out x = let t = up_times (pos n) (pos k) (omega (arith, ints)) (omega (arith, ints)) in let a = x.below in out (record { above = omega (arith, ints, low); below = omega (arith, ints) })
    go (negsuc n) out x = let t = down_times (negsuc n) (pos k) (omega (arith, ints)) (omega (arith, ints)) in let a = x.above in out (record { above = omega (arith, ints); below = omega (arith, ints, high) })

-- if a needed factor is out of range, so is the result
factor_out : (lo hi total p s : ℤ) (left : ℕ) → IsRange lo hi → PowerSoFar total p s left → left % 2 ≡ 1 → ¬ (IsHeld lo hi (p *ℤ s)) → ¬ (IsHeld lo hi total)
factor_out lo hi total p s left range g h out held = out_times lo hi (p *ℤ s) k range (some s out) out (rw (odd-whole total p s left g.whole h ∙ ap (λ (t : ℤ). (p *ℤ s) *ℤ t) (square-pow s (left / 2))) at held)
  where
    k : ℕ
    k = (unsigned_abs s * unsigned_abs s) ^ (left / 2)

    some : (s : ℤ) → ¬ (IsHeld lo hi (p *ℤ s)) → 1 ≤ (unsigned_abs s * unsigned_abs s) ^ (left / 2)
    some (pos zero) out = absurd (out (rw (*ℤ-zero p) (record { above = low_below lo hi range; below = let high : pos 2 ≤ℤ hi = range.high in omega (arith, ints) })))
    some (pos (suc n)) out = one-le-pow (left / 2) (suc n * suc n) (omega arith)
    some (negsuc n) out = one-le-pow (left / 2) (suc n * suc n) (omega arith)

-- if a ≥ 1 and k ≥ 1, then a ≤ a^k
pub base_below : (a k : ℕ) → 1 ≤ a → 1 ≤ k → a ≤ a ^ k
base_below a zero h i = absurd (omega arith)
base_below a (suc k) h i = rw (pow-suc a k) (omega (arith, mul-le 1 a (a ^ k) a (one-le-pow k a h) (omega arith)))

doubled : (a b c : ℕ) → 2 ≤ a → b ≤ c → 2 * b ≤ a * c
doubled a b c h k = mul-le 2 b a c h k

-- the magnitude of a number in range is at most hi + 1
pub size_below : (lo hi z : ℤ) → IsRange lo hi → IsHeld lo hi z → pos (unsigned_abs z) ≤ℤ (hi +ℤ pos 1)
size_below lo hi z range h = grind (arith, ints)

-- if a needed square is out of range, so is the result
square_out : (lo hi total p s : ℤ) (left : ℕ) → IsRange lo hi → PowerSoFar total p (s *ℤ s) left → 1 ≤ left → ¬ (IsHeld lo hi (s *ℤ s)) → ¬ (IsHeld lo hi total)
square_out lo hi total p s left range g some out held = go (g.size (rw (unsigned_abs-mul s s) (above _ past)))
  where
    high : pos 2 ≤ℤ hi
    high = range.high

    low : lo ≤ℤ pos 0
    low = low_below lo hi range

    a : ℕ
    a = unsigned_abs s * unsigned_abs s

    above_hi : (m : ℕ) → ¬ (IsHeld lo hi (pos m)) → hi <ℤ pos m
    above_hi m o = grind (arith, ints)

    past : hi <ℤ pos (unsigned_abs s * unsigned_abs s)
    past = above_hi (unsigned_abs s * unsigned_abs s) (λ x. out (rw (square s) x))

    above : (m : ℕ) → hi <ℤ pos m → 2 ≤ m
    above m o = omega (arith, ints, high)

    total-is : total ≡ p *ℤ pos ((unsigned_abs s * unsigned_abs s) ^ left)
    total-is = g.whole ∙ ap (λ (t : ℤ). p *ℤ t) (square-pow s left)

    one_up : (m : ℕ) → hi <ℤ pos m → 1 ≤ m
    one_up m o = omega (arith, ints)

    grown : unsigned_abs s * unsigned_abs s ≤ (unsigned_abs s * unsigned_abs s) ^ left
    grown = base_below (unsigned_abs s * unsigned_abs s) left (one_up (unsigned_abs s * unsigned_abs s) past) some

    too_big : (m b : ℕ) → m ≤ b → hi <ℤ pos m → hi <ℤ pos b
    too_big m b x y = omega (arith, ints)

    clash : (m b t : ℕ) → hi <ℤ pos m → 2 * m ≤ b → pos b ≤ℤ (hi +ℤ pos 1) → ⊥
    clash m b t x y z = omega (arith, ints)

    total-size : unsigned_abs total ≡ unsigned_abs p * (unsigned_abs s * unsigned_abs s) ^ left
    total-size = ap unsigned_abs total-is ∙ unsigned_abs-mul p (pos ((unsigned_abs s * unsigned_abs s) ^ left))

    go : (p ≡ pos 1) ⊎ (2 ≤ unsigned_abs p) → ⊥
    go (inl o) =
        let e : total ≡ pos ((unsigned_abs s * unsigned_abs s) ^ left) = total-is ∙ ap (λ (t : ℤ). t *ℤ pos ((unsigned_abs s * unsigned_abs s) ^ left)) o ∙ one-times (pos ((unsigned_abs s * unsigned_abs s) ^ left)) in
        let x : hi <ℤ pos ((unsigned_abs s * unsigned_abs s) ^ left) = too_big _ _ grown past in
        let y : total ≤ℤ hi = held.below in
        omega (arith, ints)
    go (inr o) = clash (unsigned_abs s * unsigned_abs s) (unsigned_abs total) 0 past (rw total-size (doubled (unsigned_abs p) (unsigned_abs s * unsigned_abs s) _ o grown)) (size_below lo hi total range held)

-- ---- both numbers

-- the same for the powers of both numbers with one exponent e
pub record PowersSoFar (n d : ℤ) (e : ℕ) (p q s t : ℤ) (left : ℕ) : Type 0 where
  pub numer : PowerSoFar (int_pow n e) p s left
  pub denom : PowerSoFar (int_pow d e) q t left

pub both_start : (n d : ℤ) (e : ℕ) → PowersSoFar n d e (pos 1) (pos 1) n d e
both_start n d e = record { numer = start n e; denom = start d e }

pub both_even : (n d : ℤ) (e : ℕ) (p q s t : ℤ) (left : ℕ) → PowersSoFar n d e p q s t left → left % 2 ≢ 1 → PowersSoFar n d e p q (s *ℤ s) (t *ℤ t) (left / 2)
both_even n d e p q s t left g h = record { numer = even _ p s left g.numer h; denom = even _ q t left g.denom h }

pub both_odd : (n d : ℤ) (e : ℕ) (p q s t v w : ℤ) (left : ℕ) → PowersSoFar n d e p q s t left → left % 2 ≡ 1 → v ≡ p *ℤ s → w ≡ q *ℤ t → PowersSoFar n d e v w (s *ℤ s) (t *ℤ t) (left / 2)
both_odd n d e p q s t v w left g h ev ew = record { numer = odd _ p s v left g.numer h ev; denom = odd _ q t w left g.denom h ew }

-- if the exponent is odd, the first factor is taken before the loop
pub both_begun : (n d : ℤ) (e : ℕ) → e % 2 ≡ 1 → PowersSoFar n d e n d (n *ℤ n) (d *ℤ d) (e / 2)
both_begun n d e h = both_odd n d e (pos 1) (pos 1) n d n d e (both_start n d e) h (sym (one-times n)) (sym (one-times d))

held_in : (lo hi a total : ℤ) → (¬ (IsHeld lo hi a) → ¬ (IsHeld lo hi total)) → IsHeld lo hi total → IsHeld lo hi a
held_in lo hi a total out held = go (held_decided lo hi a)
  where
    go : Dec (IsHeld lo hi a) → IsHeld lo hi a
    go (yes h) = h
    go (no h) = absurd (out h held)

pub squares_out : (lo hi n d : ℤ) (e : ℕ) (p q s t : ℤ) (left : ℕ) → IsRange lo hi → PowersSoFar n d e p q (s *ℤ s) (t *ℤ t) left → 1 ≤ left → ¬ (IsHeld lo hi (s *ℤ s) × IsHeld lo hi (t *ℤ t)) → ¬ (PowersHeld lo hi n d e)
squares_out lo hi n d e p q s t left range g some out held = out (
  held_in lo hi (s *ℤ s) _ (square_out lo hi _ p s left range g.numer some) held.numer,
  held_in lo hi (t *ℤ t) _ (square_out lo hi _ q t left range g.denom some) held.denom,
)

pub factors_out : (lo hi n d : ℤ) (e : ℕ) (p q s t : ℤ) (left : ℕ) → IsRange lo hi → PowersSoFar n d e p q s t left → left % 2 ≡ 1 → ¬ (IsHeld lo hi (p *ℤ s) × IsHeld lo hi (q *ℤ t)) → ¬ (PowersHeld lo hi n d e)
factors_out lo hi n d e p q s t left range g h out held = out (
  held_in lo hi (p *ℤ s) _ (factor_out lo hi _ p s left range g.numer h) held.numer,
  held_in lo hi (q *ℤ t) _ (factor_out lo hi _ q t left range g.denom h) held.denom,
)

pub both_last : (lo hi n d : ℤ) (e : ℕ) (p q s t : ℤ) (left : ℕ) → PowersSoFar n d e p q s t left → left ≤ 0 → IsHeld lo hi p → IsHeld lo hi q → PowersHeld lo hi n d e × ((p ≡ int_pow n e) × (q ≡ int_pow d e))
both_last lo hi n d e p q s t left g h hp hq =
    let a : p ≡ int_pow n e = last _ p s left g.numer h in
    let b : q ≡ int_pow d e = last _ q t left g.denom h in
    (record { numer = rw a at hp; denom = rw b at hq }, (a, b))
