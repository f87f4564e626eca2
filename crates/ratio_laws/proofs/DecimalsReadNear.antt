-- What is read from a decimal to so many places is as near to the fraction as the rule says.
use Rattle.std.specs.Prelude.{◌≡◌, ◌+◌, ◌*◌, ◌/◌, ◌^◌, ◌<◌, ◌≤◌, ◌<ℤ◌, ◌≤ℤ◌, ◌+ℤ◌, ◌-ℤ◌, ◌*ℤ◌, ℕ, ℤ, pos, negsuc, neg_ℤ, unsigned_abs, List, Result, Ok, Err}
use Rattle.std.proofs.Common.{refl, sym, ap, subst, arith, ◌∙◌}
use Rattle.std.proofs.lemmas.Int.{ints, unsigned_abs-mul}
use Rattle.std.proofs.Math.Nat.{div-le_of_le-mul, lt_of_mul-lt-mul_right, mul-le-mul_left, mul-le-mul_right, mul-lt-mul_of_pos_right}
use Rattle.ratio_integer.proofs.Whole.{mul-sub, mul-swap_last, mul_assoc, sub-mul}
use Rattle.ratio_decimal.specs.Decimal.{IsDecimalOf}
use Rattle.ratio_laws.specs.DecimalLaws.{IsNearTo, IsReadNear, IsWithinRule, ReadDecimalsAreNear}
use Rattle.ratio_decimal.specs.DecimalReading.{AnswersDecimal, IsDecimalText}
use Rattle.ratio_decimal.specs.declared.rounding_rule.Rounding.{Rounding}
use Rattle.ratio_decimal.specs.declared.rounding_rule.Rounding.TheVariants.{HalfAway, HalfEven, Down, Up, Floor, Ceil}
use Rattle.ratio_decimal.specs.declared.reading.DecimalRefusal.{DecimalRefusal}
use Rattle.ratio_decimal.specs.declared.reading.DecimalRefusal.TheVariants.{NotDecimal, NotHeld}
use Rattle.ratio_laws.proofs.DecimalLawLemmas.{decimals_near}
use Rattle.ratio_decimal.proofs.DecimalTexts.{one_reading}
use Rattle.ratio_laws.proofs.DecimalsReadBack.{places_read}
use Rattle.ratio_decimal.proofs.RoundingRuleLaws.{rounded_near}

-- ---- a number that is near to n/d is hardly larger

size_some : (z : ℤ) → pos 0 <ℤ z → 0 < unsigned_abs z
size_some (pos n) h = omega (arith, ints)
size_some (negsuc n) h = absurd (omega (arith, ints))

size_near : (r n d : ℤ) → pos 0 <ℤ d → (r -ℤ d) <ℤ n → n <ℤ (r +ℤ d) → unsigned_abs r < unsigned_abs n + unsigned_abs d
size_near r n (negsuc e) up low high = absurd (omega (arith, ints))
size_near (pos r) (pos n) (pos e) up low high = omega (arith, ints)
size_near (pos r) (negsuc n) (pos e) up low high = omega (arith, ints)
size_near (negsuc r) (pos n) (pos e) up low high = omega (arith, ints)
size_near (negsuc r) (negsuc n) (pos e) up low high = omega (arith, ints)

size_at_most : (m z d : ℕ) → 0 < d → z * d < m + d → z ≤ m
size_at_most m z d some less =
    let grown : m * 1 ≤ m * d = mul-le-mul_left m some in
    let h : z < m + 1 = lt_of_mul-lt-mul_right d {m = z} {n = m + 1} (omega arith) in
    omega arith

multiple_small : (n d z : ℤ) (places : ℕ) → pos 0 <ℤ d → unsigned_abs n < 2 ^ 128 → (z *ℤ d -ℤ d) <ℤ (n *ℤ pos (10 ^ places)) → (n *ℤ pos (10 ^ places)) <ℤ (z *ℤ d +ℤ d) → unsigned_abs z / 10 ^ places < 2 ^ 128
multiple_small n d z places up small low high =
    let p = 10 ^ places in
    let near : unsigned_abs (z *ℤ d) < unsigned_abs (n *ℤ pos p) + unsigned_abs d = size_near (z *ℤ d) (n *ℤ pos p) d up low high in
    let sizes : unsigned_abs z * unsigned_abs d < unsigned_abs n * p + unsigned_abs d = rw (unsigned_abs-mul z d, unsigned_abs-mul n (pos p)) at near in
    let most : unsigned_abs z ≤ unsigned_abs n * p = size_at_most (unsigned_abs n * p) (unsigned_abs z) (unsigned_abs d) (size_some d up) sizes in
    let least : unsigned_abs z / p ≤ unsigned_abs n = div-le_of_le-mul p (turned p (unsigned_abs n) (unsigned_abs z) most) in
    omega arith
  where
    turned : (p n z : ℕ) → z ≤ n * p → z ≤ p * n
    turned p n z h = omega arith

-- ---- the distance

-- a/b is z/p
distance : (n d a b z p : ℤ) → z *ℤ b ≡ a *ℤ p → (a *ℤ d -ℤ n *ℤ b) *ℤ p ≡ (z *ℤ d -ℤ n *ℤ p) *ℤ b
distance n d a b z p same =
    let first : (a *ℤ d) *ℤ p ≡ (z *ℤ d) *ℤ b = mul-swap_last a d p ∙ sym (mul_assoc a p d) ∙ ap (λ x. x *ℤ d) (sym same) ∙ mul-swap_last z b d ∙ sym (mul_assoc z d b) in
    let second : (n *ℤ b) *ℤ p ≡ (n *ℤ p) *ℤ b = mul-swap_last n b p ∙ sym (mul_assoc n p b) in
    sub-mul (a *ℤ d) (n *ℤ b) p ∙ ap (λ x. x -ℤ (n *ℤ b) *ℤ p) first ∙ ap (λ x. (z *ℤ d) *ℤ b -ℤ x) second ∙ sym (sub-mul (z *ℤ d) (n *ℤ p) b)

sizes_same : (n d a b z : ℤ) (p : ℕ) → z *ℤ b ≡ a *ℤ pos p → unsigned_abs (a *ℤ d -ℤ n *ℤ b) * p ≡ unsigned_abs (z *ℤ d -ℤ n *ℤ pos p) * unsigned_abs b
sizes_same n d a b z p same =
    sym (unsigned_abs-mul (a *ℤ d -ℤ n *ℤ b) (pos p)) ∙ ap unsigned_abs (distance n d a b z (pos p) same) ∙ unsigned_abs-mul (z *ℤ d -ℤ n *ℤ pos p) b

half_size : (w d : ℤ) → neg_ℤ d ≤ℤ (pos 2 *ℤ w) → (pos 2 *ℤ w) ≤ℤ d → 2 * unsigned_abs w ≤ unsigned_abs d
half_size (pos k) (pos e) low high = omega (arith, ints)
half_size (negsuc k) (pos e) low high = omega (arith, ints)
half_size w (negsuc e) low high = absurd (omega (arith, ints))

unit_size : (r n d : ℤ) → (r -ℤ d) <ℤ n → n <ℤ (r +ℤ d) → unsigned_abs (r -ℤ n) < unsigned_abs d
unit_size r n d low high = by (r -ℤ n) d (omega (arith, ints)) (omega (arith, ints))
  where
    by : (w d : ℤ) → neg_ℤ d <ℤ w → w <ℤ d → unsigned_abs w < unsigned_abs d
    by (pos k) (pos e) low high = omega (arith, ints)
    by (negsuc k) (pos e) low high = omega (arith, ints)
    by w (negsuc e) low high = absurd (omega (arith, ints))

half_near : (n d a b z : ℤ) (p : ℕ) → z *ℤ b ≡ a *ℤ pos p → neg_ℤ d ≤ℤ (pos 2 *ℤ (n *ℤ pos p) -ℤ pos 2 *ℤ (z *ℤ d)) → (pos 2 *ℤ (n *ℤ pos p) -ℤ pos 2 *ℤ (z *ℤ d)) ≤ℤ d
    → 2 * (unsigned_abs (a *ℤ d -ℤ n *ℤ b) * p) ≤ unsigned_abs (b *ℤ d)
half_near n d a b z p same low high =
    let w = z *ℤ d -ℤ n *ℤ pos p in
    let twice : pos 2 *ℤ w ≡ pos 2 *ℤ (z *ℤ d) -ℤ pos 2 *ℤ (n *ℤ pos p) = mul-sub (pos 2) (z *ℤ d) (n *ℤ pos p) in
    let half : 2 * unsigned_abs w ≤ unsigned_abs d = half_size w d (omega (arith, ints)) (omega (arith, ints)) in
    let scaled : 2 * unsigned_abs w * unsigned_abs b ≤ unsigned_abs d * unsigned_abs b = mul-le-mul_right (unsigned_abs b) half in
    rw (sizes_same n d a b z p same, unsigned_abs-mul b d) (omega arith)

unit_near : (n d a b z : ℤ) (p : ℕ) → pos 0 <ℤ b → z *ℤ b ≡ a *ℤ pos p → (z *ℤ d -ℤ d) <ℤ (n *ℤ pos p) → (n *ℤ pos p) <ℤ (z *ℤ d +ℤ d)
    → unsigned_abs (a *ℤ d -ℤ n *ℤ b) * p < unsigned_abs (b *ℤ d)
unit_near n d a b z p up same low high =
    let less = unit_size (z *ℤ d) (n *ℤ pos p) d low high in
    let scaled : unsigned_abs (z *ℤ d -ℤ n *ℤ pos p) * unsigned_abs b < unsigned_abs d * unsigned_abs b = mul-lt-mul_of_pos_right less (size_some b up) in
    rw (sizes_same n d a b z p same, unsigned_abs-mul b d) (omega arith)

near_by : (rule : Rounding) (places : ℕ) (n d a b z : ℤ) → pos 0 <ℤ b → z *ℤ b ≡ a *ℤ pos (10 ^ places) → IsWithinRule rule (n *ℤ pos (10 ^ places)) d z → IsNearTo rule places n d a b
near_by HalfAway places n d a b z up same is = half_near n d a b z (10 ^ places) same is.above is.below
near_by HalfEven places n d a b z up same is = half_near n d a b z (10 ^ places) same is.above is.below
near_by Down places n d a b z up same is = unit_near n d a b z (10 ^ places) up same is.0 is.1
near_by Up places n d a b z up same is = unit_near n d a b z (10 ^ places) up same is.0 is.1
near_by Floor places n d a b z up same is = unit_near n d a b z (10 ^ places) up same is.0 is.1
near_by Ceil places n d a b z up same is = unit_near n d a b z (10 ^ places) up same is.0 is.1

-- ---- what is read

decimal_read : (rule : Rounding) (places : ℕ) (n d : ℤ) (text : List ℕ) → pos 0 <ℤ d → unsigned_abs n < 2 ^ 128 → (x : IsDecimalOf rule places n d text) → IsDecimalText text x.multiple (pos (10 ^ places))
decimal_read rule places n d text up small x =
    let near = rounded_near rule (n *ℤ pos (10 ^ places)) d x.multiple up x.rounded in
    subst (λ xs. IsDecimalText xs x.multiple (pos (10 ^ places))) (sym x.written) (places_read places x.multiple (multiple_small n d x.multiple places up small near.0 near.1))

pub decimals_read_near : ReadDecimalsAreNear
decimals_read_near rule places lo hi n d a b text up small x is =
    let same = one_reading text is.n is.d x.multiple (pos (10 ^ places)) is.reads (decimal_read rule places n d text up small x) in
    let value : x.multiple *ℤ b ≡ a *ℤ pos (10 ^ places) = ap (λ m. m *ℤ b) (sym same.0) ∙ is.low.terms.same ∙ ap (λ k. a *ℤ k) same.1 in
    near_by rule places n d a b x.multiple is.low.terms.lowest.positive value (decimals_near rule places n d text up x)

pub read_near : {R : Type 0} (numer denom : R → ℤ) (rule : Rounding) (places : ℕ) (lo hi n d : ℤ) (text : List ℕ) (r : Result R DecimalRefusal) → pos 0 <ℤ d → unsigned_abs n < 2 ^ 128 → IsDecimalOf rule places n d text
    → AnswersDecimal numer denom lo hi text r → IsReadNear numer denom rule places n d r
read_near numer denom rule places lo hi n d text (Ok y) up small x answers = decimals_read_near rule places lo hi n d (numer y) (denom y) text up small x answers
read_near numer denom rule places lo hi n d text (Err NotDecimal) up small x answers = absurd (answers x.multiple (pos (10 ^ places)) (decimal_read rule places n d text up small x))
read_near numer denom rule places lo hi n d text (Err NotHeld) up small x answers = refl
