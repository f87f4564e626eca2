-- Where a rule rounds both bounds of a sum to the same number, it rounds the sum to it.
use Rattle.std.specs.Prelude.{◌≡◌, ◌+◌, ◌-◌, ◌*◌, ◌^◌, ◌<◌, ◌≤◌, ◌*ℤ◌, ◌≤ℤ◌, ℕ, ℤ, pos, Bool, List, length, take}
use Rattle.std.proofs.Common.{refl, sym, ap, subst, arith, ◌∙◌, length-take-le}
use Rattle.std.proofs.lemmas.Int.{ints}
use Rattle.ratio_integer.proofs.Whole.{mul-swap_last, mul_assoc}
use Rattle.ratio_core.proofs.ProductOrder.{times_le}
use Rattle.ratio_decimal.specs.RoundingRules.{IsRoundedBy, signed}
use Rattle.ratio_decimal.specs.declared.rounding_rule.Rounding.{Rounding}
use Rattle.ratio_decimal.proofs.RoundingRuleLaws.{each_by, one_by, rounded_monotone}
use Rattle.ratio_decimal.specs.Decimal.{IsDecimalOf, places_text}
use Rattle.ratio_decimal.proofs.NaturalDecimalLemmas.{signed_times}
use Rattle.ratio_natural.specs.Number.{base}
use Rattle.ratio_natural.proofs.NumberLemmas.{pow_positive}
use Rattle.ratio_slots.proofs.BoundLemmas.{bounds_hold}
use Rattle.ratio_slots.proofs.DecimalLemmas.{above_zero_ℤ, signed_whole}
use Rattle.ratio_slots.proofs.MergeSums.{sum_positive}
use Rattle.ratio_slots.specs.Bounds.{BoundsDecide, LiesBetween, RoundsApart, high_of, low_of}
use Rattle.ratio_slots.specs.Common.{whole_number}
use Rattle.ratio_slots.specs.Sums.{sum_of_slots}
use Rattle.ratio_slots.specs.declared.slots.Slot.{Slot}

-- ---- between two bounds

one_number : (a b : ℤ) → a ≤ℤ b → b ≤ℤ a → a ≡ b
one_number a b h k = omega (arith, ints, h, k)

-- the same factor on both sides
times_both : (a b c d t : ℤ) → pos 0 ≤ℤ t → (a *ℤ b) ≤ℤ (c *ℤ d) → ((a *ℤ t) *ℤ b) ≤ℤ ((c *ℤ t) *ℤ d)
times_both a b c d t up h =
    subst (λ (x : ℤ). x ≤ℤ ((c *ℤ t) *ℤ d)) (swap a b t) (subst (λ (x : ℤ). ((a *ℤ b) *ℤ t) ≤ℤ x) (swap c d t) (times_le (a *ℤ b) (c *ℤ d) t h up))
  where
    swap : (x y z : ℤ) → (x *ℤ y) *ℤ z ≡ (x *ℤ z) *ℤ y
    swap x y z = mul-swap_last x y z ∙ sym (mul_assoc x z y)

-- what both bounds are rounded to
rounded_between : (rule : Rounding) (t : ℕ) (slots : List Slot) (parts : ℕ) (low high z : ℤ) → 0 < parts → LiesBetween slots parts low high
    → IsRoundedBy rule (low *ℤ pos t) (pos parts) z → IsRoundedBy rule (high *ℤ pos t) (pos parts) z → IsRoundedBy rule ((sum_of_slots slots).0 *ℤ pos t) (pos (sum_of_slots slots).1) z
rounded_between rule t slots parts low high z some between low_is high_is =
    let n = (sum_of_slots slots).0 in
    let d = (sum_of_slots slots).1 in
    let unit = above_zero_ℤ parts some in
    let over = above_zero_ℤ d (sum_positive slots) in
    let up : pos 0 ≤ℤ pos t = omega (arith, ints) in
    let sum = each_by rule (n *ℤ pos t) (pos d) over in
    let least : z ≤ℤ sum.0 = rounded_monotone rule (low *ℤ pos t) (pos parts) (n *ℤ pos t) (pos d) z sum.0 unit over (times_both low (pos d) n (pos parts) (pos t) up between.at_least) low_is sum.1 in
    let most : sum.0 ≤ℤ z = rounded_monotone rule (n *ℤ pos t) (pos d) (high *ℤ pos t) (pos parts) sum.0 z over unit (times_both n (pos parts) high (pos d) (pos t) up between.at_most) sum.1 high_is in
    subst (IsRoundedBy rule (n *ℤ pos t) (pos d)) (one_number sum.0 z most least) sum.1

-- ---- the bounds as they were computed

-- one bound, with its sign
pub bound_rounded : (rule : Rounding) (negative : Bool) (m t given parts z : ℕ) (bound : ℤ) → whole_number negative m ≡ bound → given ≡ parts
    → IsRoundedBy rule (signed negative (m * t)) (pos given) (signed negative z) → IsRoundedBy rule (bound *ℤ pos t) (pos parts) (signed negative z)
bound_rounded rule negative m t given parts z bound is given_is rounded =
    let whole : signed negative (m * t) ≡ bound *ℤ pos t = sym (signed_times negative m t) ∙ ap (λ (x : ℤ). x *ℤ pos t) (signed_whole negative m ∙ is) in
    subst (λ (x : ℕ). IsRoundedBy rule (bound *ℤ pos t) (pos x) (signed negative z)) given_is
    (subst (λ (x : ℤ). IsRoundedBy rule x (pos given) (signed negative z)) whole rounded)

pub one_part : (given k count : ℕ) (xs : List ℕ) → given ≡ 1 * base ^ (length (take count xs) - 2) → count ≡ k + 2 → count ≤ length xs → given ≡ base ^ k
one_part given k count xs is long within =
    let zeros : length (take count xs) - 2 ≡ k = omega (arith, length-take-le count xs within, long) in
    is ∙ ap (λ (i : ℕ). 1 * base ^ i) zeros ∙ omega arith

pub parts_positive : (given k : ℕ) → given ≡ base ^ k → 0 < given
parts_positive given k is = omega (arith, is, pow_positive k)

pub bounds_decide : BoundsDecide
bounds_decide rule places parts slots z some low_is high_is = record {
  multiple = z;
  rounded = rounded_between rule (10 ^ places) slots parts (low_of parts slots) (high_of parts slots) z some (bounds_hold slots parts) low_is high_is;
  written = refl;
}

-- such bounds are not apart
pub not_apart : (rule : Rounding) (places k : ℕ) (slots : List Slot) (low high : ℤ) → low ≡ high
    → IsRoundedBy rule (low_of (base ^ k) slots *ℤ pos (10 ^ places)) (pos (base ^ k)) low → IsRoundedBy rule (high_of (base ^ k) slots *ℤ pos (10 ^ places)) (pos (base ^ k)) high
    → ¬ (RoundsApart rule places slots (base ^ k))
not_apart rule places k slots low high same low_is high_is =
    let unit = above_zero_ℤ (base ^ k) (pow_positive k) in
    λ apart. apart.apart (one_by rule _ _ apart.low low unit apart.low_is low_is ∙ same ∙ one_by rule _ _ high apart.high unit high_is apart.high_is)

-- the same of a text
pub decimal_between : (rule : Rounding) (places k : ℕ) (slots : List Slot) (low high : ℤ) (text : List ℕ) → low ≡ high
    → IsRoundedBy rule (low_of (base ^ k) slots *ℤ pos (10 ^ places)) (pos (base ^ k)) low → IsRoundedBy rule (high_of (base ^ k) slots *ℤ pos (10 ^ places)) (pos (base ^ k)) high
    → text ≡ places_text places low → IsDecimalOf rule places (sum_of_slots slots).0 (pos (sum_of_slots slots).1) text
decimal_between rule places k slots low high text same low_is high_is written =
    subst (λ (t : List ℕ). IsDecimalOf rule places (sum_of_slots slots).0 (pos (sum_of_slots slots).1) t) (sym written)
    (bounds_decide rule places (base ^ k) slots low (pow_positive k) low_is (subst (λ (x : ℤ). IsRoundedBy rule (high_of (base ^ k) slots *ℤ pos (10 ^ places)) (pos (base ^ k)) x) (sym same) high_is))
