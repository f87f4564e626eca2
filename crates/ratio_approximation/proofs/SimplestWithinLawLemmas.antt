-- The laws of the simplest fraction within two bounds: at most one, in lowest terms, and the same for bounds of the same values.
use Rattle.std.specs.Prelude.{◌≡◌, ◌↔◌, ◌<ℤ◌, ◌*ℤ◌, ℤ, pos, unsigned_abs}
use Rattle.std.proofs.Common.{sym, ap, arith, inl, inr, ◌∙◌}
use Rattle.std.proofs.lemmas.Int.{ints}
use Rattle.std.specs.declared.ops.Bound.{Bound}
use Rattle.std.specs.declared.ops.Bound.TheVariants.{Included, Excluded, Unbounded}
use Rattle.ratio_integer.proofs.CommonDivisors.{divides_multiple}
use Rattle.ratio_integer.proofs.Whole.{mul-swap_last}
use Rattle.ratio_integer.specs.Fraction.{IsLowestTerms}
use Rattle.ratio_approximation.specs.Bounds.{HasPositiveDenominator, IsWithinLow, IsWithinHigh, IsWithin}
use Rattle.ratio_approximation.specs.Simplest.{IsBetween, IsSimplest}
use Rattle.ratio_approximation.specs.SimplestWithin.{IsSimplestWithin}
use Rattle.ratio_approximation.specs.SimplestWithinLaws.{AreSameBounds, SameBoundsSameSimplest}
use Rattle.ratio_approximation.proofs.FractionOrder.{at_most_chained, below_then, then_below}
use Rattle.ratio_approximation.proofs.SimplestLawLemmas.{one_divisor, same_size}
use Rattle.ratio_approximation.proofs.WithinLemmas.{within_moved, zero_within}

module _ (low high : Bound (ℤ × ℤ)) (low_up : HasPositiveDenominator low) (high_up : HasPositiveDenominator high) where
  opposite : (p q a b : ℤ) → IsSimplestWithin low high p q → IsSimplestWithin low high a b → p <ℤ pos 0 → pos 0 <ℤ a → ⊥
  opposite p q a b first second down up =
      let zero = zero_within low high low_up high_up p q a b first.within second.within (omega (arith, ints)) (omega (arith, ints)) in
      let none = first.numer (pos 0) (pos 1) zero in
      omega (arith, ints)

  pub within_unique : (p q a b : ℤ) → IsSimplestWithin low high p q → IsSimplestWithin low high a b → (p ≡ a) × (q ≡ b)
  within_unique p q a b first second =
      let one = first.denom a b second.within in
      let two = second.denom p q first.within in
      let three = first.numer a b second.within in
      let four = second.numer p q first.within in
      let size : unsigned_abs p ≡ unsigned_abs a = omega arith in (
        elim (same_size p a size) [
          | inl same ↦ same
          | inr (inl sides) ↦ absurd (opposite p q a b first second sides.0 sides.1)
          | inr (inr sides) ↦ absurd (opposite a b p q second first sides.0 sides.1)
        ],
        omega (arith, ints),
      )

  pub within_lowest : (p q : ℤ) → IsSimplestWithin low high p q → IsLowestTerms p q
  within_lowest p q is = record {
    positive = is.within.positive;
    only_one = λ k over_p over_q. (
        let a = divides_multiple p (pos k) over_p in
        let b = divides_multiple q (pos k) over_q in
        one_divisor q b.0 k is.within.positive b.1 (λ b_up. is.denom a.0 b.0 (within_moved low high low_up high_up p q a.0 b.0 is.within b_up (ap (λ (t : ℤ). t *ℤ b.0) a.1 ∙ mul-swap_last a.0 (pos k) b.0 ∙ sym (ap (λ (t : ℤ). a.0 *ℤ t) b.1)))));
  }

-- ---- bounds of the same values

from_same : (low low' : Bound (ℤ × ℤ)) (a b : ℤ) → HasPositiveDenominator low → HasPositiveDenominator low' → pos 0 <ℤ b → AreSameBounds low low' → IsWithinLow low a b → IsWithinLow low' a b
from_same (Included x) (Included y) a b x_up y_up b_up same is = at_most_chained y.0 y.1 x.0 x.1 a b y_up x_up b_up (omega (arith, ints)) is
from_same (Excluded x) (Excluded y) a b x_up y_up b_up same is = then_below y.0 y.1 x.0 x.1 a b y_up x_up b_up (omega (arith, ints)) is
from_same Unbounded Unbounded a b x_up y_up b_up same is = is
from_same (Included x) (Excluded y) a b x_up y_up b_up same is = absurd same
from_same (Included x) Unbounded a b x_up y_up b_up same is = absurd same
from_same (Excluded x) (Included y) a b x_up y_up b_up same is = absurd same
from_same (Excluded x) Unbounded a b x_up y_up b_up same is = absurd same
from_same Unbounded (Included y) a b x_up y_up b_up same is = absurd same
from_same Unbounded (Excluded y) a b x_up y_up b_up same is = absurd same

up_to_same : (high high' : Bound (ℤ × ℤ)) (a b : ℤ) → HasPositiveDenominator high → HasPositiveDenominator high' → pos 0 <ℤ b → AreSameBounds high high' → IsWithinHigh high a b → IsWithinHigh high' a b
up_to_same (Included x) (Included y) a b x_up y_up b_up same is = at_most_chained a b x.0 x.1 y.0 y.1 b_up x_up y_up is (omega (arith, ints))
up_to_same (Excluded x) (Excluded y) a b x_up y_up b_up same is = below_then a b x.0 x.1 y.0 y.1 b_up x_up y_up is (omega (arith, ints))
up_to_same Unbounded Unbounded a b x_up y_up b_up same is = is
up_to_same (Included x) (Excluded y) a b x_up y_up b_up same is = absurd same
up_to_same (Included x) Unbounded a b x_up y_up b_up same is = absurd same
up_to_same (Excluded x) (Included y) a b x_up y_up b_up same is = absurd same
up_to_same (Excluded x) Unbounded a b x_up y_up b_up same is = absurd same
up_to_same Unbounded (Included y) a b x_up y_up b_up same is = absurd same
up_to_same Unbounded (Excluded y) a b x_up y_up b_up same is = absurd same

turned : (x y : Bound (ℤ × ℤ)) → AreSameBounds x y → AreSameBounds y x
turned (Included x) (Included y) same = sym same
turned (Excluded x) (Excluded y) same = sym same
turned Unbounded Unbounded same = same
turned (Included x) (Excluded y) same = same
turned (Included x) Unbounded same = same
turned (Excluded x) (Included y) same = same
turned (Excluded x) Unbounded same = same
turned Unbounded (Included y) same = same
turned Unbounded (Excluded y) same = same

within_same : (low high low' high' : Bound (ℤ × ℤ)) (a b : ℤ) → HasPositiveDenominator low → HasPositiveDenominator high → HasPositiveDenominator low' → HasPositiveDenominator high' → AreSameBounds low low' → AreSameBounds high high' → IsWithin low high a b → IsWithin low' high' a b
within_same low high low' high' a b low_up high_up low'_up high'_up same_low same_high is = record {
  positive = is.positive;
  above = from_same low low' a b low_up low'_up is.positive same_low is.above;
  below = up_to_same high high' a b high_up high'_up is.positive same_high is.below;
}

pub same_bounds : SameBoundsSameSimplest
same_bounds low high low' high' p q low_up high_up low'_up high'_up same_low same_high is =
    let back : (a b : ℤ) → IsWithin low' high' a b → IsWithin low high a b = λ a b other. within_same low' high' low high a b low'_up high'_up low_up high_up (turned low low' same_low) (turned high high' same_high) other in
    record {
      within = within_same low high low' high' p q low_up high_up low'_up high'_up same_low same_high is.within;
      denom = λ a b other. is.denom a b (back a b other);
      numer = λ a b other. is.numer a b (back a b other);
    }

-- ---- two excluded bounds

between_of : (n d m e a b : ℤ) → IsWithin (Excluded (n, d)) (Excluded (m, e)) a b → IsBetween n d m e a b
between_of n d m e a b is = record { positive = is.positive; above = is.above; below = is.below }

within_of : (n d m e a b : ℤ) → IsBetween n d m e a b → IsWithin (Excluded (n, d)) (Excluded (m, e)) a b
within_of n d m e a b is = record { positive = is.positive; above = is.above; below = is.below }

pub excluded_between : (n d m e p q : ℤ) → IsSimplestWithin (Excluded (n, d)) (Excluded (m, e)) p q ↔ IsSimplest n d m e p q
excluded_between n d m e p q = (
  (λ is. record {
    between = between_of n d m e p q is.within;
    denom = λ a b other. is.denom a b (within_of n d m e a b other);
    numer = λ a b other. is.numer a b (within_of n d m e a b other);
  }),
  (λ is. record {
    within = within_of n d m e p q is.between;
    denom = λ a b other. is.denom a b (between_of n d m e a b other);
    numer = λ a b other. is.numer a b (between_of n d m e a b other);
  }),
)
