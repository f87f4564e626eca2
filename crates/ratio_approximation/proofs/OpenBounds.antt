-- Ends of a type in place of open bounds. No fraction of a type is below its least number or above its greatest, so over `i8` there is
-- none above 127/1 and none below -128/1.
use Rattle.std.specs.Prelude.{◌≤ℤ◌, ◌<ℤ◌, ◌*ℤ◌, ℤ, zero, suc, pos, negsuc}
use Rattle.std.proofs.Common.{arith}
use Rattle.std.proofs.lemmas.Int.{ints}
use Rattle.std.specs.declared.ops.Bound.{Bound}
use Rattle.std.specs.declared.ops.Bound.TheVariants.{Included, Excluded, Unbounded}
use Rattle.ratio_integer.specs.Range.{IsHeld, IsRange}
use Rattle.ratio_approximation.specs.Bounds.{HasPositiveDenominator, IsWithinLow, IsWithinHigh, IsWithin}
use Rattle.ratio_approximation.specs.EndChoice.{IsFirstHeld, high_bound, low_bound}
use Rattle.ratio_approximation.specs.SimplestWithin.{HoldsNoneWithin, IsSimplestWithin}
use Rattle.ratio_approximation.proofs.Shares.{times_up}
use Rattle.ratio_approximation.proofs.SimplestWithinLemmas.{first_simplest, times_down}

-- no fraction of the type is below its least number or above its greatest
over_least : (lo hi a b : ℤ) → IsRange lo hi → IsHeld lo hi a → pos 0 <ℤ b → (lo *ℤ b) ≤ℤ (a *ℤ pos 1)
over_least lo hi a b range held up =
    let low = range.low in
    let high = range.high in
    let above = held.above in
    let less : lo ≤ℤ pos 0 = grind (arith, ints) in
    let fewer = lo_times lo b less up in
    omega (arith, ints)
  where
    lo_times : (lo b : ℤ) → lo ≤ℤ pos 0 → pos 0 <ℤ b → (lo *ℤ b) ≤ℤ lo
    lo_times (pos zero) b less up = omega (arith, ints)
    lo_times (pos (suc lo)) b less up = absurd (omega (arith, ints))
    lo_times (negsuc lo) b less up = (let more = times_down (negsuc lo) (pos 1) b (omega (arith, ints)) (omega (arith, ints)) in omega (arith, ints))

under_greatest : (lo hi a b : ℤ) → IsRange lo hi → IsHeld lo hi a → pos 0 <ℤ b → (a *ℤ pos 1) ≤ℤ (hi *ℤ b)
under_greatest lo hi a b range held up =
    let high = range.high in
    let below = held.below in
    let more = times_up hi (pos 1) b (omega (arith, ints)) (omega (arith, ints)) in
    omega (arith, ints)

from_low_bound : (lo hi : ℤ) (low : Bound (ℤ × ℤ)) (a b : ℤ) → IsRange lo hi → IsHeld lo hi a → pos 0 <ℤ b → IsWithinLow low a b → IsWithinLow (low_bound lo low) a b
from_low_bound lo hi (Included x) a b range held up is = is
from_low_bound lo hi (Excluded x) a b range held up is = is
from_low_bound lo hi Unbounded a b range held up is = over_least lo hi a b range held up

up_to_high_bound : (lo hi : ℤ) (high : Bound (ℤ × ℤ)) (a b : ℤ) → IsRange lo hi → IsHeld lo hi a → pos 0 <ℤ b → IsWithinHigh high a b → IsWithinHigh (high_bound hi high) a b
up_to_high_bound lo hi (Included x) a b range held up is = is
up_to_high_bound lo hi (Excluded x) a b range held up is = is
up_to_high_bound lo hi Unbounded a b range held up is = under_greatest lo hi a b range held up

from_open : (lo : ℤ) (low : Bound (ℤ × ℤ)) (a b : ℤ) → IsWithinLow (low_bound lo low) a b → IsWithinLow low a b
from_open lo (Included x) a b is = is
from_open lo (Excluded x) a b is = is
from_open lo Unbounded a b is = tt

up_to_open : (hi : ℤ) (high : Bound (ℤ × ℤ)) (a b : ℤ) → IsWithinHigh (high_bound hi high) a b → IsWithinHigh high a b
up_to_open hi (Included x) a b is = is
up_to_open hi (Excluded x) a b is = is
up_to_open hi Unbounded a b is = tt

module _ (lo hi : ℤ) (low high : Bound (ℤ × ℤ)) (range : IsRange lo hi) where
  closed : (a b : ℤ) → IsHeld lo hi a → IsWithin low high a b → IsWithin (low_bound lo low) (high_bound hi high) a b
  closed a b held is = record {
    positive = is.positive;
    above = from_low_bound lo hi low a b range held is.positive is.above;
    below = up_to_high_bound lo hi high a b range held is.positive is.below;
  }

  pub none_opened : HoldsNoneWithin lo hi (low_bound lo low) (high_bound hi high) → HoldsNoneWithin lo hi low high
  none_opened none = record { each = λ a b a_held b_held is. none.each a b a_held b_held (closed a b a_held is) }

  pub first_opened : (p q : ℤ) → HasPositiveDenominator low → HasPositiveDenominator high → IsHeld lo hi p → IsHeld lo hi q → IsFirstHeld lo hi (low_bound lo low) (high_bound hi high) p q → IsSimplestWithin low high p q
  first_opened p q low_up high_up p_held q_held is = first_simplest low high low_up high_up lo hi p q range p_held q_held (record {
    within = record {
      positive = is.within.positive;
      above = from_open lo low p q is.within.above;
      below = up_to_open hi high p q is.within.below;
    };
    first = λ a b a_held b_held other. is.first a b a_held b_held (closed a b a_held other);
  })
