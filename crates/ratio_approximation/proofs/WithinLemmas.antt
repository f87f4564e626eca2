-- Fractions within bounds: one between two of them is within the bounds too.
use Rattle.std.specs.Prelude.{◌≡◌, ◌⊎◌, ◌≤ℤ◌, ◌<ℤ◌, ◌-ℤ◌, ◌*ℤ◌, ℤ, zero, suc, pos, negsuc}
use Rattle.std.proofs.Common.{refl, arith, inl, inr}
use Rattle.std.proofs.lemmas.Int.{ints}
use Rattle.std.specs.declared.ops.Bound.{Bound}
use Rattle.std.specs.declared.ops.Bound.TheVariants.{Included, Excluded, Unbounded}
use Rattle.ratio_integer.specs.Fraction.{SameValue}
use Rattle.ratio_approximation.specs.Bounds.{HasPositiveDenominator, IsWithinLow, IsWithinHigh, IsWithin}
use Rattle.ratio_approximation.proofs.FractionOrder.{at_most_chained, below_then, then_below}

-- a/b is from the bound, and a/b ≤ r/s
pub from_kept : (low : Bound (ℤ × ℤ)) (a b r s : ℤ) → HasPositiveDenominator low → pos 0 <ℤ b → pos 0 <ℤ s → IsWithinLow low a b → (a *ℤ s) ≤ℤ (r *ℤ b) → IsWithinLow low r s
from_kept (Included x) a b r s low_up b_up s_up from less = at_most_chained x.0 x.1 a b r s low_up b_up s_up from less
from_kept (Excluded x) a b r s low_up b_up s_up from less = below_then x.0 x.1 a b r s low_up b_up s_up from less
from_kept Unbounded a b r s low_up b_up s_up from less = tt

-- r/s ≤ a/b, and a/b is up to the bound
pub up_to_kept : (high : Bound (ℤ × ℤ)) (a b r s : ℤ) → HasPositiveDenominator high → pos 0 <ℤ b → pos 0 <ℤ s → IsWithinHigh high a b → (r *ℤ b) ≤ℤ (a *ℤ s) → IsWithinHigh high r s
up_to_kept (Included x) a b r s high_up b_up s_up up_to less = at_most_chained r s a b x.0 x.1 s_up b_up high_up less up_to
up_to_kept (Excluded x) a b r s high_up b_up s_up up_to less = then_below r s a b x.0 x.1 s_up b_up high_up less up_to
up_to_kept Unbounded a b r s high_up b_up s_up up_to less = tt

pub at_most_or_above : (z n : ℤ) → (z ≤ℤ n) ⊎ (n <ℤ z)
at_most_or_above z n = by (n -ℤ z) refl
  where
    by : (t : ℤ) → t ≡ n -ℤ z → (z ≤ℤ n) ⊎ (n <ℤ z)
    by (pos t) e = inl (omega (arith, ints))
    by (negsuc t) e = inr (omega (arith, ints))

side_of : (p : ℤ) → (pos 0 <ℤ p) ⊎ (p ≡ pos 0) ⊎ (p <ℤ pos 0)
side_of (pos zero) = inr (inl refl)
side_of (pos (suc p)) = inl (omega (arith, ints))
side_of (negsuc p) = inr (inr (omega (arith, ints)))

module _ (low high : Bound (ℤ × ℤ)) (low_up : HasPositiveDenominator low) (high_up : HasPositiveDenominator high) where
  -- a/b ≤ r/s ≤ p/q
  pub within_kept : (a b p q r s : ℤ) → IsWithin low high a b → IsWithin low high p q → pos 0 <ℤ s → (a *ℤ s) ≤ℤ (r *ℤ b) → (r *ℤ q) ≤ℤ (p *ℤ s) → IsWithin low high r s
  within_kept a b p q r s first last s_up above below = record {
    positive = s_up;
    above = from_kept low a b r s low_up first.positive s_up first.above above;
    below = up_to_kept high p q r s high_up last.positive s_up last.below below;
  }

  pub within_moved : (a b r s : ℤ) → IsWithin low high a b → pos 0 <ℤ s → SameValue a b r s → IsWithin low high r s
  within_moved a b r s is s_up same = within_kept a b a b r s is is s_up (omega (arith, ints, same)) (omega (arith, ints, same))

  pub zero_within : (a b p q : ℤ) → IsWithin low high a b → IsWithin low high p q → a ≤ℤ pos 0 → pos 0 ≤ℤ p → IsWithin low high (pos 0) (pos 1)
  zero_within a b p q first last below above =
      within_kept a b p q (pos 0) (pos 1) first last (omega (arith, ints)) (omega (arith, ints)) (omega (arith, ints))

  -- 0 is within the bounds, or both fractions are on one side of it
  pub zero_or_side : (a b p q : ℤ) → IsWithin low high a b → IsWithin low high p q → IsWithin low high (pos 0) (pos 1) ⊎ ((pos 0 <ℤ a) × (pos 0 <ℤ p)) ⊎ ((a <ℤ pos 0) × (p <ℤ pos 0))
  zero_or_side a b p q first last = by (at_most_or_above a (pos 0)) (at_most_or_above p (pos 0))
    where
      by : (a ≤ℤ pos 0) ⊎ (pos 0 <ℤ a) → (p ≤ℤ pos 0) ⊎ (pos 0 <ℤ p) → IsWithin low high (pos 0) (pos 1) ⊎ ((pos 0 <ℤ a) × (pos 0 <ℤ p)) ⊎ ((a <ℤ pos 0) × (p <ℤ pos 0))
      by (inr a_up) (inr p_up) = inr (inl (a_up, p_up))
      by (inl a_down) (inr p_up) = inl (zero_within a b p q first last a_down (omega (arith, ints)))
      by (inr a_up) (inl p_down) = inl (zero_within p q a b last first p_down (omega (arith, ints)))
      by (inl a_down) (inl p_down) = both (side_of a) (side_of p)
        where
          both : (pos 0 <ℤ a) ⊎ (a ≡ pos 0) ⊎ (a <ℤ pos 0) → (pos 0 <ℤ p) ⊎ (p ≡ pos 0) ⊎ (p <ℤ pos 0) → IsWithin low high (pos 0) (pos 1) ⊎ ((pos 0 <ℤ a) × (pos 0 <ℤ p)) ⊎ ((a <ℤ pos 0) × (p <ℤ pos 0))
          both (inl a_up) p_side = absurd (omega (arith, ints))
          both a_side (inl p_up) = absurd (omega (arith, ints))
          both (inr (inl a_none)) p_side = inl (zero_within a b a b first first a_down (omega (arith, ints)))
          both a_side (inr (inl p_none)) = inl (zero_within p q p q last last p_down (omega (arith, ints)))
          both (inr (inr a_less)) (inr (inr p_less)) = inr (inr (a_less, p_less))
