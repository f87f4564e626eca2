-- A fraction rounded to a whole number, or to a multiple of 1/parts, that may or may not fit a type. The fraction is a pair of whole numbers.
use Rattle.std.specs.Prelude.{◌≡◌, ◌<ℤ◌, ℤ, pos, neg_ℤ, IsNone, Option}
use Rattle.ratio_integer.specs.Range.{Checks}
use Rattle.ratio_decimal.specs.RoundingRules.{ChecksRounded, IsRoundedBy}
use Rattle.ratio_decimal.specs.declared.rounding_rule.Rounding.{Rounding}

-- the result is the fraction x, with a denominator above 0, rounded by the rule, where that is in range; elsewhere it is `None`
-- Example: over `i8`, 254/15 by `HalfEven`: `Some(17)`
abbrev pub ChecksRoundedWhole : {R : Type 0} → (R → ℤ) → ℤ → ℤ → Rounding → ℤ × ℤ → Option R → Type 0
ChecksRoundedWhole value lo hi rule x result = (z : ℤ) × IsRoundedBy rule x.0 x.1 z × Checks value lo hi z result

-- the result is the fraction x, rounded by the rule, where its denominator is not 0 and that whole number is in range; elsewhere it is
-- `None`. A denominator below 0 is brought above 0: both signs turn
-- Example: over `i8`, 254/-15 by `HalfEven`: `Some(-17)`; 1/0: `None`
pub record ChecksRoundedQuotient {R : Type 0} (value : R → ℤ) (lo hi : ℤ) (rule : Rounding) (x : ℤ × ℤ) (result : Option R) : Type 0 where
  pub above : pos 0 <ℤ x.1 → ChecksRoundedWhole value lo hi rule x result
  pub below : x.1 <ℤ pos 0 → ChecksRoundedWhole value lo hi rule (neg_ℤ x.0, neg_ℤ x.1) result
  pub none : x.1 ≡ pos 0 → IsNone result

-- the result is z/parts in lowest terms, where z is the fraction x times parts, rounded by the rule. It is `None` if these do not fit, and if
-- the denominator of x is 0. A denominator below 0 is brought above 0: both signs turn
-- Example: over `i8`, 254/-15 in quarters by `HalfEven`: `Some(-17/1)`; 1/0: `None`
pub record ChecksRoundedQuotientTo {R : Type 0} (numer denom : R → ℤ) (lo hi : ℤ) (rule : Rounding) (parts : ℤ) (x : ℤ × ℤ) (result : Option R) : Type 0 where
  pub above : pos 0 <ℤ x.1 → ChecksRounded numer denom lo hi rule parts x.0 x.1 result
  pub below : x.1 <ℤ pos 0 → ChecksRounded numer denom lo hi rule parts (neg_ℤ x.0) (neg_ℤ x.1) result
  pub none : x.1 ≡ pos 0 → IsNone result
