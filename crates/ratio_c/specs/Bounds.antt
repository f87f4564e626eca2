-- The bounds that flags say.
use Rattle.std.specs.Prelude.{◌≡◌, ◌==◌, ◌/◌, ◌%◌, ◌<◌, ℕ, ℤ, Bool, true, false, ◌&&◌}
use Rattle.std.specs.declared.ops.Bound.{Bound, TheVariants.Included, TheVariants.Excluded, TheVariants.Unbounded}
use Rattle.ratio_approximation.specs.Bounds.{HasPositiveDenominator, numbers_in}
use Rattle.ratio_c.specs.Codes.{code_high_included, code_high_open, code_low_included, code_low_open}

-- whether a flag, which is a power of two, is one of these
-- Example: 4 is one of 6
abbrev pub has_flag : ℕ → ℕ → Bool
has_flag flags flag = (flags / flag) % 2 == 1

-- there are no other flags than the four, and no bound is both included and open
-- Example: not 5
pub record AreFlags (flags : ℕ) : Type 0 where
  pub known : flags < 16
  pub low : (has_flag flags code_low_included && has_flag flags code_low_open) ≡ false
  pub high : (has_flag flags code_high_included && has_flag flags code_high_open) ≡ false

-- a bound that is open, included or, if neither, excluded
abbrev pub bound_of : Bool → Bool → ℤ × ℤ → Bound (ℤ × ℤ)
bound_of included true x = Unbounded
bound_of true false x = Included x
bound_of false false x = Excluded x

-- the lower bound, by the flags
-- Example: 1/2 with 1: included 1/2
abbrev pub flagged_low : ℕ → ℤ × ℤ → Bound (ℤ × ℤ)
flagged_low flags x = bound_of (has_flag flags code_low_included) (has_flag flags code_low_open) x

-- the upper bound, by the flags
abbrev pub flagged_high : ℕ → ℤ × ℤ → Bound (ℤ × ℤ)
flagged_high flags x = bound_of (has_flag flags code_high_included) (has_flag flags code_high_open) x

-- the denominator of each bound that is not open is positive (`HasPositiveDenominator` of both)
abbrev pub HavePositiveDenominators : Bound (ℤ × ℤ) → Bound (ℤ × ℤ) → Type 0
HavePositiveDenominators low high = HasPositiveDenominator low × HasPositiveDenominator high

-- Inner: a pair of bounds has these numbers, and positive denominators
pub record AreBounds {T : Type 0} (value : T → ℤ) (low high : Bound (ℤ × ℤ)) (both : Bound (T × T) × Bound (T × T)) : Type 0 where
  pub positive : HavePositiveDenominators (numbers_in value both.0) (numbers_in value both.1)
  pub low_is : numbers_in value both.0 ≡ low
  pub high_is : numbers_in value both.1 ≡ high
