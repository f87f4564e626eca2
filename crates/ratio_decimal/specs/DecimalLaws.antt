-- The laws of decimals.
use Rattle.std.specs.Prelude.{◌≡◌, ◌<ℤ◌, ℕ, ℤ, pos, List}
use Rattle.ratio_integer.specs.Fraction.{SameValue}
use Rattle.ratio_decimal.specs.declared.rounding_rule.Rounding.{Rounding}
use Rattle.ratio_decimal.specs.Decimal.{IsDecimalOf}

-- Law: each fraction has a decimal with each number of places
-- Example: 2/3 with two by `HalfEven`: `0.67`
abbrev pub DecimalsExist : Type 0
DecimalsExist = (rule : Rounding) (places : ℕ) (n d : ℤ) → pos 0 <ℤ d → (text : List ℕ) × IsDecimalOf rule places n d text

-- Law: fractions of the same value have the same decimal
-- Example: 2/3 and 4/6
abbrev pub DecimalsAgree : Type 0
DecimalsAgree = (rule : Rounding) (places : ℕ) (n d m e : ℤ) (text other : List ℕ) → pos 0 <ℤ d → pos 0 <ℤ e → SameValue n d m e
    → IsDecimalOf rule places n d text → IsDecimalOf rule places m e other → text ≡ other
