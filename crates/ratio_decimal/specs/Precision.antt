-- The text of a fraction n/d under a precision, as in `{:.2}`, where d is above 0.
use Rattle.std.specs.Prelude.{◌+◌, ◌*◌, ◌/◌, ◌%◌, ◌^◌, ◌<ℤ◌, ℕ, ℤ, pos, List, nat_lt, int_lt, unsigned_abs, if◌then◌else◌}
use Rattle.ratio_decimal.specs.{Decimal.IsDecimalOf, Decimal.places_text, RoundingRules.signed}
use Rattle.ratio_decimal.specs.declared.rounding_rule.Rounding.TheVariants.{HalfEven}

-- n/d rounded, a half to the even number
-- Example: 5/2: 2; 7/2: 4
unfoldable pub half_even : ℕ → ℕ → ℕ
half_even n d = if nat_lt (n % d + n % d) d then n / d else (if nat_lt d (n % d + n % d) then n / d + 1 else n / d + n / d % 2)

-- n/d to so many places, a half to the even digit
-- Example: 1/8 with two: `0.12`
abbrev pub half_even_text : ℕ → ℤ → ℤ → List ℕ
half_even_text places n d = places_text places (signed (int_lt n (pos 0)) (half_even (unsigned_abs n * 10 ^ places) (unsigned_abs d)))

-- Law: the text of `half_even_text` is the decimal by `HalfEven`
abbrev pub HalfEvenIsDecimal : Type 0
HalfEvenIsDecimal = (places : ℕ) (n d : ℤ) → pos 0 <ℤ d → IsDecimalOf HalfEven places n d (half_even_text places n d)
