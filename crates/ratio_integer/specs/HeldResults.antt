-- When a quotient and a greatest common divisor of two numbers in range are in range: always, except for the pairs that the calls exclude.
use Rattle.std.specs.Prelude.{◌≢◌, ◌↔◌, ℤ, pos, int_div}
use Rattle.ratio_integer.specs.Division.{FlooredHeld, GcdHeld, IsAboveMax, IsGcdAboveMax}
use Rattle.ratio_integer.specs.Range.{IsHeld, IsRange}

-- Law: the quotient of two numbers in range, cut towards zero, is in range, exactly except for -hi-1 by -1
-- Example: not -128 by -1
abbrev pub QuotientHeldButOne : Type 0
QuotientHeldButOne =
    (lo hi a b : ℤ) → IsRange lo hi → IsHeld lo hi a → IsHeld lo hi b → b ≢ pos 0 → IsHeld lo hi (int_div a b) ↔ (¬ (IsAboveMax hi a b))

-- Law: the floored quotient of two numbers in range is in range, exactly except for -hi-1 by -1
-- Example: not -128 by -1
abbrev pub FlooredHeldButOne : Type 0
FlooredHeldButOne =
    (lo hi a b : ℤ) → IsRange lo hi → IsHeld lo hi a → IsHeld lo hi b → b ≢ pos 0 → FlooredHeld lo hi a b ↔ (¬ (IsAboveMax hi a b))

-- Law: the greatest common divisor of two numbers in range is in range, exactly except for the pairs of `IsGcdAboveMax`
-- Example: not -128 and 0
abbrev pub GcdHeldButThree : Type 0
GcdHeldButThree =
    (lo hi a b : ℤ) → IsRange lo hi → IsHeld lo hi a → IsHeld lo hi b → GcdHeld lo hi a b ↔ (¬ (IsGcdAboveMax hi a b))
