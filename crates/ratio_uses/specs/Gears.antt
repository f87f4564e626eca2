-- Two wheels whose ratio of teeth is near a wanted one. The ratio is a pair of whole numbers here.
use Rattle.std.specs.Prelude.{◌⊎◌, ◌+◌, ◌*◌, ◌<◌, ◌≤◌, ◌≤ℤ◌, ◌<ℤ◌, ◌≡◌, ℕ, ℤ, pos, Option, Some, None}
use Rattle.ratio_approximation.specs.Nearest.{ComesFirst, gap}
use Rattle.num_rational.specs.{Operators.ChecksExactDifference, Reduced.ratio_in}
use Rattle.ratio_uses.specs.declared.gears.Gears.{Gears}

-- a wheel has from `least` to `most` teeth
-- Example: 12 to 20: 17
pub record IsWheel (least most teeth : ℕ) : Type 0 where
  pub at_least : least ≤ teeth
  pub at_most : teeth ≤ most

-- the first pair of wheels comes before the second by its distance from the wanted ratio, or is the same pair (`ComesFirst`)
-- Example: from 355/113: 44 and 14 before 66 and 21
abbrev pub PairComesFirst : ℤ × ℤ → ℕ → ℕ → ℕ → ℕ → Type 0
PairComesFirst wanted first second m e =
    ComesFirst (gap wanted.0 wanted.1 (pos first) (pos second)) (pos first) (pos second) (gap wanted.0 wanted.1 (pos m) (pos e)) (pos m) (pos e)

-- both wheels have from `least` to `most` teeth. Of all such pairs this one comes first by its distance from the wanted ratio
-- Example: 355/113 with 8 to 100 teeth: 44, 14
pub record AreNearestWheels (wanted : ℤ × ℤ) (least most first second : ℕ) : Type 0 where
  pub first_wheel : IsWheel least most first
  pub second_wheel : IsWheel least most second
  pub nearest : (m e : ℕ) → IsWheel least most m → IsWheel least most e → PairComesFirst wanted first second m e

-- the result is the nearest wheels, and the wanted ratio minus theirs if its lowest terms fit. It is `None` exactly if the wanted ratio is
-- not above 0, `least` is 0 or `most` is below `least`
-- Example: 355/113 with 8 to 100 teeth: 44, 14 and -1/791
abbrev pub ChecksGears : ℤ × ℤ → ℕ → ℕ → Option Gears → Type 0
ChecksGears wanted least most None = (wanted.0 ≤ℤ pos 0) ⊎ (least ≡ 0) ⊎ (most < least)
ChecksGears wanted least most (Some gears) =
    (pos 0 <ℤ wanted.0)
    × (0 < least)
    × AreNearestWheels wanted least most gears.first gears.second
    × ChecksExactDifference wanted (pos gears.first, pos gears.second) (ratio_in gears.off)

-- Inner: of all first wheels this one is best with the second
pub record IsBestFirst (wanted : ℤ × ℤ) (least most first second : ℕ) : Type 0 where
  pub wheel : IsWheel least most first
  pub best : (m : ℕ) → IsWheel least most m → PairComesFirst wanted first second m second

-- Inner: r is x/d rounded to the nearest whole number, a half down: r - 1/2 < x/d ≤ r + 1/2
-- Example: 5/2: 2
pub record IsRoundedDown (x d r : ℕ) : Type 0 where
  pub above : 2 * (r * d) < 2 * x + d
  pub below : 2 * x ≤ 2 * (r * d) + d

-- Inner: x over d has this whole quotient and this rest
-- Example: 17 over 5: 3 and 2
pub record IsQuotient (x d whole rest : ℕ) : Type 0 where
  pub same : x ≡ whole * d + rest
  pub less : rest < d

-- Inner: this first wheel is best with each second one for which the wanted ratio times the second has this whole quotient and this rest over d
-- Example: 3 and 2 over 4, as from 14/4 with 1 and from 7/4 with 2: 3
abbrev pub IsBestFor : ℕ → ℕ → ℕ → ℕ → ℕ → ℕ → Type 0
IsBestFor d whole rest least most first = (n s : ℕ) → 0 < s → IsQuotient (n * s) d whole rest → IsBestFirst (pos n, pos d) least most first s
