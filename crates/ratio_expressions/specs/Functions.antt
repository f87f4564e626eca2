-- The functions that a call can name, and what each gives of numbers.
use Rattle.std.specs.Prelude.{◌≡◌, ◌≢◌, ◌≤◌, ◌⊎◌, ◌≤ℤ◌, ◌<ℤ◌, ℕ, ℤ, pos, List, [], ◌∷◌, codes, Option, None, Some, Result, Ok, Err, if◌then◌else◌}
use Rattle.std.specs.List.{All, Contains}
use Rattle.std.specs.Str.{bytes_eq}
use Rattle.std.specs.declared.cmp.Ordering.{Ordering}
use Rattle.std.specs.declared.cmp.Ordering.TheVariants.{Less, Greater}
use Rattle.ratio_integer.specs.Fraction.{IsLowestTerms}
use Rattle.ratio_core.specs.Divisors.{DividesFraction}
use Rattle.ratio_core.specs.Order.{cross_cmp}
use Rattle.ratio_core.specs.Rounding.{IsCeiling, IsFloor, IsRounded, IsTruncation}
use Rattle.ratio_decimal.specs.declared.rounding_rule.Rounding.TheVariants.{HalfAway}
use Rattle.ratio_big.specs.Fractions.{big_numbers}
use Rattle.ratio_big.specs.Multiples.{IsMultipleBy}
use Rattle.ratio_big.specs.Nearest.{IsNearestWithin}
use Rattle.ratio_big.specs.Simplest.{IsSimplestBetween}
use Rattle.ratio_big.specs.Values.{absolute_pair}
use Rattle.ratio_big.specs.declared.fraction.BigFraction.{BigFraction}
use Rattle.ratio_expressions.specs.declared.function.Function.{Function}
use Rattle.ratio_expressions.specs.declared.function.Function.TheVariants as functions
use Rattle.ratio_expressions.specs.declared.refusal.Reason.{Reason}
use Rattle.ratio_expressions.specs.declared.refusal.Reason.TheVariants as reasons

-- the function with this name
-- Example: `max`: `Max`
abbrev pub function_of : List ℕ → Option Function
function_of name =
    if bytes_eq name (codes "abs") then Some functions.Abs else (
    if bytes_eq name (codes "floor") then Some functions.Floor else (
    if bytes_eq name (codes "ceil") then Some functions.Ceil else (
    if bytes_eq name (codes "round") then Some functions.Round else (
    if bytes_eq name (codes "trunc") then Some functions.Trunc else (
    if bytes_eq name (codes "cents") then Some functions.Cents else (
    if bytes_eq name (codes "gcd") then Some functions.Gcd else (
    if bytes_eq name (codes "lcm") then Some functions.Lcm else (
    if bytes_eq name (codes "min") then Some functions.Min else (
    if bytes_eq name (codes "max") then Some functions.Max else (
    if bytes_eq name (codes "nearest") then Some functions.Nearest else (
    if bytes_eq name (codes "between") then Some functions.Between else None)))))))))))

-- the function takes so many numbers: `nearest` and `between` two, the others one, and `gcd`, `lcm`, `min` and `max` take more, too
abbrev pub TakesCount : Function → ℕ → Type 0
TakesCount functions.Gcd n = 1 ≤ n
TakesCount functions.Lcm n = 1 ≤ n
TakesCount functions.Min n = 1 ≤ n
TakesCount functions.Max n = 1 ≤ n
TakesCount functions.Nearest n = n ≡ 2
TakesCount functions.Between n = n ≡ 2
TakesCount f n = n ≡ 1

-- r is the least of the numbers for `Less`, and the greatest for `Greater`: one of them, and no other is on that side of it
-- Example: of 1, 1/2 and 3: 1/2 and 3
pub record IsExtreme (side : Ordering) (xs : List (ℤ × ℤ)) (r : ℤ × ℤ) : Type 0 where
  pub among : Contains xs r
  pub beyond : All (λ x. cross_cmp x.0 x.1 r.0 r.1 ≢ side) xs

-- r is the greatest common divisor of the numbers in lowest terms, not below 0: it divides each, and what divides each divides it
-- Example: of 1/2 and 1/3: 1/6
pub record IsGcdOfAll (xs : List (ℤ × ℤ)) (r : ℤ × ℤ) : Type 0 where
  pub lowest : IsLowestTerms r.0 r.1
  pub sign : pos 0 ≤ℤ r.0
  pub divides : All (λ x. DividesFraction r.0 r.1 x.0 x.1) xs
  pub greatest : (u v : ℤ) → v ≢ pos 0 → All (λ x. DividesFraction u v x.0 x.1) xs → DividesFraction u v r.0 r.1

-- r is the least common multiple of the numbers in lowest terms, not below 0: each divides it, and it divides what each divides
-- Example: of 4 and 6: 12
pub record IsLcmOfAll (xs : List (ℤ × ℤ)) (r : ℤ × ℤ) : Type 0 where
  pub lowest : IsLowestTerms r.0 r.1
  pub sign : pos 0 ≤ℤ r.0
  pub divided : All (λ x. DividesFraction x.0 x.1 r.0 r.1) xs
  pub least : (u v : ℤ) → v ≢ pos 0 → All (λ x. DividesFraction x.0 x.1 u v) xs → DividesFraction r.0 r.1 u v

-- what a function gives of numbers in lowest terms
-- Example: `floor` of -7/2: -4/1
abbrev pub GivesNumber : Function → List (ℤ × ℤ) → ℤ × ℤ → Type 0
GivesNumber functions.Abs (x ∷ []) r = r ≡ absolute_pair x
GivesNumber functions.Floor (x ∷ []) r = IsFloor x.0 x.1 r.0 × (r.1 ≡ pos 1)
GivesNumber functions.Ceil (x ∷ []) r = IsCeiling x.0 x.1 r.0 × (r.1 ≡ pos 1)
GivesNumber functions.Round (x ∷ []) r = IsRounded x.0 x.1 r.0 × (r.1 ≡ pos 1)
GivesNumber functions.Trunc (x ∷ []) r = IsTruncation x.0 x.1 r.0 × (r.1 ≡ pos 1)
GivesNumber functions.Cents (x ∷ []) r = IsMultipleBy HalfAway x (pos 1, pos 100) r
GivesNumber functions.Gcd xs r = IsGcdOfAll xs r
GivesNumber functions.Lcm xs r = IsLcmOfAll xs r
GivesNumber functions.Min xs r = IsExtreme Less xs r
GivesNumber functions.Max xs r = IsExtreme Greater xs r
GivesNumber functions.Nearest (x ∷ most ∷ []) r = IsNearestWithin x most r
GivesNumber functions.Between (x ∷ y ∷ []) r = IsSimplestBetween x y r ⊎ IsSimplestBetween y x r
GivesNumber f xs r = ⊥

-- why a function refuses numbers in lowest terms, of which it takes so many
-- Example: `between`, 1/2 and 1/2: `NothingBetween`
abbrev pub FunctionRefuses : Function → List (ℤ × ℤ) → Reason → Type 0
FunctionRefuses functions.Nearest (x ∷ most ∷ []) reasons.BoundBelowOne = most.0 <ℤ most.1
FunctionRefuses functions.Between (x ∷ y ∷ []) reasons.NothingBetween = x ≡ y
FunctionRefuses f xs r = ⊥

-- Inner: the result is what the function gives of the numbers, or why it refuses them
abbrev pub AnswersNumbers : Function → List (ℤ × ℤ) → Result BigFraction Reason → Type 0
AnswersNumbers f xs (Ok r) = GivesNumber f xs (big_numbers r)
AnswersNumbers f xs (Err reason) = FunctionRefuses f xs reason
