-- Amounts converted by a chain of rates, and intervals brought into one octave.
use Rattle.std.specs.Prelude.{◌≡◌, ◌⊎◌, ◌+◌, ◌<◌, ◌^◌, ◌≤ℤ◌, ◌<ℤ◌, ◌*ℤ◌, ℕ, ℤ, pos, List, length, take, Option, Some, None, IsPermutation}
use Rattle.ratio_integer.specs.Fraction.{IsLowestTermsOf, SameValue}
use Rattle.ratio_integer.specs.SignedBits.{Fits64}
use Rattle.ratio_core.specs.ManyProducts.{product_by}
use Rattle.num_rational.specs.declared.reduced.Reduced.{Reduced}
use Rattle.num_rational.specs.In64Bits.{HasValue}
use Rattle.num_rational.specs.Reduced.{lowest_numbers}

-- an amount times all rates: the product of the numerators over the product of the denominators
abbrev pub converted : {A : Type 0} → (A → ℤ × ℤ) → ℤ × ℤ → List A → ℤ × ℤ
converted view amount rates = (amount.0 *ℤ product_by (λ rate. (view rate).0) rates, amount.1 *ℤ product_by (λ rate. (view rate).1) rates)

-- the amount times the first rate, times the first two, and so on, fits in 64 bits each time
-- Example: 36/4, 360/36
abbrev pub EachStepFits : {A : Type 0} → (A → ℤ × ℤ) → ℤ × ℤ → List A → Type 0
EachStepFits view amount rates = (k : ℕ) → k < length rates → Fits64 (converted view amount (take (k + 1) rates))

-- the result is the amount times all rates in lowest terms if each step fits (`EachStepFits`), else `None`
abbrev pub ChecksConversion : {A : Type 0} {T : _} {i : _} {o : _} {e : _} {p : _} {h : _} → (A → ℤ × ℤ) → ℤ × ℤ → List A → Option (Reduced T i o e p h) → Type 0
ChecksConversion view amount rates None = ¬ (EachStepFits view amount rates)
ChecksConversion view amount rates (Some r) = EachStepFits view amount rates × HasValue (converted view amount rates) r

-- Law: the same rates in another order convert an amount to the same one: `converted` has the same lowest terms
abbrev pub OrderIsFree : Type 0
OrderIsFree =
    (amount : ℤ × ℤ) (rates others : List (ℤ × ℤ)) (x y : ℤ × ℤ)
    → IsPermutation rates others
    → IsLowestTermsOf (converted (λ rate. rate) amount rates).0 (converted (λ rate. rate) amount rates).1 x.0 x.1
    → IsLowestTermsOf (converted (λ rate. rate) amount others).0 (converted (λ rate. rate) amount others).1 y.0 y.1
    → x ≡ y

-- y is at least 1, below 2, and x doubled or halved some times: x·2^k for a whole k
-- Example: 3/1: 3/2
pub record IsInOctave (x y : ℤ × ℤ) : Type 0 where
  pub doublings : ℕ
  pub halvings : ℕ
  pub same : SameValue (x.0 *ℤ pos (2 ^ doublings)) (x.1 *ℤ pos (2 ^ halvings)) y.0 y.1
  pub at_least_one : y.1 ≤ℤ y.0
  pub below_two : y.0 <ℤ (pos 2 *ℤ y.1)

-- x doubled some times is still below 1, and doubled once more it does not fit in 64 bits
pub record DoublingFails (x : ℤ × ℤ) : Type 0 where
  pub doublings : ℕ
  pub below_one : (x.0 *ℤ pos (2 ^ doublings)) <ℤ x.1
  pub out : ¬ (Fits64 (x.0 *ℤ pos (2 ^ (doublings + 1)), x.1))

-- the result is the interval in the octave from 1 to 2, and `None` only if it is not above 0 or a doubling fails (`DoublingFails`)
-- Example: 3/1: `Some(3/2)`
abbrev pub ChecksOctave : {T : _} {i : _} {o : _} {e : _} {p : _} {h : _} → ℤ × ℤ → Option (Reduced T i o e p h) → Type 0
ChecksOctave x None = (x.0 ≤ℤ pos 0) ⊎ DoublingFails x
ChecksOctave x (Some r) = IsInOctave x (lowest_numbers r)

-- Inner: y is x doubled some times
pub record IsDoubled (x y : ℤ × ℤ) : Type 0 where
  pub doublings : ℕ
  pub value : IsLowestTermsOf (x.0 *ℤ pos (2 ^ doublings)) x.1 y.0 y.1

-- Inner: the result is x doubled some times, and at least 1. It is `None` only if a doubling fails
abbrev pub ChecksDoubled : {T : _} {i : _} {o : _} {e : _} {p : _} {h : _} → ℤ × ℤ → Option (Reduced T i o e p h) → Type 0
ChecksDoubled x None = DoublingFails x
ChecksDoubled x (Some r) = IsDoubled x (lowest_numbers r) × ((lowest_numbers r).1 ≤ℤ (lowest_numbers r).0)

-- Inner: y is x halved some times, and at least 1
pub record IsHalved (x y : ℤ × ℤ) : Type 0 where
  pub halvings : ℕ
  pub value : IsLowestTermsOf x.0 (x.1 *ℤ pos (2 ^ halvings)) y.0 y.1
  pub at_least_one : y.1 ≤ℤ y.0
