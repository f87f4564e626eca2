-- An amount split by shares into multiples of 1/units, such as cents for 100. An amount and a share are pairs of whole numbers here. In the
-- examples 10/1 is split by 1/3, 1/3 and 1/3 into cents: 1/units is 1/100.
use Rattle.std.specs.Prelude.{◌≡◌, ◌+◌, ◌<◌, ◌-ℤ◌, ℕ, ℤ, List, None, Option, Some, length, slice_index_or, take}
use Rattle.ratio_integer.specs.Fraction.{IsHeldLowest, IsLowestTermsOf, SameValue}
use Rattle.ratio_integer.specs.SignedBits.{Fits64, IsHeld128, greatest64, least64}
use Rattle.num_rational.specs.declared.reduced.Reduced.{Reduced}
use Rattle.num_rational.specs.Reduced.{lowest_numbers}
use Rattle.num_rational.specs.Split.{AreSharesFor, IsRoundedShare, IsSplitBy, RefusesShares, total_of_shares}
use Rattle.ratio_uses.specs.declared.ledger.cents.Refusal.{Refusal, TheVariants.NotMultiple, TheVariants.Shares}

-- x has the value of count/units
-- Example: 5/4 is 125 cents; 10/1: 1000
abbrev pub IsCount : ℤ → ℤ × ℤ → ℤ → Type 0
IsCount units x count = SameValue count units x.0 x.1

-- x is a sum of the first shares, and `last` the mark before: the count times the sum without the last of these, rounded. x fits in 64
-- bits, its mark in 128 bits, and in 64 bits the part, which is this mark less the last one, over the units
-- Example: 2/3 and 333: 667, and 334/100 is 167/50
pub record PartFits (units count last : ℤ) (x : ℤ × ℤ) : Type 0 where
  pub sum : Fits64 x
  pub mark : ℤ
  pub is : IsRoundedShare count x mark
  pub held : IsHeld128 mark
  pub part : Fits64 (mark -ℤ last, units)

-- all that `PartFits` says fits for each share
abbrev pub PartsFit : {A : Type 0} → (A → ℤ × ℤ) → ℤ → ℤ → List A → Type 0
PartsFit view units count shares =
    (k : ℕ) → k < length shares → (last : ℤ) → IsRoundedShare count (total_of_shares view (take k shares)) last → PartFits units count last (total_of_shares view (take (k + 1) shares))

-- the amount is a multiple of 1/units, and the shares can split it into `parts` of these (`AreSharesFor`): what must fit is `PartsFit`
-- Example: not 1/3 in cents
abbrev pub CanSplitTo : {A : Type 0} → (A → ℤ × ℤ) → ℤ → ℤ × ℤ → List A → ℕ → Type 0
CanSplitTo view units amount shares parts = (count : ℤ) × IsCount units amount count × AreSharesFor view (PartsFit view units count shares) shares parts

-- the amount is no multiple of 1/units, or it is one, and the refusal names the first condition of the shares that fails (`RefusesShares`)
-- Example: 1/3 in cents: `NotMultiple`
abbrev pub RefusesSplitTo : {A : Type 0} → (A → ℤ × ℤ) → ℤ → ℤ × ℤ → List A → ℕ → Refusal → Type 0
RefusesSplitTo view units amount shares parts NotMultiple = ¬ ((count : ℤ) × IsCount units amount count)
RefusesSplitTo view units amount shares parts (Shares why) = (count : ℤ) × IsCount units amount count × RefusesShares view (PartsFit view units count shares) shares parts why

-- the parts are `counts`/units in lowest terms, and `counts` is the count split by the shares (`IsSplitBy`)
-- Example: 1000 is split into 333, 334 and 333: 333/100, 167/50, 333/100
pub record IsCountSplit {A : Type 0} (view : A → ℤ × ℤ) (units count : ℤ) (shares parts : List A) : Type 0 where
  pub counts : List ℤ
  pub as_many : length counts ≡ length parts
  pub each : (k : ℕ) → k < length parts → (c : ℤ) (part : A) →
      IsLowestTermsOf (slice_index_or counts k c) units (view (slice_index_or parts k part)).0 (view (slice_index_or parts k part)).1
  pub split : IsSplitBy view (λ c. c) count shares counts

-- the amount is `count`/units, and the parts are this count split by the shares, over the units (`IsCountSplit`)
-- Example: 10 is 1000 cents: 333/100, 167/50, 333/100
abbrev pub IsSplitTo : {A : Type 0} → (A → ℤ × ℤ) → ℤ → ℤ × ℤ → List A → List A → Type 0
IsSplitTo view units amount shares parts = (count : ℤ) × IsCount units amount count × IsCountSplit view units count shares parts

-- Inner: the result is the count of the amount, and `None` if it is no multiple of 1/units
abbrev pub ChecksCount : ℤ → ℤ × ℤ → Option ℤ → Type 0
ChecksCount units amount None = ¬ ((count : ℤ) × IsCount units amount count)
ChecksCount units amount (Some count) = IsCount units amount count

-- Inner: the sum, the mark and the part are these, the sum and the part in lowest terms
pub record IsStep (units count last : ℤ) (x sum : ℤ × ℤ) (mark : ℤ) (part : ℤ × ℤ) : Type 0 where
  pub value : IsLowestTermsOf x.0 x.1 sum.0 sum.1
  pub fits : Fits64 x
  pub rounded : IsRoundedShare count x mark
  pub held : IsHeld128 mark
  pub terms : IsHeldLowest least64 greatest64 (mark -ℤ last) units part.0 part.1

-- Inner: the result is the sum, the mark and the part if all fit, else `None`
abbrev pub ChecksNextPart : {T : _} {i : _} {o : _} {e : _} {p : _} {h : _} → ℤ → ℤ → ℤ → ℤ × ℤ → Option (Reduced T i o e p h × ℤ × Reduced T i o e p h) → Type 0
ChecksNextPart units count last x None = ¬ (PartFits units count last x)
ChecksNextPart units count last x (Some r) = IsStep units count last x (lowest_numbers r.0) r.1 (lowest_numbers r.2)
