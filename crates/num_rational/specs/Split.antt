-- An amount split by shares: 100 by 1/3, 1/3 and 1/3 in the examples. `view` gives a share as two whole numbers, and `value` a part as one.
use Rattle.std.specs.Prelude.{◌≡◌, ◌≢◌, ◌+◌, ◌<◌, ◌≤ℤ◌, ◌<ℤ◌, ◌+ℤ◌, ◌-ℤ◌, ◌*ℤ◌, ℕ, ℤ, pos, All, List, None, Option, Some, codes, fold, length, slice_index_or, take}
use Rattle.ratio_integer.specs.{Arithmetic.sum_of, Fraction.Fits, Fraction.IsLowestTermsOf, Range.IsHeld}
use Rattle.ratio_core.specs.Rounding.{IsRounded}
use Rattle.num_rational.specs.declared.reduced.Reduced.{Reduced}
use Rattle.num_rational.specs.{Operators.numbers, Reduced.ratio_of}
use Rattle.num_rational.specs.declared.splitting.SplitRefusal.{SplitRefusal}
use Rattle.num_rational.specs.declared.splitting.SplitRefusal.TheVariants.{BelowZero, Length, NotHeld, NotOne}

-- the two numbers of a share
-- Example: 1/3: (1, 3)
abbrev pub share_numbers : {T : _} {i : _} {o : _} {e : _} {p : _} {h : _} → Reduced T i o e p h → ℤ × ℤ
share_numbers x = numbers (ratio_of x)

-- the sum of the shares, not reduced
-- Example: 27/27
abbrev pub total_of_shares : {A : Type 0} → (A → ℤ × ℤ) → List A → ℤ × ℤ
total_of_shares view shares = fold (λ total share. sum_of total.0 total.1 (view share).0 (view share).1) (pos 0, pos 1) shares

-- the denominator of each share is positive
-- Example: not 1/2, 1/-2
abbrev pub SharesOverPositive : {A : Type 0} → (A → ℤ × ℤ) → List A → Type 0
SharesOverPositive view shares = All (λ share. pos 0 <ℤ (view share).1) shares

-- no share is below 0
-- Example: not 4/3, -1/3
abbrev pub NoShareIsBelowZero : {A : Type 0} → (A → ℤ × ℤ) → List A → Type 0
NoShareIsBelowZero view shares = All (λ share. pos 0 ≤ℤ (view share).0) shares

-- the mark is the amount times a fraction, rounded to the nearest whole number, a half away from 0
-- Example: 100·2/3: 67
abbrev pub IsRoundedShare : ℤ → ℤ × ℤ → ℤ → Type 0
IsRoundedShare amount x mark = IsRounded (amount *ℤ x.0) x.1 mark

-- the fraction fits, and so does the amount times it, rounded. The product itself need not fit
-- Example: over `i8`, 2/3 and 67
pub record MarkFits (lo hi amount : ℤ) (x : ℤ × ℤ) : Type 0 where
  pub sum : Fits lo hi x.0 x.1
  pub mark : ℤ
  pub is : IsRoundedShare amount x mark
  pub held : IsHeld lo hi mark

-- the first share, the sum of the first two, and so on, fit, and so does the amount times each of these, rounded (`MarkFits`)
abbrev pub MarksFit : {A : Type 0} → (A → ℤ × ℤ) → ℤ → ℤ → ℤ → List A → Type 0
MarksFit view lo hi amount shares = (k : ℕ) → k < length shares → MarkFits lo hi amount (total_of_shares view (take (k + 1) shares))

-- the shares add up to 1
abbrev pub SharesMakeOne : {A : Type 0} → (A → ℤ × ℤ) → List A → Type 0
SharesMakeOne view shares = (total_of_shares view shares).0 ≡ (total_of_shares view shares).1

-- there are as many parts as shares, no share is below 0, all fits that must (`fit`), and the shares add up to 1
pub record AreSharesFor {A : Type 0} (view : A → ℤ × ℤ) (Fit : Type 0) (shares : List A) (parts : ℕ) : Type 0 where
  pub as_many : parts ≡ length shares
  pub none_below : NoShareIsBelowZero view shares
  pub fit : Fit
  pub one : SharesMakeOne view shares

-- the refusal names the first condition of `AreSharesFor` that does not hold: `Length`, `BelowZero`, `NotHeld` or `NotOne`
-- Example: 1/3 and 1/3: `NotOne`
abbrev pub RefusesShares : {A : Type 0} → (A → ℤ × ℤ) → Type 0 → List A → ℕ → SplitRefusal → Type 0
RefusesShares view Fit shares parts Length = parts ≢ length shares
RefusesShares view Fit shares parts BelowZero = (parts ≡ length shares) × ¬ (NoShareIsBelowZero view shares)
RefusesShares view Fit shares parts NotHeld = (parts ≡ length shares) × NoShareIsBelowZero view shares × ¬ Fit
RefusesShares view Fit shares parts NotOne = (parts ≡ length shares) × NoShareIsBelowZero view shares × Fit × ¬ (SharesMakeOne view shares)

-- the shares can split the amount into `parts` parts (`AreSharesFor`): what must fit is `MarksFit`
abbrev pub CanBeSplit : {A : Type 0} → (A → ℤ × ℤ) → ℤ → ℤ → ℤ → List A → ℕ → Type 0
CanBeSplit view lo hi amount shares parts = AreSharesFor view (MarksFit view lo hi amount shares) shares parts

-- the refusal names the first condition of `CanBeSplit` that does not hold (`RefusesShares`)
-- Example: over `i8`, 127 by 2/1 and 1/1: `NotHeld`
abbrev pub RefusesToSplit : {A : Type 0} → (A → ℤ × ℤ) → ℤ → ℤ → ℤ → List A → ℕ → SplitRefusal → Type 0
RefusesToSplit view lo hi amount shares parts why = RefusesShares view (MarksFit view lo hi amount shares) shares parts why

-- the text that a refusal prints
-- Example: `NotOne`: `the shares do not add up to 1`
abbrev pub split_refusal_text : SplitRefusal → List ℕ
split_refusal_text Length = codes "the number of parts is not the number of shares"
split_refusal_text BelowZero = codes "a share is below 0"
split_refusal_text NotHeld = codes "a sum of the first shares, or the amount times this sum, rounded, does not fit the type"
split_refusal_text NotOne = codes "the shares do not add up to 1"

-- the part is less than 1 away from the amount times the share
pub record IsNearItsShare (amount : ℤ) (share : ℤ × ℤ) (part : ℤ) : Type 0 where
  pub above : (amount *ℤ share.0 -ℤ share.1) <ℤ (part *ℤ share.1)
  pub below : (part *ℤ share.1) <ℤ (amount *ℤ share.0 +ℤ share.1)

-- the sum of whole numbers, such as parts
-- Example: 33, 34 and 33: 100
abbrev pub total_of : {P : Type 0} → (P → ℤ) → List P → ℤ
total_of value numbers = fold (λ sum number. sum +ℤ value number) (pos 0) numbers

-- the parts add up to the amount. The first k of them add up to the amount times the sum of their shares, rounded. Each is less than 1 away
-- from the amount times its share (`IsNearItsShare`)
-- Example: 100 by 1/3, 1/3 and 1/3: 33, 34, 33
pub record IsSplitBy {A P : Type 0} (view : A → ℤ × ℤ) (value : P → ℤ) (amount : ℤ) (shares : List A) (parts : List P) : Type 0 where
  pub total : total_of value parts ≡ amount
  pub rounded : (k : ℕ) → k < length shares → IsRoundedShare amount (total_of_shares view (take (k + 1) shares)) (total_of value (take (k + 1) parts))
  pub near : (k : ℕ) → k < length shares → (share : A) (part : P) → IsNearItsShare amount (view (slice_index_or shares k share)) (value (slice_index_or parts k part))

-- Inner: x is the sum of the shares so far and one more. It fits, and so does the mark: the amount times x, rounded
pub record IsNextMark (lo hi amount : ℤ) (x sum : ℤ × ℤ) (mark : ℤ) : Type 0 where
  pub value : IsLowestTermsOf x.0 x.1 sum.0 sum.1
  pub fits : Fits lo hi x.0 x.1
  pub held : IsHeld lo hi mark
  pub rounded : IsRoundedShare amount x mark

-- Inner: the result is the sum and the mark if both fit, else `None`
abbrev pub ChecksNextMark : {T : _} {i : _} {o : _} {e : _} {p : _} {h : _} → ℤ → ℤ × ℤ → Option (Reduced T i o e p h × T) → Type 0
ChecksNextMark {i = i} amount x None = ¬ (MarkFits i.lo i.hi amount x)
ChecksNextMark {i = i} amount x (Some r) = IsNextMark i.lo i.hi amount x (share_numbers r.0) (i.value r.1)

-- Inner: the sums are refused since what must fit does not, or since it does and the last sum is not 1
abbrev pub SumsRefuse : Type 0 → Type 0 → SplitRefusal → Type 0
SumsRefuse Fit One Length = ⊥
SumsRefuse Fit One BelowZero = ⊥
SumsRefuse Fit One NotHeld = ¬ Fit
SumsRefuse Fit One NotOne = Fit × ¬ One
