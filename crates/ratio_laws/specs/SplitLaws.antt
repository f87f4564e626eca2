-- Amounts split by shares or by weights.
use Rattle.std.specs.Prelude.{◌≡◌, ◌↔◌, ◌+◌, ◌<◌, ◌≤ℤ◌, ◌+ℤ◌, ℕ, ℤ, pos, List, length, slice_index_or, take}
use Rattle.ratio_integer.specs.Fraction.{Fits, SameValue}
use Rattle.num_rational.specs.Split.{IsSplitBy, MarksFit, NoShareIsBelowZero, SharesMakeOne, total_of_shares}

-- of two parts whose shares have the same value, none is above the other by more than 1
-- Example: 100 by 1/3, 1/3 and 1/3: 33, 34 and 33
abbrev pub EqualSharesAreNear : {A P : Type 0} → (A → ℤ × ℤ) → (P → ℤ) → List A → List P → Type 0
EqualSharesAreNear {A} {P} view value shares parts =
    (j k : ℕ) (share : A) (part : P)
    → j < length shares
    → k < length shares
    → SameValue (view (slice_index_or shares j share)).0 (view (slice_index_or shares j share)).1 (view (slice_index_or shares k share)).0 (view (slice_index_or shares k share)).1
    → value (slice_index_or parts j part) ≤ℤ (value (slice_index_or parts k part) +ℤ pos 1)

-- of two parts whose weights are equal, none is above the other by more than 1
-- Example: 100 by the weights 1, 1 and 1: 33, 34 and 33
abbrev pub EqualWeightsAreNear : {A P : Type 0} → (A → ℤ) → (P → ℤ) → List A → List P → Type 0
EqualWeightsAreNear {A} {P} weight value weights parts =
    (j k : ℕ) (other : A) (part : P)
    → j < length weights
    → k < length weights
    → weight (slice_index_or weights j other) ≡ weight (slice_index_or weights k other)
    → value (slice_index_or parts j part) ≤ℤ (value (slice_index_or parts k part) +ℤ pos 1)

-- the first share, the sum of the first two, and so on, fit
-- Example: over `i8`, not 1/127, 1/126, 15875/16002
abbrev pub FirstSumsFit : {A : Type 0} → (A → ℤ × ℤ) → ℤ → ℤ → List A → Type 0
FirstSumsFit view lo hi shares = (k : ℕ) → k < length shares → Fits lo hi (total_of_shares view (take (k + 1) shares)).0 (total_of_shares view (take (k + 1) shares)).1

-- of shares that are not below 0 and add up to 1, all fits that must fit for a split exactly if the sums of the first shares do: each mark fits
abbrev pub MarksOfOneFit : {A : Type 0} → (A → ℤ × ℤ) → ℤ → ℤ → ℤ → List A → Type 0
MarksOfOneFit view lo hi amount shares = NoShareIsBelowZero view shares → SharesMakeOne view shares → MarksFit view lo hi amount shares ↔ FirstSumsFit view lo hi shares

-- an amount has only one split by the same shares
-- Example: 100 by 1/3, 1/3 and 1/3: 33, 34 and 33
abbrev pub SplitsAgree : {A P : Type 0} → (A → ℤ × ℤ) → (P → ℤ) → ℤ → List A → List P → List P → Type 0
SplitsAgree {A} {P} view value amount shares parts others =
    length parts ≡ length shares
    → length others ≡ length shares
    → IsSplitBy view value amount shares parts
    → IsSplitBy view value amount shares others
    → (k : ℕ) (part : P)
    → k < length shares
    → value (slice_index_or parts k part) ≡ value (slice_index_or others k part)
