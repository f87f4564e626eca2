-- Sums and products of lists. Each item is seen as two whole numbers, and so is the total so far.
use Rattle.std.specs.Prelude.{◌<ℤ◌, ℤ, pos, All, Bool, true, List, [], ◌∷◌, Option, None, Some, ⊤}
use Rattle.std.specs.List.{FoldsTo}
use Rattle.ratio_core.specs.Laws.{IsProduct, IsSum}
use Rattle.num_rational.specs.declared.ratio.Ratio.{Ratio}
use Rattle.num_rational.specs.Operators.{CanAdd, CanMultiply, numbers}

-- the denominator of each item is positive
-- Example: not 1/-2
abbrev pub ArePositive : {A : Type 0} → (A → ℤ × ℤ) → List A → Type 0
ArePositive view xs = All (λ x. pos 0 <ℤ (view x).1) xs

-- each step over the items meets its condition. The first step starts from this total, and each later one from what the step before it
-- gives. `Can` is the condition of a total and an item, and `Gives` says which total their step gives
-- Example: not 100, 100, -100
abbrev pub AnswersFrom : {A : Type 0} → (A → ℤ × ℤ) → (ℤ × ℤ → ℤ × ℤ → Type 0) → (ℤ × ℤ → ℤ × ℤ → ℤ × ℤ → Type 0) → ℤ × ℤ → List A → Type 0
AnswersFrom view Can Gives total [] = ⊤
AnswersFrom view Can Gives total (x ∷ xs) = Can total (view x) × ((next : ℤ × ℤ) → Gives total (view x) next → AnswersFrom view Can Gives next xs)

-- each step that adds an item, from 0/1 on, meets its condition (`CanAdd`), over a type from lo to hi, whose sums are exact or not
-- Example: not 100, 100, -100
pub record CanSum {A : Type 0} (exact : Bool) (lo hi : ℤ) (view : A → ℤ × ℤ) (xs : List A) : Type 0 where
  pub answered : AnswersFrom view (CanAdd exact lo hi) IsSum (pos 0, pos 1) xs

-- adding the items to 0/1, in order, gives this total
abbrev pub IsSumOf : {A : Type 0} → (A → ℤ × ℤ) → List A → ℤ × ℤ → Type 0
IsSumOf view xs total = FoldsTo (λ p x q. IsSum p (view x) q) (pos 0, pos 1) xs total

-- the result is the sum of the items if each step meets its condition (`CanSum`), and else `None`
-- Example: 100, 100, -100: `None`
abbrev pub ChecksSumOf : {T : _} {i : _} {o : _} {e : _} {p : _} {h : _} {A : Type 0} → (A → ℤ × ℤ) → List A → Option (Ratio T i o e p h) → Type 0
ChecksSumOf {i = i} view xs None = ¬ (CanSum i.EXACT_SUMS i.lo i.hi view xs)
ChecksSumOf {i = i} view xs (Some total) = CanSum i.EXACT_SUMS i.lo i.hi view xs × IsSumOf view xs (numbers total)

-- the result is the sum of the items if the lowest terms of each sum on the way are in range, and else `None`, over every type
-- Example: 1/36, 1/28: `Some(4/63)`
abbrev pub ChecksExactSumOf : {T : _} {i : _} {o : _} {e : _} {p : _} {h : _} {A : Type 0} → (A → ℤ × ℤ) → List A → Option (Ratio T i o e p h) → Type 0
ChecksExactSumOf {i = i} view xs None = ¬ (CanSum true i.lo i.hi view xs)
ChecksExactSumOf {i = i} view xs (Some total) = CanSum true i.lo i.hi view xs × IsSumOf view xs (numbers total)

-- each step that multiplies by an item, from 1/1 on, meets its condition (`CanMultiply`), over a type with the numbers from lo to hi
pub record CanProduct {A : Type 0} (lo hi : ℤ) (view : A → ℤ × ℤ) (xs : List A) : Type 0 where
  pub answered : AnswersFrom view (CanMultiply lo hi) IsProduct (pos 1, pos 1) xs

-- multiplying 1/1 by the items, in order, gives this total
abbrev pub IsProductOf : {A : Type 0} → (A → ℤ × ℤ) → List A → ℤ × ℤ → Type 0
IsProductOf view xs total = FoldsTo (λ p x q. IsProduct p (view x) q) (pos 1, pos 1) xs total

-- the result is the product of the items if each step meets its condition (`CanProduct`), and else `None`
abbrev pub ChecksProductOf : {T : _} {i : _} {o : _} {e : _} {p : _} {h : _} {A : Type 0} → (A → ℤ × ℤ) → List A → Option (Ratio T i o e p h) → Type 0
ChecksProductOf {i = i} view xs None = ¬ (CanProduct i.lo i.hi view xs)
ChecksProductOf {i = i} view xs (Some total) = CanProduct i.lo i.hi view xs × IsProductOf view xs (numbers total)
