-- Sums and products of lists, as `Reduced` returns them. A premise only says what a call returned. `view` gives an item's two numbers.
use Rattle.std.specs.Prelude.{ℤ, true, List, ◌++◌, Option, None, Some, IsPermutation}
use Rattle.std.specs.List.{FoldsTo}
use Rattle.ratio_core.specs.Laws.{IsProduct, IsSum}
use Rattle.num_rational.specs.declared.reduced.Reduced.{Reduced}
use Rattle.num_rational.specs.Comparison.{HaveSameFields}
use Rattle.num_rational.specs.Folds.{AnswersFrom, CanProduct, CanSum, ChecksExactSumOf, ChecksProductOf}
use Rattle.num_rational.specs.Operators.{CanAdd, CanMultiply, numbers}
use Rattle.num_rational.specs.Reduced.{ratio_in, ratio_of}
use Rattle.ratio_laws.specs.ReducedLaws.{AnswersProduct, AnswersSum, AreOneAnswer}

-- the sum of the items (`checked_sum`) returns r
-- Example: 1/2, 1/3: `Some(5/6)`
abbrev pub AnswersSumOf : {T : _} {i : _} {o : _} {e : _} {p : _} {h : _} {A : Type 0} → (A → ℤ × ℤ) → List A → Option (Reduced T i o e p h) → Type 0
AnswersSumOf view xs r = ChecksExactSumOf view xs (ratio_in r)

-- the product of the items (`checked_product`) returns r
-- Example: 1/2, 1/3: `Some(1/6)`
abbrev pub AnswersProductOf : {T : _} {i : _} {o : _} {e : _} {p : _} {h : _} {A : Type 0} → (A → ℤ × ℤ) → List A → Option (Reduced T i o e p h) → Type 0
AnswersProductOf view xs r = ChecksProductOf view xs (ratio_in r)

-- adding the items to `start`, one after another, returns r: `None` exactly where one of these sums is `None`
-- Example: 1/6, -2/1 from 5/6: `Some(-1/1)`
abbrev pub AnswersSumFrom : {T : _} {i : _} {o : _} {e : _} {p : _} {h : _} {A : Type 0} → (A → ℤ × ℤ) → Reduced T i o e p h → List A → Option (Reduced T i o e p h) → Type 0
AnswersSumFrom {i = i} view start xs None = ¬ (AnswersFrom view (CanAdd true i.lo i.hi) IsSum (numbers (ratio_of start)) xs)
AnswersSumFrom {i = i} view start xs (Some total) =
    AnswersFrom view (CanAdd true i.lo i.hi) IsSum (numbers (ratio_of start)) xs
    × FoldsTo (λ p x q. IsSum p (view x) q) (numbers (ratio_of start)) xs (numbers (ratio_of total))

-- multiplying `start` by the items, one after another, returns r: `None` exactly where one of these products is `None`
abbrev pub AnswersProductFrom : {T : _} {i : _} {o : _} {e : _} {p : _} {h : _} {A : Type 0} → (A → ℤ × ℤ) → Reduced T i o e p h → List A → Option (Reduced T i o e p h) → Type 0
AnswersProductFrom {i = i} view start xs None = ¬ (AnswersFrom view (CanMultiply i.lo i.hi) IsProduct (numbers (ratio_of start)) xs)
AnswersProductFrom {i = i} view start xs (Some total) =
    AnswersFrom view (CanMultiply i.lo i.hi) IsProduct (numbers (ratio_of start)) xs
    × FoldsTo (λ p x q. IsProduct p (view x) q) (numbers (ratio_of start)) xs (numbers (ratio_of total))

-- if the sum of xs is `Some` of x, adding ys to x and the sum of both lists are one result, `None` included
-- Example: 127, 1 and then -1
abbrev pub SumsGoOn : {T : _} {i : _} {o : _} {e : _} {p : _} {h : _} {A : Type 0} → (A → ℤ × ℤ) → Reduced T i o e p h → List A → List A → Type 0
SumsGoOn {T} {i} {o} {e} {p} {h} view x xs ys =
    (on both : Option (Reduced T i o e p h)) → AnswersSumOf view xs (Some x) → AnswersSumFrom view x ys on → AnswersSumOf view (xs ++ ys) both → AreOneAnswer on both

-- if the product of xs is `Some` of x, multiplying x by ys and the product of both lists are one result, `None` included
abbrev pub ProductsGoOn : {T : _} {i : _} {o : _} {e : _} {p : _} {h : _} {A : Type 0} → (A → ℤ × ℤ) → Reduced T i o e p h → List A → List A → Type 0
ProductsGoOn {T} {i} {o} {e} {p} {h} view x xs ys =
    (on both : Option (Reduced T i o e p h)) → AnswersProductOf view xs (Some x) → AnswersProductFrom view x ys on → AnswersProductOf view (xs ++ ys) both → AreOneAnswer on both

-- if the sum of xs is `None`, over a type with the numbers from lo to hi, so is the sum of both lists
abbrev pub HasNoSumOfBoth : {A : Type 0} → (lo hi : ℤ) → (A → ℤ × ℤ) → List A → List A → Type 0
HasNoSumOfBoth lo hi view xs ys = ¬ (CanSum true lo hi view xs) → ¬ (CanSum true lo hi view (xs ++ ys))

-- if the product of xs is `None`, so is the product of both lists
abbrev pub HasNoProductOfBoth : {A : Type 0} → (lo hi : ℤ) → (A → ℤ × ℤ) → List A → List A → Type 0
HasNoProductOfBoth lo hi view xs ys = ¬ (CanProduct lo hi view xs) → ¬ (CanProduct lo hi view (xs ++ ys))

-- the sum of both lists is the sum x + y of their two sums, if all these are `Some`
abbrev pub AddsInParts : {T : _} {i : _} {o : _} {e : _} {p : _} {h : _} {A : Type 0} → (A → ℤ × ℤ) → Reduced T i o e p h → List A → List A → Type 0
AddsInParts {T} {i} {o} {e} {p} {h} view x xs ys =
    (y both sum : Reduced T i o e p h)
    → AnswersSumOf view xs (Some x)
    → AnswersSumOf view ys (Some y)
    → AnswersSumOf view (xs ++ ys) (Some both)
    → AnswersSum x y (Some sum)
    → HaveSameFields (ratio_of both) (ratio_of sum)

-- the product of both lists is the product x * y of their two products, if all these are `Some`
abbrev pub MultipliesInParts : {T : _} {i : _} {o : _} {e : _} {p : _} {h : _} {A : Type 0} → (A → ℤ × ℤ) → Reduced T i o e p h → List A → List A → Type 0
MultipliesInParts {T} {i} {o} {e} {p} {h} view x xs ys =
    (y both product : Reduced T i o e p h)
    → AnswersProductOf view xs (Some x)
    → AnswersProductOf view ys (Some y)
    → AnswersProductOf view (xs ++ ys) (Some both)
    → AnswersProduct x y (Some product)
    → HaveSameFields (ratio_of both) (ratio_of product)

-- if ys has the items of xs in another order (`IsPermutation`), both have one sum, if both sums are `Some`
-- Example: not 127, 1, -1: `None`
abbrev pub AddsInAnyOrder : {T : _} {i : _} {o : _} {e : _} {p : _} {h : _} {A : Type 0} → (A → ℤ × ℤ) → Reduced T i o e p h → List A → List A → Type 0
AddsInAnyOrder {T} {i} {o} {e} {p} {h} view x xs ys =
    (y : Reduced T i o e p h) → IsPermutation xs ys → AnswersSumOf view xs (Some x) → AnswersSumOf view ys (Some y) → HaveSameFields (ratio_of x) (ratio_of y)

-- if ys has the items of xs in another order (`IsPermutation`), both have one product, if both products are `Some`
abbrev pub MultipliesInAnyOrder : {T : _} {i : _} {o : _} {e : _} {p : _} {h : _} {A : Type 0} → (A → ℤ × ℤ) → Reduced T i o e p h → List A → List A → Type 0
MultipliesInAnyOrder {T} {i} {o} {e} {p} {h} view x xs ys =
    (y : Reduced T i o e p h) → IsPermutation xs ys → AnswersProductOf view xs (Some x) → AnswersProductOf view ys (Some y) → HaveSameFields (ratio_of x) (ratio_of y)
