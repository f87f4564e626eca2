-- Products and quotients of many fractions, as the calls return them with room for two numbers an item. A premise only says what a call returned. `view`
-- and `shows` give the two numbers of an item.
use Rattle.std.specs.Prelude.{ℤ, List, ◌++◌, Option, Some, IsPermutation}
use Rattle.num_rational.specs.declared.reduced.Reduced.{Reduced}
use Rattle.num_rational.specs.{ManyProducts.product_of_items, ManyProducts.quotient_of_items, Ratio.ChecksRatio, Reduced.ratio_in}
use Rattle.ratio_laws.specs.ReducedLaws.{AnswersProduct, AnswersQuotient, AreOneAnswer}

-- the product of the items (`checked_product_of`) returns r
-- Example: over `i8`, 127/2, 100/3, 2/127, 3/100: `Some(1/1)`
abbrev pub AnswersProductOfMany : {T : _} {i : _} {o : _} {e : _} {p : _} {h : _} {A : Type 0} → (A → ℤ × ℤ) → List A → Option (Reduced T i o e p h) → Type 0
AnswersProductOfMany view xs r = ChecksRatio (product_of_items view xs) (ratio_in r)

-- the product of the items xs divided by each of the items ys (`checked_quotient_of`) returns r
-- Example: 100/1, 36/1 and 60/1, 60/1: `Some(1/1)`
abbrev pub AnswersQuotientOfMany : {T : _} {i : _} {o : _} {e : _} {p : _} {h : _} {A B : Type 0} → (A → ℤ × ℤ) → List A → (B → ℤ × ℤ) → List B → Option (Reduced T i o e p h) → Type 0
AnswersQuotientOfMany view xs shows ys r = ChecksRatio (quotient_of_items view xs shows ys) (ratio_in r)

-- if the product of xs is `Some` of x, and ys has the items of xs in another order (`IsPermutation`), the product of ys is `Some` of x, too
-- Example: over `i8`, 127/2, 2/127, 100/3, 3/100 and 127/2, 100/3, 2/127, 3/100: `Some(1/1)`
abbrev pub HasOneProductOfMany : {T : _} {i : _} {o : _} {e : _} {p : _} {h : _} {A : Type 0} → (A → ℤ × ℤ) → Reduced T i o e p h → List A → List A → Type 0
HasOneProductOfMany {T} {i} {o} {e} {p} {h} view x xs ys =
    (r : Option (Reduced T i o e p h)) → IsPermutation xs ys → AnswersProductOfMany view xs (Some x) → AnswersProductOfMany view ys r → AreOneAnswer (Some x) r

-- the product of both lists and the product x * y of their two products are one result, `None` included, if these two are `Some`
-- Example: 2/3, 3/4 and 2/1, 5/1: 1/2 times 10/1 is 5/1
abbrev pub MultipliesManyInParts : {T : _} {i : _} {o : _} {e : _} {p : _} {h : _} {A : Type 0} → (A → ℤ × ℤ) → Reduced T i o e p h → List A → List A → Type 0
MultipliesManyInParts {T} {i} {o} {e} {p} {h} view x xs ys =
    (y : Reduced T i o e p h) (product both : Option (Reduced T i o e p h))
    → AnswersProductOfMany view xs (Some x)
    → AnswersProductOfMany view ys (Some y)
    → AnswersProduct x y product
    → AnswersProductOfMany view (xs ++ ys) both
    → AreOneAnswer product both

-- if the quotient of xs and ys is `Some` of x, so is the quotient of the same items in other orders
-- Example: over `i8`, 100/1, 36/1 and 60/1, 60/1: `Some(1/1)`, as 36/1, 100/1 and 60/1, 60/1
abbrev pub HasOneQuotientOfMany : {T : _} {i : _} {o : _} {e : _} {p : _} {h : _} {A B : Type 0} → (A → ℤ × ℤ) → (B → ℤ × ℤ) → Reduced T i o e p h → (xs others : List A) → (ys divisors : List B) → Type 0
HasOneQuotientOfMany {T} {i} {o} {e} {p} {h} view shows x xs others ys divisors =
    (r : Option (Reduced T i o e p h))
    → IsPermutation xs others
    → IsPermutation ys divisors
    → AnswersQuotientOfMany view xs shows ys (Some x)
    → AnswersQuotientOfMany view others shows divisors r
    → AreOneAnswer (Some x) r

-- the quotient of xs and ys and the quotient x / y of their two products are one result, `None` included, if these two are `Some`
-- Example: 2/3, 3/4 and 2/1, 5/1: 1/2 divided by 10/1 is 1/20
abbrev pub DividesManyInParts : {T : _} {i : _} {o : _} {e : _} {p : _} {h : _} {A B : Type 0} → (A → ℤ × ℤ) → (B → ℤ × ℤ) → Reduced T i o e p h → List A → List B → Type 0
DividesManyInParts {T} {i} {o} {e} {p} {h} view shows x xs ys =
    (y : Reduced T i o e p h) (quotient whole : Option (Reduced T i o e p h))
    → AnswersProductOfMany view xs (Some x)
    → AnswersProductOfMany shows ys (Some y)
    → AnswersQuotient x y quotient
    → AnswersQuotientOfMany view xs shows ys whole
    → AreOneAnswer quotient whole
