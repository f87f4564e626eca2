-- Products and quotients of many fractions. `view` gives an item as a numerator and a denominator.
use Rattle.std.specs.Prelude.{ℤ, List, Option, None, Some, ⊤}
use Rattle.ratio_integer.specs.Arithmetic.{quotient_of}
use Rattle.ratio_core.specs.ManyProducts.{product_by}
use Rattle.num_rational.specs.declared.ratio.Ratio.{Ratio}
use Rattle.num_rational.specs.Ratio.{IsLowestOf}

-- the product of the numerators of a list
-- Example: 2/3, 5/7: 10
abbrev pub numerator_product : {A : Type 0} → (A → ℤ × ℤ) → List A → ℤ
numerator_product view xs = product_by (λ x. (view x).0) xs

-- the product of the denominators of a list
-- Example: 2/3, 5/7: 21
abbrev pub denominator_product : {A : Type 0} → (A → ℤ × ℤ) → List A → ℤ
denominator_product view xs = product_by (λ x. (view x).1) xs

-- the product of the items of a list, not reduced: its numerator and its denominator
-- Example: 2/3, 3/7: 6/21
abbrev pub product_of_items : {A : Type 0} → (A → ℤ × ℤ) → List A → ℤ × ℤ
product_of_items view xs = (numerator_product view xs, denominator_product view xs)

-- the product of the items xs divided by each of the items ys, not reduced
-- Example: 2/3, 3/7 and 5/2: 12/105
abbrev pub quotient_of_items : {A B : Type 0} → (A → ℤ × ℤ) → List A → (B → ℤ × ℤ) → List B → ℤ × ℤ
quotient_of_items view xs shows ys = quotient_of (numerator_product view xs) (denominator_product view xs) (numerator_product shows ys) (denominator_product shows ys)

-- a result that is not `None` is the lowest terms of the pair x
-- Example: 6/21: `Some(2/7)` or `None`
abbrev pub GivesQuotientOf : {T : _} {i : _} {o : _} {e : _} {p : _} {h : _} → ℤ × ℤ → Option (Ratio T i o e p h) → Type 0
GivesQuotientOf x None = ⊤
GivesQuotientOf x (Some r) = IsLowestOf x r
