-- The total of the products of two lists. `view` gives an item as a numerator and a denominator.
use Rattle.std.specs.Prelude.{◌≢◌, ◌<◌, ◌≤◌, ℕ, ℤ, pos, List, length}
use Rattle.std.specs.List.{All, AllZip, Any, zip}
use Rattle.ratio_integer.specs.Fraction.{IsLowestTermsOf}
use Rattle.ratio_slots.specs.{LowestSum.HasLongPair, LowestSum.IsShortPair, Totals.most_weight}
use Rattle.ratio_totals.specs.{Items.denominators_of, Products.product_of_pairs, Values.sum_of_items}
use Rattle.ratio_totals.specs.declared.total_changes.DotRefusal.{DotRefusal}
use Rattle.ratio_totals.specs.declared.total_changes.DotRefusal.TheVariants.{MoreRoom, TooGreat, TooMany, UnlikeLengths}

-- the product of two items, not reduced
-- Example: 2/3 and 3/4: 6/12
abbrev pub product_of_both : {A : Type 0} → (A → ℤ × ℕ) → A × A → ℤ × ℕ
product_of_both view p = product_of_pairs (view p.0) (view p.1)

-- the sum of the products of two lists, item by item, not reduced
-- Example: 1/2, 1/3 and 2/1, 3/1: 12/6
abbrev pub sum_of_products : {A : Type 0} → (A → ℤ × ℕ) → List A → List A → ℤ × ℕ
sum_of_products view xs ys = sum_of_items (product_of_both view) (zip xs ys)

-- the lowest terms of the products of two lists, item by item
-- Example: 2/3, 1/2 and 3/4, 1/3: 1/2, 1/6
abbrev pub AreLowestProducts : {A : Type 0} → (A → ℤ × ℕ) → List A → List A → List (ℤ × ℕ) → Type 0
AreLowestProducts view xs ys terms = AllZip (λ p t. IsLowestTermsOf (product_of_both view p).0 (pos (product_of_both view p).1) t.0 (pos t.1)) (zip xs ys) terms

-- there are so many slots as the products of two lists have denominators in lowest terms, or more
-- Example: 2/3, 1/2 and 3/4, 1/3 in two slots
pub record HasProductSlots {A : Type 0} (view : A → ℤ × ℕ) (xs ys : List A) (slots : ℕ) : Type 0 where
  pub terms : List (ℤ × ℕ)
  pub lowest : AreLowestProducts view xs ys terms
  pub enough : denominators_of (λ t. t) terms ≤ slots

-- the slots are fewer than the denominators of the products in lowest terms
-- Example: 2/3, 1/2 and 3/4, 1/3 in one slot
pub record LacksProductSlots {A : Type 0} (view : A → ℤ × ℕ) (xs ys : List A) (slots : ℕ) : Type 0 where
  pub terms : List (ℤ × ℕ)
  pub lowest : AreLowestProducts view xs ys terms
  pub fewer : slots < denominators_of (λ t. t) terms

-- the lowest terms of a fraction are below 2^64, the numerator without its sign
-- Example: 2/2^64; not 1/2^64
pub record HasShortPair (x : ℤ × ℕ) : Type 0 where
  pub numer : ℤ
  pub denom : ℕ
  pub terms : IsShortPair x numer denom

-- each product of two lists has lowest terms below 2^64
abbrev pub AreShortProducts : {A : Type 0} → (A → ℤ × ℕ) → List A → List A → Type 0
AreShortProducts view xs ys = All (λ p. HasShortPair (product_of_both view p)) (zip xs ys)

-- why the products of two lists did not go into so many empty slots: the lists have different lengths, their products have more denominators
-- than that, they are more than 2^63 - 1, or in lowest terms a number of one product is 2^64 or more
-- Example: 1/2 and an empty list: `UnlikeLengths`
abbrev pub IsDotRefusedFor : {A : Type 0} → (A → ℤ × ℕ) → List A → List A → ℕ → DotRefusal → Type 0
IsDotRefusedFor view xs ys slots UnlikeLengths = length xs ≢ length ys
IsDotRefusedFor view xs ys slots MoreRoom = LacksProductSlots view xs ys slots
IsDotRefusedFor view xs ys slots TooMany = most_weight < length xs
IsDotRefusedFor view xs ys slots TooGreat = Any (λ p. HasLongPair (product_of_both view p)) (zip xs ys)
