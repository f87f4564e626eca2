-- JSON lists of two values, and what reading them returns.
use Rattle.std.proofs.Common.{◌≡◌, sym, ◌∙◌, ap, arith, List, [], ◌∷◌, length, get_or, Some, None}
use Rattle.serde_json.specs.Data.{Data, array, boolean, item, Items, no_items, null, number, object, string}
use Rattle.serde_json.specs.Find.{as_array}
use Rattle.serde_json.specs.View.{items_view, view}
use Rattle.serde_json.specs.declared.value.Value.{Value}
use Rattle.num_rational.specs.Json.{list_of_two}

-- ---- lists of two

is_array : (v : Data) (its : Items) → Some its ≡ as_array v → v ≡ array its
is_array null its e = absurd (let h : Some its ≡ None = e in cc)
is_array (boolean b) its e = absurd (let h : Some its ≡ None = e in cc)
is_array (number n) its e = absurd (let h : Some its ≡ None = e in cc)
is_array (string s) its e = absurd (let h : Some its ≡ None = e in cc)
is_array (array ds) its e = let h : Some its ≡ Some ds = e in let same : its ≡ ds = cc in ap array (sym same)
is_array (object ms) its e = absurd (let h : Some its ≡ None = e in cc)

two_items : (vs : List Value) (x y : Value) → length vs ≡ 2 → x ≡ get_or vs 0 x → y ≡ get_or vs 1 y → items_view vs ≡ item (view x) (item (view y) no_items)
two_items [] x y two first second = absurd (omega (arith, two))
two_items (a ∷ []) x y two first second = absurd (omega (arith, two))
two_items (a ∷ b ∷ []) x y two first second = rw (first, second)
two_items (a ∷ b ∷ c ∷ vs) x y two first second = absurd (omega (arith, two))

are_two : (vs : List Value) (a b : Data) → items_view vs ≡ item a (item b no_items) → length vs ≡ 2
are_two [] a b e = absurd (let h : no_items ≡ item a (item b no_items) = e in cc)
are_two (x ∷ []) a b e = absurd (let h : item (view x) no_items ≡ item a (item b no_items) = e in cc)
are_two (x ∷ y ∷ []) a b e = omega arith
are_two (x ∷ y ∷ z ∷ vs) a b e = absurd (let h : item (view x) (item (view y) (item (view z) (items_view vs))) ≡ item a (item b no_items) = e in cc)

-- the list that a value with two items is
pub two_list : (v : Data) (vs : List Value) (x y : Value) → Some (items_view vs) ≡ as_array v → length vs ≡ 2 → x ≡ get_or vs 0 x → y ≡ get_or vs 1 y → v ≡ list_of_two (view x) (view y)
two_list v vs x y e two first second = is_array v (items_view vs) e ∙ ap array (two_items vs x y two first second)

pub has_two : (v a b : Data) (vs : List Value) → Some (items_view vs) ≡ as_array v → v ≡ list_of_two a b → length vs ≡ 2
has_two v a b vs e list =
    let h : Some (items_view vs) ≡ Some (item a (item b no_items)) = e ∙ ap as_array list in
    are_two vs a b (cc)
