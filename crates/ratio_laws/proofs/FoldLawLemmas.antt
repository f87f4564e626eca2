-- The laws of sums and products of lists.
use Rattle.std.specs.Prelude.{◌≡◌, ℤ, pos, true, List, [], ◌∷◌, ◌++◌, None, Some}
use Rattle.std.specs.List.{FoldsTo}
use Rattle.std.proofs.Common.{sym, subst}
use Rattle.ratio_integer.proofs.Whole.{mul_nonzero}
use Rattle.ratio_core.specs.Laws.{IsProduct, IsSum}
use Rattle.num_rational.specs.declared.reduced.Reduced.{Reduced}
use Rattle.num_rational.specs.Folds.{AnswersFrom}
use Rattle.num_rational.specs.Operators.{CanAdd, CanMultiply, numbers}
use Rattle.num_rational.proofs.FoldLemmas.{beginning, one_product, one_sum, one_total}
use Rattle.num_rational.specs.Ratio.{denominator, numerator}
use Rattle.num_rational.proofs.TotalLemmas.{in_any_order, moved, one_of_list, products_are_commutative, sums_are_commutative}
use Rattle.num_rational.proofs.ValueLemmas.{plus_zero, times_one}
use Rattle.ratio_laws.specs.FoldLaws.{AddsInAnyOrder, AddsInParts, HasNoProductOfBoth, HasNoSumOfBoth, MultipliesInAnyOrder, MultipliesInParts, ProductsGoOn, SumsGoOn}
use Rattle.ratio_laws.proofs.NeutralLemmas.{one_nonzero}
use Rattle.ratio_laws.proofs.ReducedLemmas.{both_fields}
use Rattle.ratio_laws.proofs.ResultLemmas.{denominator_nonzero}

-- ---- one list after another, if a step gives at most one total

module _ {A : Type 0} (view : A → ℤ × ℤ) (Gives : ℤ × ℤ → ℤ × ℤ → ℤ × ℤ → Type 0) where
  total_joined : (xs ys : List A) (p q r : ℤ × ℤ) → FoldsTo (λ p x q. Gives p (view x) q) p xs q → FoldsTo (λ p x q. Gives p (view x) q) q ys r → FoldsTo (λ p x q. Gives p (view x) q) p (xs ++ ys) r
  total_joined [] ys p q r first second = subst (λ w. FoldsTo (λ p x q. Gives p (view x) q) w ys r) (sym first) second
  total_joined (x ∷ xs) ys p q r first second = (first.0, first.1, total_joined xs ys first.0 q r first.2 second)

  module _ (Can : ℤ × ℤ → ℤ × ℤ → Type 0) where
    -- if all steps over both lists meet their condition, so do those over the second list, from the total of the first on
    answered_rest : (xs ys : List A) (p q : ℤ × ℤ) → AnswersFrom view Can Gives p (xs ++ ys) → FoldsTo (λ p x q. Gives p (view x) q) p xs q → AnswersFrom view Can Gives q ys
    answered_rest [] ys p q answered total = subst (λ w. AnswersFrom view Can Gives w ys) total answered
    answered_rest (x ∷ xs) ys p q answered total = answered_rest xs ys total.0 q (answered.1 total.0 total.1) total.2

    -- and the other way round
    answered_joined : ((p x q r : ℤ × ℤ) → Gives p x q → Gives p x r → q ≡ r) → (xs ys : List A) (p q : ℤ × ℤ) → AnswersFrom view Can Gives p xs → FoldsTo (λ p x q. Gives p (view x) q) p xs q → AnswersFrom view Can Gives q ys → AnswersFrom view Can Gives p (xs ++ ys)
    answered_joined one [] ys p q first total second = subst (λ w. AnswersFrom view Can Gives w ys) (sym total) second
    answered_joined one (x ∷ xs) ys p q first total second = (
      first.0,
      λ next gives. answered_joined one xs ys next q (first.1 next gives)
          (subst (λ w. FoldsTo (λ p x q. Gives p (view x) q) w xs q) (one p (view x) total.0 next total.1 gives) total.2) second,
    )

-- ---- the laws of one list after another

pub sums_go_on : {T : _} {i : _} {o : _} {e : _} {p : _} {h : _} {A : Type 0} (view : A → ℤ × ℤ) (x : Reduced T i o e p h) (xs ys : List A) → SumsGoOn view x xs ys
sums_go_on view x xs ys None None first told both = tt
sums_go_on {i = i} view x xs ys (Some a) (Some b) first told both =
    both_fields (numbers a.ratio) (numbers b.ratio) (one_total view (CanAdd true i.lo i.hi) IsSum one_sum (xs ++ ys) (pos 0, pos 1) (numbers a.ratio) (numbers b.ratio)
    (total_joined view IsSum xs ys (pos 0, pos 1) (numbers x.ratio) (numbers a.ratio) first.1 told.1) both.1)
sums_go_on {i = i} view x xs ys None (Some b) first told both = told (answered_rest view IsSum (CanAdd true i.lo i.hi) xs ys (pos 0, pos 1) (numbers x.ratio) both.0.answered first.1)
sums_go_on {i = i} view x xs ys (Some a) None first told both =
    both (record { answered = answered_joined view IsSum (CanAdd true i.lo i.hi) one_sum xs ys (pos 0, pos 1) (numbers x.ratio) first.0.answered first.1 told.0 })

pub products_go_on : {T : _} {i : _} {o : _} {e : _} {p : _} {h : _} {A : Type 0} (view : A → ℤ × ℤ) (x : Reduced T i o e p h) (xs ys : List A) → ProductsGoOn view x xs ys
products_go_on view x xs ys None None first told both = tt
products_go_on {i = i} view x xs ys (Some a) (Some b) first told both =
    both_fields (numbers a.ratio) (numbers b.ratio) (one_total view (CanMultiply i.lo i.hi) IsProduct one_product (xs ++ ys) (pos 1, pos 1) (numbers a.ratio) (numbers b.ratio)
    (total_joined view IsProduct xs ys (pos 1, pos 1) (numbers x.ratio) (numbers a.ratio) first.1 told.1) both.1)
products_go_on {i = i} view x xs ys None (Some b) first told both = told (answered_rest view IsProduct (CanMultiply i.lo i.hi) xs ys (pos 1, pos 1) (numbers x.ratio) both.0.answered first.1)
products_go_on {i = i} view x xs ys (Some a) None first told both =
    both (record { answered = answered_joined view IsProduct (CanMultiply i.lo i.hi) one_product xs ys (pos 1, pos 1) (numbers x.ratio) first.0.answered first.1 told.0 })

pub has_no_sum_of_both : {A : Type 0} (lo hi : ℤ) (view : A → ℤ × ℤ) (xs ys : List A) → HasNoSumOfBoth lo hi view xs ys
has_no_sum_of_both lo hi view xs ys none both = none (record { answered = beginning view (CanAdd true lo hi) IsSum xs ys (pos 0, pos 1) both.answered })

pub has_no_product_of_both : {A : Type 0} (lo hi : ℤ) (view : A → ℤ × ℤ) (xs ys : List A) → HasNoProductOfBoth lo hi view xs ys
has_no_product_of_both lo hi view xs ys none both = none (record { answered = beginning view (CanMultiply lo hi) IsProduct xs ys (pos 1, pos 1) both.answered })

-- ---- the laws of parts, and of lists in another order

-- x + 0/1 is x, and x * 1/1 is x
plus_nothing : {T : _} {i : _} {o : _} {e : _} {p : _} {h : _} (x : Reduced T i o e p h) → IsSum (numbers x.ratio) (pos 0, pos 1) (numbers x.ratio)
plus_nothing x = record {
  fraction = mul_nonzero (denominator x.ratio) (pos 1) (denominator_nonzero x) one_nonzero;
  same = plus_zero (numerator x.ratio) (denominator x.ratio);
  lowest = x.lowest;
}

times_nothing : {T : _} {i : _} {o : _} {e : _} {p : _} {h : _} (x : Reduced T i o e p h) → IsProduct (numbers x.ratio) (pos 1, pos 1) (numbers x.ratio)
times_nothing x = record {
  fraction = mul_nonzero (denominator x.ratio) (pos 1) (denominator_nonzero x) one_nonzero;
  same = times_one (numerator x.ratio) (denominator x.ratio);
  lowest = x.lowest;
}

pub adds_in_parts : {T : _} {i : _} {o : _} {e : _} {p : _} {h : _} {A : Type 0} (view : A → ℤ × ℤ) (x : Reduced T i o e p h) (xs ys : List A) → AddsInParts view x xs ys
adds_in_parts view x xs ys y both sum first second whole told =
    let rest = moved view IsSum sums_are_commutative (numbers x.ratio) (pos 0, pos 1) (numbers x.ratio) (numbers y.ratio) (numbers sum.ratio) ys (plus_nothing x) second.1 told.terms in
    both_fields (numbers both.ratio) (numbers sum.ratio) (one_of_list view IsSum sums_are_commutative (xs ++ ys) (pos 0, pos 1) (numbers both.ratio) (numbers sum.ratio) whole.1
    (total_joined view IsSum xs ys (pos 0, pos 1) (numbers x.ratio) (numbers sum.ratio) first.1 rest))

pub multiplies_in_parts : {T : _} {i : _} {o : _} {e : _} {p : _} {h : _} {A : Type 0} (view : A → ℤ × ℤ) (x : Reduced T i o e p h) (xs ys : List A) → MultipliesInParts view x xs ys
multiplies_in_parts view x xs ys y both product first second whole told =
    let rest = moved view IsProduct products_are_commutative (numbers x.ratio) (pos 1, pos 1) (numbers x.ratio) (numbers y.ratio) (numbers product.ratio) ys (times_nothing x) second.1 told.terms in
    both_fields (numbers both.ratio) (numbers product.ratio) (one_of_list view IsProduct products_are_commutative (xs ++ ys) (pos 1, pos 1) (numbers both.ratio) (numbers product.ratio) whole.1
    (total_joined view IsProduct xs ys (pos 1, pos 1) (numbers x.ratio) (numbers product.ratio) first.1 rest))

pub adds_in_any_order : {T : _} {i : _} {o : _} {e : _} {p : _} {h : _} {A : Type 0} (view : A → ℤ × ℤ) (x : Reduced T i o e p h) (xs ys : List A) → AddsInAnyOrder view x xs ys
adds_in_any_order view x xs ys y order first second =
    both_fields (numbers x.ratio) (numbers y.ratio) (one_of_list view IsSum sums_are_commutative ys (pos 0, pos 1) (numbers x.ratio) (numbers y.ratio)
    (in_any_order view IsSum sums_are_commutative (pos 0, pos 1) (numbers x.ratio) xs ys order first.1) second.1)

pub multiplies_in_any_order : {T : _} {i : _} {o : _} {e : _} {p : _} {h : _} {A : Type 0} (view : A → ℤ × ℤ) (x : Reduced T i o e p h) (xs ys : List A) → MultipliesInAnyOrder view x xs ys
multiplies_in_any_order view x xs ys y order first second =
    both_fields (numbers x.ratio) (numbers y.ratio) (one_of_list view IsProduct products_are_commutative ys (pos 1, pos 1) (numbers x.ratio) (numbers y.ratio)
    (in_any_order view IsProduct products_are_commutative (pos 1, pos 1) (numbers x.ratio) xs ys order first.1) second.1)
