use Rattle.std.specs.Prelude.{◌≡◌, ◌+ℤ◌, ◌*ℤ◌, ℤ}
use Rattle.std.proofs.Common.{sym, ap, ◌∙◌}
use Rattle.ratio_integer.proofs.Whole.{add-mul}
use Rattle.ratio_core.proofs.JoinedLemmas.{denom_multiple, least_common_sum}
use Rattle.ratio_core.proofs.PartsSumLemmas.{gcd_positive}
use Rattle.ratio_core.proofs.SumLemmas.{formed_of_equals}
use Rattle.ratio_core.proofs.sums.lowest_sums.checked_add.Goals as goal

pub returns : goal.returns
returns g c =
    let equal = (g.met.T.Integer.eq_law c.args.b c.args.d).0 (sym c.if-eq.ensures) in
    formed_of_equals (λ x y. x +ℤ y) add-mul _ _ _ _ _ _ c.requires.left.positive c.requires.right.positive equal _ _ _ c.in-Some.ensures.1 c.lowest_terms.ensures

pub divided-for_right-requires-clause-positive : goal.divided-for_right-requires-clause-positive
divided-for_right-requires-clause-positive g c = gcd_positive _ _ _ c.requires.right.positive c.gcd_with-g.ensures

pub divided-for_left-requires-clause-positive : goal.divided-for_left-requires-clause-positive
divided-for_left-requires-clause-positive g c = gcd_positive _ _ _ c.requires.right.positive c.gcd_with-g.ensures

pub divided_by-requires-clause-positive : goal.divided_by-requires-clause-positive
divided_by-requires-clause-positive g c = gcd_positive _ _ _ c.requires.right.positive c.gcd_with-g.ensures

pub divided_by-requires-clause-multiple : goal.divided_by-requires-clause-multiple
divided_by-requires-clause-multiple g c = let v = g.T.Integer.value in denom_multiple (v c.args.b) (v c.args.d) (v c.gcd_with-g.result) (v c.divided-for_left.result) _ c.gcd_with-g.ensures c.in-Some-try_times-3.ensures.1

pub returns-2 : goal.returns-2
returns-2 g c =
    let v = g.T.Integer.value in
    let x = v c.divided-for_right.result in
    let y = v c.divided-for_left.result in
    let numer : v c.in-Some-try_plus.sum ≡ v c.args.a *ℤ y +ℤ v c.args.c *ℤ x =
    c.in-Some-try_plus.ensures.1 ∙ ap (λ (z : ℤ). z +ℤ v c.in-Some-try_times-2.right) c.in-Some-try_times.ensures.1 ∙ ap (λ (z : ℤ). v c.args.a *ℤ y +ℤ z) c.in-Some-try_times-2.ensures.1 in
    least_common_sum _ _ (v c.args.a) (v c.args.b) (v c.args.c) (v c.args.d) (v c.gcd_with-g.result) x y (v c.in-Some-try_times-3.common) _ _
    c.requires.left c.requires.right c.gcd_with-g.ensures c.divided-for_right.ensures c.divided-for_left.ensures c.in-Some-try_times-3.ensures.1 _ numer c.divided_by.ensures
