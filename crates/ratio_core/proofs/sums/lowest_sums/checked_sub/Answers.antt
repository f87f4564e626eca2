use Rattle.std.specs.Prelude.{◌≡◌, ◌-ℤ◌, ◌*ℤ◌, ℤ}
use Rattle.std.proofs.Common.{sym, ap, ◌∙◌}
use Rattle.ratio_integer.proofs.Whole.{sub-mul}
use Rattle.ratio_core.proofs.JoinedLemmas.{denom_multiple, least_common_difference, one_apart}
use Rattle.ratio_core.proofs.PartsSumLemmas.{gcd_positive}
use Rattle.ratio_core.proofs.SignedNumbers.{lowest_out}
use Rattle.ratio_core.proofs.SumLemmas.{formed_of_equals}
use Rattle.ratio_core.proofs.sums.lowest_sums.checked_sub.Goals as goal

pub returns : goal.returns
returns g c =
    let equal = (g.met.T.Integer.eq_law c.args.b c.args.d).0 (sym c.if-eq.ensures) in
    formed_of_equals (λ x y. x -ℤ y) sub-mul _ _ _ _ _ _ c.requires.left.positive c.requires.right.positive equal _ _ _ c.in-Some.ensures.1 c.lowest_terms.ensures

pub returns-in_err-try_times : goal.returns-in_err-try_times
returns-in_err-try_times g c =
    let v = g.T.Integer.value in
    let terms = one_apart (v c.args.a) (v c.args.b) (v c.args.c) (v c.args.d) (v c.in-Some-one_apart.numer) c.requires.left c.requires.right c.in-Some-one_apart.ensures.difference c.in-Some-one_apart.ensures.one in
    rw c.from_residual.ensures (lowest_out {R = g.row.T.Denot × g.row.T.Denot} (λ r. v r.0) (λ r. v r.1) _ _ _ _ _ _ terms (λ held. c.in_err-try_times.ensures held.1))

pub returns-in-Some-one_apart : goal.returns-in-Some-one_apart
returns-in-Some-one_apart g c =
    let v = g.T.Integer.value in
    let terms = one_apart (v c.args.a) (v c.args.b) (v c.args.c) (v c.args.d) (v c.in-Some-one_apart.numer) c.requires.left c.requires.right c.in-Some-one_apart.ensures.difference c.in-Some-one_apart.ensures.one in
    rw c.in_ok-try_times.ensures.1 (record { terms = terms; numer_held = c.in-Some-one_apart.ensures.held; denom_held = c.in_ok-try_times.ensures.0 })

pub divided-for_right-requires-clause-positive : goal.divided-for_right-requires-clause-positive
divided-for_right-requires-clause-positive g c = gcd_positive _ _ _ c.requires.right.positive c.gcd_with-g.ensures

pub divided-for_left-requires-clause-positive : goal.divided-for_left-requires-clause-positive
divided-for_left-requires-clause-positive g c = gcd_positive _ _ _ c.requires.right.positive c.gcd_with-g.ensures

pub divided_by-requires-clause-positive : goal.divided_by-requires-clause-positive
divided_by-requires-clause-positive g c = gcd_positive _ _ _ c.requires.right.positive c.gcd_with-g.ensures

pub divided_by-requires-clause-multiple : goal.divided_by-requires-clause-multiple
divided_by-requires-clause-multiple g c = let v = g.T.Integer.value in denom_multiple (v c.args.b) (v c.args.d) (v c.gcd_with-g.result) (v c.divided-for_left.result) _ c.gcd_with-g.ensures c.in-Some-try_times-3.ensures.1

pub returns-2 : goal.returns-2
returns-2 g c =
    let v = g.T.Integer.value in
    let x = v c.divided-for_right.result in
    let y = v c.divided-for_left.result in
    let numer : v c.in-Some-try_minus.difference ≡ v c.args.a *ℤ y -ℤ v c.args.c *ℤ x =
    c.in-Some-try_minus.ensures.1 ∙ ap (λ (z : ℤ). z -ℤ v c.in-Some-try_times-2.subtrahend) c.in-Some-try_times.ensures.1 ∙ ap (λ (z : ℤ). v c.args.a *ℤ y -ℤ z) c.in-Some-try_times-2.ensures.1 in
    least_common_difference _ _ (v c.args.a) (v c.args.b) (v c.args.c) (v c.args.d) (v c.gcd_with-g.result) x y (v c.in-Some-try_times-3.common) _ _
    c.requires.left c.requires.right c.gcd_with-g.ensures c.divided-for_right.ensures c.divided-for_left.ensures c.in-Some-try_times-3.ensures.1 _ numer c.divided_by.ensures
