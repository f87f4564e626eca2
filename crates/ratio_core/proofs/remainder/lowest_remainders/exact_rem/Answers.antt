use Rattle.std.specs.Prelude.{◌*ℤ◌, ℤ}
use Rattle.std.proofs.Common.{ap, refl, sym}
use Rattle.ratio_integer.proofs.LowestTerms.{lowest_cancelled}
use Rattle.ratio_integer.proofs.Whole.{mul_positive}
use Rattle.ratio_core.proofs.RemainderLemmas.{expanded_divisor, expanded_remainder, remainder_over}
use Rattle.ratio_core.proofs.remainder.lowest_remainders.exact_rem.Goals as goal

pub returns-then-eq : goal.returns-then-eq
returns-then-eq g c =
    let v = g.T.Integer.value in
    let equal = (g.met.T.Integer.eq_law c.args.b c.args.d).0 (sym c.if-eq.ensures) in
    let left = c.requires.left.positive in
    remainder_over _ _ (v c.args.a) (v c.args.b) (v c.args.c) (v c.args.d) (v c.args.b) (v c.args.a) (v c.args.c) _ _ _ left c.requires.right.positive left refl (ap (λ (t : ℤ). v c.args.c *ℤ t) (sym equal)) c.truncated_rest.ensures c.lowest_terms.ensures

pub expanded_rest-requires-clause-positive : goal.expanded_rest-requires-clause-positive
expanded_rest-requires-clause-positive g c = mul_positive _ _ c.requires.left.positive c.requires.right.positive

pub expanded_rest-requires-clause-divisor : goal.expanded_rest-requires-clause-divisor
expanded_rest-requires-clause-divisor g c =
    let v = g.T.Integer.value in
    let left = c.requires.left.positive in
    let right = c.requires.right.positive in
    expanded_divisor (v c.args.a) (v c.args.b) (v c.args.c) (v c.args.d) (v c.args.b) (v c.args.d) left right (mul_positive _ _ left right) refl c.requires.divisor

pub returns : goal.returns
returns g c =
    let v = g.T.Integer.value in
    let left = c.requires.left.positive in
    let right = c.requires.right.positive in
    expanded_remainder (v c.args.a) (v c.args.b) (v c.args.c) (v c.args.d) (v c.args.b) (v c.args.d) left right (mul_positive _ _ left right) refl _ _ _ _ c.in-Some.ensures

pub expanded_rest-requires-2-clause-positive : goal.expanded_rest-requires-2-clause-positive
expanded_rest-requires-2-clause-positive g c =
    let low = lowest_cancelled _ _ _ _ c.requires.right.positive c.cancelled-for_right.ensures in
    mul_positive _ _ c.requires.left.positive low.lowest.positive

pub expanded_rest-requires-2-clause-divisor : goal.expanded_rest-requires-2-clause-divisor
expanded_rest-requires-2-clause-divisor g c =
    let v = g.T.Integer.value in
    let left = c.requires.left.positive in
    let right = c.requires.right.positive in
    let low = lowest_cancelled _ _ _ _ right c.cancelled-for_right.ensures in
    expanded_divisor (v c.args.a) (v c.args.b) (v c.args.c) (v c.args.d) _ _ left right (mul_positive _ _ left low.lowest.positive) low.same c.requires.divisor

pub returns-in-Some-expanded_rest : goal.returns-in-Some-expanded_rest
returns-in-Some-expanded_rest g c =
    let v = g.T.Integer.value in
    let left = c.requires.left.positive in
    let right = c.requires.right.positive in
    let low = lowest_cancelled _ _ _ _ right c.cancelled-for_right.ensures in
    expanded_remainder (v c.args.a) (v c.args.b) (v c.args.c) (v c.args.d) _ _ left right (mul_positive _ _ left low.lowest.positive) low.same _ _ _ _ c.in-Some-expanded_rest.ensures
