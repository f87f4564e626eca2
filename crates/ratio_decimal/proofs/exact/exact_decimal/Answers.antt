use Rattle.std.specs.Prelude.{◌<◌}
use Rattle.std.proofs.Common.{arith}
use Rattle.std.proofs.lemmas.Int.{ints}
use Rattle.ratio_decimal.proofs.ExactLemmas.{below_some, exact_some, exact_text, no_decimal}
use Rattle.ratio_decimal.proofs.exact.exact_decimal.Goals as goal

pub returns-in_err-places : goal.returns-in_err-places
returns-in_err-places g c =
    let v = g.T.Integer.value in
    rw c.from_residual.ensures (no_decimal (v c.args.numer) (v c.args.denom) c.magnitude-d.result c.magnitude-d.ensures c.requires c.in_err-places.ensures)

pub put_exact-requires-clause-some : goal.put_exact-requires-clause-some
put_exact-requires-clause-some g c =
    let v = g.T.Integer.value in
    let positive : 0 < c.magnitude-d.result = let p = c.requires.positive in let e = c.magnitude-d.ensures in omega (arith, ints) in
    λ yes. exact_some c.magnitude-n.result c.magnitude-d.result c.in_ok-places.places positive c.in_ok-places.ensures
    (below_some (v c.args.numer) c.magnitude-n.result c.is_below_zero.result c.magnitude-n.ensures c.is_below_zero.ensures yes)

pub returns : goal.returns
returns g c =
    let v = g.T.Integer.value in
    let positive : 0 < c.magnitude-d.result = let p = c.requires.positive in let e = c.magnitude-d.ensures in omega (arith, ints) in
    exact_text c.magnitude-n.result c.magnitude-d.result c.in_ok-places.places positive c.in_ok-places.ensures (v c.args.numer) (v c.args.denom) c.is_below_zero.result _
    c.magnitude-n.ensures c.magnitude-d.ensures c.requires c.is_below_zero.ensures c.put_exact.ensures.written
