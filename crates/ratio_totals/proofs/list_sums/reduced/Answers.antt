use Rattle.std.specs.Int.RustNames.{FitsSigned}
use Rattle.std.proofs.Common.{rules}
use Rattle.std.proofs.lemmas.Int.{to_z-of_z}
use mir.Syntax.{w128}
use Rattle.num_rational.specs.Ratio.{denominator, numerator}
use Rattle.num_rational.specs.Reduced.{ratio_in}
use Rattle.ratio_totals.proofs.NumberLemmas.{long_out, short_held, terms_moved}
use Rattle.ratio_totals.proofs.list_sums.reduced.Goals as goal

pub returns : goal.returns
returns g c =
    let numer : FitsSigned w128 c.args.numer = search rules in
    let fits : FitsSigned w128 c.in_ok-p.p = search rules in
    terms_moved numerator denominator g.T.Integer.lo g.T.Integer.hi (c.args.numer, c.args.denom) c.in_ok-p.p c.in_ok-p.q (ratio_in c.fraction.result)
    (rw (to_z-of_z w128 c.args.numer numer) at c.in_ok-p.ensures) (rw (to_z-of_z w128 c.in_ok-p.p fits) at c.fraction.ensures)

pub returns-in_err-p : goal.returns-in_err-p
returns-in_err-p g c =
    let m = g.met.T in
    let numer : FitsSigned w128 c.args.numer = search rules in
    rw c.from_residual.ensures
    (long_out g.T.Integer.lo g.T.Integer.hi (c.args.numer, c.args.denom)
    (λ y held. short_held _ _ g.T.Primitive.BITS y m.Short.short_law m.Primitive.width_law.1 m.Integer.range_law held) (rw (to_z-of_z w128 c.args.numer numer) at c.in_err-p.ensures))
