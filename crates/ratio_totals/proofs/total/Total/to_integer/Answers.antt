use Rattle.std.specs.Int.RustNames.{FitsSigned}
use Rattle.std.proofs.Common.{rules}
use Rattle.std.proofs.lemmas.Int.{to_z-of_z}
use mir.Syntax.{w128}
use Rattle.ratio_totals.specs.Values.{value_of}
use Rattle.ratio_totals.proofs.NumberLemmas.{short_held}
use Rattle.ratio_totals.proofs.RoundingLemmas.{integer_none, integer_some}
use Rattle.ratio_totals.proofs.total.Total.to_integer.Goals as goal

pub returns-in-Some-clause-number : goal.returns-in-Some-clause-number
returns-in-Some-clause-number g c =
    let fits : FitsSigned w128 c.in-Some.number = search rules in
    integer_some g.T.Integer.value g.T.Integer.lo g.T.Integer.hi c.args.rule (value_of c.args.self.now) _ c.in-Some.number c.from_i128.result c.in-Some.is c.in_ok-number.ensures.number
    (rw (to_z-of_z w128 c.in-Some.number fits) at c.from_i128.ensures)

pub returns-in-None-clause-number : goal.returns-in-None-clause-number
returns-in-None-clause-number g c =
    let m = g.met.T in
    integer_none g.T.Integer.value g.T.Integer.lo g.T.Integer.hi c.args.rule (value_of c.args.self.now) _
    (λ y held. short_held _ _ g.T.Primitive.BITS y m.Short.short_law m.Primitive.width_law.1 m.Integer.range_law held) c.in-None.is c.in_ok-number.ensures.number
