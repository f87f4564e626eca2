use Rattle.std.proofs.Common.{arith}
use Rattle.ratio_c.proofs.DecimalRooms.{decimal_short}
use Rattle.ratio_c.proofs.decimal.decimal_of.Goals as goal

pub returns-in-Some-rule_of-clause-short : goal.returns-in-Some-rule_of-clause-short
returns-in-Some-rule_of-clause-short g c =
    let m = g.met.F.Inside in
    decimal_short g.F.Inside.Primitive.BITS g.F.Inside.Integer.lo g.F.Inside.Integer.hi m.Integer.range_law m.Primitive.width_law _ _ _ _ _ c.both_held.ensures.first (omega (arith, c.if-places-le38.true)) c.in-Some.ensures.0 c.decimal.ensures
