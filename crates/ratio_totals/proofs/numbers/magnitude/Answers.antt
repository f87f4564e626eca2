use Rattle.ratio_totals.proofs.WideNumberLemmas.{one_holds}
use Rattle.ratio_totals.proofs.numbers.magnitude.Goals as goal

pub unreachable-requires : goal.unreachable-requires
unreachable-requires g c =
    let m = g.met.T in
    one_holds _ _ g.T.Primitive.BITS m.Primitive.width_law.0 m.Primitive.width_law.1 m.Integer.range_law (g.T.Integer.value c.args.t) c.to_i128.ensures.range c.in-None.ensures.number c.in-None-to_u128.ensures
