use Rattle.ratio_totals.proofs.NumberLemmas.{short_held}
use Rattle.ratio_totals.proofs.numbers.wide.Goals as goal

pub returns-clause-short : goal.returns-clause-short
returns-clause-short g c =
    let m = g.met.T in
    short_held _ _ g.T.Primitive.BITS _ m.Short.short_law m.Primitive.width_law.1 m.Integer.range_law c.to_i128.ensures.range
