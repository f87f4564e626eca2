use Rattle.std.specs.Float.{binary64}
use Rattle.std.proofs.lemmas.Int.{to_z-of_z}
use Rattle.ratio_decimal.proofs.FloatDivision.{quotient_nearest}
use Rattle.ratio_decimal.proofs.float.format.F64FloatType.quotient.Goals as goal

pub returns : goal.returns
returns c =
    rw (to_z-of_z _ _ c.ranges.n, to_z-of_z _ _ c.ranges.d)
    (quotient_nearest binary64 c.args.n c.args.d c.requires.n_exact c.requires.d_exact c.requires.d_positive)
