use Rattle.std.proofs.lemmas.Int.{to_z-of_z}
use Rattle.ratio_totals.proofs.NumberLemmas.{numer_refused, denom_refused}
use Rattle.ratio_totals.proofs.numbers.fraction.Goals as goal

pub returns-in_err-numer : goal.returns-in_err-numer
returns-in_err-numer g c =
    rw c.from_residual.ensures (numer_refused _ _ _ _ c.requires.lowest (rw (to_z-of_z _ c.args.numer c.ranges.numer) at c.in_err-numer.ensures))

pub returns-in_err-denom : goal.returns-in_err-denom
returns-in_err-denom g c = rw c.from_residual-in_err-denom.ensures (denom_refused _ _ _ _ c.requires.lowest c.in_err-denom.ensures)
