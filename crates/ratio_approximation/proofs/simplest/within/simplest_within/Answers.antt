use Rattle.ratio_approximation.proofs.OpenBounds.{first_opened, none_opened}
use Rattle.ratio_approximation.proofs.simplest.within.simplest_within.Goals as goal

pub returns-in_err-numer : goal.returns-in_err-numer
returns-in_err-numer g c =
    let m = g.met.T.Integer in
    rw c.from_residual.ensures (none_opened _ _ _ _ m.range_law (rw (c.low_end.ensures, c.high_end.ensures) at c.in_err-numer.ensures))

pub returns : goal.returns
returns g c =
    let m = g.met.T.Integer in
    first_opened _ _ _ _ m.range_law _ _ c.requires.low c.requires.high c.both_held.ensures.first c.both_held.ensures.second (rw (c.low_end.ensures, c.high_end.ensures) at c.in_ok-numer.ensures)
