use Rattle.std.specs.Prelude.{◌≡◌, ◌-ℤ◌, ℤ, pos}
use Rattle.std.proofs.Common.{◌∙◌, ap}
use Rattle.std.proofs.lemmas.Bool.{iff_false}
use Rattle.ratio_approximation.proofs.NearestMoves.{not_above_max}
use Rattle.ratio_approximation.proofs.SimplestBeginning.{last_part, last_whole, no_last}
use Rattle.ratio_approximation.proofs.simplest.whole_between.last_below.Goals as goal

pub divide_right-floor-requires-clause-held : goal.divide_right-floor-requires-clause-held
divide_right-floor-requires-clause-held g c = not_above_max _ _ _ c.requires

pub returns-in_err-last-clause-last : goal.returns-in_err-last-clause-last
returns-in_err-last-clause-last g c =
    let v = g.T.Counted.value in
    let one : v c.ONE.result ≡ pos 1 = ap v c.ONE.ensures ∙ g.met.T.Counted.one_law in
    rw c.from_residual.ensures (no_last _ _ _ _ _ _ c.requires c.held.ensures.range c.divide_right-floor.ensures.floored (c.is_zero.ensures.0 c.if-is_zero.true) (rw one at c.in_err-last.ensures))

pub returns-in_ok-last-clause-last : goal.returns-in_ok-last-clause-last
returns-in_ok-last-clause-last g c =
    let v = g.T.Counted.value in
    let one : v c.ONE.result ≡ pos 1 = ap v c.ONE.ensures ∙ g.met.T.Counted.one_law in
    last_whole _ _ _ _ _ c.requires c.divide_right-floor.ensures.floored (c.is_zero.ensures.0 c.if-is_zero.true) (c.in_ok-last.ensures.1 ∙ ap (λ (t : ℤ). v c.divide_right-floor.result.0 -ℤ t) one)

pub returns-else-is_zero-clause-last : goal.returns-else-is_zero-clause-last
returns-else-is_zero-clause-last g c = last_part _ _ _ _ c.requires c.divide_right-floor.ensures.floored (iff_false c.is_zero.ensures c.if-is_zero.false)
