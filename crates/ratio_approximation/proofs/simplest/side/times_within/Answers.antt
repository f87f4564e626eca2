use Rattle.std.specs.Prelude.{◌≡◌, ◌-ℤ◌, ℤ, pos}
use Rattle.std.proofs.Common.{◌∙◌, ap}
use Rattle.std.proofs.lemmas.Bool.{iff_false}
use Rattle.ratio_approximation.proofs.NearestMoves.{not_above_max}
use Rattle.ratio_approximation.proofs.SimplestSteps.{one_less_held, room_part, room_whole, some_quotient}
use Rattle.ratio_approximation.proofs.simplest.side.times_within.Goals as goal

pub divide_right-times-requires-clause-held : goal.divide_right-times-requires-clause-held
divide_right-times-requires-clause-held g c = not_above_max _ _ _ c.requires.gap

pub minus-requires : goal.minus-requires
minus-requires g c =
    let v = g.T.Counted.value in
    let one : v c.ONE.result ≡ pos 1 = ap v c.ONE.ensures ∙ g.met.T.Counted.one_law in
    rw one (one_less_held _ _ _ (pos 0) g.met.T.Counted.range_law c.held-2.ensures.range (some_quotient _ _ _ _ c.requires.room c.requires.gap c.divide_right-times.ensures.floored (c.is_zero.ensures.0 c.if-is_zero.true)))

pub returns-then-is_zero-clause-room : goal.returns-then-is_zero-clause-room
returns-then-is_zero-clause-room g c =
    let v = g.T.Counted.value in
    let one : v c.ONE.result ≡ pos 1 = ap v c.ONE.ensures ∙ g.met.T.Counted.one_law in
    room_whole _ _ _ _ _ c.requires.room c.requires.gap c.divide_right-times.ensures.floored (c.is_zero.ensures.0 c.if-is_zero.true) (c.minus.ensures ∙ ap (λ (t : ℤ). v c.divide_right-times.result.0 -ℤ t) one)

pub returns-else-is_zero-clause-room : goal.returns-else-is_zero-clause-room
returns-else-is_zero-clause-room g c = room_part _ _ _ _ c.requires.room c.requires.gap c.divide_right-times.ensures.floored (iff_false c.is_zero.ensures c.if-is_zero.false)
