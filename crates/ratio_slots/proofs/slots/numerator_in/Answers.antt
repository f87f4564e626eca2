use Rattle.std.proofs.Common.{rules, ◌∙◌}
use mir.Facts.{to_z-of_z}
use mir.Syntax.{w128}
use mir.Val.{SFits}
use Rattle.ratio_slots.proofs.ReadLemmas.{numerator_at_place, numerator_no_place}
use Rattle.ratio_slots.proofs.slots.numerator_in.Goals as goal

pub returns-in-Some : goal.returns-in-Some
returns-in-Some c =
    let held : SFits w128 c.numer_at.result = search rules in
    rw (to_z-of_z held) (c.numer_at.ensures ∙ numerator_at_place _ _ _ c.requires.table c.requires.denom c.in-Some.ensures)

pub returns-in-None : goal.returns-in-None
returns-in-None c = numerator_no_place _ _ c.in-None.ensures
