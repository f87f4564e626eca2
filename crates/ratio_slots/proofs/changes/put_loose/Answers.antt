use Rattle.std.proofs.Common.{rules}
use mir.Facts.{to_z-of_z}
use mir.Syntax.{w128}
use mir.Val.{SFits}
use Rattle.ratio_slots.proofs.SumLemmas.{grows_clean, sum_clean}
use Rattle.ratio_slots.proofs.changes.put_loose.Goals as goal

pub returns-clause-numerators : goal.returns-clause-numerators
returns-clause-numerators c =
    let held : SFits w128 c.args.numer = search rules in
    rw c.grow_at.ensures (rw (to_z-of_z held) (grows_clean _ _ _ _ c.in-Some.ensures (c.is_clean.ensures.0 c.if-not-is_clean.false)))

pub returns-clause-sum : goal.returns-clause-sum
returns-clause-sum c =
    let held : SFits w128 c.args.numer = search rules in
    rw c.grow_at.ensures (rw (to_z-of_z held) (sum_clean _ _ _ _ c.requires c.in-Some.ensures (c.is_clean.ensures.0 c.if-not-is_clean.false)))
