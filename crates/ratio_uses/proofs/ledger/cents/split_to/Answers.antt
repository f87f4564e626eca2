use Rattle.std.proofs.Common.{rules}
use Rattle.std.proofs.lemmas.Int.{to_z-of_z}
use mir.Syntax.{w128, w64}
use mir.Val.{SFits}
use Rattle.ratio_uses.proofs.ledger.cents.split_to.Goals as goal

pub returns-in-Ok-clause-ok : goal.returns-in-Ok-clause-ok
returns-in-Ok-clause-ok c =
    let unit_fits : SFits w64 c.args.unit_parts = c.ranges.unit_parts in
    let count_fits : SFits w128 c.in-Some.count = search rules in
    let count = simp to_z-of_z at c.in-Some.ensures in
    let done = simp to_z-of_z at c.in-Ok.ensures.ok in
    ((c.in-Some.count, count, done.0), (c.in-Some.count, count, done.1))

pub returns-in-Err-clause-refused : goal.returns-in-Err-clause-refused
returns-in-Err-clause-refused c =
    let unit_fits : SFits w64 c.args.unit_parts = c.ranges.unit_parts in
    let count_fits : SFits w128 c.in-Some.count = search rules in
    let count = simp to_z-of_z at c.in-Some.ensures in
    let out = simp to_z-of_z at c.in-Err.ensures.refused in
    (c.in-Some.count, count, out)
