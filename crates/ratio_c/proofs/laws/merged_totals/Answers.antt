use Rattle.ratio_c.proofs.TotalLaws.{merge_adds_each, merge_moves, parts_merge, unmerge_undoes}
use Rattle.ratio_c.proofs.laws.merged_totals.Goals as goal

pub returns-clause-adds : goal.returns-clause-adds
returns-clause-adds c = merge_adds_each

pub returns-clause-undone : goal.returns-clause-undone
returns-clause-undone c = unmerge_undoes

pub returns-clause-parts : goal.returns-clause-parts
returns-clause-parts c = parts_merge

pub returns-clause-moves : goal.returns-clause-moves
returns-clause-moves c = merge_moves
