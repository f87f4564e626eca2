use Rattle.std.proofs.Common.{◌≤◌, take}
use Rattle.ratio_expressions.proofs.Counting.{HasTrees}
use Rattle.ratio_expressions.proofs.assignment.is_whole.Given as goal

-- the steps so far make so many trees, at most one for each
abbrev pub invariant-loop-step : goal.invariant-loop-step
invariant-loop-step l = HasTrees (take l.step-index l.steps) l.trees × (l.trees ≤ l.step-index)
