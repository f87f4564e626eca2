use Rattle.std.proofs.Common.{◌≡◌, reverse, vec_len}
use Rattle.ratio_expressions.specs.Reading.{settle}
use Rattle.ratio_expressions.proofs.parser.settle_marks.Given as goal

-- what is left to settle gives what all gives
abbrev pub invariant-loop-mark : goal.invariant-loop-mark
invariant-loop-mark l = settle l.least (reverse l.marks.items) l.steps.items ≡ settle l.least (reverse l.fn.marks.items) l.fn.steps.items

abbrev pub decreases-loop-mark : goal.decreases-loop-mark
decreases-loop-mark l = vec_len l.marks
