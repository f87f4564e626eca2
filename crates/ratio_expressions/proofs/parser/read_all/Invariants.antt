use Rattle.std.proofs.Common.{◌≡◌, take, Some}
use Rattle.ratio_expressions.specs.Reading.{run, start, state_of}
use Rattle.ratio_expressions.proofs.parser.read_all.Given as goal

-- the tokens so far are read
abbrev pub invariant-loop-at : goal.invariant-loop-at
invariant-loop-at l = run (take l.at l.tokens) start ≡ Some (state_of l.marks.items l.steps.items l.wants)
