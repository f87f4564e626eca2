use Rattle.ratio_expressions.specs.Bound.{named}
use Rattle.ratio_expressions.specs.Stacks.{worths}
use Rattle.ratio_expressions.proofs.Running.{IsRunning}
use Rattle.ratio_expressions.proofs.evaluation.value_of_steps.Given as goal

-- the steps so far are taken
abbrev pub invariant-loop-step : goal.invariant-loop-step
invariant-loop-step l = IsRunning l.text (named l.names) l.steps l.step-index (worths l.stack.items)
