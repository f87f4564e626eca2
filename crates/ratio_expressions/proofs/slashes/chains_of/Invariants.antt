use Rattle.ratio_expressions.proofs.ChainLemmas.{IsJoined}
use Rattle.ratio_expressions.proofs.slashes.chains_of.Given as goal

-- the steps so far are taken
abbrev pub invariant-loop-step : goal.invariant-loop-step
invariant-loop-step l = IsJoined l.steps l.step-index l.parts.items l.chains.items
