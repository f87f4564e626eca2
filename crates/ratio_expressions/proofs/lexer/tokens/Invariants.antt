use Rattle.std.proofs.Common.{◌≤◌, ◌-◌, length}
use Rattle.ratio_expressions.specs.Tokens.{IsCutInto}
use Rattle.ratio_expressions.proofs.lexer.tokens.Given as goal

-- the text so far is the tokens so far
abbrev pub invariant-loop-at : goal.invariant-loop-at
invariant-loop-at l = record { within : l.at ≤ length l.text; cut : IsCutInto l.text 0 l.at l.found.items }

abbrev pub decreases-loop-at : goal.decreases-loop-at
decreases-loop-at l = length l.text - l.at
