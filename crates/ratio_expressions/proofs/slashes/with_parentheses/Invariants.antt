use Rattle.std.proofs.Common.{◌≡◌, ◌++◌, drop}
use Rattle.ratio_expressions.specs.Slashes.{shown_from}
use Rattle.ratio_expressions.proofs.slashes.with_parentheses.Given as goal

-- the bytes that are left make the rest of what is shown
abbrev pub invariant-loop-at : goal.invariant-loop-at
invariant-loop-at l = l.bytes.items ++ shown_from l.chains l.at (drop l.at l.text) ≡ shown_from l.chains 0 l.text
