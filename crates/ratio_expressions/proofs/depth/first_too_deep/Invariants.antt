use Rattle.std.proofs.Common.{◌≡◌, ◌≤◌, take}
use Rattle.ratio_expressions.specs.Nesting.{open_after, depth, most_open}
use Rattle.ratio_expressions.proofs.depth.first_too_deep.Given as goal

-- the parentheses that are open so far are counted, and are not too deep
abbrev pub invariant-loop-at : goal.invariant-loop-at
invariant-loop-at l = record { counted : open_after 0 (take l.at l.tokens) ≡ l.open; few : l.open ≤ most_open; shallow : depth (take l.at l.tokens) ≤ most_open }
