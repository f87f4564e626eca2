use Rattle.std.proofs.Common.{◌<◌, length}
use Rattle.ratio_expressions.proofs.CallLemmas.{IsBest}
use Rattle.ratio_expressions.proofs.calls.extreme.Given as goal

-- of the numbers so far, none is beyond the chosen one
abbrev pub invariant-loop-next : goal.invariant-loop-next
invariant-loop-next l = IsBest l.side l.numbers l.next l.at × (l.at < length l.numbers)
