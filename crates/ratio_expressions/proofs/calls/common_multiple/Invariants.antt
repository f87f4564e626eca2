use Rattle.std.proofs.Common.{map, take}
use Rattle.ratio_big.specs.Fractions.{big_numbers}
use Rattle.ratio_expressions.specs.Functions.{IsLcmOfAll}
use Rattle.ratio_expressions.proofs.calls.common_multiple.Given as goal

-- that of the numbers so far
abbrev pub invariant-loop-next : goal.invariant-loop-next
invariant-loop-next l = IsLcmOfAll (map big_numbers (take l.next l.numbers)) (big_numbers l.multiple)
