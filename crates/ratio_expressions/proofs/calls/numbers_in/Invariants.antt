use Rattle.std.proofs.Common.{◌≡◌, map, take}
use Rattle.ratio_big.specs.Fractions.{big_numbers}
use Rattle.ratio_expressions.specs.Worths.{worth, Amount}
use Rattle.ratio_expressions.proofs.calls.numbers_in.Given as goal

-- the values so far are these numbers
abbrev pub invariant-loop-value : goal.invariant-loop-value
invariant-loop-value l = map worth (take l.value-index l.values) ≡ map Amount (map big_numbers l.numbers.items)
