use Rattle.std.proofs.Common.{◌≤◌, drop, map}
use Rattle.std.specs.Prelude.{◌↔◌}
use Rattle.ratio_big.specs.Fractions.{big_numbers}
use Rattle.ratio_expressions.specs.Limits.{FitInto, FitTogether}
use Rattle.ratio_expressions.proofs.limit.fit_together.Given as goal

-- all fit if those from here on fit into the bits that are left
abbrev pub invariant-loop-next : goal.invariant-loop-next
invariant-loop-next l = (FitTogether (map big_numbers l.numbers) ↔ FitInto l.left (map big_numbers (drop l.next l.numbers))) × (l.left ≤ 1000000)
