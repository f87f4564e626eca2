use Rattle.num_rational.specs.Reduced.{lowest_numbers}
use Rattle.ratio_uses.proofs.CentLemmas.{IsCentsSoFar}
use Rattle.ratio_uses.proofs.ledger.cents.write_parts.Given as goal

abbrev pub invariant-loop-i : goal.invariant-loop-i
invariant-loop-i l = IsCentsSoFar lowest_numbers l.unit_parts l.count l.shares l.parts l.i (lowest_numbers l.sum) l.mark
