use Rattle.std.proofs.Common.{◌≡◌, length}
use Rattle.ratio_lines.specs.Parts.{are_terms, parts_of}
use Rattle.ratio_lines.proofs.parts.all_are_terms.Given as goal

abbrev pub invariant-loop-rest : goal.invariant-loop-rest
invariant-loop-rest l = are_terms (parts_of l.rest) ≡ are_terms (parts_of l.parts)

abbrev pub decreases-loop-rest : goal.decreases-loop-rest
decreases-loop-rest l = length (parts_of l.rest)
