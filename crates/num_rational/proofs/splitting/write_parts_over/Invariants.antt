use Rattle.num_rational.proofs.SplitLemmas.{IsSplitSoFar}
use Rattle.num_rational.proofs.splitting.write_parts_over.Given as goal

abbrev pub invariant-loop-i : goal.invariant-loop-i
invariant-loop-i g l = let T = g.T.Integer in IsSplitSoFar (g.N.Numerators.over (T.value l.common)) T.value (T.value l.amount) l.shares l.parts l.i (T.value l.sum, T.value l.common) (T.value l.mark)
