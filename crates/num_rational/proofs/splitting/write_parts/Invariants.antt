use Rattle.num_rational.specs.Split.{share_numbers}
use Rattle.num_rational.proofs.SplitLemmas.{IsSplitSoFar}
use Rattle.num_rational.proofs.splitting.write_parts.Given as goal

abbrev pub invariant-loop-i : goal.invariant-loop-i
invariant-loop-i g l = let T = g.T.Integer in IsSplitSoFar g.S.Share.two_numbers T.value (T.value l.amount) l.shares l.parts l.i (share_numbers l.sum) (T.value l.mark)
