use Rattle.num_rational.specs.Common.{IsTotalOver}
use Rattle.num_rational.proofs.splitting.total_over.Given as goal

abbrev pub invariant-loop-i : goal.invariant-loop-i
invariant-loop-i g l = let T = g.T.Integer in IsTotalOver g.S.Share.two_numbers T.lo T.hi (T.value l.amount) l.shares l.i (T.value l.sum) (T.value l.common)
