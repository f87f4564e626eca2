use Rattle.std.proofs.Common.{pos, take}
use Rattle.std.specs.Prelude.{◌<ℤ◌}
use Rattle.ratio_integer.specs.Fraction.{IsLowestTermsOf}
use Rattle.num_rational.specs.Common.{FirstMarksFit}
use Rattle.num_rational.specs.Split.{share_numbers, total_of_shares}
use Rattle.num_rational.proofs.splitting.check_marks.Given as goal

abbrev pub invariant-loop-i : goal.invariant-loop-i
invariant-loop-i g l = record {
  fit : FirstMarksFit g.S.Share.two_numbers g.T.Integer.lo g.T.Integer.hi (g.T.Integer.value l.amount) l.shares l.i;
  value : IsLowestTermsOf (total_of_shares g.S.Share.two_numbers (take l.i l.shares)).0 (total_of_shares g.S.Share.two_numbers (take l.i l.shares)).1 (share_numbers l.sum).0 (share_numbers l.sum).1;
  up : pos 0 <ℤ (total_of_shares g.S.Share.two_numbers (take l.i l.shares)).1;
}
