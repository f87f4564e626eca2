use Rattle.ratio_core.proofs.JoinedLemmas.{gcd_of_one, never_above}
use Rattle.ratio_core.proofs.sums.lowest_sums.gcd_with.Goals as goal

pub returns-then-is_one : goal.returns-then-is_one
returns-then-is_one g c = gcd_of_one _ _ (c.is_one.ensures.0 c.if-is_one.true)

pub gcd-requires : goal.gcd-requires
gcd-requires g c = never_above _ _ _ g.met.T.Integer.range_law.high c.requires
