use Rattle.num_rational.proofs.RatioLemmas.{same_ratio}
use Rattle.num_rational.proofs.ratio.RatioConstants.ONE.Goals as goal

pub returns : goal.returns
returns g c = same_ratio _ _ c.ONE.ensures c.ONE-2.ensures
