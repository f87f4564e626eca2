use Rattle.num_rational.proofs.RatioLemmas.{same_ratio}
use Rattle.num_rational.proofs.ratio.RatioConstants.ZERO.Goals as goal

pub returns : goal.returns
returns g c = same_ratio _ _ c.ZERO.ensures c.ONE.ensures
