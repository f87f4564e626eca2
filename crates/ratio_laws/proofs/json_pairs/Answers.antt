use Rattle.ratio_laws.proofs.JsonLawLemmas.{pair_back}
use Rattle.ratio_laws.proofs.json_pairs.Goals as goal

pub returns : goal.returns
returns c = pair_back
