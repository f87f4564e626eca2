use Rattle.ratio_laws.proofs.PowerLawLemmas.{multiplies_powers}
use Rattle.ratio_laws.proofs.powers.products.Goals as goal

pub returns : goal.returns
returns g c = multiplies_powers c.args.x.now c.args.y.now
