use Rattle.ratio_laws.proofs.SignLawLemmas.{multiplies_signs}
use Rattle.ratio_laws.proofs.signs.products.Goals as goal

pub returns : goal.returns
returns g c = multiplies_signs c.args.x.now c.args.y.now
