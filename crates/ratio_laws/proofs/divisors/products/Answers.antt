use Rattle.ratio_laws.proofs.DivisorLawLemmas.{multiplies_to_product}
use Rattle.ratio_laws.proofs.divisors.products.Goals as goal

pub returns : goal.returns
returns g c = multiplies_to_product c.args.x.now c.args.y.now
