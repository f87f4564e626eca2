use Rattle.ratio_laws.proofs.PowerLawLemmas.{multiplies_exponents}
use Rattle.ratio_laws.proofs.powers.exponents.Goals as goal

pub returns : goal.returns
returns g c = multiplies_exponents c.args.x.now
