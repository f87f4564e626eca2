use Rattle.ratio_core.proofs.PowerLawLemmas.{powers_add, powers_are_products, reciprocals_invert}
use Rattle.ratio_laws.proofs.laws.powers.Goals as goal

pub returns : goal.returns
returns c = record { products = powers_are_products; add = powers_add; invert = reciprocals_invert }
