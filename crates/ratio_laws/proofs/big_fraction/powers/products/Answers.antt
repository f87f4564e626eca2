use Rattle.ratio_big.specs.Fractions.{big_numbers}
use Rattle.ratio_laws.proofs.BigPowerLawLemmas.{splits_power}
use Rattle.ratio_laws.proofs.big_fraction.powers.products.Goals as goal

pub returns : goal.returns
returns c = splits_power (big_numbers c.args.x.now) (big_numbers c.args.y.now)
