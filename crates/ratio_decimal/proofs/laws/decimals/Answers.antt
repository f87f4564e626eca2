use Rattle.ratio_decimal.proofs.DecimalLawLemmas.{decimals_agree, decimals_exist}
use Rattle.ratio_decimal.proofs.laws.decimals.Goals as goal

pub returns : goal.returns
returns c = record { some = decimals_exist; one = decimals_agree }
