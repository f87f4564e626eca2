use Rattle.ratio_laws.proofs.DecimalLawLemmas.{decimals_monotone, decimals_near}
use Rattle.ratio_decimal.proofs.PrecisionLemmas.{half_even_decimal}
use Rattle.ratio_laws.proofs.laws.decimals.Goals as goal

pub returns : goal.returns
returns c = record { monotone = decimals_monotone; near = decimals_near; printed = half_even_decimal }
