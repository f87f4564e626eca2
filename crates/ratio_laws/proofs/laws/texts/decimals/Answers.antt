use Rattle.ratio_decimal.proofs.DecimalTexts.{one_reading}
use Rattle.ratio_laws.proofs.DecimalsReadBack.{places_read}
use Rattle.ratio_laws.proofs.DecimalsReadNear.{decimals_read_near}
use Rattle.ratio_laws.proofs.laws.texts.decimals.Goals as goal

pub returns-clause-one : goal.returns-clause-one
returns-clause-one c = one_reading

pub returns-clause-printed : goal.returns-clause-printed
returns-clause-printed c = places_read

pub returns-clause-near : goal.returns-clause-near
returns-clause-near c = decimals_read_near
