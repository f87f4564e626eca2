use Rattle.ratio_big.proofs.TypedReadingLemmas.{typed_one}
use Rattle.ratio_laws.proofs.TypedLawLemmas.{decimals_typed, fractions_typed, wide_decimals_typed}
use Rattle.ratio_laws.proofs.laws.texts.typed_texts.Goals as goal

pub returns-clause-one : goal.returns-clause-one
returns-clause-one c = typed_one

pub returns-clause-decimals : goal.returns-clause-decimals
returns-clause-decimals c = decimals_typed

pub returns-clause-wide_decimals : goal.returns-clause-wide_decimals
returns-clause-wide_decimals c = wide_decimals_typed

pub returns-clause-fractions : goal.returns-clause-fractions
returns-clause-fractions c = fractions_typed
