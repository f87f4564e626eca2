use Rattle.std.proofs.lemmas.Fmt.{decimal_digit, decimal_step_wide}
use Rattle.ratio_laws.proofs.laws.texts.decimal_digits.Goals as goal

pub returns-clause-one : goal.returns-clause-one
returns-clause-one c = decimal_digit

pub returns-clause-more : goal.returns-clause-more
returns-clause-more c = decimal_step_wide
