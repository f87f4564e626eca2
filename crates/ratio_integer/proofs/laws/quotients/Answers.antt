use Rattle.ratio_integer.proofs.FlooredDivision.{floored_held_but_one, quotient_held_but_one}
use Rattle.ratio_integer.proofs.laws.quotients.Goals as goal

pub returns-clause-truncated : goal.returns-clause-truncated
returns-clause-truncated c = quotient_held_but_one

pub returns-clause-floored : goal.returns-clause-floored
returns-clause-floored c = floored_held_but_one
