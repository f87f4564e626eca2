use Rattle.ratio_big.specs.Fractions.{big_numbers}
use Rattle.ratio_expressions.proofs.OperationLemmas.{limited}
use Rattle.ratio_expressions.proofs.operation.takes_numbers.Goals as goal

pub returns-in-Add : goal.returns-in-Add
returns-in-Add c = limited c.args.operator (big_numbers c.args.x.now) (big_numbers c.args.y.now) c.pair_fits.result c.in-Add.is c.pair_fits.ensures
