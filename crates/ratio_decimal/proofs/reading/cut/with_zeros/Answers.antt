use Rattle.ratio_decimal.proofs.DecimalDigits.{few_zeros, many_zeros}
use Rattle.ratio_decimal.proofs.reading.cut.with_zeros.Goals as goal

pub returns-then-zeros-gt38 : goal.returns-then-zeros-gt38
returns-then-zeros-gt38 c = many_zeros c.args.number c.args.zeros c.if-number-eq0.false c.if-zeros-gt38.true

pub pow-requires : goal.pow-requires
pow-requires c = few_zeros c.args.zeros c.if-zeros-gt38.false
