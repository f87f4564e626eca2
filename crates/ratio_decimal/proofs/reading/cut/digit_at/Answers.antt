use Rattle.ratio_decimal.proofs.DecimalDigits.{digit_range}
use Rattle.ratio_decimal.proofs.reading.cut.digit_at.Goals as goal

pub overflow_sub-result : goal.overflow_sub-result
overflow_sub-result c = (digit_range c.args.digits.now c.args.at c.requires.digits c.requires.inside).0

pub returns-clause-value : goal.returns-clause-value
returns-clause-value c = (digit_range c.args.digits.now c.args.at c.requires.digits c.requires.inside).1

pub returns-clause-small : goal.returns-clause-small
returns-clause-small c = (digit_range c.args.digits.now c.args.at c.requires.digits c.requires.inside).2
