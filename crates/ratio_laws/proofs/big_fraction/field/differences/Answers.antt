use Rattle.ratio_big.specs.Fractions.{big_numbers}
use Rattle.ratio_laws.proofs.BigFieldLawLemmas.{is_difference_undone, is_sum_undone, is_sum_with_negative, itself_is_zero}
use Rattle.ratio_laws.proofs.big_fraction.field.differences.Goals as goal

pub returns-clause-itself : goal.returns-clause-itself
returns-clause-itself c = itself_is_zero (big_numbers c.args.x.now)

pub returns-clause-negative : goal.returns-clause-negative
returns-clause-negative c = is_sum_with_negative (big_numbers c.args.x.now) (big_numbers c.args.y.now)

pub returns-clause-difference : goal.returns-clause-difference
returns-clause-difference c = is_difference_undone (big_numbers c.args.x.now) c.args.x.now.kept.lowest (big_numbers c.args.y.now) c.args.y.now.kept.lowest

pub returns-clause-sum : goal.returns-clause-sum
returns-clause-sum c = is_sum_undone (big_numbers c.args.x.now) c.args.x.now.kept.lowest (big_numbers c.args.y.now) c.args.y.now.kept.lowest
