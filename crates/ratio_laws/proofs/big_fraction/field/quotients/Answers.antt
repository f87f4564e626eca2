use Rattle.std.specs.Prelude.{pos}
use Rattle.ratio_big.specs.Fractions.{big_numbers}
use Rattle.ratio_laws.proofs.BigFieldLawLemmas.{is_product_undone, is_product_with_reciprocal, is_quotient_undone, is_refused_by_zero}
use Rattle.ratio_laws.proofs.big_fraction.field.quotients.Goals as goal

pub returns-clause-zero : goal.returns-clause-zero
returns-clause-zero c = is_refused_by_zero (big_numbers c.args.x.now) (big_numbers c.args.y.now)

pub returns-clause-none : goal.returns-clause-none
returns-clause-none c = is_refused_by_zero (pos 1, pos 1) (big_numbers c.args.y.now)

pub returns-clause-reciprocal : goal.returns-clause-reciprocal
returns-clause-reciprocal c = is_product_with_reciprocal (big_numbers c.args.x.now) (big_numbers c.args.y.now)

pub returns-clause-quotient : goal.returns-clause-quotient
returns-clause-quotient c = is_quotient_undone (big_numbers c.args.x.now) c.args.x.now.kept.lowest (big_numbers c.args.y.now) c.args.y.now.kept.lowest

pub returns-clause-product : goal.returns-clause-product
returns-clause-product c = is_product_undone (big_numbers c.args.x.now) c.args.x.now.kept.lowest (big_numbers c.args.y.now) c.args.y.now.kept.lowest
