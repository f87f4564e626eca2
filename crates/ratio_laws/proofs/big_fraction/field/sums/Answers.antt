use Rattle.ratio_core.proofs.LawLemmas.{sums_associate, sums_commute}
use Rattle.ratio_big.specs.Fractions.{big_numbers}
use Rattle.ratio_laws.proofs.BigFieldLawLemmas.{negative_is_zero, plus_zero_is}
use Rattle.ratio_laws.proofs.big_fraction.field.sums.Goals as goal

pub returns-clause-commute : goal.returns-clause-commute
returns-clause-commute c = sums_commute (big_numbers c.args.x.now) (big_numbers c.args.y.now)

pub returns-clause-associate : goal.returns-clause-associate
returns-clause-associate c = sums_associate (big_numbers c.args.x.now) (big_numbers c.args.y.now) (big_numbers c.args.z.now)

pub returns-clause-zero : goal.returns-clause-zero
returns-clause-zero c = plus_zero_is (big_numbers c.args.x.now) c.args.x.now.kept.lowest

pub returns-clause-negative : goal.returns-clause-negative
returns-clause-negative c = negative_is_zero (big_numbers c.args.x.now)
