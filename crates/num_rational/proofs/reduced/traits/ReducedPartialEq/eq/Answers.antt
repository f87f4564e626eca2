use Rattle.ratio_core.proofs.EqualityLaws.{told_same}
use Rattle.ratio_core.proofs.FieldLemmas.{answer_by_fields}
use Rattle.num_rational.specs.Ratio.{denominator, numerator}
use Rattle.num_rational.proofs.reduced.traits.ReducedPartialEq.eq.Goals as goal

pub returns-clause-answer : goal.returns-clause-answer
returns-clause-answer g c = answer_by_fields _ _ _ _ _ c.same_fields.ensures c.args.self.now.lowest c.args.other.now.lowest

pub returns-clause-value : goal.returns-clause-value
returns-clause-value g c =
    let x = c.args.self.now.ratio in
    let y = c.args.other.now.ratio in
    told_same (numerator x) (denominator x) (numerator y) (denominator y) _ (returns-clause-answer g c)
