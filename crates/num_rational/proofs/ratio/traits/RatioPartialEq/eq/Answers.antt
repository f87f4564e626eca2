use Rattle.std.proofs.Common.{sym, ap, ◌∙◌}
use Rattle.std.specs.Ordering.{is_eq}
use Rattle.ratio_core.proofs.EqualityLaws.{same_test, told_lowest, told_same}
use Rattle.num_rational.specs.Ratio.{denominator, numerator}
use Rattle.num_rational.proofs.ratio.traits.RatioPartialEq.eq.Goals as goal

pub returns-clause-answer : goal.returns-clause-answer
returns-clause-answer g c = c.is_eq.ensures ∙ ap is_eq c.cmp.ensures ∙ sym (same_test _ _ _ _ c.args.self.now.nonzero c.args.other.now.nonzero)

pub returns-clause-value : goal.returns-clause-value
returns-clause-value g c =
    let x = c.args.self.now in
    let y = c.args.other.now in
    told_same (numerator x) (denominator x) (numerator y) (denominator y) _ (returns-clause-answer g c)

pub returns-clause-lowest : goal.returns-clause-lowest
returns-clause-lowest g c =
    let x = c.args.self.now in
    let y = c.args.other.now in
    told_lowest (numerator x) (denominator x) (numerator y) (denominator y) _ (returns-clause-answer g c)
