use Rattle.std.specs.Float.{NotNan}
use Rattle.std.proofs.Common.{subst, sym}
use Rattle.ratio_big.specs.Fractions.{GivesTerms, big_numbers}
use Rattle.ratio_decimal.specs.Floats.{fraction_of_float}
use Rattle.ratio_expressions.proofs.FloatLemmas.{last_reads_back}
use Rattle.ratio_expressions.proofs.FloatTextLemmas.{nearest_number}
use Rattle.ratio_expressions.proofs.replies.float.float_text.Goals as goal

pub finite_text-requires-clause-last : goal.finite_text-requires-clause-last
finite_text-requires-clause-last c =
    let x = big_numbers c.args.x.now in
    let float = c.in_ok-float.float in
    last_reads_back x.0 x.1 float c.in_ok-float.ensures.nearest (subst (GivesTerms (fraction_of_float float)) c.in-Some.is c.in_ok-value.ensures.exact).fraction

pub infinite_text-requires-clause-number : goal.infinite_text-requires-clause-number
infinite_text-requires-clause-number c =
    let x = big_numbers c.args.x.now in
    subst NotNan (sym c.in_ok-float.ensures.nearest) (nearest_number x.0 x.1 c.args.x.now.kept.lowest.positive)
