use Rattle.std.specs.Prelude.{◌*ℤ◌, ◌+ℤ◌}
use Rattle.std.proofs.Common.{arith}
use Rattle.std.proofs.lemmas.Int.{ints}
use Rattle.ratio_decimal.proofs.RoundedLemmas.{lowest_part, rounded_answer, rounded_out}
use Rattle.ratio_decimal.proofs.rounding_rule.round_to.Goals as goal

pub numerator_of-requires-clause-above : goal.numerator_of-requires-clause-above
numerator_of-requires-clause-above g c = (lowest_part _ _ _ _ c.rounded-whole.ensures.part c.lowest_terms-part.ensures.terms).above

pub numerator_of-requires-clause-at_most : goal.numerator_of-requires-clause-at_most
numerator_of-requires-clause-at_most g c =
    let less = (lowest_part _ _ _ _ c.rounded-whole.ensures.part c.lowest_terms-part.ensures.terms).below in
    omega (arith, ints)

pub returns-in_err-numerator_of : goal.returns-in_err-numerator_of
returns-in_err-numerator_of g c =
    let v = g.T.Integer.value in
    let whole = c.rounded-whole.result.0 in
    let part = c.rounded-whole.result.1 in (
      v whole *ℤ v c.args.parts +ℤ v part,
      c.rounded-whole.ensures.rounded,
      rw c.from_residual.ensures (rounded_out _ _ (v whole) (v part) (v c.args.parts) _ _ c.lowest_terms-part.ensures c.in_err-numerator_of.ensures),
    )

pub returns : goal.returns
returns g c =
    let v = g.T.Integer.value in
    let whole = c.rounded-whole.result.0 in
    let part = c.rounded-whole.result.1 in (
      v whole *ℤ v c.args.parts +ℤ v part,
      c.rounded-whole.ensures.rounded,
      rounded_answer _ _ (v whole) (v part) (v c.args.parts) _ _ _ c.lowest_terms-part.ensures c.in_ok-numerator_of.ensures,
    )
