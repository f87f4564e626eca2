use Rattle.ratio_big.specs.Fractions.{big_numbers}
use Rattle.ratio_expressions.proofs.MixedLemmas.{mixed_written}
use Rattle.ratio_expressions.proofs.replies.mixed.mixed_text.Goals as goal

pub returns : goal.returns
returns c = mixed_written c.parts_text.result (λ text. text.items) (big_numbers c.args.x.now) (big_numbers c.in_ok-whole.whole) (big_numbers c.in_ok-rest.rest) _ _
    c.in_ok-whole.ensures.truncation c.in_ok-rest.ensures.part c.is_zero.ensures c.if-is_zero.false c.is_zero-else-is_zero.ensures c.if-is_zero-2.false
    c.in_ok-whole.ensures.whole c.in_ok-rest.ensures.denom c.parts_text.ensures
