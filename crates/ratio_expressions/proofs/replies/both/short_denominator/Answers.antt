use Rattle.std.proofs.Common.{◌∙◌}
use Rattle.ratio_big.specs.Forms.{HasOneForm}
use Rattle.ratio_expressions.proofs.DenominatorLemmas.{not_one_digit}
use Rattle.ratio_expressions.proofs.replies.both.short_denominator.Goals as goal

pub returns : goal.returns
returns c =
    let kept : HasOneForm c.args.x.now.form = c.args.x.now.kept in
    not_one_digit _ _ _ c.in_ok-digits.ensures.count c.in_ok-digits.ensures.value kept.lowest.positive (λ one. c.if-len-eq1.false (c.len.ensures ∙ one))
