use Rattle.std.proofs.Common.{refl, ◌∙◌, ◌+◌, ap, length}
use Rattle.std.specs.Fmt.{formatter_spec, sign_text_with}
use Rattle.core.proofs.fmt.Output.{has_written_styled_append, has_written_styled_of_eq}
use Rattle.ratio_decimal.proofs.LongLemmas.{front_text}
use Rattle.ratio_decimal.proofs.long.write_front.Goals as goal

pub returns-clause-styled : goal.returns-clause-styled
returns-clause-styled g c = λ flush.
    let w = c.in_ok-write_times.ensures flush refl in
    let x = c.in_ok-write_str.ensures.styled w.flush refl in
    let y = c.in_ok-write_times-2.ensures x.flush refl in
    let sign = c.sign_of-sign.ensures ∙ ap (λ plus. sign_text_with plus c.args.below) c.sign_plus.ensures.value in
    has_written_styled_of_eq _ _ _ _ _
    (front_text (formatter_spec c.args.f.now) c.args.below (c.args.whole + c.args.places) c.room_left-padding.result c.sides-before.result.0 c.sides-before.result.1 c.fill-fill.result c.sign_of-sign.result.now
    (c.room_left-padding.ensures c.args.below (ap length sign))
    c.sides-before.ensures.fill c.sides-before.ensures.zeros c.fill-fill.ensures sign)
    (has_written_styled_append _ _ _ _ _ _ (has_written_styled_append _ _ _ _ _ _ w x) y)
