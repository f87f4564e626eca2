use Rattle.std.proofs.Common.{◌≡◌, ◌∙◌, ℤ, pos, ap, arith}
use Rattle.std.proofs.lemmas.Int.{ints}
use Rattle.ratio_big.specs.Fractions.{big_numbers}
use Rattle.ratio_expressions.specs.Forms.{with_zeros}
use Rattle.ratio_expressions.proofs.WholeLemmas.{whole_given}
use Rattle.ratio_expressions.proofs.replies.fields.fields_text.Goals as goal

pub returns-in-Some-eq1 : goal.returns-in-Some-eq1
returns-in-Some-eq1 c =
    let x : ℤ × ℤ = big_numbers c.args.x.now in
    let k = c.args.places in
    let short = rw c.in-Some-eq1.is at c.in_ok-short_denominator.ensures in
    let one : x.1 ≡ pos 1 = omega (arith, ints, short.1, c.in-Some-eq1.field-0-is) in
    let decimal = c.deref-in-Some-eq1-2.ensures.value ∙ c.in_ok-decimal-in-Some-eq1.ensures ∙ ap (with_zeros k) c.deref.ensures.value in
    whole_given c.with_tabs.result (λ text. text.items) x k c.in_ok-text.text.items _ _ _ one c.in_ok-text.ensures c.deref-in-Some-eq1.ensures.value decimal c.deref-in-Some-eq1-3.ensures.value c.with_tabs.ensures
