use Rattle.std.specs.Prelude.{◌≡◌, ◌+ℤ◌, ◌*ℤ◌}
use Rattle.std.proofs.Common.{ap, subst, ◌∙◌}
use Rattle.ratio_integer.specs.Fraction.{IsLowestTermsOf}
use Rattle.num_rational.specs.Split.{share_numbers}
use Rattle.num_rational.proofs.CommonLemmas.{no_rest, sum_over_apart, sum_over_same}
use Rattle.num_rational.proofs.splitting.added.Goals as goal

pub returns-then-is_zero : goal.returns-then-is_zero
returns-then-is_zero g c =
    let T = g.T.Integer in
    let low = share_numbers c.args.share.now in
    let times = T.value c.div_rem-times.result.0 in
    let exact : times *ℤ low.1 ≡ T.value c.args.common = subst (λ z. times *ℤ z ≡ T.value c.args.common) c.denom-denom.ensures.value
    (no_rest (T.value c.args.common) (T.value c.denom-denom.result.now) times _ c.div_rem-times.ensures.quotient c.div_rem-times.ensures.remainder (c.is_zero.ensures.0 c.if-is_zero.true)) in
    sum_over_same (T.value c.args.sum) (T.value c.args.common) low.0 low.1 times (T.value c.in_ok-try_plus.field-0) c.requires exact
    (c.in_ok-try_plus.ensures.1 ∙ ap (λ z. T.value c.args.sum +ℤ z) (c.in_ok-try_times.ensures.1 ∙ ap (λ z. z *ℤ times) c.numer-numer.ensures.value))

pub returns : goal.returns
returns g c =
    let T = g.T.Integer in
    let low = share_numbers c.args.share.now in
    let for_share = T.value c.lowest_terms-for_share.result.0 in
    let for_sum = T.value c.lowest_terms-for_share.result.1 in
    let reduced = subst (λ z. IsLowestTermsOf (T.value c.args.common) z for_share for_sum) c.denom-denom.ensures.value c.lowest_terms-for_share.ensures.terms in
    sum_over_apart (T.value c.args.sum) (T.value c.args.common) low.0 low.1 for_share for_sum (T.value c.in_ok-left.left) (T.value c.in_ok-right.right) (T.value c.in_ok-try_plus-2.field-0) (T.value c.in_ok-try_times-2.field-0) c.requires reduced
    c.in_ok-left.ensures.1 (c.in_ok-right.ensures.1 ∙ ap (λ z. z *ℤ for_share) c.numer-numer.ensures.value) c.in_ok-try_plus-2.ensures.1 c.in_ok-try_times-2.ensures.1
