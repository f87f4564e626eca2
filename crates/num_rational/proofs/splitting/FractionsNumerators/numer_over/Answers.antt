use Rattle.std.specs.Prelude.{◌≡◌, ◌*ℤ◌, int_div}
use Rattle.std.proofs.Common.{ap, sym, ◌∙◌}
use Rattle.num_rational.specs.Split.{share_numbers}
use Rattle.num_rational.proofs.CommonLemmas.{exact_by, multiple_of_low, numer_held, numer_is, numer_none}
use Rattle.num_rational.proofs.splitting.FractionsNumerators.numer_over.Goals as goal

pub returns-then-is_zero : goal.returns-then-is_zero
returns-then-is_zero g c =
    let T = g.T.Integer in
    numer_none (T.value c.args.common) (T.value c.ZERO.result) (g.S.Share.two_numbers c.args.share.now) (sym c.numer.ensures ∙ c.is_zero.ensures.0 c.if-is_zero.true) (ap T.value c.ZERO.ensures ∙ g.met.T.Integer.zero_law)

pub times-requires : goal.times-requires
times-requires g c =
    let T = g.T.Integer in
    let common = T.value c.args.common in
    let share = g.S.Share.two_numbers c.args.share.now in
    let low = share_numbers c.lowest-lowest.result in
    let is = c.lowest-lowest.ensures c.requires.share.up in
    let times = T.value c.div_rem-times.result.0 in
    let exact : times *ℤ low.1 ≡ common = exact_by common low.1 times (multiple_of_low common share low c.requires.common c.requires.share.whole is) (c.div_rem-times.ensures.quotient ∙ ap (int_div common) c.denom.ensures.value) in
    rw c.numer-2.ensures.value (numer_held common share low times c.requires.common c.requires.share is exact T.lo T.hi g.met.T.Integer.range_law c.held.ensures.range)

pub returns : goal.returns
returns g c =
    let T = g.T.Integer in
    let common = T.value c.args.common in
    let share = g.S.Share.two_numbers c.args.share.now in
    let low = share_numbers c.lowest-lowest.result in
    let is = c.lowest-lowest.ensures c.requires.share.up in
    let times = T.value c.div_rem-times.result.0 in
    let exact : times *ℤ low.1 ≡ common = exact_by common low.1 times (multiple_of_low common share low c.requires.common c.requires.share.whole is) (c.div_rem-times.ensures.quotient ∙ ap (int_div common) c.denom.ensures.value) in
    numer_is common share low times c.requires.common c.requires.share is exact (T.value c.times.result) (c.times.ensures ∙ ap (λ z. z *ℤ times) c.numer-2.ensures.value)
