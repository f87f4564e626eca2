use Rattle.std.specs.Prelude.{◌≤ℤ◌, ◌<ℤ◌}
use Rattle.std.proofs.Common.{sym, ◌∙◌}
use Rattle.ratio_integer.specs.Comparison.{Tells, no}
use Rattle.num_rational.specs.Split.{share_numbers}
use Rattle.num_rational.proofs.CommonLemmas.{sum_over_moved, sum_over_none}
use Rattle.num_rational.proofs.splitting.joined.Goals as goal

pub returns-then-is_zero : goal.returns-then-is_zero
returns-then-is_zero g c =
    let T = g.T.Integer in
    (sum_over_none (T.value c.args.sum) (T.value c.args.common) (g.S.Share.two_numbers c.args.share.now) c.requires.common (sym c.numer.ensures ∙ c.is_zero.ensures.0 c.if-is_zero.true), c.requires.sum)

pub returns : goal.returns
returns g c =
    let T = g.T.Integer in
    let next = T.value c.in_ok-next.next in
    let over = T.value c.in_ok-next.over in
    let tells : Tells c.lt.result (over <ℤ next) (next ≤ℤ over) = rw c.lt.ensures (g.met.T.Integer.lt_law c.in_ok-next.over c.in_ok-next.next) in
    (sum_over_moved (T.value c.args.sum) (T.value c.args.common) next over (g.S.Share.two_numbers c.args.share.now) (share_numbers c.lowest-lowest.result) c.requires.common (c.lowest-lowest.ensures c.requires.share) c.in_ok-next.ensures, no c.lt.result tells c.if-lt.false)
