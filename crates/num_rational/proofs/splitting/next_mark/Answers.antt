use Rattle.ratio_integer.specs.Arithmetic.{sum_of}
use Rattle.ratio_integer.proofs.Whole.{mul_positive}
use Rattle.ratio_core.proofs.SumLemmas.{fits_by}
use Rattle.num_rational.specs.Split.{share_numbers}
use Rattle.num_rational.proofs.SplitLemmas.{mark_is, mark_out}
use Rattle.num_rational.proofs.splitting.next_mark.Goals as goal

pub returns-in_err-sum : goal.returns-in_err-sum
returns-in_err-sum g c = rw c.from_residual.ensures (λ fits. c.in_err-sum.ensures fits.sum)

pub returns-in_err-mark : goal.returns-in_err-mark
returns-in_err-mark g c =
    let T = g.T.Integer in
    let sum = share_numbers c.args.sum.now in
    let share = share_numbers c.args.share.now in
    let up = mul_positive sum.1 share.1 c.args.sum.now.lowest.positive c.args.share.now.lowest.positive in
    let is = c.in_err-mark.ensures in
    rw c.from_residual-in_err-mark.ensures (mark_out T.lo T.hi (T.value c.args.amount) (sum_of sum.0 sum.1 share.0 share.1) (share_numbers c.in_ok-sum.sum) up c.in_ok-sum.ensures.terms is.0 is.1 is.2)

pub returns : goal.returns
returns g c =
    let T = g.T.Integer in
    let sum = share_numbers c.args.sum.now in
    let share = share_numbers c.args.share.now in
    let up = mul_positive sum.1 share.1 c.args.sum.now.lowest.positive c.args.share.now.lowest.positive in
    let is = c.in_ok-mark.ensures in
    mark_is T.lo T.hi (T.value c.args.amount) (sum_of sum.0 sum.1 share.0 share.1) (share_numbers c.in_ok-sum.sum) up c.in_ok-sum.ensures.terms is.0 (T.value c.in_ok-mark.mark)
    (fits_by _ _ _ _ (share_numbers c.in_ok-sum.sum).0 (share_numbers c.in_ok-sum.sum).1 c.in_ok-sum.ensures) is.1 is.2
