use Rattle.std.specs.Prelude.{◌≤ℤ◌, ◌<ℤ◌, pos, take}
use Rattle.std.proofs.Common.{ap, arith, subst, sym, ◌∙◌}
use Rattle.ratio_integer.specs.Arithmetic.{sum_of}
use Rattle.ratio_integer.proofs.Whole.{mul_positive}
use Rattle.ratio_core.proofs.LawLemmas.{same_value_sums}
use Rattle.num_rational.specs.Split.{IsNextMark, MarkFits, share_numbers, total_of_shares}
use Rattle.num_rational.proofs.SplitLemmas.{mark_answered, mark_fits_moved, mark_moved, next_part_held, split_more, split_none, split_whole, total_next}
use Rattle.num_rational.proofs.splitting.write_parts.Goals as goal

pub loop-i-init : goal.loop-i-init
loop-i-init g c =
    let T = g.T.Integer in
    split_none g.S.Share.two_numbers T.value (T.value c.args.amount) c.args.shares.now c.args.parts.now (share_numbers c.zero-sum.result) (T.value c.ZERO-mark.result) c.zero-sum.ensures.0 (ap T.value c.ZERO-mark.ensures ∙ g.met.T.Integer.zero_law)

pub unwrap-next-requires : goal.unwrap-next-requires
unwrap-next-requires g c =
    let T = g.T.Integer in
    let sum = share_numbers c.loop-i.sum in
    let view = g.S.Share.two_numbers in
    let share = view c.index-shares-i.result in
    let low = share_numbers c.lowest.result in
    let before = total_of_shares view (take c.loop-i.i c.args.shares.now) in
    let positive : pos 0 <ℤ share.1 = subst (λ x. pos 0 <ℤ (view x).1) (sym c.index-shares-i.is) (c.requires.positive c.loop-i.i c.index-shares-i.result c.loop-i-test.true) in
    let same = same_value_sums before.0 before.1 share.0 share.1 sum.0 sum.1 low.0 low.1 c.loop-i.invariant.same (c.lowest.ensures positive).same in
    let next = total_next view c.args.shares.now c.loop-i.i c.index-shares-i.result c.loop-i-test.true c.index-shares-i.is in
    mark_answered (T.value c.args.amount) (sum_of sum.0 sum.1 low.0 low.1) c.next_mark.result
    (mark_fits_moved T.lo T.hi (T.value c.args.amount) (sum_of before.0 before.1 share.0 share.1) (sum_of sum.0 sum.1 low.0 low.1)
    (mul_positive before.1 share.1 c.loop-i.invariant.up positive)
    (mul_positive sum.1 low.1 c.loop-i.sum.lowest.positive c.lowest.result.lowest.positive)
    (sym same)
    (subst (MarkFits T.lo T.hi (T.value c.args.amount)) next (c.requires.can.fit c.loop-i.i c.loop-i-test.true)))
    c.next_mark.ensures

pub minus-requires : goal.minus-requires
minus-requires g c =
    let T = g.T.Integer in
    let sum = share_numbers c.loop-i.sum in
    let view = g.S.Share.two_numbers in
    let share = view c.index-shares-i.result in
    let low = share_numbers c.lowest.result in
    let before = total_of_shares view (take c.loop-i.i c.args.shares.now) in
    let positive : pos 0 <ℤ share.1 = subst (λ x. pos 0 <ℤ (view x).1) (sym c.index-shares-i.is) (c.requires.positive c.loop-i.i c.index-shares-i.result c.loop-i-test.true) in
    let same = same_value_sums before.0 before.1 share.0 share.1 sum.0 sum.1 low.0 low.1 c.loop-i.invariant.same (c.lowest.ensures positive).same in
    let above : pos 0 ≤ℤ share.0 = subst (λ x. pos 0 ≤ℤ (view x).0) (sym c.index-shares-i.is) (c.requires.can.none_below c.loop-i.i c.index-shares-i.result c.loop-i-test.true) in
    let marked : IsNextMark T.lo T.hi (T.value c.args.amount) (sum_of before.0 before.1 share.0 share.1) (share_numbers c.unwrap-next.result.0) (T.value c.unwrap-next.result.1) =
    mark_moved T.lo T.hi (T.value c.args.amount) (sum_of sum.0 sum.1 low.0 low.1) (sum_of before.0 before.1 share.0 share.1)
    (mul_positive sum.1 low.1 c.loop-i.sum.lowest.positive c.lowest.result.lowest.positive)
    (mul_positive before.1 share.1 c.loop-i.invariant.up positive)
    same (share_numbers c.unwrap-next.result.0) (T.value c.unwrap-next.result.1)
    (rw c.unwrap-next.ensures at c.next_mark.ensures) in
    next_part_held view T.value (T.value c.args.amount) c.args.shares.now c.loop-i.parts c.loop-i.i sum (T.value c.loop-i.mark) c.index-shares-i.result (share_numbers c.unwrap-next.result.0) (T.value c.unwrap-next.result.1) c.loop-i.mark
    c.loop-i-test.true (omega arith) c.index-shares-i.is c.loop-i.invariant positive above marked.value.same marked.rounded T.lo T.hi g.met.T.Integer.range_law marked.held

pub loop-i-preserved : goal.loop-i-preserved
loop-i-preserved g c =
    let T = g.T.Integer in
    let sum = share_numbers c.loop-i.sum in
    let view = g.S.Share.two_numbers in
    let share = view c.index-shares-i.result in
    let low = share_numbers c.lowest.result in
    let before = total_of_shares view (take c.loop-i.i c.args.shares.now) in
    let positive : pos 0 <ℤ share.1 = subst (λ x. pos 0 <ℤ (view x).1) (sym c.index-shares-i.is) (c.requires.positive c.loop-i.i c.index-shares-i.result c.loop-i-test.true) in
    let same = same_value_sums before.0 before.1 share.0 share.1 sum.0 sum.1 low.0 low.1 c.loop-i.invariant.same (c.lowest.ensures positive).same in
    let above : pos 0 ≤ℤ share.0 = subst (λ x. pos 0 ≤ℤ (view x).0) (sym c.index-shares-i.is) (c.requires.can.none_below c.loop-i.i c.index-shares-i.result c.loop-i-test.true) in
    let marked : IsNextMark T.lo T.hi (T.value c.args.amount) (sum_of before.0 before.1 share.0 share.1) (share_numbers c.unwrap-next.result.0) (T.value c.unwrap-next.result.1) =
    mark_moved T.lo T.hi (T.value c.args.amount) (sum_of sum.0 sum.1 low.0 low.1) (sum_of before.0 before.1 share.0 share.1)
    (mul_positive sum.1 low.1 c.loop-i.sum.lowest.positive c.lowest.result.lowest.positive)
    (mul_positive before.1 share.1 c.loop-i.invariant.up positive)
    same (share_numbers c.unwrap-next.result.0) (T.value c.unwrap-next.result.1)
    (rw c.unwrap-next.ensures at c.next_mark.ensures) in
    split_more view T.value (T.value c.args.amount) c.args.shares.now c.loop-i.parts c.loop-i.i sum (T.value c.loop-i.mark) c.index-shares-i.result (share_numbers c.unwrap-next.result.0) (T.value c.unwrap-next.result.1) c.minus.result
    c.loop-i-test.true (omega arith) c.index-shares-i.is c.loop-i.invariant positive above marked.value.same marked.rounded c.minus.ensures

pub returns : goal.returns
returns g c =
    let T = g.T.Integer in
    split_whole g.S.Share.two_numbers T.value (T.value c.args.amount) c.args.shares.now c.loop-i.parts c.loop-i.i (share_numbers c.loop-i.sum) _ (omega arith) (omega arith) c.requires.can.one c.loop-i.invariant
