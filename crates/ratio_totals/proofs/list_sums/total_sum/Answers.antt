use Rattle.ratio_slots.proofs.MergeSums.{sum_positive}
use Rattle.num_rational.specs.Ratio.{denominator, numerator}
use Rattle.num_rational.specs.Reduced.{ratio_in}
use Rattle.ratio_totals.specs.Values.{pair_of, sum_of_items, value_of}
use Rattle.ratio_totals.proofs.ItemLemmas.{items_positive, pair_positive}
use Rattle.ratio_totals.proofs.ListSumLemmas.{long_items, result_moved}
use Rattle.ratio_totals.proofs.list_sums.total_sum.Goals as goal

pub returns-in-Err-TooLong-clause-refused : goal.returns-in-Err-TooLong-clause-refused
returns-in-Err-TooLong-clause-refused g c =
    let refused = rw c.in-Err-TooLong.field-0-is at c.in-Err-TooLong.ensures.refused in
    long_items pair_of c.args.items.now _ _ c.in-Ok.ensures.held refused.1

pub returns-in-Ok-sum-clause-sum : goal.returns-in-Ok-sum-clause-sum
returns-in-Ok-sum-clause-sum g c =
    result_moved numerator denominator g.T.Integer.lo g.T.Integer.hi (value_of c.in-Ok.total) (sum_of_items pair_of c.args.items.now) (ratio_in c.in-Ok-sum.sum) (sum_positive c.in-Ok.total.slots.now)
    (items_positive pair_of pair_positive c.args.items.now) c.in-Ok.ensures.sum c.in-Ok-sum.ensures.sum
