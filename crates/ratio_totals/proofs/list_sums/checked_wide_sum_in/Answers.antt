use Rattle.num_rational.specs.Ratio.{denominator, numerator}
use Rattle.num_rational.specs.Reduced.{ratio_in}
use Rattle.ratio_totals.specs.Values.{pair_of, sum_of_items, wide_value_of}
use Rattle.ratio_totals.proofs.ItemLemmas.{items_positive, pair_positive}
use Rattle.ratio_totals.proofs.ListSumLemmas.{result_moved}
use Rattle.ratio_totals.proofs.list_sums.checked_wide_sum_in.Goals as goal

pub returns-clause-sum : goal.returns-clause-sum
returns-clause-sum g c =
    let total = c.in_ok-total.total in
    result_moved numerator denominator g.T.Integer.lo g.T.Integer.hi (wide_value_of total) (sum_of_items pair_of c.args.items.now) (ratio_in c.in-Ok.sum) total.kept.holds.small.some
    (items_positive pair_of pair_positive c.args.items.now) c.in_ok-total.ensures.sum c.in-Ok.ensures.sum
