use Rattle.num_rational.specs.Reduced.{lowest_numbers}
use Rattle.num_rational.proofs.RunningSums.{sum_halved}
use Rattle.ratio_uses.proofs.callers.mean.Goals as goal

pub returns : goal.returns
returns c = sum_halved (lowest_numbers c.args.left.now) (lowest_numbers c.args.right.now) (lowest_numbers c.in_ok-checked_add.field-0) c.checked_div.result c.in_ok-checked_add.ensures c.checked_div.ensures
