use Rattle.std.specs.Int.RustNames.{FitsSigned}
use Rattle.std.proofs.Common.{rules}
use Rattle.std.proofs.lemmas.Int.{to_z-of_z}
use mir.Syntax.{w128}
use Rattle.num_rational.specs.Ratio.{denominator, numerator}
use Rattle.num_rational.specs.Reduced.{ratio_in}
use Rattle.ratio_totals.specs.Values.{pair_of}
use Rattle.ratio_totals.proofs.ItemLemmas.{pair_positive}
use Rattle.ratio_totals.proofs.ListSumLemmas.{quick_checked}
use Rattle.ratio_totals.proofs.list_sums.checked_sum_in.Goals as goal

pub returns-in-Some-clause-sum : goal.returns-in-Some-clause-sum
returns-in-Some-clause-sum g c =
    let fits : FitsSigned w128 c.in-Some.numer = search rules in
    quick_checked pair_of pair_positive numerator denominator g.T.Integer.lo g.T.Integer.hi c.args.items.now c.in-Some.numer c.in-Some.denom (ratio_in c.reduced.result) c.in-Some.ensures
    (rw (to_z-of_z w128 c.in-Some.numer fits) at c.reduced.ensures)
