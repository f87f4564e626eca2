use Rattle.ratio_core.proofs.ReducingLemmas.{difference_of_lowest}
use Rattle.ratio_core.proofs.sums.unreduced_sums.checked_sub.Goals as goal

pub returns : goal.returns
returns g c =
    let v = g.T.Integer.value in
    difference_of_lowest (λ r. v r.0) (λ r. v r.1) g.T.Integer.lo g.T.Integer.hi (v c.args.a) (v c.args.b) (v c.args.c) (v c.args.d)
    (v c.lowest_terms-n.result.0) (v c.lowest_terms-n.result.1) (v c.lowest_terms-p.result.0) (v c.lowest_terms-p.result.1) c.checked_sub-2.result
    c.requires.left_positive c.requires.right_positive c.lowest_terms-n.ensures c.lowest_terms-p.ensures c.checked_sub-2.ensures
