use Rattle.std.proofs.Common.{ap, subst, sym, ◌∙◌}
use Rattle.std.specs.Prelude.{◌<ℤ◌, pos}
use Rattle.num_rational.proofs.CommonLemmas.{total_more, total_none}
use Rattle.num_rational.proofs.splitting.total_over.Goals as goal

pub loop-i-init : goal.loop-i-init
loop-i-init g c =
    let T = g.T.Integer in
    total_none g.S.Share.two_numbers T.lo T.hi (T.value c.args.amount) c.args.shares.now (T.value c.ZERO-sum.result) (T.value c.ONE-common.result) (ap T.value c.ZERO-sum.ensures ∙ g.met.T.Integer.zero_law) (ap T.value c.ONE-common.ensures ∙ g.met.T.Integer.one_law)

pub joined-requires-clause-share : goal.joined-requires-clause-share
joined-requires-clause-share g c =
    let view = g.S.Share.two_numbers in
    subst (λ x. pos 0 <ℤ (view x).1) (sym c.index-shares-i.is) (c.requires.positive c.loop-i.i c.index-shares-i.result c.loop-i-test.true)

pub loop-i-preserved : goal.loop-i-preserved
loop-i-preserved g c =
    let T = g.T.Integer in
    total_more g.S.Share.two_numbers T.lo T.hi (T.value c.args.amount) c.args.shares.now c.loop-i.i (T.value c.loop-i.sum) (T.value c.loop-i.common) c.index-shares-i.result (T.value c.in-Some.next.0) (T.value c.in-Some.next.1)
    c.requires.positive c.requires.none_below c.loop-i-test.true c.index-shares-i.is c.loop-i.invariant c.in-Some.ensures.0 c.in-Some.ensures.1 g.met.T.Integer.range_law c.held.ensures.range c.both_held.ensures.first c.both_held.ensures.second
