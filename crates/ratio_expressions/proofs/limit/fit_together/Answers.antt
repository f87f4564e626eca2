use Rattle.std.proofs.Common.{arith, refl}
use Rattle.ratio_expressions.proofs.LimitLemmas.{next_fits, next_stops, none_left}
use Rattle.ratio_expressions.proofs.limit.fit_together.Goals as goal

pub loop-next-init : goal.loop-next-init
loop-next-init c = (((λ h. h), (λ h. h)), omega arith)

pub loop-next-preserved : goal.loop-next-preserved
loop-next-preserved c =
    let small = c.loop-next.invariant.1 in
    let step = next_fits c.args.numbers.now c.loop-next.next c.index-numbers-next.result c.in_ok-own.own c.loop-next.left c.loop-next-test.true c.index-numbers-next.is c.in_ok-own.ensures small c.if-left-own.false in
    (((λ h. step.0 (c.loop-next.invariant.0.0 h)), (λ h. c.loop-next.invariant.0.1 (step.1 h))), omega arith)

pub returns-then-left-own : goal.returns-then-left-own
returns-then-left-own c = (
  λ h. absurd (cc),
  λ h. absurd (next_stops c.args.numbers.now c.loop-next.next c.index-numbers-next.result c.in_ok-own.own c.loop-next.left c.loop-next-test.true c.index-numbers-next.is c.in_ok-own.ensures c.if-left-own.true (c.loop-next.invariant.0.0 h)),
)

pub returns : goal.returns
returns c = ((λ h. c.loop-next.invariant.0.1 (none_left c.args.numbers.now c.loop-next.next c.loop-next.left c.loop-next-test.false)), (λ h. refl))
