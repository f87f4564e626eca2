use Rattle.std.proofs.Common.{◌≡◌, ◌≢◌, ◌∙◌, ◌<◌, ◌+◌, arith, length, sym, subst, map}
use Rattle.std.proofs.lemmas.Result.{IfOk-weaker}
use Rattle.ratio_big.specs.Fractions.{big_numbers}
use Rattle.ratio_big.specs.declared.fraction.BigFraction.{BigFraction}
use Rattle.ratio_expressions.specs.Functions.{IsExtreme}
use Rattle.ratio_expressions.proofs.CallLemmas.{IsBest, best_extreme, best_first, best_kept, best_taken, order, other_side, same_side}
use Rattle.ratio_expressions.proofs.calls.extreme.Goals as goal
use Rattle.ratio_expressions.proofs.calls.extreme.Goals.{then-eq, else-eq}

pub loop-next-init : goal.loop-next-init
loop-next-init c = (best_first c.args.side c.requires.side c.args.numbers.now, omega (arith, c.requires.some))

pub loop-next-preserved : goal.loop-next-preserved
loop-next-preserved c =
    let xs = c.args.numbers.now in
    let n = c.loop-next.next in
    let at = c.loop-next.at in
    let x = c.index-numbers-next.result in
    let y = c.index-numbers-at.result in
    let keeps = best_kept c.args.side c.requires.side xs n at x y c.loop-next-test.true c.loop-next.invariant.1 c.index-numbers-next.is c.index-numbers-at.is c.loop-next.invariant.0 in
    let takes = best_taken c.args.side c.requires.side xs n at x y c.loop-next-test.true c.loop-next.invariant.1 c.index-numbers-next.is c.index-numbers-at.is c.loop-next.invariant.0 in
    elim c.if-eq.branch [
      | then-eq w ↦
          let beyond = sym c.in_ok-compare.ensures.order ∙ same_side c.in_ok-compare.field-0 c.args.side (sym c.eq.ensures ∙ w.if-eq.true) in
          (subst (IsBest c.args.side xs (n + 1)) (sym w.at-is) (takes beyond), subst (λ m. m < length xs) (sym w.at-is) c.loop-next-test.true)
      | else-eq w ↦
          let other : order x y ≢ c.args.side = λ e. other_side c.in_ok-compare.field-0 c.args.side (sym c.eq.ensures ∙ w.if-eq.false) (c.in_ok-compare.ensures.order ∙ e) in
          (subst (IsBest c.args.side xs (n + 1)) (sym w.at-is) (keeps other), subst (λ m. m < length xs) (sym w.at-is) c.loop-next.invariant.1)
    ]

pub returns : goal.returns
returns c =
    IfOk-weaker c.copy.result (λ (r : BigFraction). big_numbers r ≡ big_numbers c.index-numbers-at-2.result) (λ (r : BigFraction). IsExtreme c.args.side (map big_numbers c.args.numbers.now) (big_numbers r))
    (λ r same. best_extreme c.args.side c.args.numbers.now c.loop-next.next c.loop-next.at c.index-numbers-at-2.result (big_numbers r) c.loop-next.invariant.1 c.index-numbers-at-2.is same c.loop-next-test.false c.loop-next.invariant.0)
    c.copy.ensures.same
