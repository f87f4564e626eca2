use Rattle.std.proofs.Common.{◌-◌, ◌+◌, arith, sym, subst, take}
use Rattle.std.proofs.lemmas.Bool.Decides.{nat_tests}
use Rattle.ratio_expressions.specs.declared.step.Step.{Step}
use Rattle.ratio_expressions.specs.declared.step.Step.TheVariants as steps
use Rattle.ratio_expressions.proofs.Counting.{HasTrees, goes_on, too_few, whole}
use Rattle.ratio_expressions.proofs.assignment.is_whole.Goals as goal

-- a step, where a list has none
abbrev no_step : Step
no_step = steps.Number (record { start = 0; end = 0 })

pub returns-then-trees-taken : goal.returns-then-trees-taken
returns-then-trees-taken c = (
  λ h. absurd (cc),
  λ a. absurd (too_few c.args.steps.now c.loop-step.step-index c.loop-step.trees no_step c.loop-step-test.true c.loop-step.invariant.0 (omega (arith, c.operands_of-taken.ensures)) a),
)

pub loop-step-preserved : goal.loop-step-preserved
loop-step-preserved c = (
  subst (λ k. HasTrees (take (c.loop-step.step-index + 1) c.args.steps.now) (c.loop-step.trees - k + 1)) (sym c.operands_of-taken.ensures)
      (goes_on c.args.steps.now c.loop-step.step-index c.loop-step.trees no_step c.loop-step-test.true c.loop-step.invariant.0 (omega (arith, c.operands_of-taken.ensures))),
  omega (arith, c.loop-step.invariant.1),
)

pub returns : goal.returns
returns c =
    let w = whole c.args.steps.now c.loop-step.trees c.loop-step.step-index c.loop-step-test.false c.loop-step.invariant.0 in
    (λ h. w.0 (grind (arith, nat_tests)), λ a. let one = w.1 a in grind (arith, nat_tests))
