use Rattle.std.proofs.Common.{◌≡◌, ◌∙◌, List, [], ◌∷◌, ◌++◌, Option, Some, get_or, length, map, reverse, sym, subst, ap, arith}
use Rattle.std.specs.Option.{option_to_list}
use Rattle.std.proofs.lemmas.List.{length-reverse, length-map, reverse-append}
use Rattle.std.proofs.lemmas.Result.{err_from_is_err_and}
use Rattle.ratio_expressions.specs.declared.step.Step.{Step}
use Rattle.ratio_expressions.specs.declared.step.Step.TheVariants as steps
use Rattle.ratio_expressions.specs.Bound.{named}
use Rattle.ratio_expressions.specs.Stacks.{FailsWith, StopsAtStep, worths}
use Rattle.ratio_expressions.specs.declared.refusal.ValueError.TheVariants.{Refused}
use Rattle.ratio_expressions.specs.Worths.{Worth, worth}
use Rattle.ratio_expressions.specs.Values.{IsWorth}
use Rattle.ratio_expressions.specs.declared.value.Value.{Value}
use Rattle.ratio_expressions.proofs.Running.{IsRunning, starts, has_enough, goes_on, stops, ends}
use Rattle.ratio_expressions.proofs.evaluation.value_of_steps.Goals as goal

-- a step, where a list has none
abbrev no_step : Step
no_step = steps.Number (record { start = 0; end = 0 })

-- the only value of a stack is the one that is taken from it
last_worth : (stack left : List Value) (o : Option Value) (v : Value) (w : Worth) → stack ≡ left ++ option_to_list o → o ≡ Some v → worths stack ≡ w ∷ [] → w ≡ worth v
last_worth stack left o v w e some one =
    let here : stack ≡ left ++ v ∷ [] = e ∙ ap (λ x. left ++ option_to_list x) some in
    let first : worths (left ++ v ∷ []) ≡ worth v ∷ worths left = ap (map worth) (reverse-append left (v ∷ [])) in
    let same : w ∷ [] ≡ worth v ∷ worths left = sym one ∙ ap worths here ∙ first in
    cc

pub loop-step-init : goal.loop-step-init
loop-step-init c =
    subst (λ (l : List _). IsRunning c.args.text.now (named c.args.names.now) c.args.steps.now 0 (worths l)) (sym c.new-stack.ensures.items)
    (starts c.args.text.now (named c.args.names.now) c.requires.tree.tree c.args.steps.now c.requires.tree.proper c.requires.tree.single c.requires.tree.same)

pub take-requires-clause-enough : goal.take-requires-clause-enough
take-requires-clause-enough c =
    omega (
      arith,
      has_enough c.args.text.now (named c.args.names.now) c.args.steps.now c.loop-step.step-index (worths c.loop-step.stack.items) no_step c.loop-step.invariant c.loop-step-test.true,
      length-map (reverse c.loop-step.stack.items) worth,
      length-reverse c.loop-step.stack.items,
    )

pub returns-in_err-take-clause-refusal : goal.returns-in_err-take-clause-refusal
returns-in_err-take-clause-refusal c = λ r e t same.
    let p = err_from_is_err_and c.from_residual.result c.from_residual.ensures.1 in
    let is : c.in_err-take.field-0.0 ≡ Refused r = cc in
    let step : Step = get_or c.args.steps.now c.loop-step.step-index no_step in
    let ws = worths c.loop-step.stack.items in
    let stop : StopsAtStep c.args.text.now (named c.args.names.now) step ws r = subst (FailsWith (StopsAtStep c.args.text.now (named c.args.names.now) step ws)) is c.in_err-take.ensures in
    stops c.args.text.now (named c.args.names.now) c.args.steps.now c.loop-step.step-index ws no_step c.loop-step.invariant c.loop-step-test.true r stop t same

pub loop-step-preserved : goal.loop-step-preserved
loop-step-preserved c = goes_on c.args.text.now (named c.args.names.now) c.args.steps.now c.loop-step.step-index (worths c.loop-step.stack.items) no_step c.loop-step.invariant c.loop-step-test.true (worths c.take.new.stack.items) c.in_ok-take.ensures

pub unwrap-requires : goal.unwrap-requires
unwrap-requires c =
    let items = c.loop-step.stack.items in
    let q = ends c.args.text.now (named c.args.names.now) c.args.steps.now c.loop-step.step-index (worths items) c.loop-step.invariant c.loop-step-test.false c.requires.tree.tree c.requires.tree.same in
    c.pop.ensures.variant.1 (omega (arith, ap length q.1, length-map (reverse items) worth, length-reverse items))

pub returns-clause-value : goal.returns-clause-value
returns-clause-value c = λ t same.
    let q = ends c.args.text.now (named c.args.names.now) c.args.steps.now c.loop-step.step-index (worths c.loop-step.stack.items) c.loop-step.invariant c.loop-step-test.false t same in
    let last = last_worth c.loop-step.stack.items c.pop.new.self.items c.pop.result c.unwrap.result q.0 c.pop.ensures.items c.unwrap.ensures q.1 in
    subst (IsWorth c.args.text.now (named c.args.names.now) t) last q.2
