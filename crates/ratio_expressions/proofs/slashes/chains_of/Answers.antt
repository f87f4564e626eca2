use Rattle.std.proofs.Common.{arith}
use Rattle.ratio_expressions.specs.declared.step.Step.{Step}
use Rattle.ratio_expressions.specs.declared.step.Step.TheVariants as steps
use Rattle.ratio_expressions.proofs.ChainLemmas.{ends, goes_on, has_enough, starts}
use Rattle.ratio_expressions.proofs.slashes.chains_of.Goals as goal

-- a step, where a list has none
abbrev no_step : Step
no_step = steps.Number (record { start = 0; end = 0 })

pub loop-step-init : goal.loop-step-init
loop-step-init c = rw (c.new-parts.ensures.items, c.new-chains.ensures.items) (starts c.args.steps.now c.requires)

pub take_step-requires : goal.take_step-requires
take_step-requires c =
    omega (arith, has_enough c.args.steps.now c.loop-step.step-index c.loop-step.parts.items c.loop-step.chains.items no_step c.loop-step.invariant c.loop-step-test.true)

pub loop-step-preserved : goal.loop-step-preserved
loop-step-preserved c =
    goes_on c.args.steps.now c.loop-step.step-index c.loop-step.parts.items c.loop-step.chains.items no_step c.loop-step.invariant c.loop-step-test.true
    c.take_step.new.parts.items c.take_step.new.chains.items c.in_ok-take_step.ensures.parts c.in_ok-take_step.ensures.chains

pub returns : goal.returns
returns c = λ t e. ends c.args.steps.now c.loop-step.step-index c.loop-step.parts.items c.loop-step.chains.items c.loop-step.invariant c.loop-step-test.false t e
