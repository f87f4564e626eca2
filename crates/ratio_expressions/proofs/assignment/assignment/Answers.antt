use Rattle.std.proofs.Common.{rules, refl, arith}
use Rattle.std.proofs.lemmas.Bool.Decides.{nat_tests}
use Rattle.ratio_expressions.specs.declared.step.Step.{Step}
use Rattle.ratio_expressions.specs.declared.step.Step.TheVariants as steps
use Rattle.ratio_expressions.proofs.Assigning.{gives_name, gives_none}
use Rattle.ratio_expressions.proofs.assignment.assignment.Goals as goal
use Rattle.ratio_expressions.proofs.assignment.assignment.Goals.{in_default-via-then-steps-lt2, in_default-via-in-Name+else-is_whole, in_default-via-else-steps-lt2+in-Name+in-Apply+in-Less-1, in_default-via-else-steps-lt2+in-Name+in-Number-1, in_default-via-else-steps-lt2+in-Number-1}

-- a step, where a list has none
abbrev no_step : Step
no_step = steps.Number (record { start = 0; end = 0 })

pub returns-in-Name : goal.returns-in-Name
returns-in-Name c =
    gives_name c.args.steps.now no_step c.in-Name.name (omega arith) (search rules) (search rules) (c.if-is_whole.ensures.0 refl)

pub returns-in_default : goal.returns-in_default
returns-in_default c =
    let xs = c.args.steps.now in
    elim c.in_default.branch [
      | in_default-via-then-steps-lt2 w ↦ gives_none xs no_step (λ n some first sign whole. grind (arith, nat_tests))
      | in_default-via-in-Name+else-is_whole w ↦ gives_none xs no_step (λ n some first sign whole. let is = w.if-is_whole.ensures.1 whole in cc)
      | in_default-via-else-steps-lt2+in-Name+in-Apply+in-Less-1 w ↦ gives_none xs no_step (λ n some first sign whole. search rules)
      | in_default-via-else-steps-lt2+in-Name+in-Number-1 w ↦ gives_none xs no_step (λ n some first sign whole. search rules)
      | in_default-via-else-steps-lt2+in-Number-1 w ↦ gives_none xs no_step (λ n some first sign whole. search rules)
    ]
