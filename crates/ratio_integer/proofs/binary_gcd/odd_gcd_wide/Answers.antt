-- Written by templates/write from templates/odd_gcd_answers.antt.txt: change that file, and write this one anew.
use Rattle.std.proofs.Common.{arith, refl}
use Rattle.ratio_integer.proofs.Halving.{odd_ended, odd_one, odd_step}
use Rattle.ratio_integer.proofs.binary_gcd.odd_gcd_wide.Goals as goal

pub steps-preserved : goal.steps-preserved
steps-preserved c = odd_step _ _ _ _ _ _ _ _ c.steps.invariant c.min-x.ensures refl c.odd_distance_wide-rest.ensures.1

pub returns-else-x-ne1 : goal.returns-else-x-ne1
returns-else-x-ne1 c = rw c.if-x-ne1.false (odd_one _ _ _ _ c.steps.invariant (omega arith))

pub returns-after-steps : goal.returns-after-steps
returns-after-steps c = odd_ended _ _ _ _ c.steps.invariant (omega arith)
