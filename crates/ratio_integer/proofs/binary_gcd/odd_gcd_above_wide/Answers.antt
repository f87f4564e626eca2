-- Written by templates/write from templates/odd_gcd_answers.antt.txt: change that file, and write this one anew.
use Rattle.std.proofs.Common.{arith, refl}
use Rattle.ratio_integer.proofs.Halving.{odd_at_most, odd_bounded, odd_ended, odd_one, odd_step}
use Rattle.ratio_integer.proofs.binary_gcd.odd_gcd_above_wide.Goals as goal
use Rattle.ratio_integer.proofs.binary_gcd.odd_gcd_above_wide.Goals.{in-None, in-Some}

pub steps-preserved : goal.steps-preserved
steps-preserved c = odd_step _ _ _ _ _ _ _ _ c.steps.invariant c.min-x.ensures refl c.odd_distance_wide-rest.ensures.1

pub returns : goal.returns
returns c = odd_ended _ _ _ _ c.steps.invariant (omega arith)

pub returns-then-bound-eq0 : goal.returns-then-bound-eq0
returns-then-bound-eq0 c = odd_one _ _ _ _ c.steps.invariant (omega arith)

pub returns-else-bound-eq0 : goal.returns-else-bound-eq0
returns-else-bound-eq0 c = odd_at_most _ _ _ _ _ c.steps.invariant (omega arith)

pub returns-then-y : goal.returns-then-y
returns-then-y c = elim c.match-odd_gcd_above.branch [
  | in-None w ↦ rw w.result-is (odd_bounded _ _ _ _ _ c.steps.invariant w.in-None.ensures)
  | in-Some w ↦ rw w.result-is (c.steps.invariant.same _ w.in-Some.ensures)
]
