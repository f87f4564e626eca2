use Rattle.std.proofs.Common.{arith}
use Rattle.std.proofs.lemmas.Grind.{common_steps}
use Rattle.ratio_slots.specs.Growth.{LeavesZeros}
use Rattle.ratio_slots.proofs.GrowthLemmas.{same_without_zeros}
use Rattle.ratio_slots.proofs.SumsAgree.{sums_agree}
use Rattle.ratio_slots.proofs.growth.leave_zeros.Goals as goal

pub returns-clause-numerators : goal.returns-clause-numerators
returns-clause-numerators c =
    let told : LeavesZeros c.args.slots.now c.leaving.slots c.leaving.left = grind (arith, common_steps) in same_without_zeros _ _ _ told

pub returns-clause-sum : goal.returns-clause-sum
returns-clause-sum c =
    let told : LeavesZeros c.args.slots.now c.leaving.slots c.leaving.left = grind (arith, common_steps) in
    record { same = sums_agree c.args.slots.now c.leaving.slots (same_without_zeros _ _ _ told) }
