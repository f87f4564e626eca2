use Rattle.std.specs.Prelude.{◌≡◌, ◌<ℤ◌, ℤ, pos}
use Rattle.std.proofs.Common.{arith, inl, subst}
use Rattle.std.proofs.lemmas.Int.{ints}
use mir.Val.{to_z, of_z}
use mir.Syntax.{w64}
use Rattle.ratio_slots.specs.LowestSum.{ChecksMeanOfSlots}
use Rattle.ratio_slots.specs.Sums.{sum_of_slots}
use Rattle.ratio_c.proofs.Cases.{where_held}
use Rattle.ratio_c.proofs.Narrowing.{mean_checked, short_said}
use Rattle.ratio_c.proofs.total_reads.mean_answer.Goals as goal

pub returns-in-Ok : goal.returns-in-Ok
returns-in-Ok c =
    let positive : pos 0 <ℤ c.args.count = omega (arith, ints, c.if-count-le0.false) in
    let same : to_z w64 (of_z w64 c.args.count) ≡ c.args.count = omega (arith, ints) in
    let checks = subst (λ (k : ℤ). ChecksMeanOfSlots c.args.slots.now k c.in-Ok.mean) same c.in-Ok.ensures.mean in
    where_held positive (inl (
      c.in-Ok.ensures.room,
      short_said _ _ c.narrowed.result _ (mean_checked (sum_of_slots c.args.slots.now) c.args.count c.in-Ok.mean positive checks) c.narrowed.ensures c.checked.ensures,
    ))
