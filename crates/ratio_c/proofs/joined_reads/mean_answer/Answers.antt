use Rattle.std.specs.Prelude.{◌≡◌, ◌<ℤ◌, ℤ, pos}
use Rattle.std.proofs.Common.{arith, subst, sym}
use Rattle.std.proofs.lemmas.Int.{ints}
use mir.Val.{to_z, of_z}
use mir.Syntax.{w64}
use Rattle.ratio_slots.specs.Joined.{joined_pair}
use Rattle.ratio_slots.specs.LowestSum.{ChecksPairMean}
use Rattle.ratio_c.proofs.Cases.{where_held}
use Rattle.ratio_c.proofs.Narrowing.{mean_checked, short_said}
use Rattle.ratio_c.proofs.joined_reads.mean_answer.Goals as goal

pub returns-in-Ok : goal.returns-in-Ok
returns-in-Ok c =
    let pair = joined_pair c.read_in.result.digits c.args.room.now in
    let positive : pos 0 <ℤ c.args.count = omega (arith, ints, c.if-count-le0.false) in
    let same : to_z w64 (of_z w64 c.args.count) ≡ c.args.count = omega (arith, ints) in
    let checks = subst (λ (k : ℤ). ChecksPairMean pair k c.in-Ok.mean) same c.in-Ok.ensures.mean in
    where_held positive (rw (sym c.read_in.ensures) (where_held c.in-Ok.ensures.accepted
    (short_said _ _ c.narrowed.result _ (mean_checked pair c.args.count c.in-Ok.mean positive checks) c.narrowed.ensures c.checked.ensures)))
