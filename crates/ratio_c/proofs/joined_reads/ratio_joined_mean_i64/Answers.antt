use Rattle.std.specs.Prelude.{◌≡◌, ℤ}
use Rattle.std.proofs.Common.{arith, refl, subst}
use Rattle.std.proofs.lemmas.Int.{ints}
use mir.Val.{to_z, of_z}
use mir.Syntax.{w64}
use Rattle.ratio_c.specs.JoinedReads.{IsMeanOfJoined}
use Rattle.ratio_c.specs.Numbers64.{said64}
use Rattle.ratio_c.proofs.Cases.{where_held}
use Rattle.ratio_c.proofs.TotalSteps.{only_answer}
use Rattle.ratio_c.proofs.joined_reads.ratio_joined_mean_i64.Goals as goal

pub returns : goal.returns
returns c =
    let same : to_z w64 (of_z w64 c.args.count) ≡ c.args.count = omega (arith, ints) in
    let mean = subst (λ (k : ℤ). IsMeanOfJoined c.args.digits k c.args.room.now (said64 c.mean_answer.result)) same c.mean_answer.ensures in
    where_held c.if-answers-ne1.false (refl, only_answer _ _ _ c.if-answers-ne1.false mean)
