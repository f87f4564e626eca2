use Rattle.std.specs.Prelude.{◌≡◌, ℤ, length}
use Rattle.std.proofs.Common.{arith, refl, subst}
use Rattle.std.proofs.lemmas.Int.{ints}
use mir.Val.{to_z, of_z}
use mir.Syntax.{w64}
use Rattle.ratio_c.specs.Numbers64.{said64}
use Rattle.ratio_c.specs.TotalMultiples.{IsMultipleOfTotal}
use Rattle.ratio_c.proofs.Cases.{where_held}
use Rattle.ratio_c.proofs.TotalSteps.{only_answer}
use Rattle.ratio_c.proofs.total_reads.ratio_total_round_to_i64.Goals as goal

pub returns : goal.returns
returns c =
    let same : to_z w64 (of_z w64 c.args.parts) ≡ c.args.parts = omega (arith, ints) in
    let multiple = subst (λ (k : ℤ). IsMultipleOfTotal c.args.slots.now k c.args.rule (length c.args.room.now) (said64 c.multiple_answer.result)) same c.multiple_answer.ensures in
    where_held c.if-answers-ne1.false (refl, only_answer _ _ _ c.if-answers-ne1.false multiple)
