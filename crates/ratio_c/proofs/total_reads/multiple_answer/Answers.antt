use Rattle.std.specs.Prelude.{◌≡◌, ◌<ℤ◌, ℤ, nat_abs, pos}
use Rattle.std.proofs.Common.{ap, arith, inl, ◌∙◌}
use Rattle.std.proofs.lemmas.Int.{ints}
use mir.Syntax.{w64}
use mir.Val.{of_z, to_z}
use Rattle.ratio_slots.specs.Sums.{sum_of_slots}
use Rattle.ratio_c.specs.Numbers64.{said64}
use Rattle.ratio_c.proofs.Cases.{where_held}
use Rattle.ratio_c.proofs.Narrowing.{magnitude_above, multiple_said}
use Rattle.ratio_c.proofs.total_reads.multiple_answer.Goals as goal

pub returns-in-Ok : goal.returns-in-Ok
returns-in-Ok c =
    let positive : pos 0 <ℤ c.args.parts = omega (arith, ints, c.if-parts-le0.false) in
    let same : to_z w64 (of_z w64 c.args.parts) ≡ c.args.parts = omega (arith, ints) in
    let parts = ap (λ (z : ℤ). pos (nat_abs z)) same ∙ magnitude_above c.args.parts positive in
    where_held positive (
    where_held c.in-Some.ensures.0 (inl (
      c.in-Ok.ensures.room,
      multiple_said c.in-Some.rounding c.args.rule _ c.args.parts (sum_of_slots c.args.slots.now) c.in-Ok.multiple c.narrowed.result (said64 c.checked.result) c.in-Some.ensures.1 parts c.in-Ok.ensures.multiple c.narrowed.ensures c.checked.ensures,
    )))
