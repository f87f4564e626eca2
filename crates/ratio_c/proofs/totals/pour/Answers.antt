use Rattle.std.specs.Prelude.{◌≡◌, ℤ, get_or, pos}
use Rattle.std.proofs.Common.{arith, refl, rules, subst}
use Rattle.std.proofs.lemmas.Int.{ints}
use mir.Val.{to_z, of_z}
use mir.Syntax.{w64}
use Rattle.ratio_c.specs.Totals.{AddsCount, GoUntil, piece_of_slot}
use Rattle.ratio_c.specs.declared.totals.Total64.{Total64}
use Rattle.ratio_c.proofs.Cases.{where_held}
use Rattle.ratio_c.proofs.TotalSteps.{first_item}
use Rattle.ratio_c.proofs.totals.pour.Goals as goal

pub returns : goal.returns
returns c =
    let none : Total64 = record { code = 0; done = 0; count = pos 0 } in
    let from : Total64 = get_or c.args.total.now 0 none in
    let count : to_z w64 (of_z w64 (get_or c.args.total.now 0 none).count) ≡ (get_or c.args.total.now 0 none).count = search rules in
    let more : to_z w64 (of_z w64 c.args.more) ≡ c.args.more = omega (arith, ints) in
    where_held c.if-total-ne1.false (
      refl,
      first_item _ c.args.total.now none c.with_count.result c.if-total-ne1.false (record {
        through = c.go.result;
        each = subst (λ (k : ℤ). GoUntil piece_of_slot c.args.way c.args.asked.now (c.args.slots.now, k) c.go.new.slots c.go.result) count c.go.ensures;
        counted = subst (λ (k : ℤ). AddsCount c.args.way k c.go.result c.with_count.result) more c.with_count.ensures;
      }),
    )
