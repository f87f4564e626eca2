use Rattle.std.specs.Prelude.{◌≡◌, ℤ}
use Rattle.std.proofs.Common.{arith, subst, sym}
use Rattle.std.proofs.lemmas.Int.{ints}
use mir.Val.{to_z, of_z}
use mir.Syntax.{w64}
use Rattle.ratio_c.specs.Totals.{GoesOver}
use Rattle.ratio_c.proofs.TotalSteps.{one_more}
use Rattle.ratio_c.proofs.totals.go.Goals as goal

pub loop-i-preserved : goal.loop-i-preserved
loop-i-preserved g c =
    let next : to_z w64 (of_z w64 c.in-Ok.next) ≡ c.in-Ok.next = omega (arith, ints) in
    let goes = subst (λ (k : ℤ). GoesOver c.args.way (g.I.Brings.brings c.index-asked-i.result) (c.loop-i.slots, to_z w64 c.loop-i.count-bits) (c.step.new.slots, k)) (sym next) c.in-Ok.ensures.goes in
    one_more g.I.Brings.brings c.args.way _ c.args.asked.now c.loop-i.i c.index-asked-i.result (c.loop-i.slots, to_z w64 c.loop-i.count-bits) (c.step.new.slots, to_z w64 (of_z w64 c.in-Ok.next))
    (omega (arith, c.loop-i-test.true)) c.index-asked-i.is c.loop-i.invariant goes
