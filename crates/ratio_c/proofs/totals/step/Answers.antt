use Rattle.std.specs.Prelude.{◌≡◌}
use Rattle.std.proofs.Common.{arith, ◌∙◌}
use Rattle.std.proofs.lemmas.Int.{ints}
use mir.Val.{to_z, of_z}
use mir.Syntax.{w64, w128}
use Rattle.ratio_c.proofs.TotalSteps.{count_stops, piece_went}
use Rattle.ratio_c.proofs.totals.step.Goals as goal

pub returns-in_default-counted-clause-stopped : goal.returns-in_default-counted-clause-stopped
returns-in_default-counted-clause-stopped g c =
    let count : to_z w64 (of_z w64 c.args.count) ≡ c.args.count = omega (arith, ints) in
    let more : to_z w64 (of_z w64 c.in-Some.piece.count) ≡ c.in-Some.piece.count = omega (arith, ints) in
    count_stops c.args.way _ c.in-Some.piece (c.args.slots.now, c.args.count) _ _ c.in-Some.ensures c.if-piece-eq0.false count more c.in_default-counted.ensures

pub returns-in-Ok-clause-goes : goal.returns-in-Ok-clause-goes
returns-in-Ok-clause-goes g c =
    let count : to_z w64 (of_z w64 c.args.count) ≡ c.args.count = omega (arith, ints) in
    let more : to_z w64 (of_z w64 c.in-Some.piece.count) ≡ c.in-Some.piece.count = omega (arith, ints) in
    let next : to_z w64 (of_z w64 c.in-Some-counted.next) ≡ c.in-Some-counted.next = omega (arith, ints) in
    let numer : to_z w128 (of_z w128 c.in-Some-way_of.numer) ≡ c.in-Some-way_of.numer = omega (arith, ints) in
    let brought : to_z w128 (of_z w128 c.in-Some.piece.numer) ≡ c.in-Some.piece.numer = omega (arith, ints) in
    piece_went c.args.way _ c.in-Some.piece (c.args.slots.now, c.args.count) c.put_loose.new.slots _ _ _ _ _ c.in-Some.ensures c.if-piece-eq0.false
    (numer ∙ c.in-Some-way_of.ensures) brought (next ∙ c.in-Some-counted.ensures) count more c.in-Ok.ensures.slot c.in-Ok.ensures.numerators c.in-Ok.ensures.sum
