use Rattle.std.proofs.Common.{arith, rules}
use Rattle.std.specs.Prelude.{◌<◌}
use Rattle.std.proofs.lemmas.Int.{to_z-of_z}
use mir.Syntax.{w64}
use mir.Val.{SFits}
use Rattle.num_rational.specs.Reduced.{lowest_numbers}
use Rattle.ratio_uses.proofs.GearLemmas.{above_zero, as_whole}
use Rattle.ratio_uses.proofs.trains.nearest_train.Goals as goal

pub returns : goal.returns
returns c =
    let numer_fits : SFits w64 c.numer.result.now = search rules in
    let numer_fits-2 : SFits w64 c.numer-2.result.now = search rules in
    let denom_fits : SFits w64 c.denom.result.now = search rules in
    let above = rw c.numer.ensures.value at (above_zero c.numer.result.now (simp to_z-of_z at c.if-numer-lt1.false)) in
    let numer = as_whole (lowest_numbers c.args.wanted.now).0 c.unsigned_abs.result above (rw c.numer-2.ensures.value at (simp to_z-of_z at c.unsigned_abs.ensures.value)) in
    let denom = as_whole (lowest_numbers c.args.wanted.now).1 c.unsigned_abs-2.result c.args.wanted.now.lowest.positive (rw c.denom.ensures.value at (simp to_z-of_z at c.unsigned_abs-2.ensures.value)) in
    let some : 0 < c.args.least = omega (arith, c.if-least-lt1.false) in
    (above, some, rw (numer, denom) at c.nearest_pairs.ensures.nearest, rw (c.teeth-drivers.ensures.drivers, c.teeth-drivers.ensures.driven) at c.off_from.ensures)
