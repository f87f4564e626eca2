use Rattle.std.specs.Prelude.{◌<ℤ◌, pos}
use Rattle.std.proofs.Common.{rules, arith}
use Rattle.std.proofs.lemmas.Int.{ints}
use mir.Facts.{to_z-of_z}
use mir.Syntax.{w128}
use mir.Val.{SFits}
use Rattle.ratio_slots.proofs.LowestSumLemmas.{count_cast}
use Rattle.ratio_slots.proofs.ShortSumLemmas.{short_mean_is}
use Rattle.ratio_slots.proofs.short_sums.short_mean.Goals as goal

pub returns : goal.returns
returns c =
    let counted : pos 0 <ℤ c.args.count = omega (arith, ints, c.if-count-le0.false) in
    let held : SFits w128 c.in_ok-numer.numer = search rules in
    rw (to_z-of_z held)
    (short_mean_is c.args.slots.now c.args.count _ c.in_ok-numer.denom _ _ c.in_ok-numer.ensures counted (count_cast c.args.count (search rules) counted) c.in_ok-product.ensures.1 c.if-product.false)
