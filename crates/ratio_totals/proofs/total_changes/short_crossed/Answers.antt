use Rattle.std.specs.Prelude.{◌*ℤ◌, ◌^◌, ◌<◌, unsigned_abs}
use Rattle.std.specs.Int.RustNames.{FitsSigned}
use Rattle.std.proofs.Common.{arith, rules}
use Rattle.std.proofs.lemmas.Int.{fits_signed_from_abs, to_z-of_z}
use mir.Syntax.{w128}
use Rattle.ratio_natural.specs.Number.{base}
use Rattle.ratio_totals.proofs.ProductLemmas.{product_short, short_own}
use Rattle.ratio_totals.proofs.total_changes.short_crossed.Goals as goal

pub returns : goal.returns
returns c =
    let numer = c.args.p *ℤ c.args.s in
    let short : unsigned_abs numer < 2 ^ 64 = product_short c.args.p c.args.s c.unsigned_abs.result c.unsigned_abs-2.result c.in_ok-short_times.field-0
    (rw (to_z-of_z w128 c.args.p c.ranges.p) at c.unsigned_abs.ensures.value) (rw (to_z-of_z w128 c.args.s c.ranges.s) at c.unsigned_abs-2.ensures.value) c.in_ok-short_times.ensures (search rules) in
    let fits : FitsSigned w128 numer = fits_signed_from_abs w128 numer (omega (arith, short)) in
    rw (to_z-of_z w128 c.args.p c.ranges.p, to_z-of_z w128 c.args.s c.ranges.s, to_z-of_z w128 numer fits, c.in_ok-denom.ensures)
    (short_own base numer _ c.requires.lowest short (rw (← c.in_ok-denom.ensures) (search rules)))
