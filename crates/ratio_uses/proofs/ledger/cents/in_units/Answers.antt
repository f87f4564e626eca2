use Rattle.std.proofs.Common.{rules}
use Rattle.std.proofs.lemmas.Int.{to_z-of_z}
use mir.Syntax.{w128, w64}
use mir.Val.{SFits}
use Rattle.ratio_uses.proofs.CentLemmas.{cast_told, fits_wider, wide_fits}
use Rattle.ratio_uses.proofs.ledger.cents.in_units.Goals as goal

pub returns-in_err-checked_new : goal.returns-in_err-checked_new
returns-in_err-checked_new c =
    let unit_fits : SFits w64 c.args.unit_parts = c.ranges.unit_parts in
    let unit_wide : SFits w128 c.args.unit_parts = wide_fits c.args.unit_parts unit_fits in
    let count_fits : SFits w128 c.args.count = c.ranges.count in
    let out = simp to_z-of_z at c.in_err-checked_new.ensures in
    rw c.from_residual.ensures (λ fits. out (fits_wider (c.args.count, c.args.unit_parts) fits))

pub returns : goal.returns
returns c =
    let unit_fits : SFits w64 c.args.unit_parts = c.ranges.unit_parts in
    let unit_wide : SFits w128 c.args.unit_parts = wide_fits c.args.unit_parts unit_fits in
    let count_fits : SFits w128 c.args.count = c.ranges.count in
    let low = simp to_z-of_z at c.in_ok-checked_new.ensures in
    cast_told (c.args.count, c.args.unit_parts) c.in_ok-checked_new.field-0 c.cast.result low.terms c.cast.ensures
