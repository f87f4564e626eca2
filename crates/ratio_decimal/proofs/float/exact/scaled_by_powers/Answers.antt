use Rattle.std.specs.Int.{w64}
use Rattle.std.proofs.Common.{arith, ◌∙◌, ap, refl}
use Rattle.ratio_integer.proofs.Halving.{odd_part_is}
use Rattle.ratio_decimal.proofs.FloatParts.{parts_lowest, zero_lowest}
use Rattle.ratio_core.proofs.SignedNumbers.{lowest_out}
use Rattle.ratio_decimal.proofs.float.exact.scaled_by_powers.Goals as goal

pub returns-then-whole-eq0 : goal.returns-then-whole-eq0
returns-then-whole-eq0 g c =
    let v = g.T.Integer.value in
    let m = g.met.T.Integer in
    zero_lowest _ _ _ _ _ _ _ _ m.range_law c.if-whole-eq0.true (ap v c.ZERO.ensures ∙ m.zero_law) (ap v c.ONE.ensures ∙ m.one_law)

pub returns-in_err-numer : goal.returns-in_err-numer
returns-in_err-numer g c =
    let v = g.T.Integer.value in
    let part = odd_part_is w64 c.args.whole (omega (arith, c.if-whole-eq0.false)) c.ranges.whole.fits in
    let is = parts_lowest c.args.is_negative _ _ _ c.args.up c.args.down _ _ part c.saturating_sub.ensures refl in
    rw c.from_residual.ensures (lowest_out {R = g.row.T.Denot × g.row.T.Denot} (λ r. v r.0) (λ r. v r.1) g.T.Integer.lo g.T.Integer.hi _ _ _ _ is (λ held. c.in_err-numer.ensures held.0))

pub returns-in_err-denom : goal.returns-in_err-denom
returns-in_err-denom g c =
    let v = g.T.Integer.value in
    let part = odd_part_is w64 c.args.whole (omega (arith, c.if-whole-eq0.false)) c.ranges.whole.fits in
    let is = parts_lowest c.args.is_negative _ _ _ c.args.up c.args.down _ _ part c.saturating_sub.ensures c.saturating_sub-2.ensures in
    rw c.from_residual-in_err-denom.ensures (lowest_out {R = g.row.T.Denot × g.row.T.Denot} (λ r. v r.0) (λ r. v r.1) g.T.Integer.lo g.T.Integer.hi _ _ _ _ is (λ held. c.in_err-denom.ensures held.1))

pub returns : goal.returns
returns g c =
    let part = odd_part_is w64 c.args.whole (omega (arith, c.if-whole-eq0.false)) c.ranges.whole.fits in
    let is = parts_lowest c.args.is_negative _ _ _ c.args.up c.args.down _ _ part c.saturating_sub.ensures c.saturating_sub-2.ensures in
    rw (c.in_ok-numer.ensures.1, c.in_ok-denom.ensures.1) (record { terms = is; numer_held = c.in_ok-numer.ensures.0; denom_held = c.in_ok-denom.ensures.0 })
