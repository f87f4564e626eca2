use Rattle.ratio_core.proofs.PowerLoop.{PowersSoFar, both_begun, both_even, both_last, both_odd, both_start, factors_out, squares_out}
use Rattle.ratio_core.proofs.pow.try_powers.Goals as goal
use Rattle.ratio_core.proofs.pow.try_powers.Goals.{then-exponent-eq1, else-exponent-eq1, then-left-eq1+in_ok-power, else-left-eq1}

pub bits-init : goal.bits-init
bits-init g c =
    let v = g.T.Integer.value in
    let n = v c.args.n in
    let d = v c.args.d in
    elim c.if-exponent-eq1.branch [
      | then-exponent-eq1 w ↦ rw w.power-is (both_begun n d c.args.exponent w.if-exponent-eq1.true)
      | else-exponent-eq1 w ↦ rw (w.power-is, w.ONE.ensures, w.ONE-else-exponent-eq1.ensures, g.met.T.Integer.one_law) (both_even n d c.args.exponent _ _ n d c.args.exponent (both_start n d c.args.exponent) w.if-exponent-eq1.false)
    ]

pub returns-in_err-square : goal.returns-in_err-square
returns-in_err-square g c = rw c.from_residual.ensures (squares_out _ _ _ _ _ _ _ _ _ _ g.met.T.Integer.range_law c.bits.invariant c.bits-test.true c.in_err-square.ensures)

pub returns-in_err-power : goal.returns-in_err-power
returns-in_err-power g c =
    let v = g.T.Integer.value in
    let now : PowersSoFar (v c.args.n) (v c.args.d) c.args.exponent (v c.bits.power.0) (v c.bits.power.1) (v c.in_ok-square.square.0) (v c.in_ok-square.square.1) c.bits.left = rw (c.in_ok-square.ensures.1.0, c.in_ok-square.ensures.1.1) c.bits.invariant in
    rw c.from_residual-in_err-power.ensures (factors_out _ _ _ _ _ _ _ _ _ _ g.met.T.Integer.range_law now c.if-left-eq1.true c.in_err-power.ensures)

pub bits-preserved : goal.bits-preserved
bits-preserved g c =
    let v = g.T.Integer.value in
    let now : PowersSoFar (v c.args.n) (v c.args.d) c.args.exponent (v c.bits.power.0) (v c.bits.power.1) (v c.in_ok-square.square.0) (v c.in_ok-square.square.1) c.bits.left = rw (c.in_ok-square.ensures.1.0, c.in_ok-square.ensures.1.1) c.bits.invariant in
    elim c.if-left-eq1.branch [
      | then-left-eq1+in_ok-power w ↦ rw w.power-is (both_odd _ _ _ _ _ _ _ _ _ _ now w.if-left-eq1.true w.in_ok-power.ensures.1.0 w.in_ok-power.ensures.1.1)
      | else-left-eq1 w ↦ rw w.power-is (both_even _ _ _ _ _ _ _ _ now w.if-left-eq1.false)
    ]

pub returns : goal.returns
returns g c = both_last _ _ _ _ _ _ _ _ _ _ c.bits.invariant c.bits-test.false c.both_held.ensures.first c.both_held.ensures.second
