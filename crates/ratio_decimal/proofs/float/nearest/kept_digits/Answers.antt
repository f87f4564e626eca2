use Rattle.std.proofs.Common.{arith}
use Rattle.ratio_decimal.proofs.FloatRounding.{beside_half, odd_byte, one_at_most, tie_more, tie_whole}
use Rattle.ratio_decimal.proofs.float.nearest.kept_digits.Goals.{then-rest-half+then-is_more, then-rest-half+else-is_more, else-rest-half}
use Rattle.ratio_decimal.proofs.float.nearest.kept_digits.Goals as goal

pub returns-clause-nearest : goal.returns-clause-nearest
returns-clause-nearest c f n d place D fits is =
    let cut = c.cut-kept.ensures in
    elim c.if-rest-half.branch [
      | then-rest-half+then-is_more w ↦ rw (w.is_up-is, w.if-is_more.true) (tie_more n D fits cut (rw w.if-is_more.true at is) w.if-rest-half.true)
      | then-rest-half+else-is_more w ↦ rw (w.is_up-is, odd_byte c.cut-kept.result.0) (tie_whole n D fits cut (rw w.if-is_more.false at is) w.if-rest-half.true)
      | else-rest-half w ↦ rw w.is_up-is (beside_half n D fits cut _ is w.if-rest-half.false)
    ]

pub returns-clause-small : goal.returns-clause-small
returns-clause-small c = omega (arith, c.cut-kept.ensures.above, one_at_most c.if-rest-half.is_up)
