use Rattle.std.proofs.Common.{arith, refl}
use Rattle.ratio_core.proofs.Floored.{floored_below}
use Rattle.ratio_core.proofs.Following.{parts_apart}
use Rattle.ratio_core.proofs.Rounds.{round_ends, rounds_begin, rounds_end, rounds_go_on}
use Rattle.ratio_core.proofs.order.dividing.cmp_by_rounds.Goals as goal

pub rounds-init : goal.rounds-init
rounds-init g c = record { left_nonzero = c.requires.left_nonzero; right_nonzero = c.requires.right_nonzero; answers = rounds_begin _ _ _ _ _ _ _ }

pub returns-in-Some : goal.returns-in-Some
returns-in-Some g c = rounds_end c.rounds.invariant.answers c.turned.ensures c.in-Some.ensures (omega arith) (omega arith)

pub returns-in-Err : goal.returns-in-Err
returns-in-Err g c =
    let left = c.divide_left-quotient.ensures in
    let right = c.follow_right.ensures in
    let other = c.in-Err.ensures.followed in
    rounds_end c.rounds.invariant.answers c.turned-in-Err.ensures
    (round_ends _ _ _ _ _ _ _ _ _ left.floored other.floored left.below other.below _ (parts_apart _ _ _ _ _ other.apart))
    (omega (arith, left.left, right.left)) (omega (arith, left.right, right.right))

pub returns-in-Some-order_of_rests : goal.returns-in-Some-order_of_rests
returns-in-Some-order_of_rests g c =
    let left = c.divide_left-quotient.ensures in
    let right = c.in-Ok.ensures in
    rounds_end c.rounds.invariant.answers c.turned-in-Some-order_of_rests.ensures
    (round_ends _ _ _ _ _ _ _ _ _ left.floored right.followed left.below left.below _ (c.in-Some-order_of_rests.ensures _))
    (omega (arith, left.left, right.left)) (omega (arith, left.right, right.right))

pub rounds-smaller : goal.rounds-smaller
rounds-smaller g c = floored_below _ _ _ _ c.divide_left-quotient.ensures.floored

pub rounds-preserved : goal.rounds-preserved
rounds-preserved g c =
    let left = c.divide_left-quotient.ensures in
    let right = c.in-Ok.ensures in
    let rests = c.in_default-order_of_rests.ensures in
    record {
      left_nonzero = rests.0;
      right_nonzero = rests.1;
      answers = rounds_go_on c.rounds.invariant.answers left.floored right.followed left.below left.below refl rests.0 rests.1
          (omega (arith, left.left, right.left)) (omega (arith, left.right, right.right));
    }
