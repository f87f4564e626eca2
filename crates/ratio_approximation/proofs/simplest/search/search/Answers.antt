use Rattle.std.specs.Prelude.{◌+ℤ◌, pos}
use Rattle.std.proofs.Common.{◌∙◌, sym, arith}
use Rattle.std.proofs.lemmas.Bool.{iff_false}
use Rattle.std.proofs.lemmas.Int.{ints}
use Rattle.ratio_integer.proofs.Whole.{positive_nonzero}
use Rattle.ratio_integer.specs.Comparison.{no, yes}
use Rattle.ratio_approximation.proofs.NearestMoves.{above_zero, not_above_max}
use Rattle.ratio_approximation.proofs.SimplestSearch.{begun_left, begun_right, beyond_checks, beyond_is, can_move, facts, left_ended, next_searches, next_smaller, order_none, right_ended, right_stayed, room_left, steps_apart, steps_are, steps_unbounded, unbounded}
use Rattle.ratio_approximation.proofs.simplest.search.search.Goals as goal
use Rattle.ratio_approximation.proofs.simplest.search.search.Goals.{then-lt, else-lt}

pub rounds-init : goal.rounds-init
rounds-init g c =
    let m = g.met.T.Counted in
    elim c.if-lt.branch [
      | then-lt w ↦ rw (w.moving-is, w.fixed-is) (begun_right m.range_law c.both_held.ensures.first c.both_held.ensures.second c.both_held-2.ensures.first c.both_held-2.ensures.second c.requires.low c.requires.high c.requires.enclosed (yes _ (m.lt_law c.args.left.own c.args.right.other) (sym c.lt.ensures ∙ w.if-lt.true)) _ _)
      | else-lt w ↦ rw (w.moving-is, w.fixed-is) (begun_left m.range_law c.both_held.ensures.first c.both_held.ensures.second c.both_held-2.ensures.first c.both_held-2.ensures.second c.requires.low c.requires.high c.requires.enclosed (no _ (m.lt_law c.args.left.own c.args.right.other) (sym c.lt.ensures ∙ w.if-lt.false)) _ _)
    ]

pub divide_left-requires-clause-nonzero : goal.divide_left-requires-clause-nonzero
divide_left-requires-clause-nonzero g c = positive_nonzero _ (facts c.rounds.invariant.inside).f_up

pub divide_left-requires-clause-held : goal.divide_left-requires-clause-held
divide_left-requires-clause-held g c = not_above_max _ _ _ (facts c.rounds.invariant.inside).f_up

pub beyond-requires-clause-times : goal.beyond-requires-clause-times
beyond-requires-clause-times g c =
    let at = c.rounds.invariant in
    let known = facts at.inside in
    (steps_are _ _ _ _ known.o_up known.f_up c.divide_left.ensures.floored).w_up

pub returns-then-is_zero-clause-simplest : goal.returns-then-is_zero-clause-simplest
returns-then-is_zero-clause-simplest g c =
    let v = g.T.Counted.value in
    let at = c.rounds.invariant in
    let known = facts at.inside in
    let steps = steps_are _ _ _ _ known.o_up known.f_up c.divide_left.ensures.floored in
    beyond_checks v g.T.Counted.lo g.T.Counted.hi _ _ _ _ (v c.rounds.moving.numer) (v c.rounds.moving.denom) (v c.rounds.fixed.numer) (v c.rounds.fixed.denom) (v c.divide_left.result.0 +ℤ pos 1) g.met.T.Counted.range_law (beyond_is at.asked.d_up at.asked.e_up _ _ steps (unbounded _ _ _ known.t_up (c.is_zero.ensures.0 c.if-is_zero.true)) at.inside) _ c.beyond.ensures

pub returns-then-is_zero-clause-left : goal.returns-then-is_zero-clause-left
returns-then-is_zero-clause-left g c = left_ended c.rounds.invariant _ c.divide_left.ensures.left

pub returns-then-is_zero-clause-right : goal.returns-then-is_zero-clause-right
returns-then-is_zero-clause-right g c = right_stayed c.rounds.invariant _ c.divide_left.ensures.right

pub returns-then-is_zero-clause-steps : goal.returns-then-is_zero-clause-steps
returns-then-is_zero-clause-steps g c =
    let at = c.rounds.invariant in
    let known = facts at.inside in
    steps_unbounded at _ _ _ _ (steps_are _ _ _ _ known.o_up known.f_up c.divide_left.ensures.floored) (c.is_zero.ensures.0 c.if-is_zero.true) c.divide_left.ensures.left c.divide_left.ensures.right

pub times_within-room-requires-clause-gap : goal.times_within-room-requires-clause-gap
times_within-room-requires-clause-gap g c =
    let known = facts c.rounds.invariant.inside in
    above_zero _ known.c_up (iff_false c.is_zero.ensures c.if-is_zero.false)

pub beyond-requires-then-lt-2-clause-times : goal.beyond-requires-then-lt-2-clause-times
beyond-requires-then-lt-2-clause-times g c =
    let at = c.rounds.invariant in
    let known = facts at.inside in
    (steps_are _ _ _ _ known.o_up known.f_up c.divide_left.ensures.floored).w_up

pub returns-then-lt-2-clause-simplest : goal.returns-then-lt-2-clause-simplest
returns-then-lt-2-clause-simplest g c =
    let v = g.T.Counted.value in
    let at = c.rounds.invariant in
    let known = facts at.inside in
    let steps = steps_are _ _ _ _ known.o_up known.f_up c.divide_left.ensures.floored in
    let less = yes _ (g.met.T.Counted.lt_law c.divide_left.result.0 c.times_within-room.result) (sym c.lt-in-rounds.ensures ∙ c.if-lt-2.true) in
    beyond_checks v g.T.Counted.lo g.T.Counted.hi _ _ _ _ (v c.rounds.moving.numer) (v c.rounds.moving.denom) (v c.rounds.fixed.numer) (v c.rounds.fixed.denom) (v c.divide_left.result.0 +ℤ pos 1) g.met.T.Counted.range_law (beyond_is at.asked.d_up at.asked.e_up _ _ steps (room_left _ _ _ _ known.c_up steps.w_up c.times_within-room.ensures.room less) at.inside) _ c.beyond-then-lt-2.ensures

pub returns-then-lt-2-clause-left : goal.returns-then-lt-2-clause-left
returns-then-lt-2-clause-left g c = left_ended c.rounds.invariant _ (c.times_within-room.ensures.left ∙ c.divide_left.ensures.left)

pub returns-then-lt-2-clause-right : goal.returns-then-lt-2-clause-right
returns-then-lt-2-clause-right g c = right_ended c.rounds.invariant _ (let a = c.times_within-room.ensures.right in let b = c.divide_left.ensures.right in omega arith)

pub returns-then-lt-2-clause-steps : goal.returns-then-lt-2-clause-steps
returns-then-lt-2-clause-steps g c =
    let at = c.rounds.invariant in
    let known = facts at.inside in
    let some = above_zero _ known.c_up (iff_false c.is_zero.ensures c.if-is_zero.false) in
    let less = yes _ (g.met.T.Counted.lt_law c.divide_left.result.0 c.times_within-room.result) (sym c.lt-in-rounds.ensures ∙ c.if-lt-2.true) in
    steps_apart at _ _ _ _ _ (steps_are _ _ _ _ known.o_up known.f_up c.divide_left.ensures.floored) some c.times_within-room.ensures.room (λ same. omega (arith, ints)) (c.times_within-room.ensures.left ∙ c.divide_left.ensures.left) (let a = c.times_within-room.ensures.right in let b = c.divide_left.ensures.right in omega arith)

pub returns-then-lt-3-clause-simplest : goal.returns-then-lt-3-clause-simplest
returns-then-lt-3-clause-simplest g c =
    let v = g.T.Counted.value in
    let at = c.rounds.invariant in
    let known = facts at.inside in
    let steps = steps_are _ _ _ _ known.o_up known.f_up c.divide_left.ensures.floored in
    let over = yes _ (g.met.T.Counted.lt_law c.times_within-room.result c.divide_left.result.0) (sym c.lt-in-rounds-2.ensures ∙ c.if-lt-3.true) in
    let some = above_zero _ known.c_up (iff_false c.is_zero.ensures c.if-is_zero.false) in
    record { each = λ x y x_held y_held. order_none at.asked.d_up at.asked.e_up _ _ _ steps c.times_within-room.ensures.room some over at.inside x y }

pub returns-then-lt-3-clause-left : goal.returns-then-lt-3-clause-left
returns-then-lt-3-clause-left g c = left_ended c.rounds.invariant _ (c.times_within-room.ensures.left ∙ c.divide_left.ensures.left)

pub returns-then-lt-3-clause-right : goal.returns-then-lt-3-clause-right
returns-then-lt-3-clause-right g c = right_ended c.rounds.invariant _ (let a = c.times_within-room.ensures.right in let b = c.divide_left.ensures.right in omega arith)

pub returns-then-lt-3-clause-steps : goal.returns-then-lt-3-clause-steps
returns-then-lt-3-clause-steps g c =
    let at = c.rounds.invariant in
    let known = facts at.inside in
    let some = above_zero _ known.c_up (iff_false c.is_zero.ensures c.if-is_zero.false) in
    let over = yes _ (g.met.T.Counted.lt_law c.times_within-room.result c.divide_left.result.0) (sym c.lt-in-rounds-2.ensures ∙ c.if-lt-3.true) in
    steps_apart at _ _ _ _ _ (steps_are _ _ _ _ known.o_up known.f_up c.divide_left.ensures.floored) some c.times_within-room.ensures.room (λ same. omega (arith, ints)) (c.times_within-room.ensures.left ∙ c.divide_left.ensures.left) (let a = c.times_within-room.ensures.right in let b = c.divide_left.ensures.right in omega arith)

pub stepped-next-requires : goal.stepped-next-requires
stepped-next-requires g c =
    let at = c.rounds.invariant in
    let known = facts at.inside in
    let law = g.met.T.Counted.lt_law in
    let some = above_zero _ known.c_up (iff_false c.is_zero.ensures c.if-is_zero.false) in
    let more = no _ (law c.divide_left.result.0 c.times_within-room.result) (sym c.lt-in-rounds.ensures ∙ c.if-lt-2.false) in
    let less = no _ (law c.times_within-room.result c.divide_left.result.0) (sym c.lt-in-rounds-2.ensures ∙ c.if-lt-3.false) in
    can_move at _ _ _ some c.divide_left.ensures.floored c.times_within-room.ensures.room more less

pub rounds-smaller : goal.rounds-smaller
rounds-smaller g c =
    let at = c.rounds.invariant in
    let known = facts at.inside in
    let law = g.met.T.Counted.lt_law in
    let some = above_zero _ known.c_up (iff_false c.is_zero.ensures c.if-is_zero.false) in
    let more = no _ (law c.divide_left.result.0 c.times_within-room.result) (sym c.lt-in-rounds.ensures ∙ c.if-lt-2.false) in
    let less = no _ (law c.times_within-room.result c.divide_left.result.0) (sym c.lt-in-rounds-2.ensures ∙ c.if-lt-3.false) in
    next_smaller at _ _ _ some c.divide_left.ensures.floored c.times_within-room.ensures.room more less _ _ c.stepped-next.ensures.own c.stepped-next.ensures.other

pub rounds-preserved : goal.rounds-preserved
rounds-preserved g c =
    let at = c.rounds.invariant in
    let known = facts at.inside in
    let law = g.met.T.Counted.lt_law in
    let some = above_zero _ known.c_up (iff_false c.is_zero.ensures c.if-is_zero.false) in
    let more = no _ (law c.divide_left.result.0 c.times_within-room.result) (sym c.lt-in-rounds.ensures ∙ c.if-lt-2.false) in
    let less = no _ (law c.times_within-room.result c.divide_left.result.0) (sym c.lt-in-rounds-2.ensures ∙ c.if-lt-3.false) in
    let next = c.stepped-next.ensures in
    next_searches at _ _ _ some c.divide_left.ensures.floored c.times_within-room.ensures.room more less _ _ _ _ _ _ next.numer next.denom next.own next.other (c.times_within-room.ensures.left ∙ c.divide_left.ensures.left) (let a = c.times_within-room.ensures.right in let b = c.divide_left.ensures.right in omega arith)
