use Rattle.std.specs.Prelude.{◌≡◌, ◌<ℤ◌, ◌+ℤ◌, ℤ, pos}
use Rattle.std.proofs.Common.{◌∙◌, refl, sym, ap, arith, inl, inr}
use Rattle.std.proofs.lemmas.Int.{ints}
use Rattle.std.proofs.lemmas.Bool.{iff_false}
use Rattle.ratio_integer.specs.Comparison.{no, yes}
use Rattle.ratio_approximation.specs.Nearest.{IsNearest}
use Rattle.ratio_approximation.proofs.NearestChoice.{nearest_exact}
use Rattle.ratio_approximation.proofs.NearestCounting.{gone_begun, gone_more, left_ended, never, once, right_ended, steps_ended, steps_none}
use Rattle.ratio_approximation.proofs.NearestLawLemmas.{nearest_lowest}
use Rattle.ratio_approximation.proofs.NearestMoves.{IsAsked, above_zero, after, begun, can_compare, can_move, not_above_max, fixed_is, last_nearest, moving_gap_held, moving_numer_held, room_fits, room_held, room_passed, room_used, room_within, smaller, steps_are, turned, whole_within}
use Rattle.ratio_approximation.proofs.nearest.nearest_counted.Goals as goal

pub divide_left-requires-clause-held : goal.divide_left-requires-clause-held
divide_left-requires-clause-held g c = not_above_max _ _ _ c.requires.positive

pub returns-then-is_zero : goal.returns-then-is_zero
returns-then-is_zero g c =
    let v = g.T.Counted.value in
    let m = g.met.T.Counted in
    let asked : IsAsked g.T.Counted.lo g.T.Counted.hi (v c.args.n) (v c.args.d) (v c.args.most) = record { range = m.range_law; n_held = c.both_held.ensures.first; d_held = c.both_held.ensures.second; most_held = c.held.ensures.range; positive = c.requires.positive; room = c.requires.room } in
    let one : v c.ONE.result ≡ pos 1 = ap v c.ONE.ensures ∙ m.one_law in
    let is = nearest_exact _ _ _ c.requires.positive _ _ _ _ _ _ (turned (begun asked _ _ _ _ _ _ one one refl refl c.divide_left.ensures.floored)) (c.is_zero.ensures.0 c.if-is_zero.true) in
    record { nearest = is; lowest = nearest_lowest _ _ _ _ _ is; steps = steps_none _ _ _ _ _ _ _ _ _ c.divide_left.ensures.left c.divide_left.ensures.right c.divide_left.ensures.floored (c.is_zero.ensures.0 c.if-is_zero.true); left = (1, c.divide_left.ensures.left, once _ (let up = c.requires.positive in omega (arith, ints))); right = (0, (let same = c.divide_left.ensures.right in omega arith), never _) }

pub plus-requires : goal.plus-requires
plus-requires g c =
    let v = g.T.Counted.value in
    let m = g.met.T.Counted in
    let asked : IsAsked g.T.Counted.lo g.T.Counted.hi (v c.args.n) (v c.args.d) (v c.args.most) = record { range = m.range_law; n_held = c.both_held.ensures.first; d_held = c.both_held.ensures.second; most_held = c.held.ensures.range; positive = c.requires.positive; room = c.requires.room } in
    let one : v c.ONE-3.result ≡ pos 1 = ap v c.ONE-3.ensures ∙ m.one_law in
    let around = begun asked _ _ _ _ _ _ one one (ap (λ (t : ℤ). v c.divide_left.result.0 +ℤ t) one) refl c.divide_left.ensures.floored in
    moving_numer_held asked around (above_zero _ (fixed_is asked around).gap_up (iff_false c.is_zero.ensures c.if-is_zero.false))

pub minus-requires : goal.minus-requires
minus-requires g c =
    let v = g.T.Counted.value in
    let m = g.met.T.Counted in
    let asked : IsAsked g.T.Counted.lo g.T.Counted.hi (v c.args.n) (v c.args.d) (v c.args.most) = record { range = m.range_law; n_held = c.both_held.ensures.first; d_held = c.both_held.ensures.second; most_held = c.held.ensures.range; positive = c.requires.positive; room = c.requires.room } in
    moving_gap_held asked (begun asked _ _ _ _ _ _ refl refl refl refl c.divide_left.ensures.floored)

pub steps-init : goal.steps-init
steps-init g c =
    let v = g.T.Counted.value in
    let m = g.met.T.Counted in
    let asked : IsAsked g.T.Counted.lo g.T.Counted.hi (v c.args.n) (v c.args.d) (v c.args.most) = record { range = m.range_law; n_held = c.both_held.ensures.first; d_held = c.both_held.ensures.second; most_held = c.held.ensures.range; positive = c.requires.positive; room = c.requires.room } in
    let one : v c.ONE-2.result ≡ pos 1 = ap v c.ONE-2.ensures ∙ m.one_law in
    let next : v c.ONE-3.result ≡ pos 1 = ap v c.ONE-3.ensures ∙ m.one_law in
    let other : v c.ONE-4.result ≡ pos 1 = ap v c.ONE-4.ensures ∙ m.one_law in
    let around = begun asked _ _ _ _ _ _ one other (c.plus.ensures ∙ ap (λ (t : ℤ). v c.divide_left.result.0 +ℤ t) next) c.minus.ensures c.divide_left.ensures.floored in
    record {
      asked = asked;
      around = around;
      gone = gone_begun _ _ _ _ _ _ _ _ _ _ _ _ c.divide_left.ensures.left c.divide_left.ensures.right c.requires.positive c.divide_left.ensures.floored (iff_false c.is_zero.ensures c.if-is_zero.false) other c.minus.ensures one;
      left_over = (above_zero _ (fixed_is asked around).gap_up (iff_false c.is_zero.ensures c.if-is_zero.false));
    }

pub steps_towards-requires-clause-denom : goal.steps_towards-requires-clause-denom
steps_towards-requires-clause-denom g c = let at = c.steps.invariant in (fixed_is at.asked at.around).positive

pub steps_towards-requires-clause-room : goal.steps_towards-requires-clause-room
steps_towards-requires-clause-room g c = let at = c.steps.invariant in room_held at.asked at.around

pub moved-last-requires : goal.moved-last-requires
moved-last-requires g c =
    let at = c.steps.invariant in
    let m = g.met.T.Counted in
    let steps = steps_are at.asked at.around _ _ at.left_over c.steps_towards.ensures.whole c.steps_towards.ensures.room in
    let less = yes _ (m.lt_law c.steps_towards.result.1 c.steps_towards.result.0) (sym c.lt.ensures ∙ c.if-lt.true) in
    can_move at.asked at.around _ steps.of_room.up at.left_over (room_fits steps less) (room_within steps)

pub first_of-first-requires : goal.first_of-first-requires
first_of-first-requires g c =
    let at = c.steps.invariant in
    let m = g.met.T.Counted in
    let steps = steps_are at.asked at.around _ _ at.left_over c.steps_towards.ensures.whole c.steps_towards.ensures.room in
    let less = yes _ (m.lt_law c.steps_towards.result.1 c.steps_towards.result.0) (sym c.lt.ensures ∙ c.if-lt.true) in
    let last = c.moved-last.ensures in
    can_compare at.asked (turned (after at.asked at.around _ steps.of_room.up at.left_over (room_fits steps less) (room_within steps) _ _ _ last.numer last.denom last.gap))

pub returns-then-lt : goal.returns-then-lt
returns-then-lt g c =
    let v = g.T.Counted.value in
    let at = c.steps.invariant in
    let fixed = fixed_is at.asked at.around in
    let m = g.met.T.Counted in
    let steps = steps_are at.asked at.around _ _ at.left_over c.steps_towards.ensures.whole c.steps_towards.ensures.room in
    let less = yes _ (m.lt_law c.steps_towards.result.1 c.steps_towards.result.0) (sym c.lt.ensures ∙ c.if-lt.true) in
    let last = c.moved-last.ensures in
    let around = after at.asked at.around _ steps.of_room.up at.left_over (room_fits steps less) (room_within steps) _ _ _ last.numer last.denom last.gap in
    let used : v c.args.most <ℤ (v c.moved-last.result.denom +ℤ v c.steps.fixed.denom) = rw last.denom (room_used steps) in
    let is : IsNearest (v c.args.n) (v c.args.d) (v c.args.most) (v c.first_of-first.result.numer) (v c.first_of-first.result.denom) =
    elim c.first_of-first.ensures [
      | inl first ↦ rw first.0 (last_nearest at.asked (turned around) used first.1)
      | inr first ↦ rw first.0 (last_nearest at.asked around (omega (arith, ints, used)) first.1)
    ] in
    record { nearest = is; lowest = nearest_lowest _ _ _ _ _ is; steps = steps_ended at.gone _ _ _ c.steps_towards.ensures.left c.steps_towards.ensures.right fixed.within fixed.positive steps.of_gap (inr (room_passed steps fixed.positive less)); left = left_ended at.gone _ c.steps_towards.ensures.left at.left_over; right = right_ended at.gone _ c.steps_towards.ensures.right at.left_over }

pub moved-next-requires : goal.moved-next-requires
moved-next-requires g c =
    let at = c.steps.invariant in
    let m = g.met.T.Counted in
    let steps = steps_are at.asked at.around _ _ at.left_over c.steps_towards.ensures.whole c.steps_towards.ensures.room in
    let less = no _ (m.lt_law c.steps_towards.result.1 c.steps_towards.result.0) (sym c.lt.ensures ∙ c.if-lt.false) in
    can_move at.asked at.around _ steps.of_gap.up at.left_over steps.of_gap.fits (whole_within steps (fixed_is at.asked at.around).positive less)

pub returns-then-is_zero-2 : goal.returns-then-is_zero-2
returns-then-is_zero-2 g c =
    let at = c.steps.invariant in
    let fixed = fixed_is at.asked at.around in
    let m = g.met.T.Counted in
    let steps = steps_are at.asked at.around _ _ at.left_over c.steps_towards.ensures.whole c.steps_towards.ensures.room in
    let less = no _ (m.lt_law c.steps_towards.result.1 c.steps_towards.result.0) (sym c.lt.ensures ∙ c.if-lt.false) in
    let next = c.moved-next.ensures in
    let around = after at.asked at.around _ steps.of_gap.up at.left_over steps.of_gap.fits (whole_within steps (fixed_is at.asked at.around).positive less) _ _ _ next.numer next.denom next.gap in
    let is = nearest_exact _ _ _ at.asked.positive _ _ _ _ _ _ (turned around) (c.is_zero-in-steps.ensures.0 c.if-is_zero-2.true) in
    record { nearest = is; lowest = nearest_lowest _ _ _ _ _ is; steps = steps_ended at.gone _ _ _ c.steps_towards.ensures.left c.steps_towards.ensures.right fixed.within fixed.positive steps.of_gap (inl (rw (← next.gap) (c.is_zero-in-steps.ensures.0 c.if-is_zero-2.true))); left = left_ended at.gone _ c.steps_towards.ensures.left at.left_over; right = right_ended at.gone _ c.steps_towards.ensures.right at.left_over }

pub steps-smaller : goal.steps-smaller
steps-smaller g c =
    let v = g.T.Counted.value in
    let at = c.steps.invariant in
    let m = g.met.T.Counted in
    let steps = steps_are at.asked at.around _ _ at.left_over c.steps_towards.ensures.whole c.steps_towards.ensures.room in
    let less = no _ (m.lt_law c.steps_towards.result.1 c.steps_towards.result.0) (sym c.lt.ensures ∙ c.if-lt.false) in
    let next = c.moved-next.ensures in
    let around = after at.asked at.around _ steps.of_gap.up at.left_over steps.of_gap.fits (whole_within steps (fixed_is at.asked at.around).positive less) _ _ _ next.numer next.denom next.gap in
    let rest : v c.moved-next.result.gap <ℤ v c.steps.fixed.gap = rw next.gap steps.of_gap.rest in
    smaller _ _ (fixed_is at.asked around).gap_up rest

pub steps-preserved : goal.steps-preserved
steps-preserved g c =
    let v = g.T.Counted.value in
    let at = c.steps.invariant in
    let m = g.met.T.Counted in
    let steps = steps_are at.asked at.around _ _ at.left_over c.steps_towards.ensures.whole c.steps_towards.ensures.room in
    let less = no _ (m.lt_law c.steps_towards.result.1 c.steps_towards.result.0) (sym c.lt.ensures ∙ c.if-lt.false) in
    let next = c.moved-next.ensures in
    let around = after at.asked at.around _ steps.of_gap.up at.left_over steps.of_gap.fits (whole_within steps (fixed_is at.asked at.around).positive less) _ _ _ next.numer next.denom next.gap in
    let fixed = fixed_is at.asked at.around in
    let left_over = above_zero _ (fixed_is at.asked around).gap_up (iff_false c.is_zero-in-steps.ensures c.if-is_zero-2.false) in
    record {
      asked = at.asked;
      around = around;
      gone = gone_more c.steps_towards.ensures.left c.steps_towards.ensures.right at.left_over left_over fixed.within fixed.positive steps.of_gap next.denom next.gap at.gone;
      left_over = left_over;
    }
