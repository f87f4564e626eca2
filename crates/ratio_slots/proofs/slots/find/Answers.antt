use Rattle.ratio_slots.proofs.Places.{place_first, place_lower, place_upper}
use Rattle.ratio_slots.proofs.slots.find.Goals as goal

pub returns-then-is_open : goal.returns-then-is_open
returns-then-is_open c =
    place_first _ _ _ c.home-start.ensures.same c.if-start-slots.true (c.is_open.ensures.0 c.if-is_open.true)

pub returns-then-is_open-2 : goal.returns-then-is_open-2
returns-then-is_open-2 c =
    place_upper _ _ _ _ c.home-start.ensures.same c.upper.auto.i c.upper-test.true (c.is_open-in-upper.ensures.0 c.if-is_open-2.true) c.upper.invariant

pub returns-then-is_open-3 : goal.returns-then-is_open-3
returns-then-is_open-3 c =
    place_lower _ _ _ _ c.home-start.ensures.same c.lower-test.true c.home-start.ensures.within (c.is_open-in-lower.ensures.0 c.if-is_open-3.true) c.lower.invariant.0 c.lower.invariant.1
