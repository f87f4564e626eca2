use Rattle.std.specs.Prelude.{◌≤◌, length}
use Rattle.std.proofs.Common.{arith, rules}
use mir.Facts.{to_z-of_z}
use mir.Syntax.{w128}
use mir.Val.{SFits}
use Rattle.ratio_slots.proofs.PourLemmas.{free_ends, held_ends, pour_held, poured_kept, pouring_begins, pouring_ends, pouring_has_place, pouring_skips, pouring_steps, sum_ends}
use Rattle.ratio_slots.proofs.TurnLemmas.{can_turned, holds_turned, kept_turned, takes_turned, turned_length, turned_read}
use Rattle.ratio_slots.specs.Turning.{turned_slots}
use Rattle.ratio_slots.proofs.changes.pour.Goals as goal

pub pouring-init : goal.pouring-init
pouring-init c =
    let out = c.args.out in
    pouring_begins _ _ _ _ c.args.tally.count _ c.requires.kept (kept_turned out _ _ _ c.requires.other) (can_turned out _ _ _ _ c.requires.room)

pub pouring-preserved-then-denom-eq0 : goal.pouring-preserved-then-denom-eq0
pouring-preserved-then-denom-eq0 c =
    pouring_skips _ _ _ _ _ _ _ (turned_read _ _ _ c.args.out _ _ c.pouring.i _ _ c.denom_at-denom.ensures c.turned_at-part.ensures c.pouring-test.true c.pouring.invariant) c.if-denom-eq0.true

pub pouring-preserved-in_default : goal.pouring-preserved-in_default
pouring-preserved-in_default c =
    absurd (pouring_has_place _ _ _ _ _ _ _ (turned_read _ _ _ c.args.out _ _ c.pouring.i _ _ c.denom_at-denom.ensures c.turned_at-part.ensures c.pouring-test.true c.pouring.invariant) c.if-denom-eq0.false c.in_default.ensures)

pub grow_at-requires-clause-held : goal.grow_at-requires-clause-held
grow_at-requires-clause-held c =
    let held : SFits w128 c.turned_at-part.result = search rules in
    rw (to_z-of_z held) (pour_held _ _ _ _ _ _ _ c.in-Some.place (turned_read _ _ _ c.args.out _ _ c.pouring.i _ _ c.denom_at-denom.ensures c.turned_at-part.ensures c.pouring-test.true c.pouring.invariant) (can_turned c.args.out _ _ _ _ c.requires.room) c.in-Some.ensures)

pub pouring-preserved : goal.pouring-preserved
pouring-preserved c =
    let held : SFits w128 c.turned_at-part.result = search rules in
    rw (c.grow_at.ensures, to_z-of_z held)
    (pouring_steps _ _ _ _ _ _ _ c.in-Some.place (turned_read _ _ _ c.args.out _ _ c.pouring.i _ _ c.denom_at-denom.ensures c.turned_at-part.ensures c.pouring-test.true c.pouring.invariant) c.if-denom-eq0.false c.in-Some.ensures)

pub returns-clause-kept : goal.returns-clause-kept
returns-clause-kept c =
    let out = c.args.out in
    poured_kept _ _ _ _ _ c.pouring.i _ _ (omega (arith, turned_length out c.args.other.now, c.pouring-test.false)) c.pouring.invariant c.requires.kept (kept_turned out _ _ _ c.requires.other) (can_turned out _ _ _ _ c.requires.room)

pub returns-clause-merged : goal.returns-clause-merged
returns-clause-merged c =
    let out = c.args.out in
    let done : length (turned_slots out c.args.other.now) ≤ c.pouring.i = omega (arith, turned_length out c.args.other.now, c.pouring-test.false) in
    record {
      numerators = pouring_ends _ _ _ _ _ c.pouring.i done c.pouring.invariant;
      sum = sum_ends _ _ _ _ _ c.pouring.i done c.pouring.invariant;
      held = holds_turned out _ _ _ (held_ends _ _ _ _ _ c.pouring.i done c.pouring.invariant);
      free = takes_turned out _ _ _ (free_ends _ _ _ _ _ c.pouring.i done c.pouring.invariant);
    }
