use Rattle.std.specs.Prelude.{◌≢◌, ℕ, []}
use Rattle.std.proofs.Common.{sym, subst, ◌∙◌}
use Rattle.ratio_slots.proofs.CountLemmas.{empty_place, held_place, new_held, new_one, no_place}
use Rattle.ratio_slots.specs.Slots.{HasNoPlaceFor, IsPlaceOf}
use Rattle.ratio_slots.proofs.slots.new_here.Goals as goal

pub returns-then-denom_at-eq0-clause-same : goal.returns-then-denom_at-eq0-clause-same
returns-then-denom_at-eq0-clause-same c =
    let taken : c.args.slot.now.denom ≢ 0 = λ z. c.if-denom-eq0.false (c.denom-denom.ensures ∙ z) in
    let place = subst (λ (d : ℕ). IsPlaceOf c.args.slots.now d c.in-Some.place) c.denom-denom.ensures c.in-Some.ensures in
    new_one c.args.slots.now c.args.slot.now [] taken
    (empty_place c.args.slots.now c.args.slot.now.denom c.in-Some.place c.requires taken place (sym c.denom_at.ensures ∙ c.if-denom_at-eq0.true))

pub returns-else-denom_at-eq0-clause-same : goal.returns-else-denom_at-eq0-clause-same
returns-else-denom_at-eq0-clause-same c =
    let taken : c.args.slot.now.denom ≢ 0 = λ z. c.if-denom-eq0.false (c.denom-denom.ensures ∙ z) in
    let place = subst (λ (d : ℕ). IsPlaceOf c.args.slots.now d c.in-Some.place) c.denom-denom.ensures c.in-Some.ensures in
    new_held c.args.slots.now c.args.slot.now [] taken
    (held_place c.args.slots.now c.args.slot.now.denom c.in-Some.place place (λ z. c.if-denom_at-eq0.false (c.denom_at.ensures ∙ z)))

pub returns-in-None-clause-same : goal.returns-in-None-clause-same
returns-in-None-clause-same c =
    let taken : c.args.slot.now.denom ≢ 0 = λ z. c.if-denom-eq0.false (c.denom-denom.ensures ∙ z) in
    let none = subst (λ (d : ℕ). HasNoPlaceFor c.args.slots.now d) c.denom-denom.ensures c.in-None.ensures in
    new_one c.args.slots.now c.args.slot.now [] taken (no_place c.args.slots.now c.args.slot.now.denom none)
