use Rattle.std.proofs.Common.{arith, refl}
use Rattle.std.proofs.lemmas.Result.{IfErr-weaker, on_ok_weaker}
use Rattle.ratio_slots.proofs.ReadLemmas.{all_free, all_new, moved_numerators, refused_room}
use Rattle.ratio_slots.proofs.DifferenceLemmas.{moved_held}
use Rattle.ratio_slots.proofs.changes.move_slots.Goals as goal

pub returns-clause-numerators : goal.returns-clause-numerators
returns-clause-numerators c = on_ok_weaker c.merge_slots.result (λ m. moved_numerators _ _ _ c.clear.ensures m.numerators) c.merge_slots.ensures.merged

pub returns-clause-held : goal.returns-clause-held
returns-clause-held c = on_ok_weaker c.merge_slots.result (λ m. moved_held _ _ _ c.clear.ensures m.held) c.merge_slots.ensures.merged

pub returns-clause-free : goal.returns-clause-free
returns-clause-free c =
    on_ok_weaker c.merge_slots.result
    (λ m. omega (arith, m.free.free, all_new c.clear.new.slots c.args.from.now c.clear.ensures, all_free c.clear.new.slots c.clear.ensures, c.clear.auto.slots))
    c.merge_slots.ensures.merged

pub returns-clause-room : goal.returns-clause-room
returns-clause-room c =
    on_ok_weaker c.merge_slots.result
    (λ can. omega (arith, can.room, all_new c.clear.new.slots c.args.from.now c.clear.ensures, all_free c.clear.new.slots c.clear.ensures, c.clear.auto.slots))
    c.merge_slots.ensures.accepted

pub returns-clause-refused : goal.returns-clause-refused
returns-clause-refused c =
    IfErr-weaker c.merge_slots.result _ _
    (λ why is. omega (
      arith,
      refused_room c.clear.new.slots c.args.from.now _ _ why is refl c.requires.light,
      all_new c.clear.new.slots c.args.from.now c.clear.ensures,
      all_free c.clear.new.slots c.clear.ensures,
      c.clear.auto.slots,
    ))
    c.merge_slots.ensures.refused
