use Rattle.std.proofs.Common.{refl, rules}
use Rattle.std.proofs.lemmas.Result.{err_from_is_err_and}
use Rattle.ratio_slots.proofs.MergeSums.{sum_positive}
use Rattle.ratio_totals.specs.Values.{pair_of, slots_of, value_of}
use Rattle.ratio_totals.proofs.ItemLemmas.{all_came, item_refused, items_positive, none_held, one_more, pair_positive, room_after, room_at_first}
use Rattle.ratio_totals.proofs.ListSumLemmas.{held_after, held_begins, held_ends, taken_at_end}
use Rattle.ratio_totals.proofs.PairLemmas.{starts}
use Rattle.ratio_totals.proofs.total_changes.total_of.Goals as goal

pub adding-init : goal.adding-init
adding-init g c = record {
  same_slots = refl;
  length_kept = c.new-total.ensures.room;
  sum = starts _ _ (items_positive pair_of pair_positive c.args.items.now) c.new-total.ensures.none;
  count = c.new-total.ensures.count;
  weight = c.new-total.ensures.weight;
  room = room_at_first pair_of pair_positive c.args.items.now _ _ c.new-total.ensures.none c.new-total.ensures.room;
  held = held_begins pair_of c.args.items.now _ (none_held _ c.new-total.ensures.none);
}

pub returns-in_err-add-clause-refused : goal.returns-in_err-add-clause-refused
returns-in_err-add-clause-refused g c =
    let p = err_from_is_err_and c.from_residual.result c.from_residual.ensures.1 in
    rw (p.1, p.2)
    (item_refused pair_of pair_positive c.args.items.now c.adding.x-index c.x-item.result _ _ _ _ c.adding-test.true c.x-item.is c.adding.invariant.weight c.adding.invariant.room c.in_err-add.ensures.refused)

pub adding-preserved : goal.adding-preserved
adding-preserved g c = record {
  same_slots = search rules;
  length_kept = search rules;
  sum = one_more pair_of pair_positive c.args.items.now c.adding.x-index c.x-item.result _ _ _ c.adding-test.true c.x-item.is (sum_positive c.adding.total.slots.now) c.in_ok-add.ensures.sum c.adding.invariant.sum;
  count = search rules;
  weight = search rules;
  room = room_after pair_of pair_positive c.args.items.now c.adding.x-index c.x-item.result _ _ _ _ c.adding-test.true c.x-item.is c.adding.total.kept.table c.in_ok-add.ensures.slot c.adding.invariant.room;
  held = held_after pair_of pair_positive c.args.items.now c.adding.x-index c.x-item.result _ _ _ c.adding-test.true c.x-item.is c.adding.total.kept.table c.in_ok-add.ensures.slot c.adding.invariant.held;
}

pub returns-clause-sum : goal.returns-clause-sum
returns-clause-sum g c = all_came pair_of c.args.items.now c.adding.x-index (value_of c.adding.total) _ c.adding-test.false c.adding.invariant.sum

pub returns-clause-held : goal.returns-clause-held
returns-clause-held g c = held_ends pair_of c.args.items.now c.adding.x-index _ c.adding-test.false c.adding.invariant.held

pub returns-clause-taken : goal.returns-clause-taken
returns-clause-taken g c = taken_at_end pair_of pair_positive c.args.items.now c.adding.x-index (slots_of c.adding.total) _ c.adding-test.false c.adding.invariant.length_kept c.adding.invariant.room
