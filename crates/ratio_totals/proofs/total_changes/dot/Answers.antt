use Rattle.std.specs.Prelude.{◌≡◌, ◌<◌, ◌≤◌, length}
use Rattle.std.specs.List.{zip}
use Rattle.std.proofs.Common.{ap, arith, below_more, refl, rules, sym}
use Rattle.std.proofs.lemmas.List.{drop_all}
use Rattle.ratio_slots.proofs.MergeSums.{sum_positive}
use Rattle.ratio_slots.specs.Totals.{most_weight}
use Rattle.ratio_slots.specs.declared.tally.Refusal.TheVariants as refusal
use Rattle.ratio_totals.specs.Dots.{HasShortPair, product_of_both}
use Rattle.ratio_totals.specs.Values.{pair_of, slots_of, value_of}
use Rattle.ratio_totals.proofs.DenominatorLemmas.{held_in, new_items}
use Rattle.ratio_totals.proofs.DotLemmas.{both_positive, enough_slots, few_slots, here, low_of, low_positive, low_put, low_refused, zip_at, zip_length}
use Rattle.ratio_totals.proofs.ItemLemmas.{all_came, item_refused, items_positive, one_more, pair_positive, room_after, room_at_first}
use Rattle.ratio_totals.proofs.PairLemmas.{starts}
use Rattle.ratio_totals.proofs.total_changes.dot.Goals as goal

pub adding-init : goal.adding-init
adding-init g c = record {
  same_slots = refl;
  length_kept = c.new-total.ensures.room;
  sum = starts _ _ (items_positive (product_of_both pair_of) (both_positive pair_of pair_positive) (zip c.args.xs.now c.args.ys.now)) c.new-total.ensures.none;
  count = c.new-total.ensures.count;
  weight = c.new-total.ensures.weight;
  short = λ k within d. absurd (omega (arith, within));
  room = room_at_first (low_of pair_of pair_positive) (low_positive pair_of pair_positive) (zip c.args.xs.now c.args.ys.now) _ _ c.new-total.ensures.none c.new-total.ensures.room;
}

pub adding-preserved : goal.adding-preserved
adding-preserved g c =
    let xs = c.args.xs.now in
    let ys = c.args.ys.now in
    let i = c.adding.i in
    let x = c.index-xs-i.result in
    let y = c.index-ys-i.result in
    let within : i < length (zip xs ys) = omega (arith, c.adding-test.true, zip_length xs ys c.if-xs-ys.false) in
    let is = zip_at xs ys i x y c.adding-test.true c.if-xs-ys.false c.index-xs-i.is c.index-ys-i.is in
    let puts = c.in-Ok.ensures.numerators in
    record {
      same_slots = search rules;
      length_kept = search rules;
      sum = one_more (product_of_both pair_of) (both_positive pair_of pair_positive) (zip xs ys) i (x, y) _ _ _ within is (sum_positive c.adding.total.slots.now) c.in-Ok.ensures.sum c.adding.invariant.sum;
      count = search rules;
      weight = search rules;
      short = below_more _ _ c.adding.invariant.short (λ d. here (λ p. HasShortPair (product_of_both pair_of p)) (zip xs ys) i (x, y) d within is (record { numer = puts.numer; denom = puts.denom; terms = puts.terms }));
      room = room_after (low_of pair_of pair_positive) (low_positive pair_of pair_positive) (zip xs ys) i (x, y) _ _ puts.numer _ within is c.adding.total.kept.table (low_put pair_of pair_positive (x, y) _ _ _ puts) c.adding.invariant.room;
    }

pub returns-in-Err-MoreRoom-clause-refused : goal.returns-in-Err-MoreRoom-clause-refused
returns-in-Err-MoreRoom-clause-refused g c =
    let xs = c.args.xs.now in
    let ys = c.args.ys.now in
    let i = c.adding.i in
    let x = c.index-xs-i.result in
    let y = c.index-ys-i.result in
    let within : i < length (zip xs ys) = omega (arith, c.adding-test.true, zip_length xs ys c.if-xs-ys.false) in
    let is = zip_at xs ys i x y c.adding-test.true c.if-xs-ys.false c.index-xs-i.is c.index-ys-i.is in
    few_slots pair_of pair_positive xs ys _
    (item_refused (low_of pair_of pair_positive) (low_positive pair_of pair_positive) (zip xs ys) i (x, y) _ _ _ refusal.MoreRoom within is c.adding.invariant.weight c.adding.invariant.room
    (low_refused pair_of pair_positive (x, y) _ _ (rw c.in-Err-MoreRoom.field-0-is at c.in-Err-MoreRoom.ensures.refused)))

pub returns-in-Err-TooMany-clause-refused : goal.returns-in-Err-TooMany-clause-refused
returns-in-Err-TooMany-clause-refused g c =
    let why = rw c.in-Err-TooMany.field-0-is at c.in-Err-TooMany.ensures.refused in
    let full : c.adding.total.tally.weight ≡ most_weight = why.refused in
    omega (arith, full, c.adding.invariant.weight, c.adding-test.true)

pub returns-in-Err-TooGreat-clause-refused : goal.returns-in-Err-TooGreat-clause-refused
returns-in-Err-TooGreat-clause-refused g c =
    let xs = c.args.xs.now in
    let ys = c.args.ys.now in
    let i = c.adding.i in
    let x = c.index-xs-i.result in
    let y = c.index-ys-i.result in
    let within : i < length (zip xs ys) = omega (arith, c.adding-test.true, zip_length xs ys c.if-xs-ys.false) in
    let is = zip_at xs ys i x y c.adding-test.true c.if-xs-ys.false c.index-xs-i.is c.index-ys-i.is in
    (i, (x, y), within, sym is, rw c.in-Err-TooGreat.field-0-is at c.in-Err-TooGreat.ensures.refused)

pub returns-clause-sum : goal.returns-clause-sum
returns-clause-sum g c =
    let past : length (zip c.args.xs.now c.args.ys.now) ≤ c.adding.i = omega (arith, c.adding-test.false, zip_length c.args.xs.now c.args.ys.now c.if-xs-ys.false) in
    all_came (product_of_both pair_of) (zip c.args.xs.now c.args.ys.now) c.adding.i (value_of c.adding.total) _ past c.adding.invariant.sum

pub returns-clause-short : goal.returns-clause-short
returns-clause-short g c =
    λ k d within. c.adding.invariant.short k (omega (arith, within, c.adding-test.false, zip_length c.args.xs.now c.args.ys.now c.if-xs-ys.false)) d

pub returns-clause-room : goal.returns-clause-room
returns-clause-room g c =
    let zs = zip c.args.xs.now c.args.ys.now in
    let past : length zs ≤ c.adding.i = omega (arith, c.adding-test.false, zip_length c.args.xs.now c.args.ys.now c.if-xs-ys.false) in
    enough_slots pair_of pair_positive c.args.xs.now c.args.ys.now _
    (omega (arith, c.adding.invariant.room, ap (new_items (low_of pair_of pair_positive) (low_positive pair_of pair_positive) (held_in (slots_of c.adding.total))) (drop_all c.adding.i zs past)))
