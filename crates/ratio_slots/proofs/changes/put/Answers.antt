use Rattle.std.proofs.Common.{arith, refl, rules}
use mir.Facts.{to_z-of_z}
use mir.Syntax.{w128}
use mir.Val.{SFits}
use Rattle.ratio_slots.proofs.KeptLemmas.{kept_written, machine_count, numer_held}
use Rattle.ratio_slots.proofs.SumLemmas.{grows_at, sum_grows}
use Rattle.ratio_slots.proofs.changes.put.Goals as goal

pub grow_at-requires-clause-held : goal.grow_at-requires-clause-held
grow_at-requires-clause-held c =
    let held : SFits w128 c.args.numer = search rules in
    rw (to_z-of_z held) (numer_held c.args.slots.now c.args.tally.now.weight c.in-Some.place c.args.tally.now.count c.args.numer c.requires.kept c.if-tally-eq-MOST_WEIGHT.false c.requires.small)

pub returns-in-Some-clause-kept : goal.returns-in-Some-clause-kept
returns-in-Some-clause-kept c =
    let held : SFits w128 c.args.numer = search rules in
    rw (
      c.grow_at.ensures,
      to_z-of_z held,
      machine_count c.args.slots.now c.args.tally.now.weight c.args.tally.now.count c.args.step c.requires.kept c.if-tally-eq-MOST_WEIGHT.false c.requires.step,
    )
    (kept_written _ _ _ _ _ _ _ c.requires.kept c.requires.denom c.in-Some.ensures c.if-tally-eq-MOST_WEIGHT.false c.requires.small c.requires.step)

pub returns-in-Some-clause-exact : goal.returns-in-Some-clause-exact
returns-in-Some-clause-exact c =
    let held : SFits w128 c.args.numer = search rules in
    let written = rw (to_z-of_z held) at c.grow_at.ensures in
    rw (machine_count c.args.slots.now c.args.tally.now.weight c.args.tally.now.count c.args.step c.requires.kept c.if-tally-eq-MOST_WEIGHT.false c.requires.step)
    (record {
      accepted = record { light = omega (arith, c.requires.kept.light, c.if-tally-eq-MOST_WEIGHT.false); place = record { index = c.in-Some.place; place = c.in-Some.ensures } };
      slots = record { index = c.in-Some.place; place = c.in-Some.ensures; written = written };
      weight_grows = refl;
      count_grows = refl;
    })

pub returns-in-Some-clause-numerators : goal.returns-in-Some-clause-numerators
returns-in-Some-clause-numerators c =
    let held : SFits w128 c.args.numer = search rules in
    rw (c.grow_at.ensures, to_z-of_z held) (grows_at _ _ _ _ c.requires.kept.table c.in-Some.ensures)

pub returns-in-Some-clause-sum : goal.returns-in-Some-clause-sum
returns-in-Some-clause-sum c =
    let held : SFits w128 c.args.numer = search rules in
    rw (c.grow_at.ensures, to_z-of_z held) (sum_grows _ _ _ _ c.requires.denom c.requires.kept.table c.in-Some.ensures)
