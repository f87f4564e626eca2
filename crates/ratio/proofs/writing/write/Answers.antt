use Rattle.std.proofs.Common.{◌≡◌, ◌∙◌, ◌≤◌, ◌-◌, ◌++◌, [], length, take, arith, refl, take_all, ap, length-take, length-drop, inr, rules}
use Rattle.std.proofs.KnownBytes.{Appends-kept}
use Rattle.std.proofs.lemmas.List.{append-nil}
use Rattle.ratio.proofs.DeviceLemmas.{takes_more, takes_some, writes_after}
use Rattle.ratio_lines.specs.declared.counted.Calls.{Calls}
use Rattle.ratio.proofs.FailureLemmas.{failed_by_none, fails_after, moved_more, moved_some, moved_whole, none_after, none_by_interrupt, none_by_some, one_after}
use Rattle.ratio.proofs.writing.write.Goals as goal
use Rattle.ratio.proofs.writing.write.Goals.{in-Ok, in-Err+else-ne}

pub returns-then-at-bytes-clause-written : goal.returns-then-at-bytes-clause-written
returns-then-at-bytes-clause-written g c =
    let bytes = c.args.bytes.now in
    let all : take c.loop-turn.at bytes ++ [] ≡ bytes = append-nil (take c.loop-turn.at bytes) ∙ take_all c.loop-turn.at bytes c.if-at-bytes.true in
    writes_after _ _ _ (take c.loop-turn.at bytes) [] bytes c.flush.result all c.loop-turn.invariant.takes c.flush.ensures.written

pub returns-in-Ok-eq0-clause-written : goal.returns-in-Ok-eq0-clause-written
returns-in-Ok-eq0-clause-written g c =
    let few : c.in-Ok-eq0.field-0 ≤ length c.args.bytes.now - c.loop-turn.at = omega (arith, c.in-Ok-eq0.field-0-test) in
    (refl, takes_some _ _ c.args.bytes.now (takes_more _ _ _ c.args.bytes.now c.loop-turn.at c.in-Ok-eq0.field-0 c.loop-turn.invariant.within few c.loop-turn.invariant.takes c.in-Ok-eq0.ensures.bytes))

pub returns-then-ne-clause-written : goal.returns-then-ne-clause-written
returns-then-ne-clause-written g c = (c.fault_of_write.ensures.writing, takes_some _ c.loop-turn.at c.args.bytes.now (Appends-kept _ _ _ _ c.loop-turn.invariant.takes c.in-Err.ensures.bytes))

pub loop-turn-preserved : goal.loop-turn-preserved
loop-turn-preserved g c = elim c.match-write_tried.branch [
  | in-Ok w ↦
      let few : w.in-Ok.n ≤ length c.args.bytes.now - c.loop-turn.at = omega (arith, simp (length-take, length-drop) at w.in-Ok.ensures.bound) in
      record {
        within = rw w.at-is (omega (arith, few));
        takes = rw w.at-is (takes_more _ _ _ c.args.bytes.now c.loop-turn.at w.in-Ok.n c.loop-turn.invariant.within few c.loop-turn.invariant.takes w.in-Ok.ensures.bytes);
        moved = rw w.at-is (moved_more _ _ _ c.args.bytes.now c.loop-turn.at w.in-Ok.n few c.loop-turn.invariant.moved (moved_some _ _ w.in-Ok.n _ _ w.in-Ok.n-test.1 w.in-Ok.ensures.calls));
        none = none_after _ _ _ c.loop-turn.invariant.none (none_by_some _ _ w.in-Ok.n _ _ w.in-Ok.n-test.1 w.in-Ok.ensures.calls);
        turns = let so_far = c.loop-turn.invariant.turns in
            let more = (none_by_some _ _ w.in-Ok.n _ _ w.in-Ok.n-test.1 w.in-Ok.ensures.calls).interrupts in
            let some = w.in-Ok.n-test.1 in rw w.at-is (omega (arith, so_far, more, some));
      }
  | in-Err+else-ne w ↦ record {
    within = rw w.at-is c.loop-turn.invariant.within;
    takes = rw w.at-is (Appends-kept _ _ _ _ c.loop-turn.invariant.takes w.in-Err.ensures.bytes);
    moved = rw w.at-is (ap (λ (calls : Calls). calls.moved) (w.in-Err.ensures.calls.0 (search rules)) ∙ c.loop-turn.invariant.moved);
    none = none_after _ _ _ c.loop-turn.invariant.none (none_by_interrupt _ _ (w.in-Err.ensures.calls.0 (search rules)));
    turns = let so_far = c.loop-turn.invariant.turns in
        let more = ap (λ (calls : Calls). calls.interrupts) (w.in-Err.ensures.calls.0 (search rules)) in rw w.at-is (omega (arith, so_far, more));
  }
]

pub returns-clause-written : goal.returns-clause-written
returns-clause-written g c = (refl, takes_some _ c.loop-turn.at c.args.bytes.now c.loop-turn.invariant.takes)

pub returns-then-at-bytes-clause-moved : goal.returns-then-at-bytes-clause-moved
returns-then-at-bytes-clause-moved g c =
    let all = take_all c.loop-turn.at c.args.bytes.now c.if-at-bytes.true in
    moved_whole _ _ _ c.args.bytes.now c.flush.result (c.loop-turn.invariant.moved ∙ ap (λ l. (g.W.CalcWrite.calls c.args.writer.now).moved ++ l) all) c.flush.ensures.moved

pub returns-then-at-bytes-clause-failed : goal.returns-then-at-bytes-clause-failed
returns-then-at-bytes-clause-failed g c = fails_after _ _ _ c.flush.result c.loop-turn.invariant.none c.flush.ensures.failed

pub returns-in-Ok-eq0-clause-failed : goal.returns-in-Ok-eq0-clause-failed
returns-in-Ok-eq0-clause-failed g c =
    one_after _ _ _ c.loop-turn.invariant.none (failed_by_none _ _ c.in-Ok-eq0.field-0 _ _ c.in-Ok-eq0.field-0-test (simp (length-take, length-drop) (omega arith)) c.in-Ok-eq0.ensures.calls)

pub returns-then-ne-clause-failed : goal.returns-then-ne-clause-failed
returns-then-ne-clause-failed g c = rw c.fault_of_write.ensures.writing (one_after _ _ _ c.loop-turn.invariant.none (c.in-Err.ensures.calls.1 (search rules)))

pub returns-clause-failed : goal.returns-clause-failed
returns-clause-failed g c =
    let inv = c.loop-turn.invariant in inr (inv.none, omega (arith, inv.turns, inv.within, c.loop-turn-test.false))
