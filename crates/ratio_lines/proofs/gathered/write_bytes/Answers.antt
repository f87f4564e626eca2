use Rattle.std.proofs.Common.{◌+◌, ◌≤◌, length, arith, refl, length-take, length-drop}
use Rattle.ratio_lines.proofs.DeviceCalls.{took_nothing, took_more, took_none, stops_within}
use Rattle.ratio_lines.proofs.gathered.write_bytes.Goals as goal

pub loop-at-init : goal.loop-at-init
loop-at-init g c = record { within = omega arith; took = took_nothing _ }

pub loop-at-preserved : goal.loop-at-preserved
loop-at-preserved g c =
    let within : c.loop-at.at + c.in-Ok.n ≤ length c.args.bytes.now = omega (arith, c.in-Ok.ensures.bound) in
    record {
      within = within;
      took = took_more _ _ _ c.args.bytes.now c.loop-at.at c.in-Ok.n within c.in-Ok.n-test.1 c.loop-at.invariant.took c.in-Ok.ensures.bytes c.in-Ok.ensures.calls;
    }

pub returns-in-Ok-eq0 : goal.returns-in-Ok-eq0
returns-in-Ok-eq0 g c = (
  refl,
  stops_within _ _ _ c.args.bytes.now c.loop-at.at c.loop-at.invariant.took
      (took_none _ _ c.in-Ok-eq0.field-0 _ (omega arith) (simp (length-take, length-drop) (omega arith)) c.in-Ok-eq0.ensures.bytes c.in-Ok-eq0.ensures.calls),
)

pub returns-in-Err : goal.returns-in-Err
returns-in-Err g c =
    (refl, stops_within _ _ _ c.args.bytes.now c.loop-at.at c.loop-at.invariant.took (record { known = c.in-Err.ensures.bytes; calls = c.in-Err.ensures.calls }))
