use Rattle.std.proofs.Common.{◌≡◌, ◌≤◌, ◌+◌, ◌++◌, length, take}
use Rattle.ratio.specs.Devices.{Takes, device_change}
use Rattle.ratio.specs.Failures.{NoneFailed}
use Rattle.ratio.proofs.writing.write.Given as goal

abbrev pub invariant-loop-turn : goal.invariant-loop-turn
invariant-loop-turn g l =
    let calls = g.W.CalcWrite.calls in
    record {
      within : l.at ≤ length l.bytes;
      takes : Takes (device_change g.W.Write.contents l.fn.writer l.writer) (take l.at l.bytes);
      moved : (calls l.writer).moved ≡ (calls l.fn.writer).moved ++ take l.at l.bytes;
      none : NoneFailed (calls l.fn.writer) (calls l.writer);
      turns : l._turn + (calls l.fn.writer).interrupts ≤ l.at + (calls l.writer).interrupts;
    }
