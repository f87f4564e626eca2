use Rattle.std.proofs.Common.{◌≡◌, ◌++◌, List, ℕ, refl}
use Rattle.ratio.specs.Devices.{WritesAll, device_change}
use Rattle.ratio.specs.Failures.{is_write}
use Rattle.ratio.specs.Faults.{message_of}
use Rattle.ratio.proofs.DeviceLemmas.{front_after, front_of_more, handed_on, writes_after}
use Rattle.ratio.proofs.FailureLemmas.{fails_after, fails_on, none_after, stops_after}
use Rattle.ratio.proofs.fault.report.Goals as goal

-- three parts, each by another name
parts : (x y z x' y' z' all : List ℕ) → x ≡ x' → y ≡ y' → z ≡ z' → x' ++ (y' ++ z') ≡ all → x ++ (y ++ z) ≡ all
parts x y z x' y' z' all p q r e = cc

pub returns-in_err-write-clause-written : goal.returns-in_err-write-clause-written
returns-in_err-write-clause-written g c =
    let m = c.message.result in
    let split = parts _ m.1.now m.2.now _ _ _ _ c.as_bytes.ensures.value refl refl c.message.ensures in
    handed_on c.from_residual.result (WritesAll (device_change g.W.Write.contents c.args.errors.now c.write.new.writer) (message_of c.args.fault.now)) c.in_err-write.field-0.0 c.from_residual.ensures.1
    (c.in_err-write.ensures.written.0, front_of_more _ _ (m.1.now ++ m.2.now) _ split c.in_err-write.ensures.written.1)

pub returns-in_err-write-2-clause-written : goal.returns-in_err-write-2-clause-written
returns-in_err-write-2-clause-written g c =
    let m = c.message.result in
    let split = parts _ _ m.2.now _ _ _ _ c.as_bytes.ensures.value c.as_bytes-2.ensures.value refl c.message.ensures in
    let front = front_after _ _ _ _ (c.as_bytes-2.result.now ++ m.2.now) _ split c.in_ok-write.ensures.written (front_of_more _ _ m.2.now _ refl c.in_err-write-2.ensures.written.1) in
    handed_on c.from_residual-in_err-write-2.result (WritesAll (device_change g.W.Write.contents c.args.errors.now c.write-2.new.writer) (message_of c.args.fault.now)) c.in_err-write-2.field-0.0
    c.from_residual-in_err-write-2.ensures.1 (c.in_err-write-2.ensures.written.0, front)

pub returns-clause-written : goal.returns-clause-written
returns-clause-written g c =
    let split = parts _ _ _ _ _ _ _ c.as_bytes.ensures.value c.as_bytes-2.ensures.value c.as_bytes-3.ensures.value c.message.ensures in
    let more = c.as_bytes-2.result.now ++ c.as_bytes-3.result.now in
    writes_after _ _ _ c.as_bytes.result.now more _ c.write-3.result split c.in_ok-write.ensures.written
    (writes_after _ _ _ c.as_bytes-2.result.now c.as_bytes-3.result.now more c.write-3.result refl c.in_ok-write-2.ensures.written c.write-3.ensures.written)

pub returns-in_err-write-clause-failed : goal.returns-in_err-write-clause-failed
returns-in_err-write-clause-failed g c = fails_on _ _ _ c.in_err-write.field-0.0 c.from_residual.ensures.1 c.in_err-write.ensures.failed

pub returns-in_err-write-2-clause-failed : goal.returns-in_err-write-2-clause-failed
returns-in_err-write-2-clause-failed g c =
    fails_on _ _ _ c.in_err-write-2.field-0.0 c.from_residual-in_err-write-2.ensures.1 (stops_after _ _ _ (is_write c.in_err-write-2.field-0.0) c.in_ok-write.ensures.failed c.in_err-write-2.ensures.failed)

pub returns-clause-failed : goal.returns-clause-failed
returns-clause-failed g c = fails_after _ _ _ c.write-3.result (none_after _ _ _ c.in_ok-write.ensures.failed c.in_ok-write-2.ensures.failed) c.write-3.ensures.failed
