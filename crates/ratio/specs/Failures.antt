-- Which calls of a reader or a writer failed, and whether the writer was flushed. The *calls* are the `Calls` of `ratio_lines`: a call that was
-- interrupted is tried again, and has not failed.
use Rattle.std.specs.Prelude.{◌≡◌, ◌⊎◌, ℕ, ◌+◌, ◌≤◌, ◌^◌, Bool, true, false, length, Result, Ok, Err, MatchBool, if◌then◌else◌}
use Rattle.ratio_lines.specs.declared.counted.Calls.{Calls}
use Rattle.ratio.specs.declared.fault.Fault.{Fault}
use Rattle.ratio.specs.declared.fault.Fault.TheVariants as faults

-- no call failed
pub record NoneFailed (old new : Calls) : Type 0 where
  pub failures : new.failures ≡ old.failures
  pub interrupts : old.interrupts ≤ new.interrupts

-- one call failed; or none did, and 2^63 calls were interrupted
abbrev pub GaveUp : Calls → Calls → Type 0
GaveUp old new = (new.failures ≡ old.failures + 1) ⊎ (NoneFailed old new × (old.interrupts + 2 ^ 63 ≤ new.interrupts))

-- the writer was flushed after its last byte, or no call was made
abbrev pub IsFlushed : Calls → Calls → Type 0
IsFlushed old new = (new.mark ≡ length new.moved) ⊎ (new ≡ old)

-- the fault is `Read`
abbrev pub is_read : Fault → Bool
is_read faults.Read = true
is_read _ = false

-- how many more calls of the reader have failed: one at the fault `Read`, else none
abbrev pub failed_reads : {T : Type 0} → Result T Fault → ℕ
failed_reads (Ok _) = 0
failed_reads (Err fault) = if is_read fault then 1 else 0

-- the fault is one of a writer: `Write` or `Unread`
abbrev pub is_write : Fault → Bool
is_write faults.Write = true
is_write faults.Unread = true
is_write _ = false

-- the fault is one of a writer, if there is one
abbrev pub fails_to_write : {T : Type 0} → Result T Fault → Bool
fails_to_write (Ok _) = false
fails_to_write (Err fault) = is_write fault

-- at a fault of a writer it gave up (`GaveUp`), and otherwise none of its calls failed
abbrev pub FailsAtWrite : {T : Type 0} → Calls → Calls → Result T Fault → Type 0
FailsAtWrite old new result = MatchBool (fails_to_write result) (GaveUp old new) (NoneFailed old new)

-- the same of two writers: at such a fault one of them gave up
abbrev pub OneFailsAtWrite : {T : Type 0} → Calls → Calls → Calls → Calls → Result T Fault → Type 0
OneFailsAtWrite old new old' new' result = (FailsAtWrite old new result × NoneFailed old' new') ⊎ (NoneFailed old new × FailsAtWrite old' new' result)
