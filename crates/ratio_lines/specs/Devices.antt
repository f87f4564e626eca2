-- What the calls of a reader and of a writer do. The `Calls` of `src/counted.rt` say what the calls of a device (a reader or a writer) did:
-- the bytes moved; how many calls failed, were interrupted, flushed, or said that the reader ended; and how many bytes had moved at the last
-- flush, the *mark*. For example, a reader gives 4 bytes of `1 + 1\n`, then 2, then `Ok(0)`. Its `Calls` say that 6 bytes moved, no call
-- failed, and one read said that the reader has ended. Its `Moments` say what had moved before each read: 0 bytes, 4 and 6, and what the
-- writer of the answers had taken. A word that ends in `For` says this of some bytes with a given property.
use Rattle.std.specs.Prelude.{◌≡◌, ◌≢◌, ℕ, ◌+◌, ◌<◌, ◌≤◌, List, [], ◌∷◌, ◌++◌, ◌==◌, ◌&&◌, not, length, take, Option, Result, Ok, Err, if◌then◌else◌, MatchBool}
use Rattle.std.specs.IoError.{error_kind}
use Rattle.std.specs.declared.io.Error.{Error}
use Rattle.std.specs.declared.io.ErrorKind.TheVariants.{Interrupted}
use Rattle.std.specs.Io.KnownBytes.{Appends, Consumes, IsAtEnd, Keeps}
use Rattle.ratio_lines.specs.declared.fault.CalcFault.{CalcFault, TheVariants.Read, TheVariants.Write}
use Rattle.ratio_lines.specs.declared.counted.Calls.{Calls}
use Rattle.ratio_lines.specs.declared.counted.Moments.{Moments}

-- no call was made
abbrev pub no_calls : Calls
no_calls = record { moved = []; failures = 0; interrupts = 0; ends = 0; flushes = 0; mark = 0 }

-- no read was made
abbrev pub no_moments : Moments
no_moments = record { reads = [] }

-- one more read, before which the calls of the reader and of the writer did this
abbrev pub after_moment : Moments → Calls → Calls → Moments
after_moment moments given taken = record { reads = moments.reads ++ (given.moved, taken.moved, taken.mark) ∷ [] }

-- one more call moved these bytes
abbrev pub after_moving : Calls → List ℕ → Calls
after_moving calls bytes = record calls { moved = calls.moved ++ bytes }

-- one more call failed
abbrev pub after_failing : Calls → Calls
after_failing calls = record calls { failures = calls.failures + 1 }

-- one more call was interrupted
abbrev pub after_interrupt : Calls → Calls
after_interrupt calls = record calls { interrupts = calls.interrupts + 1 }

-- one more call said that the reader has ended
abbrev pub after_ending : Calls → Calls
after_ending calls = record calls { ends = calls.ends + 1 }

-- one more call flushed: the mark goes to the end of the bytes that moved
abbrev pub after_flushing : Calls → Calls
after_flushing calls = record calls { flushes = calls.flushes + 1; mark = length calls.moved }

-- what a reader's call did: `Ok(n)` gave the first n bytes of the buffer, `Ok(0)` with room in it says that the reader ended, an error is a failure
abbrev pub after_read : {E : Type 0} → Calls → Result ℕ E → List ℕ → Calls
after_read calls (Ok n) buffer = if (n == 0) && not (length buffer == 0) then after_ending calls else after_moving calls (take n buffer)
after_read calls (Err e) buffer = after_failing calls

-- what a writer's call did. `Ok(n)` took the first n bytes. But `Ok(0)` for at least one byte is a failure, as an error is
abbrev pub after_write : {E : Type 0} → Calls → Result ℕ E → List ℕ → Calls
after_write calls (Ok n) bytes = if (n == 0) && not (length bytes == 0) then after_failing calls else after_moving calls (take n bytes)
after_write calls (Err e) bytes = after_failing calls

-- what a writer's call did, if one that was interrupted has not failed
abbrev pub Tries : Calls → Calls → Result ℕ Error → List ℕ → Type 0
Tries old new (Ok n) bytes = new ≡ after_write {E = Error} old (Ok n) bytes
Tries old new (Err e) bytes = (error_kind e ≡ Interrupted → new ≡ after_interrupt old) × (error_kind e ≢ Interrupted → new ≡ after_failing old)

-- what a flush did. `Ok` sets the mark to the bytes that moved so far. An error is a failure
abbrev pub after_flush : {T E : Type 0} → Calls → Result T E → Calls
after_flush calls (Ok x) = after_flushing calls
after_flush calls (Err e) = after_failing calls

-- what a contract sees of a device: the bytes that a reader has left or a writer holds, if they are known, and its `Calls`
abbrev pub Device : Type 0
Device = Option (List ℕ) × Calls

-- a device before some calls and after them
pub record Change : Type 0 where
  pub old : Device
  pub new : Device

-- how a device changed. `bytes` says what a reader has left or a writer holds, and `calls` says what its calls did
abbrev pub change_of : {D : Type 0} → (D → Option (List ℕ)) → (D → Calls) → D → D → Change
change_of bytes calls old new = record { old = (bytes old, calls old); new = (bytes new, calls new) }

-- what a contract sees of a device whose calls are followed: the device, and what its reads and its writes did
pub record Followed (D : Type 0) : Type 0 where
  pub device : D
  pub reads : Calls
  pub moments : Moments
  pub writes : Calls

-- the reader gave these bytes
pub record Gave (old new : Device) (bytes : List ℕ) : Type 0 where
  pub known : Consumes old.0 new.0 bytes
  pub calls : new.1 ≡ after_moving old.1 bytes

-- the reader said that it has ended
pub record Ended (old new : Device) : Type 0 where
  pub known : Consumes old.0 new.0 []
  pub at_end : IsAtEnd new.0
  pub calls : new.1 ≡ after_ending old.1

-- a call failed, and moved nothing
pub record Failed (old new : Device) : Type 0 where
  pub known : Keeps old.0 new.0
  pub calls : new.1 ≡ after_failing old.1

-- the writer took these bytes
pub record Took (old new : Device) (bytes : List ℕ) : Type 0 where
  pub known : Appends old.0 new.0 bytes
  pub calls : new.1 ≡ after_moving old.1 bytes

-- the writer took a beginning of these bytes, and then a call failed
pub record TookSome (old new : Device) (bytes : List ℕ) : Type 0 where
  pub written : List ℕ
  pub rest : List ℕ
  pub split : written ++ rest ≡ bytes
  pub known : Appends old.0 new.0 written
  pub calls : new.1 ≡ after_failing (after_moving old.1 written)

-- the writer was flushed, and took nothing
pub record Flushed (old new : Device) : Type 0 where
  pub known : Keeps old.0 new.0
  pub calls : new.1 ≡ after_flushing old.1

-- for `Ok(n)` the reader gave the first n bytes of its buffer, or for n = 0 said that it has ended. For an error it failed
-- Example: `Ok(0)`: `Ended`
abbrev pub GivesPiece : Change → List ℕ → Result ℕ CalcFault → Type 0
GivesPiece reader buffer (Ok n) = (n ≤ length buffer) × MatchBool (n == 0) (Ended reader.old reader.new) (Gave reader.old reader.new (take n buffer))
GivesPiece reader buffer (Err fault) = (fault ≡ Read) × Failed reader.old reader.new

-- the writer took these bytes, or a call failed after a beginning of them
abbrev pub Writes : {T : Type 0} → Change → List ℕ → Result T CalcFault → Type 0
Writes writer bytes (Ok x) = Took writer.old writer.new bytes
Writes writer bytes (Err fault) = (fault ≡ Write) × TookSome writer.old writer.new bytes

-- the writer was flushed, or the call failed
abbrev pub Flushes : {T : Type 0} → Change → Result T CalcFault → Type 0
Flushes writer (Ok x) = Flushed writer.old writer.new
Flushes writer (Err fault) = (fault ≡ Write) × Failed writer.old writer.new

-- the writer took bytes of which `Is` holds, or a call failed after a beginning of them
pub record WritesFor {T : Type 0} (Is : List ℕ → Type 0) (writer : Change) (result : Result T CalcFault) : Type 0 where
  pub bytes : List ℕ
  pub are : Is bytes
  pub writes : Writes writer bytes result

-- `bytes` come after those that waited. The writer took a beginning of all these, and the rest waits. Or a call failed after a beginning
abbrev pub Gathers : {T : Type 0} → Change → List ℕ → List ℕ → List ℕ → Result T CalcFault → Type 0
Gathers writer waited waits bytes (Ok x) = (written : List ℕ) × Took writer.old writer.new written × (waited ++ bytes ≡ written ++ waits)
Gathers writer waited waits bytes (Err fault) = (fault ≡ Write) × TookSome writer.old writer.new (waited ++ bytes)

-- if the bytes that waited and `bytes` are at most 1,024 together, all wait and nothing is written. A call fails only if they are more
-- Example: 1,000 and 24 wait
abbrev pub Waits : {T : Type 0} → Change → List ℕ → List ℕ → List ℕ → Result T CalcFault → Type 0
Waits writer waited waits bytes (Ok x) = length waited + length bytes ≤ 1024 → (writer.new ≡ writer.old) × (waits ≡ waited ++ bytes)
Waits writer waited waits bytes (Err fault) = 1024 < length waited + length bytes

-- bytes of which `Is` holds come after those that waited, as `Gathers` says
pub record GathersFor {T : Type 0} (Is : List ℕ → Type 0) (writer : Change) (waited waits : List ℕ) (result : Result T CalcFault) : Type 0 where
  pub bytes : List ℕ
  pub are : Is bytes
  pub gathers : Gathers writer waited waits bytes result

-- bytes of which `Is` holds come after those that waited, as `Waits` says
pub record WaitsFor {T : Type 0} (Is : List ℕ → Type 0) (writer : Change) (waited waits : List ℕ) (result : Result T CalcFault) : Type 0 where
  pub bytes : List ℕ
  pub are : Is bytes
  pub wait : Waits writer waited waits bytes result
