-- What a call takes from a reader and adds to a writer, where their bytes are known.
use Rattle.std.specs.Prelude.{◌≡◌, ◌++◌, ◌∷◌, ℕ, Bool, true, false, List, Option, Some, Result, Ok, Err, IfSome}
use Rattle.std.specs.Io.{StopsAt}
use Rattle.std.specs.Io.KnownBytes.{Appends, Consumes, IsAtEnd}
use Rattle.ratio_lines.specs.Devices.{after_ending, after_failing, after_moving}
use Rattle.ratio_lines.specs.declared.counted.Calls.{Calls}
use Rattle.ratio.specs.Failures.{is_write}
use Rattle.ratio.specs.Lines.{input_lines}
use Rattle.ratio.specs.declared.fault.Fault.{Fault}
use Rattle.ratio.specs.declared.fault.Fault.TheVariants as faults

-- what a reader has left, or what a writer holds, before some calls and after them, if it is known
pub record DeviceChange : Type 0 where
  pub old : Option (List ℕ)
  pub new : Option (List ℕ)

-- how a device changed
abbrev pub device_change : {D : Type 0} → (D → Option (List ℕ)) → D → D → DeviceChange
device_change bytes old new = record { old = bytes old; new = bytes new }

-- the bytes are as they were
abbrev pub Stays : DeviceChange → Type 0
Stays device = device.new ≡ device.old

-- the writer took these bytes
abbrev pub Takes : DeviceChange → List ℕ → Type 0
Takes writer bytes = Appends writer.old writer.new bytes

-- the writer took a front of these bytes
pub record TakesFront (writer : DeviceChange) (bytes : List ℕ) : Type 0 where
  pub front : List ℕ
  pub rest : List ℕ
  pub split : front ++ rest ≡ bytes
  pub takes : Takes writer front

-- the writer took these bytes; or the fault is one of a writer, and it took a front of them
abbrev pub WritesAll : {T : Type 0} → DeviceChange → List ℕ → Result T Fault → Type 0
WritesAll writer bytes (Ok x) = Takes writer bytes
WritesAll writer bytes (Err fault) = (is_write fault ≡ true) × TakesFront writer bytes

-- these bytes come to the first writer if the test is true, or else to the second, and none to the other one
abbrev pub WritesToOne : {T : Type 0} → Bool → DeviceChange → DeviceChange → List ℕ → Result T Fault → Type 0
WritesToOne true first second bytes result = WritesAll first bytes result × Stays second
WritesToOne false first second bytes result = Stays first × WritesAll second bytes result

-- what a read of a line did: it moved the line, or said that the reader has ended, or failed with a part of a line
abbrev pub after_line : Calls → List ℕ → Result Bool Fault → Calls
after_line calls line (Ok true) = after_moving calls line
after_line calls line (Ok false) = after_ending calls
after_line calls line (Err fault) = after_failing (after_moving calls line)

-- the line is the reader's next one, with its line feed; or there is none; or the fault is `Read`, and the reader gave a part of a line
-- Example: a reader with `1\n2` left gives `1\n`, and has `2` left
abbrev pub GivesLine : DeviceChange → List ℕ → Result Bool Fault → Type 0
GivesLine reader line (Ok true) = IfSome reader.old (λ input. (rest : List ℕ) × (reader.new ≡ Some rest) × (input_lines input ≡ line ∷ input_lines rest))
GivesLine reader line (Ok false) = IsAtEnd reader.old
GivesLine reader line (Err fault) = (fault ≡ faults.Read) × Consumes reader.old reader.new line × StopsAt line 10
