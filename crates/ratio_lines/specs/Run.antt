-- What one run of the calculator does.
use Rattle.std.specs.Prelude.{◌≡◌, ℕ, ◌-◌, ◌^◌, ◌≤◌, All, List, ◌++◌, length, Option, Result, Ok, Err, MatchResult, codes}
use Rattle.std.specs.Io.KnownBytes.{Consumes, Appends, IsAtEnd}
use Rattle.ratio_lines.specs.{Answers.AreAnswersOf, Answers.AreWholeAnswers, Lines.begun_line}
use Rattle.ratio_lines.specs.Devices.{Change, Device, Ended, Failed, Gave, Took, TookSome}
use Rattle.ratio_lines.specs.KeptLine.{kept}
use Rattle.ratio_lines.specs.declared.counted.Moments.{Moments}
use Rattle.ratio_lines.specs.declared.fault.CalcFault.{CalcFault, TheVariants.Read, TheVariants.Write, TheVariants.Endless}

-- what the program prints at a fault
-- Example: `ratio_calc: read failed`
abbrev pub fault_text : CalcFault → List ℕ
fault_text Read = codes "ratio_calc: read failed"
fault_text Write = codes "ratio_calc: write failed"
fault_text Endless = codes "ratio_calc: input too long"

-- what was written when a run stopped. At `Read`: the answers to the whole lines that were read. At `Write`: a beginning of the answers to
-- what was read. At `Endless`: the answers to the whole lines of at least 2^64-1 bytes
-- Example: `1 + 1\n2`, then `Read`: `2\n`
abbrev pub StopsAt : List ℕ → List ℕ → CalcFault → Type 0
StopsAt read written Read = AreWholeAnswers read written
StopsAt read written Write = (rest : List ℕ) × AreAnswersOf read (written ++ rest)
StopsAt read written Endless = AreWholeAnswers read written × (2 ^ 64 - 1 ≤ length read)

-- a run read the bytes that calls of the reader gave: they come off what the reader had left. It wrote the bytes that calls of the writer
-- took: they are added to what the writer held. At `Ok` these are exactly all answers to what was read, and the reader is at its end. At a
-- fault they are as `StopsAt` says
-- Example: `1 + 1\n`: `2\n`
pub record Ran {T : Type 0} (reader writer : Change) (result : Result T CalcFault) : Type 0 where
  pub read : List ℕ
  pub written : List ℕ
  pub given : reader.new.1.moved ≡ reader.old.1.moved ++ read
  pub consumed : Consumes reader.old.0 reader.new.0 read
  pub taken : writer.new.1.moved ≡ writer.old.1.moved ++ written
  pub appended : Appends writer.old.0 writer.new.0 written
  pub answered : MatchResult result (λ _. AreAnswersOf read written × IsAtEnd reader.new.0) (StopsAt read written)

-- before a read, the writer had taken exactly the answers to the whole lines that the reader had given, of a run that began with `given`
-- and `taken`
-- Example: the reader gave `1 + 1\n2`, and the writer took `2\n`
pub record AnsweredAt (given taken : List ℕ) (moment : List ℕ × List ℕ × ℕ) : Type 0 where
  pub read : List ℕ
  pub written : List ℕ
  pub gave : moment.0 ≡ given ++ read
  pub took : moment.1 ≡ taken ++ written
  pub answered : AreWholeAnswers read written

-- a run that began with `given` and `taken` made some reads, and had answered before each of them (`AnsweredAt`)
pub record AnswersFirst (given taken : List ℕ) (old new : Moments) : Type 0 where
  pub reads : List (List ℕ × List ℕ × ℕ)
  pub made : new.reads ≡ old.reads ++ reads
  pub answered : All (AnsweredAt given taken) reads

-- how many more calls of the reader have failed: one at the fault `Read`, else none
abbrev pub read_failures : {T : Type 0} → Result T CalcFault → ℕ
read_failures (Ok _) = 0
read_failures (Err Read) = 1
read_failures (Err Write) = 0
read_failures (Err Endless) = 0

-- how many more calls of the writer have failed: one at the fault `Write`, else none
abbrev pub write_failures : {T : Type 0} → Result T CalcFault → ℕ
write_failures (Ok _) = 0
write_failures (Err Read) = 0
write_failures (Err Write) = 1
write_failures (Err Endless) = 0

-- Inner: at `Ok`, the reader gave `read` and then ended, the writer took the answers to the whole lines of `read`, and the begun line is
-- kept. At `Read`: the reader gave `read` and then failed, and the writer took those answers. At `Write`: the reader gave `read`, and the
-- writer failed after a beginning of the answers to it. At `Endless`: the reader gave at least 2^64-1 bytes, and the writer took the
-- answers to their whole lines
abbrev pub LinesAre : List ℕ → List ℕ → Change → Change → Result (Option (List ℕ)) CalcFault → Type 0
LinesAre read answers reader writer (Ok line) =
    ((middle : Device) × Gave reader.old middle read × Ended middle reader.new)
    × AreWholeAnswers read answers
    × Took writer.old writer.new answers
    × (line ≡ kept (begun_line read))
LinesAre read answers reader writer (Err Read) =
    ((middle : Device) × Gave reader.old middle read × Failed middle reader.new) × AreWholeAnswers read answers × Took writer.old writer.new answers
LinesAre read answers reader writer (Err Write) = Gave reader.old reader.new read × AreAnswersOf read answers × TookSome writer.old writer.new answers
LinesAre read answers reader writer (Err Endless) =
    Gave reader.old reader.new read × AreWholeAnswers read answers × Took writer.old writer.new answers × (2 ^ 64 - 1 ≤ length read)

-- Inner: the reader gave bytes, and the writer took answers to lines of them, as `LinesAre` says
pub record ReadsLines (reader writer : Change) (result : Result (Option (List ℕ)) CalcFault) : Type 0 where
  pub read : List ℕ
  pub answers : List ℕ
  pub lines : LinesAre read answers reader writer result
