-- How far a run has come, and how it ends.
use Rattle.std.proofs.Common.{◌≡◌, ℕ, ◌+◌, ◌-◌, ◌^◌, ◌≤◌, List, [], ◌++◌, length, Option, Some, Result, Ok, Err, refl, ap, ◌∙◌, sym, arith, length-append}
use Rattle.std.proofs.lemmas.List.{append-nil}
use Rattle.std.specs.Prelude.{OnOk}
use Rattle.ratio_lines.specs.declared.fault.CalcFault.{CalcFault}
use Rattle.ratio_lines.specs.declared.fault.CalcFault.TheVariants.{Read, Write, Endless}
use Rattle.ratio_lines.specs.declared.counted.Calls.{Calls}
use Rattle.ratio_lines.specs.Answers.{AreAnswersOf, AreWholeAnswers}
use Rattle.ratio_lines.specs.Lines.{begun_line, if_begun, whole_lines}
use Rattle.ratio_lines.specs.Devices.{Device, Ended, Failed, Flushes, Gave, Took, TookSome, after_ending, after_failing, after_flushing}
use Rattle.ratio_lines.specs.KeptLine.{ArePieceAnswers, IsLastAnswer, kept, line_after}
use Rattle.ratio_lines.specs.Run.{Ran, ReadsLines, read_failures, write_failures}
use Rattle.ratio_lines.proofs.DeviceCalls.{changing, appends_kept, consumes_both, consumes_kept, gathered_all, gave_both, gave_nothing, took_all, took_both, took_nothing, took_some_after, took_some_before}
use Rattle.ratio_lines.proofs.AnswersExist.{answers_of_lines}
use Rattle.ratio_lines.proofs.LinesSoFar.{answers_both, answers_last, answers_piece, kept_piece}

-- At least `count` bytes were read. Their whole lines are answered, the begun line is kept, and no byte waits.
pub record Progress (reader reader' writer writer' : Device) (line : Option (List ℕ)) (waiting : List ℕ) (count : ℕ) : Type 0 where
  pub read : List ℕ
  pub answers : List ℕ
  pub gave : Gave reader reader' read
  pub counted : count ≤ length read
  pub whole : AreWholeAnswers read answers
  pub took : Took writer writer' answers
  pub begun : line ≡ kept (begun_line read)
  pub none_waits : waiting ≡ []

pub starts : (reader writer : Device) (line : Option (List ℕ)) (waiting : List ℕ) → line ≡ Some [] → waiting ≡ [] → Progress reader reader writer writer line waiting 0
starts reader writer line waiting begins none = record {
  read = [];
  answers = [];
  gave = gave_nothing reader;
  counted = omega arith;
  whole = refl;
  took = took_nothing writer;
  begun = begins;
  none_waits = none;
}

pub goes_on : (reader a b writer c d : Device) (line next : Option (List ℕ)) (waited waiting : List ℕ) (count : ℕ) (piece bytes written : List ℕ)
    → Progress reader a writer c line waited count → Gave a b piece × (1 ≤ length piece) → ArePieceAnswers line piece bytes → Took c d written → waited ++ bytes ≡ written ++ waiting
    → next ≡ line_after line piece → waiting ≡ [] → Progress reader b writer d next waiting (count + 1)
goes_on reader a b writer c d line next waited waiting count piece bytes written p gave are took same is_next none = record {
  read = p.read ++ piece;
  answers = p.answers ++ bytes;
  gave = gave_both reader a b p.read piece p.gave gave.0;
  counted = let so_far = p.counted in let some = gave.1 in omega (arith, length-append p.read piece);
  whole = answers_piece piece p.read p.answers bytes p.whole (rw p.begun at are);
  took = took_both writer c d p.answers bytes p.took (gathered_all c d waited waiting bytes written p.none_waits none took same);
  begun = is_next ∙ ap (λ x. line_after x piece) p.begun ∙ sym (kept_piece piece p.read);
  none_waits = none;
}

pub reads_all : (reader a b writer c : Device) (line : Option (List ℕ)) (waiting : List ℕ) (count : ℕ) → Progress reader a writer c line waiting count → Ended a b
    → ReadsLines (changing reader b) (changing writer c) (Ok line)
reads_all reader a b writer c line waiting count p ended = record { read = p.read; answers = p.answers; lines = ((a, p.gave, ended), p.whole, p.took, p.begun) }

pub stops_at_read : (reader a b writer c : Device) (line : Option (List ℕ)) (waiting : List ℕ) (count : ℕ) (r : Result (Option (List ℕ)) CalcFault)
    → Progress reader a writer c line waiting count → Failed a b → r ≡ Err Read → ReadsLines (changing reader b) (changing writer c) r
stops_at_read reader a b writer c line waiting count r p failed e = rw e (record { read = p.read; answers = p.answers; lines = ((a, p.gave, failed), p.whole, p.took) })

pub stops_at_write : (reader a b writer c d : Device) (line : Option (List ℕ)) (waited : List ℕ) (count : ℕ) (piece bytes : List ℕ) (r : Result (Option (List ℕ)) CalcFault)
    → Progress reader a writer c line waited count → Gave a b piece → ArePieceAnswers line piece bytes → TookSome c d (waited ++ bytes) → r ≡ Err Write
    → ReadsLines (changing reader b) (changing writer d) r
stops_at_write reader a b writer c d line waited count piece bytes r p gave are some e =
    let more : TookSome c d bytes = rw p.none_waits at some in
    let whole = answers_piece piece p.read p.answers bytes p.whole (rw p.begun at are) in
    let last = answers_of_lines (if_begun (begun_line (p.read ++ piece))) in
    rw e (record {
      read = p.read ++ piece;
      answers = (p.answers ++ bytes) ++ last.0;
      lines = (
        gave_both reader a b p.read piece p.gave gave,
        answers_both (whole_lines (p.read ++ piece)) (if_begun (begun_line (p.read ++ piece))) (p.answers ++ bytes) last.0 whole last.1,
        took_some_before writer d (p.answers ++ bytes) last.0 (took_some_after writer c d p.answers bytes p.took more),
      );
    })

pub stops_endless : (reader a writer c : Device) (line : Option (List ℕ)) (waiting : List ℕ) (count : ℕ) → Progress reader a writer c line waiting count
    → 2 ^ 64 - 1 ≤ count → ReadsLines (changing reader a) (changing writer c) (Err Endless)
stops_endless reader a writer c line waiting count p many = record {
  read = p.read;
  answers = p.answers;
  lines = (p.gave, p.whole, p.took, let so_far = p.counted in omega arith);
}

-- all that a run promises
pub record Whole {T : Type 0} (reader reader' writer writer' : Device) (result : Result T CalcFault) : Type 0 where
  pub answered : Ran (changing reader reader') (changing writer writer') result
  pub reader_failed : reader'.1.failures ≡ reader.1.failures + read_failures result
  pub writer_failed : writer'.1.failures ≡ writer.1.failures + write_failures result
  pub ended : OnOk result (reader'.1.ends ≡ reader.1.ends + 1)
  pub flushed : OnOk result (writer'.1.flushes ≡ writer.1.flushes + 1)
  pub marked : OnOk result (writer'.1.mark ≡ length writer'.1.moved)

moved_of : (calls calls' : Calls) → calls ≡ calls' → calls.moved ≡ calls'.moved
moved_of calls calls' e = ap (λ (c : Calls). c.moved) e

failures_of : (calls calls' : Calls) → calls ≡ calls' → calls.failures ≡ calls'.failures
failures_of calls calls' e = ap (λ (c : Calls). c.failures) e

-- a run that stopped while it read lines
pub stopped_reading : {T : Type 0} (reader reader' writer writer' : Device) (fault : CalcFault) (r : Result T CalcFault)
    → ReadsLines (changing reader reader') (changing writer writer') (Err fault) → r ≡ Err fault → Whole reader reader' writer writer' r
stopped_reading reader reader' writer writer' Read r h e =
    let calls = h.lines.0.2.calls ∙ ap after_failing h.lines.0.1.calls in
    rw e (record {
      answered = record {
        read = h.read;
        written = h.answers;
        given = moved_of _ _ calls;
        consumed = consumes_kept _ _ _ h.read h.lines.0.1.known h.lines.0.2.known;
        taken = moved_of _ _ h.lines.2.calls;
        appended = h.lines.2.known;
        answered = h.lines.1;
      };
      reader_failed = failures_of _ _ calls;
      writer_failed = let same = failures_of _ _ h.lines.2.calls in omega arith;
      ended = tt;
      flushed = tt;
      marked = tt;
    })
stopped_reading reader reader' writer writer' Write r h e =
    let some = h.lines.2 in
    rw e (record {
      answered = record {
        read = h.read;
        written = some.written;
        given = moved_of _ _ h.lines.0.calls;
        consumed = h.lines.0.known;
        taken = moved_of _ _ some.calls;
        appended = some.known;
        answered = (some.rest, rw some.split h.lines.1);
      };
      reader_failed = let same = failures_of _ _ h.lines.0.calls in omega arith;
      writer_failed = failures_of _ _ some.calls;
      ended = tt;
      flushed = tt;
      marked = tt;
    })
stopped_reading reader reader' writer writer' Endless r h e =
    rw e (record {
      answered = record {
        read = h.read;
        written = h.answers;
        given = moved_of _ _ h.lines.0.calls;
        consumed = h.lines.0.known;
        taken = moved_of _ _ h.lines.2.calls;
        appended = h.lines.2.known;
        answered = (h.lines.1, h.lines.3);
      };
      reader_failed = let same = failures_of _ _ h.lines.0.calls in omega arith;
      writer_failed = let same = failures_of _ _ h.lines.2.calls in omega arith;
      ended = tt;
      flushed = tt;
      marked = tt;
    })

-- all answers, with the one to the line that is kept at the end
answers_by : (read answers : List ℕ) (line : Option (List ℕ)) (bytes : List ℕ) → AreWholeAnswers read answers → line ≡ kept (begun_line read) → IsLastAnswer line bytes
    → AreAnswersOf read (answers ++ bytes)
answers_by read answers line bytes whole begun last = answers_last read answers bytes whole (rw begun at last)

-- the whole input was read, and a call failed after the answers or a beginning of them
pub stopped_writing : {T : Type 0} (reader reader' writer a b : Device) (line : Option (List ℕ)) (bytes : List ℕ) (r : Result T CalcFault)
    → ReadsLines (changing reader reader') (changing writer a) (Ok line) → IsLastAnswer line bytes → TookSome a b bytes → r ≡ Err Write → Whole reader reader' writer b r
stopped_writing reader reader' writer a b line bytes r h last more e =
    let some : TookSome writer b (h.answers ++ bytes) = took_some_after writer a b h.answers bytes h.lines.2 more in
    let calls = h.lines.0.2.calls ∙ ap after_ending h.lines.0.1.calls in
    rw e (record {
      answered = record {
        read = h.read;
        written = some.written;
        given = moved_of _ _ calls;
        consumed = rw append-nil at (consumes_both _ _ _ h.read [] h.lines.0.1.known h.lines.0.2.known);
        taken = moved_of _ _ some.calls;
        appended = some.known;
        answered = (some.rest, rw some.split (answers_by h.read h.answers line bytes h.lines.1 h.lines.3 last));
      };
      reader_failed = let same = failures_of _ _ calls in omega arith;
      writer_failed = failures_of _ _ some.calls;
      ended = tt;
      flushed = tt;
      marked = tt;
    })

-- the whole input was read, and all answers were written
pub finished : {T : Type 0} (reader reader' writer a b c : Device) (line : Option (List ℕ)) (bytes : List ℕ) (r : Result T CalcFault)
    → ReadsLines (changing reader reader') (changing writer a) (Ok line) → IsLastAnswer line bytes → Took a b bytes → Flushes (changing b c) r → Whole reader reader' writer c r
finished reader reader' writer a b c line bytes (Ok x) h last more flushed =
    let all : Took writer b (h.answers ++ bytes) = took_both writer a b h.answers bytes h.lines.2 more in
    let reads = h.lines.0.2.calls ∙ ap after_ending h.lines.0.1.calls in
    let writes = flushed.calls ∙ ap after_flushing all.calls in
    record {
      answered = record {
        read = h.read;
        written = h.answers ++ bytes;
        given = moved_of _ _ reads;
        consumed = rw append-nil at (consumes_both _ _ _ h.read [] h.lines.0.1.known h.lines.0.2.known);
        taken = moved_of _ _ writes;
        appended = appends_kept _ _ _ _ all.known flushed.known;
        answered = (answers_by h.read h.answers line bytes h.lines.1 h.lines.3 last, h.lines.0.2.at_end);
      };
      reader_failed = let same = failures_of _ _ reads in omega arith;
      writer_failed = let same = failures_of _ _ writes in omega arith;
      ended = ap (λ (calls : Calls). calls.ends) reads;
      flushed = ap (λ (calls : Calls). calls.flushes) writes;
      marked = ap (λ (calls : Calls). calls.mark) writes ∙ sym (ap length (moved_of _ _ writes));
    }
finished reader reader' writer a b c line bytes (Err e) h last more flushed =
    stopped_writing reader reader' writer a c line bytes (Err e) h last (took_all a b c bytes more flushed.1) (ap Err flushed.0)
