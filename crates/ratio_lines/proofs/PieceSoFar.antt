-- How far the answers to one piece have come.
use Rattle.std.proofs.Common.{◌≡◌, ℕ, ◌<◌, ◌+◌, List, [], ◌∷◌, ◌++◌, length, Bool, true, false, Option, None, Some, Result, Ok, Err, refl, ap, ◌∙◌, sym, arith, append_assoc, length-append}
use Rattle.std.specs.Bool.{MatchBool}
use Rattle.std.specs.Prelude.{codes}
use Rattle.std.proofs.lemmas.List.{append-nil}
use Rattle.ratio_lines.specs.declared.fault.CalcFault.{CalcFault}
use Rattle.ratio_lines.specs.declared.fault.CalcFault.TheVariants.{Write}
use Rattle.ratio_lines.specs.Lines.{is_line_end}
use Rattle.ratio_lines.specs.Devices.{Device, GathersFor, Took, TookSome, WaitsFor}
use Rattle.ratio_lines.specs.KeptLine.{ArePieceAnswers, IsAnswerLine, IsKeptAnswer, extended, line_after, next_line}
use Rattle.ratio_lines.specs.Cuts.{HasNone}
use Rattle.ratio_lines.proofs.AnswersExist.{answer_exists}
use Rattle.ratio_lines.proofs.DeviceCalls.{changing, gathers_part, joined, took_both, took_nothing, took_some_after, WaitWhole, beyond_both, wait_both, wait_uncalled, waits_stopped}
use Rattle.ratio_lines.proofs.Pieces.{after_plain, answers_line, answers_plain}

-- These bytes are the answers to what came before the rest of the piece. With the answers to the rest, they are the answers to the piece.
pub record PieceSoFar (line line' : Option (List ℕ)) (piece rest : List ℕ) (old new : Device) (waited waiting : List ℕ) : Type 0 where
  pub bytes : List ℕ
  pub written : List ℕ
  pub took : Took old new written
  pub gathered : waited ++ bytes ≡ written ++ waiting
  pub waits : WaitWhole old new waited waiting bytes
  pub answers : (others : List ℕ) → ArePieceAnswers line' rest others → ArePieceAnswers line piece (bytes ++ others)
  pub after : line_after line' rest ≡ line_after line piece

pub piece_starts : (line : Option (List ℕ)) (piece : List ℕ) (old : Device) (waited : List ℕ) → PieceSoFar line line piece piece old old waited waited
piece_starts line piece old waited = record {
  bytes = [];
  written = [];
  took = took_nothing old;
  gathered = append-nil waited;
  waits = wait_uncalled old waited waited [] (sym (append-nil waited));
  answers = λ others h. h;
  after = refl;
}

pub after_shorter : (rest bytes after : List ℕ) → rest ≡ bytes ++ 10 ∷ after → length after < length rest
after_shorter rest bytes after split =
    let whole : length rest ≡ length bytes + length (10 ∷ after) = ap length split ∙ length-append bytes (10 ∷ after) in omega arith

-- the answer to the line that ends next
next_answer : (line line' : Option (List ℕ)) (piece rest bytes after answer : List ℕ) (old new : Device) (waited waiting : List ℕ)
    → HasNone 10 bytes → rest ≡ bytes ++ 10 ∷ after → IsKeptAnswer (extended line' bytes) answer
    → (p : PieceSoFar line line' piece rest old new waited waiting) (others : List ℕ) → ArePieceAnswers (Some []) after others
    → ArePieceAnswers line piece (p.bytes ++ ((answer ++ 10 ∷ []) ++ others))
next_answer line line' piece rest bytes after answer old new waited waiting none split is_answer p others h =
    p.answers ((answer ++ 10 ∷ []) ++ others)
    (rw split (answers_line line' bytes after (answer ++ 10 ∷ []) others none (record { answer = answer; is_answer = is_answer; text = refl }) h))

pub piece_goes_on : (line line' next : Option (List ℕ)) (piece rest bytes after answer : List ℕ) (a b c : Device) (waited between waiting written : List ℕ)
    → PieceSoFar line line' piece rest a b waited between → HasNone 10 bytes → rest ≡ bytes ++ 10 ∷ after → IsKeptAnswer (extended line' bytes) answer → next ≡ Some []
    → Took b c written → between ++ (answer ++ 10 ∷ []) ≡ written ++ waiting → WaitWhole b c between waiting (answer ++ 10 ∷ [])
    → PieceSoFar line next piece after a c waited waiting
piece_goes_on line line' next piece rest bytes after answer a b c waited between waiting written p none split is_answer begins took same waits = rw begins (record {
  bytes = p.bytes ++ (answer ++ 10 ∷ []);
  written = p.written ++ written;
  took = took_both a b c p.written written p.took took;
  gathered = joined waited p.bytes (answer ++ 10 ∷ []) p.written between p.gathered ∙ ap (λ zs. p.written ++ zs) same ∙ sym (append_assoc p.written written waiting);
  waits = wait_both a b c waited between waiting p.bytes (answer ++ 10 ∷ []) p.waits waits;
  answers = λ others h. rw append_assoc (next_answer line line' piece rest bytes after answer a b waited between none split is_answer p others h);
  after = sym (after_plain line' bytes (10 ∷ after) none) ∙ ap (line_after line') (sym split) ∙ p.after;
})

pub piece_line : (line line' : Option (List ℕ)) (piece rest : List ℕ) (old new : Device) (waited waiting : List ℕ) → PieceSoFar line line' piece rest old new waited waiting
    → HasNone 10 rest → extended line' rest ≡ line_after line piece
piece_line line line' piece rest old new waited waiting p none =
    sym (after_plain line' rest [] none) ∙ ap (line_after line') (append-nil rest) ∙ p.after

-- all of the piece has its answers
all_answered : (line line' : Option (List ℕ)) (piece rest : List ℕ) (old new : Device) (waited waiting : List ℕ) → (p : PieceSoFar line line' piece rest old new waited waiting)
    → HasNone 10 rest → ArePieceAnswers line piece p.bytes
all_answered line line' piece rest old new waited waiting p none =
    let nothing : ArePieceAnswers line' (rest ++ []) [] = answers_plain line' rest [] [] none refl in
    rw append-nil at (p.answers [] (rw append-nil at nothing))

pub piece_done : {T : Type 0} {x : T} (line line' : Option (List ℕ)) (piece rest : List ℕ) (old new : Device) (waited waiting : List ℕ)
    → PieceSoFar line line' piece rest old new waited waiting → HasNone 10 rest → GathersFor (ArePieceAnswers line piece) (changing old new) waited waiting (Ok x)
piece_done line line' piece rest old new waited waiting p none =
    record { bytes = p.bytes; are = all_answered line line' piece rest old new waited waiting p none; gathers = (p.written, p.took, p.gathered) }

-- the same for the condition under which they wait
pub piece_waits : {T : Type 0} {x : T} (line line' : Option (List ℕ)) (piece rest : List ℕ) (old new : Device) (waited waiting : List ℕ)
    → PieceSoFar line line' piece rest old new waited waiting → HasNone 10 rest → WaitsFor (ArePieceAnswers line piece) (changing old new) waited waiting (Ok x)
piece_waits line line' piece rest old new waited waiting p none =
    record { bytes = p.bytes; are = all_answered line line' piece rest old new waited waiting p none; wait = p.waits }

-- each line has an answer
line_exists : (line : Option (List ℕ)) → (bytes : List ℕ) × IsAnswerLine line bytes
line_exists None = (_, record { answer = codes "error: line too long"; is_answer = refl; text = refl })
line_exists (Some line) = let found = answer_exists line in (_, record { answer = found.0; is_answer = found.1; text = refl })

byte_exists : (ends : Bool) (line : Option (List ℕ)) → (bytes : List ℕ) × MatchBool ends (IsAnswerLine line bytes) (bytes ≡ [])
byte_exists true line = line_exists line
byte_exists false line = ([], refl)

piece_exists : (line : Option (List ℕ)) (piece : List ℕ) → (bytes : List ℕ) × ArePieceAnswers line piece bytes
piece_exists line [] = ([], refl)
piece_exists line (byte ∷ piece) =
    let first = byte_exists (is_line_end byte) line in
    let rest = piece_exists (next_line line byte) piece in
    (first.0 ++ rest.0, (first.0, rest.0, first.1, rest.1, refl))

-- A call failed before the answer to the line that ends next was written. The bytes after that line have answers too.
pub piece_stops : {T : Type 0} (line line' : Option (List ℕ)) (piece rest bytes after answer : List ℕ) (a b c : Device) (waited between waiting : List ℕ) (r : Result T CalcFault)
    → PieceSoFar line line' piece rest a b waited between → HasNone 10 bytes → rest ≡ bytes ++ 10 ∷ after → IsKeptAnswer (extended line' bytes) answer
    → TookSome b c (between ++ (answer ++ 10 ∷ [])) → r ≡ Err Write → GathersFor (ArePieceAnswers line piece) (changing a c) waited waiting r
piece_stops line line' piece rest bytes after answer a b c waited between waiting r p none split is_answer some e =
    let others = piece_exists (Some []) after in
    let all : TookSome a c (waited ++ (p.bytes ++ (answer ++ 10 ∷ []))) =
    rw (joined waited p.bytes (answer ++ 10 ∷ []) p.written between p.gathered) (took_some_after a b c p.written (between ++ (answer ++ 10 ∷ [])) p.took some) in
    rw e (record {
      bytes = (p.bytes ++ (answer ++ 10 ∷ [])) ++ others.0;
      are = rw append_assoc (next_answer line line' piece rest bytes after answer a b waited between none split is_answer p others.0 others.1);
      gathers = (refl, gathers_part a c waited (p.bytes ++ (answer ++ 10 ∷ [])) others.0 all);
    })

-- the same for the condition under which they wait: the answers up to this line were already too many
pub piece_waits_no_more : {T : Type 0} (line line' : Option (List ℕ)) (piece rest bytes after answer : List ℕ) (a b c : Device) (waited between waiting : List ℕ) (r : Result T CalcFault)
    → PieceSoFar line line' piece rest a b waited between → HasNone 10 bytes → rest ≡ bytes ++ 10 ∷ after → IsKeptAnswer (extended line' bytes) answer
    → 1024 < length between + length (answer ++ 10 ∷ []) → WaitsFor (ArePieceAnswers line piece) (changing a c) waited waiting r
piece_waits_no_more line line' piece rest bytes after answer a b c waited between waiting r p none split is_answer more =
    let others = piece_exists (Some []) after in
    let so_far : 1024 < length waited + length (p.bytes ++ (answer ++ 10 ∷ [])) =
    beyond_both a b waited between p.bytes (answer ++ 10 ∷ []) p.waits more in
    record {
      bytes = (p.bytes ++ (answer ++ 10 ∷ [])) ++ others.0;
      are = rw append_assoc (next_answer line line' piece rest bytes after answer a b waited between none split is_answer p others.0 others.1);
      wait = waits_stopped (changing a c) waited waiting (p.bytes ++ (answer ++ 10 ∷ [])) others.0 r so_far;
    }
