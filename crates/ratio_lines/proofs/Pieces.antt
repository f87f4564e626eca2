-- What a piece does to the begun line.
use Rattle.std.proofs.Common.{◌≡◌, ℕ, ◌+◌, ◌<◌, ◌≤◌, List, [], ◌∷◌, ◌++◌, length, Bool, true, false, cond, ◌==◌, nat_lt, Option, None, Some, refl, ap, ◌∙◌, sym, arith, append_assoc, length-append}
use Rattle.std.proofs.lemmas.Bool.Decides.{nat_tests}
use Rattle.std.proofs.lemmas.List.{append-nil}
use Rattle.ratio_lines.specs.Answers.{IsAnswer}
use Rattle.ratio_lines.specs.KeptLine.{ArePieceAnswers, IsAnswerLine, IsKeptAnswer, extended, is_empty, line_after, pushed}
use Rattle.ratio_lines.specs.Cuts.{HasNone}
use Rattle.ratio_lines.proofs.Cuts.{first_none}
use Rattle.ratio_lines.specs.Lines.{longest_line}

below : (n : ℕ) → nat_lt n longest_line ≡ true → n < longest_line
below n t = grind (arith, nat_tests)

room : (n m k : ℕ) → m ≡ n + 1 → m + k ≤ longest_line → nat_lt n longest_line ≡ true
room n m k e within = grind (arith, nat_tests)

-- what is kept of a line after more bytes, if they are not too many
pub extended_within : (line more : List ℕ) → length line + length more ≤ longest_line → extended (Some line) more ≡ Some (line ++ more)
extended_within line [] within = ap Some (sym (append-nil line))
extended_within line (byte ∷ more) within =
    let fits : nat_lt (length line) longest_line ≡ true = room (length line) (length line + 1) (length more) refl (omega arith) in
    ap (λ t. extended (cond t (Some (line ++ byte ∷ [])) None) more) fits
    ∙ extended_within (line ++ byte ∷ []) more (omega (arith, length-append line (byte ∷ [])))
    ∙ ap Some (append_assoc line (byte ∷ []) more)

-- a line that has become too long stays so
pub extended_none : (more : List ℕ) → extended None more ≡ None
extended_none [] = refl
extended_none (byte ∷ more) = extended_none more

pub extended_beyond : (line more : List ℕ) → length line ≤ longest_line → longest_line < length line + length more → extended (Some line) more ≡ None
extended_beyond line [] short beyond = absurd (omega arith)
extended_beyond line (byte ∷ more) short beyond =
    elim (nat_lt (length line) longest_line) as (λ t. nat_lt (length line) longest_line ≡ t → extended (cond t (Some (line ++ byte ∷ [])) None) more ≡ None) [
      | true ↦ λ t. extended_beyond (line ++ byte ∷ []) more (omega (arith, length-append line (byte ∷ []), below (length line) t)) (omega (arith, length-append line (byte ∷ [])))
      | false ↦ λ t. extended_none more
    ] refl

-- what `extend` does if there is room
pub extended_fits : (long : Bool) (line more new : List ℕ) → length line + length more ≤ longest_line → new ≡ line ++ more
    → cond long None (Some new) ≡ extended (cond long None (Some line)) more
extended_fits true line more new within e = sym (extended_none more)
extended_fits false line more new within e = ap Some e ∙ sym (extended_within line more within)

within : (n : ℕ) → nat_lt longest_line n ≡ false → n ≤ longest_line
within n t = grind (arith, nat_tests)

above : (n : ℕ) → nat_lt longest_line n ≡ true → longest_line < n
above n t = grind (arith, nat_tests)

beyond : (n : ℕ) → (n ≤ longest_line → false ≡ true) → longest_line < n
beyond n never =
    elim (nat_lt longest_line n) as (λ t. nat_lt longest_line n ≡ t → longest_line < n) [ true ↦ λ t. above n t | false ↦ λ t. absurd (let no : false ≡ true = never (within n t) in cc) ] refl

-- what `extend` does if there is none
pub extended_over : (long : Bool) (line more : List ℕ) → length line ≤ longest_line → (length line + length more ≤ longest_line → false ≡ true) → extended (cond long None (Some line)) more ≡ None
extended_over true line more short over = extended_none more
extended_over false line more short over = extended_beyond line more short (beyond (length line + length more) over)

is_nil : (line : List ℕ) → (length line == 0) ≡ true → line ≡ []
is_nil [] t = refl
is_nil (byte ∷ line) t = absurd (grind (arith, nat_tests))

-- a line that is empty
pub empty_line : (line : Option (List ℕ)) → is_empty line ≡ true → line ≡ Some []
empty_line None t = absurd (let no : false ≡ true = t in cc)
empty_line (Some line) t = ap Some (is_nil line t)

-- the answer to a whole line is the answer to what is kept of it
pub answer_kept : (line answer : List ℕ) → IsAnswer line answer → IsKeptAnswer (extended (Some []) line) answer
answer_kept line answer h =
    elim (nat_lt longest_line (length line)) as (λ t. nat_lt longest_line (length line) ≡ t → IsAnswer line answer → IsKeptAnswer (extended (Some []) line) answer) [
      | true ↦ λ t k. rw (extended_beyond [] line (omega arith) (omega (arith, above (length line) t))) (rw t at k)
      | false ↦ λ t k. rw (extended_within [] line (omega (arith, within (length line) t))) k
    ] refl h

-- bytes without a line end go to the begun line
pub after_plain : (line : Option (List ℕ)) (bytes rest : List ℕ) → HasNone 10 bytes → line_after line (bytes ++ rest) ≡ line_after (extended line bytes) rest
after_plain line [] rest none = refl
after_plain line (byte ∷ bytes) rest none =
    let first = first_none 10 byte bytes none in
    ap (λ t. line_after (cond t (Some []) (pushed line byte)) (bytes ++ rest)) first.0 ∙ after_plain (pushed line byte) bytes rest first.1

-- these bytes add no answer
pub answers_plain : (line : Option (List ℕ)) (bytes rest answers : List ℕ) → HasNone 10 bytes → ArePieceAnswers (extended line bytes) rest answers
    → ArePieceAnswers line (bytes ++ rest) answers
answers_plain line [] rest answers none h = h
answers_plain line (byte ∷ bytes) rest answers none h =
    let first = first_none 10 byte bytes none in
    ([], answers, rw first.0 refl, rw first.0 (answers_plain (pushed line byte) bytes rest answers first.1 h), refl)

-- a line end after them adds the answer to the line
pub answers_line : (line : Option (List ℕ)) (bytes rest first others : List ℕ) → HasNone 10 bytes → IsAnswerLine (extended line bytes) first → ArePieceAnswers (Some []) rest others
    → ArePieceAnswers line (bytes ++ 10 ∷ rest) (first ++ others)
answers_line line bytes rest first others none answer h = answers_plain line bytes (10 ∷ rest) (first ++ others) none (first, others, answer, h, refl)
