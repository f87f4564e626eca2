-- The lines of what was read so far, as it grows by a byte.
use Rattle.std.proofs.Common.{◌≡◌, ℕ, ◌+◌, ◌<◌, List, [], ◌∷◌, ◌++◌, length, Bool, true, false, not, cond, nat_lt, Option, None, Some, refl, ap, ◌∙◌, sym, arith, append_assoc, length-append}
use Rattle.std.specs.Bool.{MatchBool}
use Rattle.std.specs.List.{slice_split, onto_first}
use Rattle.std.proofs.lemmas.Bool.Decides.{nat_tests}
use Rattle.std.proofs.lemmas.List.{append-nil}
use Rattle.std.proofs.lemmas.List.Splits.{length-slice_split}
use Rattle.ratio_lines.specs.Answers.{AreAnswers, AreAnswersOf, AreWholeAnswers, IsAnswer}
use Rattle.ratio_lines.specs.Lines.{begun_line, front_of, if_begun, is_line_end, last_of, longest_line, whole_lines}
use Rattle.ratio_lines.specs.KeptLine.{ArePieceAnswers, IsAnswerLine, IsByteAnswer, IsKeptAnswer, IsLastAnswer, is_empty, kept, line_after, next_line, pushed}

-- The parts after one more byte. If `ends`, it ends the last part.
abbrev grown : Bool → ℕ → List (List ℕ) → List (List ℕ)
grown ends byte [] = []
grown ends byte (part ∷ []) = cond ends (part ∷ [] ∷ []) ((part ++ byte ∷ []) ∷ [])
grown ends byte (part ∷ next ∷ parts) = part ∷ grown ends byte (next ∷ parts)

grown_onto : (ends : Bool) (byte x : ℕ) (parts : List (List ℕ)) → 0 < length parts → onto_first x (grown ends byte parts) ≡ grown ends byte (onto_first x parts)
grown_onto ends byte x [] some = absurd (omega arith)
grown_onto true byte x (part ∷ []) some = refl
grown_onto false byte x (part ∷ []) some = refl
grown_onto ends byte x (part ∷ next ∷ parts) some = refl

grown_under : (ends : Bool) (byte : ℕ) (parts : List (List ℕ)) → 0 < length parts → [] ∷ grown ends byte parts ≡ grown ends byte ([] ∷ parts)
grown_under ends byte [] some = absurd (omega arith)
grown_under ends byte (part ∷ parts) some = refl

some_part : (p : ℕ → Bool) (xs : List ℕ) → 0 < length (slice_split p xs)
some_part p xs = omega (arith, length-slice_split p xs)

split_more : (p : ℕ → Bool) (xs : List ℕ) (byte : ℕ) → slice_split p (xs ++ byte ∷ []) ≡ grown (p byte) byte (slice_split p xs)
split_more p [] byte = elim (p byte) as (λ t. cond t ([] ∷ [] ∷ []) ((byte ∷ []) ∷ []) ≡ cond t ([] ∷ [] ∷ []) ((byte ∷ []) ∷ [])) [ true ↦ refl | false ↦ refl ]
split_more p (x ∷ xs) byte =
    rw (split_more p xs byte)
    (elim (p x) as (λ t. cond t ([] ∷ grown (p byte) byte (slice_split p xs)) (onto_first x (grown (p byte) byte (slice_split p xs)))
    ≡ grown (p byte) byte (cond t ([] ∷ slice_split p xs) (onto_first x (slice_split p xs))))
    [ true ↦ grown_under (p byte) byte (slice_split p xs) (some_part p xs) | false ↦ grown_onto (p byte) byte x (slice_split p xs) (some_part p xs) ])

some_grown : (ends : Bool) (byte : ℕ) (parts : List (List ℕ)) → 0 < length parts → 0 < length (grown ends byte parts)
some_grown ends byte [] some = absurd (omega arith)
some_grown true byte (part ∷ []) some = omega arith
some_grown false byte (part ∷ []) some = omega arith
some_grown ends byte (part ∷ next ∷ parts) some = omega arith

front_under : (part : List ℕ) (parts : List (List ℕ)) → 0 < length parts → front_of (part ∷ parts) ≡ part ∷ front_of parts
front_under part [] some = absurd (omega arith)
front_under part (next ∷ parts) some = refl

last_under : (part : List ℕ) (parts : List (List ℕ)) → 0 < length parts → last_of (part ∷ parts) ≡ last_of parts
last_under part [] some = absurd (omega arith)
last_under part (next ∷ parts) some = refl

front_ended : (byte : ℕ) (parts : List (List ℕ)) → 0 < length parts → front_of (grown true byte parts) ≡ front_of parts ++ last_of parts ∷ []
front_ended byte [] some = absurd (omega arith)
front_ended byte (part ∷ []) some = refl
front_ended byte (part ∷ next ∷ parts) some =
    front_under part (grown true byte (next ∷ parts)) (some_grown true byte (next ∷ parts) (omega arith))
    ∙ ap (λ xs. part ∷ xs) (front_ended byte (next ∷ parts) (omega arith))

last_ended : (byte : ℕ) (parts : List (List ℕ)) → 0 < length parts → last_of (grown true byte parts) ≡ []
last_ended byte [] some = absurd (omega arith)
last_ended byte (part ∷ []) some = refl
last_ended byte (part ∷ next ∷ parts) some =
    last_under part (grown true byte (next ∷ parts)) (some_grown true byte (next ∷ parts) (omega arith)) ∙ last_ended byte (next ∷ parts) (omega arith)

front_begun : (byte : ℕ) (parts : List (List ℕ)) → front_of (grown false byte parts) ≡ front_of parts
front_begun byte [] = refl
front_begun byte (part ∷ []) = refl
front_begun byte (part ∷ next ∷ parts) =
    front_under part (grown false byte (next ∷ parts)) (some_grown false byte (next ∷ parts) (omega arith))
    ∙ ap (λ xs. part ∷ xs) (front_begun byte (next ∷ parts))

last_begun : (byte : ℕ) (parts : List (List ℕ)) → 0 < length parts → last_of (grown false byte parts) ≡ last_of parts ++ byte ∷ []
last_begun byte [] some = absurd (omega arith)
last_begun byte (part ∷ []) some = refl
last_begun byte (part ∷ next ∷ parts) some =
    last_under part (grown false byte (next ∷ parts)) (some_grown false byte (next ∷ parts) (omega arith)) ∙ last_begun byte (next ∷ parts) (omega arith)

longer : (n m : ℕ) → m ≡ n + 1 → nat_lt longest_line n ≡ true → nat_lt longest_line m ≡ true
longer n m e h = grind (arith, nat_tests)

room : (n m : ℕ) → m ≡ n + 1 → nat_lt longest_line n ≡ false → nat_lt n longest_line ≡ not (nat_lt longest_line m)
room n m e h = grind (arith, nat_tests)

cond_not : (t : Bool) (x y : Option (List ℕ)) → cond (not t) x y ≡ cond t y x
cond_not true x y = refl
cond_not false x y = refl

pushed_kept : (line : List ℕ) (byte : ℕ) → pushed (kept line) byte ≡ kept (line ++ byte ∷ [])
pushed_kept line byte =
    let more : length (line ++ byte ∷ []) ≡ length line + 1 = length-append line (byte ∷ []) in
    elim (nat_lt longest_line (length line)) as (λ t. nat_lt longest_line (length line) ≡ t → pushed (cond t None (Some line)) byte ≡ kept (line ++ byte ∷ [])) [
      | true ↦ λ t. sym (ap (λ s. cond s None (Some (line ++ byte ∷ []))) (longer (length line) (length (line ++ byte ∷ [])) more t))
      | false ↦ λ t. ap (λ s. cond s (Some (line ++ byte ∷ [])) None) (room (length line) (length (line ++ byte ∷ [])) more t)
          ∙ cond_not (nat_lt longest_line (length (line ++ byte ∷ []))) (Some (line ++ byte ∷ [])) None
    ] refl

kept_answer : (line answer : List ℕ) → IsKeptAnswer (kept line) answer → IsAnswer line answer
kept_answer line answer h =
    elim (nat_lt longest_line (length line)) as (λ t. nat_lt longest_line (length line) ≡ t → IsKeptAnswer (cond t None (Some line)) answer → IsAnswer line answer)
    [ true ↦ λ t k. rw t k | false ↦ λ t k. k ] refl h

kept_not_empty : (byte : ℕ) (line : List ℕ) → is_empty (kept (byte ∷ line)) ≡ false
kept_not_empty byte line = elim (nat_lt longest_line (length (byte ∷ line))) as (λ t. is_empty (cond t None (Some (byte ∷ line))) ≡ false) [ true ↦ refl | false ↦ grind (arith, nat_tests) ]

-- the answers to some lines and then to others
pub answers_both : (lines more : List (List ℕ)) (xs ys : List ℕ) → AreAnswers lines xs → AreAnswers more ys → AreAnswers (lines ++ more) (xs ++ ys)
answers_both [] more xs ys h k = rw h k
answers_both (line ∷ lines) more xs ys h k =
    (h.0, h.1 ++ ys, h.2, answers_both lines more h.1 ys h.3 k, ap (λ zs. zs ++ ys) h.4 ∙ append_assoc h.0 (10 ∷ h.1) ys)

one_answer : (line bytes : List ℕ) → IsAnswerLine (kept line) bytes → AreAnswers (line ∷ []) bytes
one_answer line bytes h = (h.answer, [], kept_answer line h.answer h.is_answer, refl, h.text)

last_answers : (line bytes : List ℕ) → IsLastAnswer (kept line) bytes → AreAnswers (if_begun line) bytes
last_answers [] bytes h = h
last_answers (byte ∷ line) bytes h =
    let no : IsAnswerLine (kept (byte ∷ line)) bytes = rw (kept_not_empty byte line) at h in one_answer (byte ∷ line) bytes no

-- what the end of the input adds to the answers
pub answers_last : (read answers bytes : List ℕ) → AreWholeAnswers read answers → IsLastAnswer (kept (begun_line read)) bytes → AreAnswersOf read (answers ++ bytes)
answers_last read answers bytes whole last =
    answers_both (whole_lines read) (if_begun (begun_line read)) answers bytes whole (last_answers (begun_line read) bytes last)

-- the answers to parts that have grown by a byte
answers_grown : (ends : Bool) (byte : ℕ) (parts : List (List ℕ)) (answers bytes : List ℕ) → 0 < length parts → AreAnswers (front_of parts) answers
    → MatchBool ends (IsAnswerLine (kept (last_of parts)) bytes) (bytes ≡ []) → AreAnswers (front_of (grown ends byte parts)) (answers ++ bytes)
answers_grown true byte parts answers bytes some whole line =
    rw (front_ended byte parts some) (answers_both (front_of parts) (last_of parts ∷ []) answers bytes whole (one_answer (last_of parts) bytes line))
answers_grown false byte parts answers bytes some whole none =
    rw (front_begun byte parts, none, append-nil) whole

-- what one more byte adds to the answers
pub answers_more : (read : List ℕ) (byte : ℕ) (answers bytes : List ℕ) → AreWholeAnswers read answers → IsByteAnswer (kept (begun_line read)) byte bytes
    → AreWholeAnswers (read ++ byte ∷ []) (answers ++ bytes)
answers_more read byte answers bytes whole more =
    rw (split_more is_line_end read byte) (answers_grown (is_line_end byte) byte (slice_split is_line_end read) answers bytes (some_part is_line_end read) whole more)

kept_grown : (ends : Bool) (byte : ℕ) (parts : List (List ℕ)) → 0 < length parts
    → kept (last_of (grown ends byte parts)) ≡ cond ends (Some []) (pushed (kept (last_of parts)) byte)
kept_grown true byte parts some = ap kept (last_ended byte parts some)
kept_grown false byte parts some = ap kept (last_begun byte parts some) ∙ sym (pushed_kept (last_of parts) byte)

-- what is kept of the begun line after one more byte
pub kept_more : (read : List ℕ) (byte : ℕ) → kept (begun_line (read ++ byte ∷ [])) ≡ next_line (kept (begun_line read)) byte
kept_more read byte =
    ap (λ parts. kept (last_of parts)) (split_more is_line_end read byte)
    ∙ kept_grown (is_line_end byte) byte (slice_split is_line_end read) (some_part is_line_end read)

-- what a piece adds to the answers
pub answers_piece : (piece read answers bytes : List ℕ) → AreWholeAnswers read answers → ArePieceAnswers (kept (begun_line read)) piece bytes
    → AreWholeAnswers (read ++ piece) (answers ++ bytes)
answers_piece [] read answers bytes whole more = rw (more, append-nil, append-nil) whole
answers_piece (byte ∷ piece) read answers bytes whole more =
    let first = more.0 in let rest = more.1 in
    let so_far : AreWholeAnswers (read ++ byte ∷ []) (answers ++ first) = answers_more read byte answers first whole more.2 in
    let others : ArePieceAnswers (kept (begun_line (read ++ byte ∷ []))) piece rest = rw (kept_more read byte) more.3 in
    rw (more.4, ← append_assoc read (byte ∷ []) piece, ← append_assoc answers first rest) (answers_piece piece (read ++ byte ∷ []) (answers ++ first) rest so_far others)

-- what is kept of the begun line after a piece
pub kept_piece : (piece read : List ℕ) → kept (begun_line (read ++ piece)) ≡ line_after (kept (begun_line read)) piece
kept_piece [] read = ap (λ xs. kept (begun_line xs)) (append-nil read)
kept_piece (byte ∷ piece) read =
    ap (λ xs. kept (begun_line xs)) (sym (append_assoc read (byte ∷ []) piece)) ∙ kept_piece piece (read ++ byte ∷ [])
    ∙ ap (λ line. line_after line piece) (kept_more read byte)
