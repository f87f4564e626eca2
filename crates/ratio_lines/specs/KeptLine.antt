-- What is kept of the line that is being read: its bytes, or `None` if they are more than a line may have.
use Rattle.std.specs.Prelude.{◌≡◌, ℕ, List, [], ◌∷◌, ◌++◌, length, Bool, false, ◌==◌, nat_lt, Option, None, Some, if◌then◌else◌, codes, MatchBool}
use Rattle.ratio_lines.specs.{Answers.IsAnswer, Lines.is_line_end, Lines.longest_line}

-- what is kept of a line: all of it, or `None` if it is longer than `longest_line`
abbrev pub kept : List ℕ → Option (List ℕ)
kept line = if nat_lt longest_line (length line) then None else Some line

-- what is kept after one more byte of the line
abbrev pub pushed : Option (List ℕ) → ℕ → Option (List ℕ)
pushed None byte = None
pushed (Some line) byte = if nat_lt (length line) longest_line then Some (line ++ byte ∷ []) else None

-- what is kept after more bytes of the line
abbrev pub extended : Option (List ℕ) → List ℕ → Option (List ℕ)
extended line [] = line
extended line (byte ∷ more) = extended (pushed line byte) more

-- the line is kept and has no byte yet
abbrev pub is_empty : Option (List ℕ) → Bool
is_empty None = false
is_empty (Some line) = length line == 0

-- the answer to the kept line
abbrev pub IsKeptAnswer : Option (List ℕ) → List ℕ → Type 0
IsKeptAnswer None answer = answer ≡ codes "error: line too long"
IsKeptAnswer (Some line) answer = IsAnswer line answer

-- the answer to the kept line, with a line end
pub record IsAnswerLine (line : Option (List ℕ)) (bytes : List ℕ) : Type 0 where
  pub answer : List ℕ
  pub is_answer : IsKeptAnswer line answer
  pub text : bytes ≡ answer ++ 10 ∷ []

-- what the end of the input adds to the answers: nothing, if no line is begun
abbrev pub IsLastAnswer : Option (List ℕ) → List ℕ → Type 0
IsLastAnswer line bytes = MatchBool (is_empty line) (bytes ≡ []) (IsAnswerLine line bytes)

-- what is kept after one more byte of the input, which may end the line
abbrev pub next_line : Option (List ℕ) → ℕ → Option (List ℕ)
next_line line byte = if is_line_end byte then Some [] else pushed line byte

-- what one more byte of the input adds to the answers: nothing, if it is no line end
abbrev pub IsByteAnswer : Option (List ℕ) → ℕ → List ℕ → Type 0
IsByteAnswer line byte bytes = MatchBool (is_line_end byte) (IsAnswerLine line bytes) (bytes ≡ [])

-- what is kept after more bytes of the input
abbrev pub line_after : Option (List ℕ) → List ℕ → Option (List ℕ)
line_after line [] = line
line_after line (byte ∷ piece) = line_after (next_line line byte) piece

-- what more bytes of the input add to the answers, byte by byte
abbrev pub ArePieceAnswers : Option (List ℕ) → List ℕ → List ℕ → Type 0
ArePieceAnswers line [] bytes = bytes ≡ []
ArePieceAnswers line (byte ∷ piece) bytes =
    (first : List ℕ) × (rest : List ℕ) × IsByteAnswer line byte first × ArePieceAnswers (next_line line byte) piece rest × (bytes ≡ first ++ rest)
