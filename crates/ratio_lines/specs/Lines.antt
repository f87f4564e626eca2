-- The lines of an input: the whole ones and the begun one, which with the line ends are the input (`proofs/LineLaws.antt`).
use Rattle.std.specs.Prelude.{ℕ, List, [], ◌∷◌, ◌++◌, Bool, ◌==◌}
use Rattle.std.specs.List.{slice_split}

-- the most bytes of a line, without its line end: 1,000
abbrev pub longest_line : ℕ
longest_line = 1000

-- the byte is 10: a line ends there
abbrev pub is_line_end : ℕ → Bool
is_line_end byte = byte == 10

-- all items but the last
abbrev pub front_of : {T : Type 0} → List T → List T
front_of [] = []
front_of (item ∷ []) = []
front_of (item ∷ next ∷ items) = item ∷ front_of (next ∷ items)

-- the last line that an input is cut into, which is the begun one
abbrev pub last_of : List (List ℕ) → List ℕ
last_of [] = []
last_of (line ∷ []) = line
last_of (line ∷ next ∷ lines) = last_of (next ∷ lines)

-- the lines that have their line end, without it
-- Example: `1 + 1\n2`: `1 + 1`
abbrev pub whole_lines : List ℕ → List (List ℕ)
whole_lines input = front_of (slice_split is_line_end input)

-- the bytes after the last line end
-- Example: `1 + 1\n2`: `2`
abbrev pub begun_line : List ℕ → List ℕ
begun_line input = last_of (slice_split is_line_end input)

-- the begun line as a line, if it has a byte
abbrev pub if_begun : List ℕ → List (List ℕ)
if_begun [] = []
if_begun (byte ∷ bytes) = (byte ∷ bytes) ∷ []

-- the whole lines, and then the begun line if it has a byte
-- Example: `1 + 1\n2`: `1 + 1` and `2`
abbrev pub lines_of : List ℕ → List (List ℕ)
lines_of input = whole_lines input ++ if_begun (begun_line input)
