-- The lines of an input, and what a line is without its end.
use Rattle.std.specs.Prelude.{◌-◌, ◌==◌, ◌∷◌, [], ℕ, List, drop, length, not, reverse, take, take_while, if◌then◌else◌}
use Rattle.std.specs.List.{onto_first}
use Rattle.std.specs.Str.{bytes_eq}

-- the lines of an input, each with its line feed; the last one may have none
-- Example: `1\n\n2`: `1\n`, `\n` and `2`
abbrev pub input_lines : List ℕ → List (List ℕ)
input_lines [] = []
input_lines (b ∷ input) = if b == 10 then (b ∷ []) ∷ input_lines input else onto_first b (input_lines input)

-- a text without its last byte, if that is b
-- Example: `12` and a line feed, without 10: `12`
abbrev pub without_last : ℕ → List ℕ → List ℕ
without_last b text = if bytes_eq (drop (length text - 1) text) (b ∷ []) then take (length text - 1) text else text

-- a line without its line feed, and then without a carriage return at its end
-- Example: `12\r\n`: `12`
abbrev pub without_end : List ℕ → List ℕ
without_end line = without_last 13 (without_last 10 line)

-- how many bytes are behind the last line feed of a text
-- Example: `2 + )`, a line feed and `error`: 5
abbrev pub last_line_length : List ℕ → ℕ
last_line_length text = length (take_while (λ b. not (b == 10)) (reverse text))

-- the last line of a text: what is behind its last line feed
-- Example: of `2 + )`, a line feed and `error`: `error`
abbrev pub last_line : List ℕ → List ℕ
last_line text = drop (length text - last_line_length text) text
