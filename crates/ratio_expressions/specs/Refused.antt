-- What a refused line is answered.
use Rattle.std.specs.Prelude.{◌+◌, ◌-◌, ◌==◌, ◌||◌, ◌++◌, ◌∷◌, [], ℕ, Bool, true, List, codes, count_by, decimal, length, map, nat_lt, replicate, take, if◌then◌else◌}
use Rattle.ratio_expressions.specs.Expression.{begins_character}
use Rattle.ratio_expressions.specs.Hints.{advice}
use Rattle.ratio_expressions.specs.Reasons.{reason_text}
use Rattle.ratio_expressions.specs.Slips.{hint_for}
use Rattle.ratio_expressions.specs.declared.refusal.Reason.{Reason}
use Rattle.ratio_expressions.specs.declared.refusal.Reason.TheVariants.{NoExpression}
use Rattle.ratio_expressions.specs.declared.refusal.Refusal.{Refusal}

-- the column of a place in a text: 1 and the number of characters before it
-- Example: the x in `2 × x`, at the byte 5: 5
abbrev pub column_of : List ℕ → ℕ → ℕ
column_of text place = count_by begins_character (take place text) + 1

-- a byte as it is shown: a space in place of a tab, and a question mark in place of another control byte
-- Example: 0: 63, which is `?`
abbrev pub shown : ℕ → ℕ
shown b = if b == 9 then 32 else (if nat_lt b 32 || (b == 127) then 63 else b)

-- a reason in words, at the end of the line or not: an expression that has to go on at the end ends too soon
-- Example: `NoExpression` at the end: `the expression ends too soon`
abbrev pub reason_at : Reason → Bool → List ℕ
reason_at NoExpression true = codes "the expression ends too soon"
reason_at reason _ = reason_text reason

-- why the line is refused, in words
-- Example: `2 +`, refused at the byte 3: `the expression ends too soon`
abbrev pub why_refused : List ℕ → Refusal → List ℕ
why_refused line r = reason_at r.reason (r.place == length line)

-- what is written in place of an answer to a line that is too long to be read
abbrev pub too_long : List ℕ
too_long = codes "error: the line has more than a million bytes"

-- three lines: the line as it is shown, a caret below the place, and the reason with the column
-- Example: `2 + x`: `2 + x`, `    ^` and `error: nothing has this name, at column 5`
abbrev pub reason_lines : List ℕ → Refusal → List ℕ
reason_lines line r =
    map shown line ++ 10 ∷ [] ++ replicate (column_of line r.place - 1) 32 ++ codes "^" ++ 10 ∷ []
    ++ codes "error: " ++ why_refused line r ++ codes ", at column " ++ decimal (column_of line r.place)

-- these three lines, and behind them what the line is told to type
-- Example: `2(3)`: the last line is `error: the expression cannot go on like this, at column 2; type 2*(3+4) for 2(3+4)`
abbrev pub refusal_lines : List ℕ → Refusal → List ℕ
refusal_lines line r = reason_lines line r ++ advice (hint_for line r)
