-- Which hint a refused line gets: by what is before the refused place, and by what is at it.
use Rattle.std.specs.Prelude.{ℕ, ◌-◌, Bool, true, false, List, codes, drop, length, reverse, take, nat_lt, not, ◌&&◌, ◌||◌, ◌==◌, if◌then◌else◌, Option, Some, None, slice_index}
use Rattle.std.specs.List.{take_while}
use Rattle.std.specs.Char.{is_ascii_digit, is_ascii_alphanumeric}
use Rattle.std.specs.Str.{bytes_eq}
use Rattle.ratio_expressions.specs.Tokens.{begins_power, begins_three, begins_two, digits, first_token, is_behind, is_blank_byte, led, name}
use Rattle.ratio_expressions.specs.declared.refusal.Reason.{Reason}
use Rattle.ratio_expressions.specs.declared.refusal.Reason.TheVariants as reasons
use Rattle.ratio_expressions.specs.declared.refusal.Refusal.{Refusal}
use Rattle.ratio_expressions.specs.declared.replies.hint.Hint.{Hint}
use Rattle.ratio_expressions.specs.declared.replies.hint.Hint.TheVariants as hints
use Rattle.ratio_expressions.specs.declared.token.Kind.{Kind}
use Rattle.ratio_expressions.specs.declared.token.Kind.TheVariants as kinds
use Rattle.ratio_expressions.specs.declared.token.Operator.{Operator}
use Rattle.ratio_expressions.specs.declared.token.Operator.TheVariants as operators

-- a text without the blank bytes at its end
-- Example: `2 `: `2`
abbrev pub trimmed : List ℕ → List ℕ
trimmed text = take (length text - length (take_while is_blank_byte (reverse text))) text

-- the last byte of a text, or 0
-- Example: `2/`: 47
abbrev pub last_byte : List ℕ → ℕ
last_byte text = slice_index text (length text - 1)

-- whether a text ends as an operand does: with a letter, a digit, an underscore or a parenthesis
-- Example: `2 + (3)`; not `2 +`
abbrev pub ends_operand : List ℕ → Bool
ends_operand text = let b = last_byte text in is_ascii_alphanumeric b || ((b == 95) || (b == 41))

-- how many digits a text ends with
-- Example: `2/13`: 2
abbrev pub digits_at_end : List ℕ → ℕ
digits_at_end text = length (take_while is_ascii_digit (reverse text))

-- whether a text ends with a slash and digits
-- Example: `1/2`; not `12`
abbrev pub ends_over : List ℕ → Bool
ends_over text = nat_lt 0 (digits_at_end text) && is_behind 47 text (length text - digits_at_end text)

-- what is behind the digits that a text begins with
-- Example: `1/2^3`: `/2^3`
abbrev pub behind_digits : List ℕ → List ℕ
behind_digits text = drop (digits text) text

-- whether a text is a slash and digits and then a power
-- Example: `/2^3`; neither `/2` nor `^3`
abbrev pub is_part_to_power : List ℕ → Bool
is_part_to_power text = nat_lt 0 (led 47 text) && begins_power (drop (led 47 text) text)

-- the hint for a number behind an operand
-- Example: `3`, behind `2`: `SideBySide`
abbrev pub hint_of_number : List ℕ → List ℕ → Hint
hint_of_number before rest =
    if ends_over before then hints.BesideSlash else (
    if slice_index rest 0 == 46 then hints.Points else (
    if is_part_to_power (behind_digits rest) then hints.MixedPower else (
    if begins_three 226 129 132 (behind_digits rest) then hints.MixedSlash else hints.SideBySide)))

-- whether a word is an x as a sign of a product: alone, or with digits
-- Example: `x`, of `2 x 4`; `x4`, of `2x4`
abbrev pub is_cross : List ℕ → Bool
is_cross word = ((slice_index word 0 == 120) || (slice_index word 0 == 88)) && (digits (drop 1 word) == length (drop 1 word))

-- the hint for a word behind an operand
-- Example: `mod`: `Remainder`; `cup`: `Unit`
abbrev pub hint_of_word : List ℕ → Hint
hint_of_word word =
    if is_cross word then hints.Times else (
    if bytes_eq word (codes "mod") then hints.Remainder else (
    if bytes_eq word (codes "div") then hints.WholeQuotient else (
    if bytes_eq word (codes "times") then hints.Times else (
    if bytes_eq word (codes "of") then hints.Share else (
    if bytes_eq word (codes "and") then hints.Joined else (
    if slice_index word 0 == 95 then hints.Underscore else hints.Unit))))))

-- the hint for an equals sign, by what is before it
-- Example: behind `a = b`: `TwoNames`
abbrev pub hint_of_equal : List ℕ → Hint
hint_of_equal before =
    if length before == 0 then hints.Equals else (
    if last_byte before == 61 then hints.Same else (
    if (last_byte before == 60) || (last_byte before == 62) then hints.Turned else (
    if ends_operand before then hints.TwoNames else hints.Increase)))

-- the hint for another comparison, by what is before it
-- Example: `<`, behind `1 < 2`: `Chain`; behind `2 =`: `Turned`
abbrev pub hint_of_comparison : List ℕ → Hint
hint_of_comparison before =
    if (last_byte before == 61) || (last_byte before == 60) then hints.Turned else (
    if ends_operand before then hints.Chain else hints.OneOperator)

-- the hint for a slash, by what is before it
-- Example: behind `7 /`: `WholeQuotient`
abbrev pub hint_of_slash : List ℕ → Hint
hint_of_slash before = if last_byte before == 47 then hints.WholeQuotient else hints.OneOperator

-- the hint for an operator that no operand is before, or that compares once more
-- Example: `/`, behind `7 /`: `WholeQuotient`; `<`, behind `1 < 2`: `Chain`
abbrev pub hint_of_compared : Operator → List ℕ → Hint
hint_of_compared operators.Less before = hint_of_comparison before
hint_of_compared operators.AtMost before = hint_of_comparison before
hint_of_compared operators.Equal before = hint_of_equal before
hint_of_compared operators.NotEqual before = hint_of_comparison before
hint_of_compared operators.AtLeast before = hint_of_comparison before
hint_of_compared operators.Greater before = hint_of_comparison before
hint_of_compared (operators.Divide s) before = hint_of_slash before
hint_of_compared (operators.Remainder s) before = if ends_operand before then hints.Percentage else hints.OneOperator
hint_of_compared operator before = hints.OneOperator

-- whether an operator is `=`
abbrev pub is_equal : Operator → Bool
is_equal operators.Equal = true
is_equal operator = false

-- the hint for an operator
-- Example: `*`, where nothing is before it: `GoingOn`
abbrev pub hint_of_operator : Operator → List ℕ → Hint
hint_of_operator operator before =
    if last_byte before == 37 then hints.Percentage else (
    if (length before == 0) && not (is_equal operator) then hints.GoingOn else hint_of_compared operator before)

-- the hint for what begins no token, by its first byte
-- Example: 33, of `!`: `Factorial`
abbrev pub hint_of_byte : ℕ → Option Hint
hint_of_byte c =
    if c == 33 then Some hints.Factorial else (
    if (c == 34) || ((c == 36) || (c == 39)) then Some hints.Currency else (
    if c == 35 then Some hints.Note else (
    if (c == 38) || (c == 124) then Some hints.Chain else (
    if c == 58 then Some hints.Proportion else (
    if c == 59 then Some hints.Lines else (
    if c == 63 then Some hints.Equals else (
    if c == 64 then Some hints.Times else (
    if (c == 91) || ((c == 93) || ((c == 123) || (c == 125))) then Some hints.Bracket else None))))))))

-- the hint for a sign of two bytes in UTF-8, by the second one behind 194: `²`, `³`, a space that breaks no line, or one of `¢ £ ¥ °`
-- Example: 178, of `²`: `Power`
abbrev pub hint_of_two : ℕ → Option Hint
hint_of_two c =
    if (c == 178) || (c == 179) then Some hints.Power else (
    if c == 160 then Some hints.PlainSpace else (
    if (c == 162) || ((c == 163) || ((c == 165) || (c == 176))) then Some hints.Currency else None))

-- the hint for a sign of three bytes in UTF-8, by the last one behind 226 and 128: `…`, a narrow space, or one of `’ ” ′ ″`
-- Example: 166, of `…`: `Repeating`
abbrev pub hint_of_mark : ℕ → Option Hint
hint_of_mark c =
    if c == 166 then Some hints.Repeating else (
    if c == 175 then Some hints.PlainSpace else (
    if (c == 153) || ((c == 157) || ((c == 178) || (c == 179))) then Some hints.Currency else None))

-- the hint for a sign of three bytes in UTF-8, by the last two behind 226: `√`, `€`, or one of these marks
-- Example: 136 and 154, of `√`: `Root`
abbrev pub hint_of_three : ℕ → ℕ → Option Hint
hint_of_three b c =
    if b == 128 then hint_of_mark c else (
    if (b == 136) && (c == 154) then Some hints.Root else (
    if (b == 130) && (c == 172) then Some hints.Currency else None))

-- the hint for a sign beyond ASCII, in UTF-8, or for a byte: `π` is 207 and 128
abbrev pub hint_of_character : List ℕ → Option Hint
hint_of_character text =
    if slice_index text 0 == 194 then hint_of_two (slice_index text 1) else (
    if slice_index text 0 == 226 then hint_of_three (slice_index text 1) (slice_index text 2) else (
    if begins_two 207 128 text then Some hints.Pi else hint_of_byte (slice_index text 0)))

-- the hint for what begins no token
-- Example: `...`: `Repeating`; `:=`: `Assigned`
abbrev pub hint_of_sign : List ℕ → Option Hint
hint_of_sign rest =
    if begins_two 46 46 rest then Some hints.Repeating else (
    if slice_index rest 0 == 46 then Some hints.LastPoint else (
    if begins_two 58 61 rest then Some hints.Assigned else hint_of_character rest))

-- the hint for the end of the line
-- Example: behind `x%`: `Percentage`; behind `(2+3`: `Unclosed`; behind `2 +`: none
abbrev pub hint_of_end : List ℕ → Option Hint
hint_of_end before =
    if last_byte before == 37 then Some hints.Percentage else (
    if last_byte before == 61 then Some hints.Equals else (
    if ends_operand before then Some hints.Unclosed else None))

-- the hint for a comma, by what is before it
-- Example: behind `12`: `Comma`; behind `max(`: none
abbrev pub hint_of_comma : List ℕ → Option Hint
hint_of_comma before = if ends_operand before then Some hints.Comma else None

-- the hint for a token of this kind, with what is before it and what begins with it
-- Example: an opening parenthesis: `Product`
abbrev pub hint_of_kind : Kind → List ℕ → List ℕ → Option Hint
hint_of_kind kinds.Number before rest = Some (hint_of_number before rest)
hint_of_kind kinds.Name before rest = Some (hint_of_word (take (name rest) rest))
hint_of_kind (kinds.Operator operator) before rest = Some (hint_of_operator operator before)
hint_of_kind kinds.Open before rest = Some hints.Product
hint_of_kind kinds.Close before rest = Some hints.Closing
hint_of_kind kinds.Comma before rest = hint_of_comma before

-- the same, if a token is there
abbrev pub hint_of_token : Option (Kind × ℕ) → List ℕ → List ℕ → Option Hint
hint_of_token None before rest = hint_of_sign rest
hint_of_token (Some t) before rest = hint_of_kind t.0 before rest

-- the hint by what is before the place, and by what is at it
-- Example: `2` and `(3+4)`: `Product`
abbrev pub hint_between : List ℕ → List ℕ → Option Hint
hint_between before rest = if length rest == 0 then hint_of_end before else hint_of_token (first_token false rest) before rest

-- the hint for a line that cannot go on like this at a place
-- Example: `2(3+4)`, at 1: `Product`
abbrev pub hint : List ℕ → ℕ → Option Hint
hint line place = hint_between (trimmed (take place line)) (drop place line)

-- the hint for a name that nothing has
-- Example: `pi`: `Pi`
abbrev pub hint_of_name : List ℕ → Hint
hint_of_name word = if bytes_eq word (codes "pi") || (bytes_eq word (codes "Pi") || bytes_eq word (codes "PI")) then hints.Pi else hints.NameFirst

-- the hint for a call that there is not
-- Example: `sqrt`: `Root`
abbrev pub hint_of_call : List ℕ → Hint
hint_of_call word =
    if bytes_eq word (codes "sqrt") then hints.Root else (
    if bytes_eq word (codes "pow") then hints.Power else (
    if bytes_eq word (codes "mod") then hints.Remainder else (
    if bytes_eq word (codes "sum") then hints.Sum else (
    if bytes_eq word (codes "factorial") then hints.Factorial else (
    if length word == 1 then hints.NameProduct else hints.Calls)))))

-- the name at a place of a line
-- Example: `2*pi`, at 2: `pi`
abbrev pub name_at : List ℕ → ℕ → List ℕ
name_at line place = take (name (drop place line)) (drop place line)

-- the hint for a refused place of a line, by the reason
-- Example: `NoExpression`, of `2(3+4)` at 1: `Product`; `ZeroDivisor`: none
abbrev pub by_reason : Reason → List ℕ → ℕ → Option Hint
by_reason reasons.NoExpression line place = hint line place
by_reason reasons.UnknownName line place = Some (hint_of_name (name_at line place))
by_reason reasons.UnknownCall line place = Some (hint_of_call (name_at line place))
by_reason reason line place = None

-- the hint for a refused line
-- Example: `2*pi`, where nothing has the name at 2: `Pi`
abbrev pub hint_for : List ℕ → Refusal → Option Hint
hint_for line r = by_reason r.reason line r.place
