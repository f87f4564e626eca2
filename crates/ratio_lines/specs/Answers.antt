-- What the calculator answers to a whole input. It writes one *answer* for each line: a result or an error message.
use Rattle.std.specs.Prelude.{◌≡◌, ℕ, ℤ, pos, List, [], ◌∷◌, ◌++◌, length, Bool, true, false, not, ◌&&◌, ◌==◌, ◌%◌, ◌⊎◌, nat_lt, Option, Some, None, Result, Ok, Err, if◌then◌else◌, codes, option_and_then, option_map, MatchBool}
use Rattle.std.specs.List.{list_all, list_any, slice_split}
use Rattle.either.specs.Either.{MatchEither}
use Rattle.either.specs.declared.Either.{Either, TheVariants.Left, TheVariants.Right}
use Rattle.std.specs.{Ordering.int_eq, Str.is_utf8}
use Rattle.std.specs.declared.cmp.Ordering.{Ordering, TheVariants.Less, TheVariants.Equal, TheVariants.Greater}
use Rattle.ratio_integer.specs.Arithmetic.{RemainderHeld, difference_of, product_of, quotient_of, remainder_of, sum_of}
use Rattle.ratio_integer.specs.Fraction.{AnswersLowest, ChecksLowest}
use Rattle.ratio_integer.specs.SignedBits.{greatest64, least64}
use Rattle.ratio_core.specs.{Order.cross_cmp, Printing.text_of, Refusal.refusal_text}
use Rattle.ratio_core.specs.declared.parse_error.RatioErrorKind.{RatioErrorKind}
use Rattle.ratio_core.specs.declared.text.Form.TheVariants.{Decimal}
use Rattle.ratio_lines.specs.Lines.{front_of, lines_of, longest_line, whole_lines}
use Rattle.ratio_lines.specs.Operands.{IsOperand, operator_of}
use Rattle.ratio_lines.specs.declared.operator.Operator.{Operator}
use Rattle.ratio_lines.specs.declared.operator.Operator.TheVariants.{Add, Sub, Mul, Div, Rem, Cmp}

-- the byte of a space, which is 32: it stands between the parts of a line
abbrev pub is_space : ℕ → Bool
is_space byte = byte == 32

-- the text of an order: `<`, `=` or `>`
abbrev pub order_text : Ordering → List ℕ
order_text Less = codes "<"
order_text Equal = codes "="
order_text Greater = codes ">"

-- what an operator gives: on the left a text that is the answer to the line, on the right a fraction for the next operator
-- Example: 1/2 + 1/3: 5/6
abbrev pub Outcome : Type 0
Outcome = Either (List ℕ) (ℤ × ℤ)

-- a result is the fraction for the next operator. Without one, the answer is `error: out of range`
abbrev pub outcome_of_result : Option (ℤ × ℤ) → Outcome
outcome_of_result (Some x) = Right x
outcome_of_result None = Left (codes "error: out of range")

-- this is the `outcome_of_result` of a result of which `Is` holds
pub record IsResultOutcome (Is : Option (ℤ × ℤ) → Type 0) (outcome : Outcome) : Type 0 where
  pub number : Option (ℤ × ℤ)
  pub is_number : Is number
  pub is_outcome : outcome ≡ outcome_of_result number

-- the result is the lowest terms of the pair, if they fit in 64 bits. Otherwise there is none
-- Example: 2/4: 1/2
abbrev pub IsLowestResult : ℤ × ℤ → Option (ℤ × ℤ) → Type 0
IsLowestResult pair number = ChecksLowest (λ x. x.0) (λ x. x.1) least64 greatest64 pair number

-- if `RemainderHeld`, the result is the lowest terms of the remainder, which fit in 64 bits. Otherwise there is none
-- Example: `3/4 % 1/2`: `1/4`
abbrev pub IsRemainderResult : ℤ × ℤ → ℤ × ℤ → Option (ℤ × ℤ) → Type 0
IsRemainderResult x y number =
    AnswersLowest (λ z. z.0) (λ z. z.1) least64 greatest64 (RemainderHeld least64 greatest64 x.0 x.1 y.0 y.1) (remainder_of x.0 x.1 y.0 y.1) number

-- a division by 0 has the answer `error: division by zero`. Any other division has the outcome of its result
-- Example: `1 / 0`
abbrev pub IsDivisionOutcome : ℤ × ℤ → (Option (ℤ × ℤ) → Type 0) → Outcome → Type 0
IsDivisionOutcome divisor Is outcome = MatchBool (int_eq divisor.0 (pos 0)) (outcome ≡ Left (codes "error: division by zero")) (IsResultOutcome Is outcome)

-- the outcome of an operator between two fractions is the outcome of its result, or for `cmp` the text of their order
-- Example: 1/2 + 1/3: 5/6; `1/2 cmp 1/3`: `>`
abbrev pub IsOutcome : Operator → ℤ × ℤ → ℤ × ℤ → Outcome → Type 0
IsOutcome Add x y outcome = IsResultOutcome (IsLowestResult (sum_of x.0 x.1 y.0 y.1)) outcome
IsOutcome Sub x y outcome = IsResultOutcome (IsLowestResult (difference_of x.0 x.1 y.0 y.1)) outcome
IsOutcome Mul x y outcome = IsResultOutcome (IsLowestResult (product_of x.0 x.1 y.0 y.1)) outcome
IsOutcome Div x y outcome = IsDivisionOutcome y (IsLowestResult (quotient_of x.0 x.1 y.0 y.1)) outcome
IsOutcome Rem x y outcome = IsDivisionOutcome y (IsRemainderResult x y) outcome
IsOutcome Cmp x y outcome = outcome ≡ Left (order_text (cross_cmp x.0 x.1 y.0 y.1))

-- operators apply from left to right, each to the fraction so far and the next operand. The answer is the first text, or else the last fraction
-- Example: `1 - 2 * 3`: `-3`
abbrev pub IsApplied : List Operator → ℤ × ℤ → List (ℤ × ℤ) → List ℕ → Type 0
IsApplied [] x ys answer = answer ≡ text_of 64 Decimal false x.0 x.1
IsApplied (operator ∷ operators) x [] answer = answer ≡ text_of 64 Decimal false x.0 x.1
IsApplied (operator ∷ operators) x (y ∷ ys) answer =
    (outcome : Outcome) × IsOutcome operator x y outcome × MatchEither outcome (λ text. answer ≡ text) (λ z. IsApplied operators z ys answer)

-- all texts are read as fractions, or the first text that is refused refuses them all
-- Example: `1`, `x` and `1/0`: the parse error of `x`
abbrev pub AreRead : List (List ℕ) → Result (List (ℤ × ℤ)) RatioErrorKind → Type 0
AreRead [] read = read ≡ Ok []
AreRead (text ∷ texts) (Ok []) = ⊥
AreRead (text ∷ texts) (Ok (x ∷ xs)) = IsOperand text (Ok x) × AreRead texts (Ok xs)
AreRead (text ∷ texts) (Err kind) = IsOperand text (Err kind) ⊎ ((x : ℤ × ℤ) × IsOperand text (Ok x) × AreRead texts (Err kind))

-- the answer is the refusal of the left operand, else the first refusal on the right, else what the operators give
-- Example: `1 / 0 + x`: `error: right: ..`
abbrev pub IsOperandsAnswer : List Operator → Result (ℤ × ℤ) RatioErrorKind → Result (List (ℤ × ℤ)) RatioErrorKind → List ℕ → Type 0
IsOperandsAnswer operators (Err kind) _ answer = answer ≡ codes "error: left: " ++ refusal_text kind
IsOperandsAnswer operators (Ok x) (Err kind) answer = answer ≡ codes "error: right: " ++ refusal_text kind
IsOperandsAnswer operators (Ok x) (Ok ys) answer = IsApplied operators x ys answer

-- the answer to operators between a first text and others. Every operand is read before any operator applies
-- Example: `1 / 0 + x`: `error: right: failed to parse integer`
pub record IsTextsAnswer (operators : List Operator) (left : List ℕ) (rights : List (List ℕ)) (answer : List ℕ) : Type 0 where
  pub left_operand : Result (ℤ × ℤ) RatioErrorKind
  pub right_operands : Result (List (ℤ × ℤ)) RatioErrorKind
  pub left_reads : IsOperand left left_operand
  pub rights_read : AreRead rights right_operands
  pub is_answer : IsOperandsAnswer operators left_operand right_operands answer

-- after the first operand, the parts are by turns an operator and its right operand. These are the operators
-- Example: `1 + 2 * 3`: `+`, `*`
abbrev pub operator_parts : List (List ℕ) → List (List ℕ)
operator_parts [] = []
operator_parts (operator ∷ []) = operator ∷ []
operator_parts (operator ∷ right ∷ parts) = operator ∷ operator_parts parts

-- after the first operand, the parts are by turns an operator and its right operand. These are the right operands
-- Example: `1 + 2 * 3`: `2`, `3`
abbrev pub right_parts : List (List ℕ) → List (List ℕ)
right_parts [] = []
right_parts (operator ∷ []) = []
right_parts (operator ∷ right ∷ parts) = right ∷ right_parts parts

-- the operators that the parts name, if each part names one
-- Example: `+` and `*`; none for `^`
abbrev pub operators_of : List (List ℕ) → Option (List Operator)
operators_of [] = Some []
operators_of (part ∷ parts) = option_and_then (λ operator. option_map (λ operators. operator ∷ operators) (operators_of parts)) (operator_of part)

-- the operator is `cmp`
abbrev pub is_cmp : Operator → Bool
is_cmp Cmp = true
is_cmp _ = false

-- the answer to a line that is no chain: `error: want LEFT OP RIGHT`
abbrev pub want_three : List ℕ
want_three = codes "error: want LEFT OP RIGHT"

-- the part is not empty
abbrev pub has_byte : List ℕ → Bool
has_byte part = not (length part == 0)

-- a chain has an odd number of parts, at least three, and none is empty
-- Example: not `1 +`
abbrev pub is_chain : List (List ℕ) → Bool
is_chain parts = (length parts % 2 == 1) && (nat_lt 2 (length parts) && list_all has_byte parts)

-- a part that names no operator is refused with `error: unknown operator`, and `cmp` before another operator with `error: cmp must be
-- last`. Otherwise the answer is the answer to the operands (`IsTextsAnswer`)
-- Example: `1 ^ 2`; `1 cmp 2 + 3`: `error: cmp must be last`
abbrev pub IsChainAnswer : Option (List Operator) → List ℕ → List (List ℕ) → List ℕ → Type 0
IsChainAnswer None left rights answer = answer ≡ codes "error: unknown operator"
IsChainAnswer (Some operators) left rights answer =
    MatchBool (list_any is_cmp (front_of operators)) (answer ≡ codes "error: cmp must be last") (IsTextsAnswer operators left rights answer)

-- the answer to the parts of a line is `want_three` if they are no chain, else the answer to all operators of the chain (`IsChainAnswer`)
-- Example: `1 +`: `error: want LEFT OP RIGHT`
abbrev pub IsPartsAnswer : List (List ℕ) → List ℕ → Type 0
IsPartsAnswer [] answer = answer ≡ want_three
IsPartsAnswer (left ∷ parts) answer =
    MatchBool (is_chain (left ∷ parts)) (IsChainAnswer (operators_of (operator_parts parts)) left (right_parts parts) answer) (answer ≡ want_three)

-- the bytes without one carriage return at the end
abbrev pub without_return : List ℕ → List ℕ
without_return [] = []
without_return (byte ∷ []) = if byte == 13 then [] else byte ∷ []
without_return (byte ∷ next ∷ bytes) = byte ∷ without_return (next ∷ bytes)

-- the answer to a line without its line end: the first of these that applies: `error: line too long`, `error: not UTF-8`, or the answer to
-- the parts of this line without its carriage return, cut at each space
-- Example: `1/2 + 1/3`: `5/6`
abbrev pub IsAnswer : List ℕ → List ℕ → Type 0
IsAnswer line answer =
    MatchBool (nat_lt longest_line (length line)) (answer ≡ codes "error: line too long")
    (MatchBool (is_utf8 line) (IsPartsAnswer (slice_split is_space (without_return line)) answer) (answer ≡ codes "error: not UTF-8"))

-- the answers to some lines, in order, with a line end after each
-- Example: `5/6\n1\n`
abbrev pub AreAnswers : List (List ℕ) → List ℕ → Type 0
AreAnswers [] written = written ≡ []
AreAnswers (line ∷ lines) written =
    (answer : List ℕ) × (rest : List ℕ) × IsAnswer line answer × AreAnswers lines rest × (written ≡ answer ++ 10 ∷ rest)

-- the answers to the whole lines of an input
abbrev pub AreWholeAnswers : List ℕ → List ℕ → Type 0
AreWholeAnswers input written = AreAnswers (whole_lines input) written

-- the answers to all lines of an input
abbrev pub AreAnswersOf : List ℕ → List ℕ → Type 0
AreAnswersOf input written = AreAnswers (lines_of input) written
