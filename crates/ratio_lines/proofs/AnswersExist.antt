-- Each input has a list of answers. So the relation says something of every input. `AnswerLaws` proves that there is no other list.
use Rattle.std.proofs.Common.{◌≡◌, refl, inl, inr, arith, ℕ, ℤ, pos, ◌<ℤ◌, List, [], ◌∷◌, ◌++◌, length, Bool, true, false, nat_lt, Option, None, Some, Result, Ok, Err}
use Rattle.std.specs.Bool.{MatchBool}
use Rattle.std.specs.List.{list_any, slice_split}
use Rattle.std.specs.Ordering.{int_eq}
use Rattle.std.specs.Prelude.{codes}
use Rattle.std.specs.Str.{is_utf8}
use Rattle.std.proofs.lemmas.Int.{ints}
use Rattle.either.specs.Either.{MatchEither}
use Rattle.either.specs.declared.Either.TheVariants.{Left, Right}
use Rattle.ratio_integer.specs.Arithmetic.{difference_of, product_of, quotient_of, sum_of}
use Rattle.ratio_integer.specs.Range.{IsRange}
use Rattle.ratio_integer.specs.SignedBits.{greatest64, least64}
use Rattle.ratio_core.specs.Order.{cross_cmp}
use Rattle.ratio_core.specs.Printing.{text_of}
use Rattle.ratio_core.specs.Refusal.{refusal_text}
use Rattle.ratio_core.specs.declared.text.Form.TheVariants.{Decimal}
use Rattle.ratio_core.specs.declared.parse_error.RatioErrorKind.{RatioErrorKind}
use Rattle.ratio_core.proofs.NumbersExist.{lowest_checked, remainder_checked}
use Rattle.ratio_core.proofs.ReadingExists.{text_answer_exists}
use Rattle.ratio_lines.specs.Answers.{AreAnswers, AreAnswersOf, AreRead, IsAnswer, IsApplied, IsChainAnswer, IsDivisionOutcome, IsLowestResult, IsOperandsAnswer, IsOutcome, IsPartsAnswer, IsRemainderResult, IsResultOutcome, IsTextsAnswer, Outcome, is_chain, is_cmp, is_space, operator_parts, operators_of, order_text, outcome_of_result, right_parts, want_three, without_return}
use Rattle.ratio_lines.specs.Lines.{front_of, lines_of, longest_line}
use Rattle.ratio_lines.specs.Operands.{IsOperand}
use Rattle.ratio_lines.specs.declared.operator.Operator.{Operator}
use Rattle.ratio_lines.specs.declared.operator.Operator.TheVariants.{Add, Sub, Mul, Div, Rem, Cmp}
use Rattle.ratio_lines.proofs.Outcomes.{IsPositive, outcome_positive}

-- there are bytes of which `Is` holds
abbrev Exists : (List ℕ → Type 0) → Type 0
Exists Is = (answer : List ℕ) × Is answer

-- a test chooses one of two answers
of_two : (t : Bool) (P Q : List ℕ → Type 0) → Exists P → Exists Q → (answer : List ℕ) × MatchBool t (P answer) (Q answer)
of_two true P Q p q = p
of_two false P Q p q = q

-- a text is an answer that is equal to it
text_exists : (text : List ℕ) → (answer : List ℕ) × (answer ≡ text)
text_exists text = (text, refl)

-- ---- numbers

-- there is an outcome of which `Is` holds
abbrev HasOutcome : (Outcome → Type 0) → Type 0
HasOutcome Is = (outcome : Outcome) × Is outcome

-- each result has an outcome
result_exists : (Is : Option (ℤ × ℤ) → Type 0) → (number : Option (ℤ × ℤ)) × Is number → HasOutcome (IsResultOutcome Is)
result_exists Is found = (outcome_of_result found.0, record { number = found.0; is_number = found.1; is_outcome = refl })

-- each pair has lowest terms in 64 bits, or no result
lowest_exists : (pair : ℤ × ℤ) → HasOutcome (IsResultOutcome (IsLowestResult pair))
lowest_exists pair = result_exists (IsLowestResult pair) (lowest_checked least64 greatest64 pair)

-- the numbers of 64 bits are the range of a type
fields_range : IsRange least64 greatest64
fields_range = record { high = omega (arith, ints); low = inr (inr refl) }

remainder_exists : (x y : ℤ × ℤ) → pos 0 <ℤ x.1 → pos 0 <ℤ y.1 → HasOutcome (IsResultOutcome (IsRemainderResult x y))
remainder_exists x y left right = result_exists (IsRemainderResult x y) (remainder_checked least64 greatest64 x.0 x.1 y.0 y.1 fields_range left right)

-- a division by 0 has an outcome of its own
division_exists : (divisor : ℤ × ℤ) (Is : Option (ℤ × ℤ) → Type 0) → HasOutcome (IsResultOutcome Is) → HasOutcome (IsDivisionOutcome divisor Is)
division_exists divisor Is found =
    elim (int_eq divisor.0 (pos 0)) as (λ t. (outcome : Outcome) × MatchBool t (outcome ≡ Left (codes "error: division by zero")) (IsResultOutcome Is outcome))
    [ true ↦ (Left (codes "error: division by zero"), refl) | false ↦ found ]

-- ---- operators and operands

-- each operator between two fractions with positive denominators has an outcome
outcome_exists : (operator : Operator) (x y : ℤ × ℤ) → pos 0 <ℤ x.1 → pos 0 <ℤ y.1 → HasOutcome (IsOutcome operator x y)
outcome_exists Add x y left right = lowest_exists (sum_of x.0 x.1 y.0 y.1)
outcome_exists Sub x y left right = lowest_exists (difference_of x.0 x.1 y.0 y.1)
outcome_exists Mul x y left right = lowest_exists (product_of x.0 x.1 y.0 y.1)
outcome_exists Div x y left right = division_exists y (IsLowestResult (quotient_of x.0 x.1 y.0 y.1)) (lowest_exists (quotient_of x.0 x.1 y.0 y.1))
outcome_exists Rem x y left right = division_exists y (IsRemainderResult x y) (remainder_exists x y left right)
outcome_exists Cmp x y left right = (Left (order_text (cross_cmp x.0 x.1 y.0 y.1)), refl)

-- an outcome is the answer, or the next operator has one
outcome_answers : (outcome : Outcome) (Next : ℤ × ℤ → List ℕ → Type 0) → ((z : ℤ × ℤ) → pos 0 <ℤ z.1 → Exists (Next z)) → IsPositive outcome
    → (answer : List ℕ) × MatchEither outcome (λ text. answer ≡ text) (λ z. Next z answer)
outcome_answers (Left text) Next each positive = (text, refl)
outcome_answers (Right z) Next each positive = each z positive

-- each denominator is positive
abbrev ArePositive : List (ℤ × ℤ) → Type 0
ArePositive [] = Unit {0}
ArePositive (y ∷ ys) = (pos 0 <ℤ y.1) × ArePositive ys

-- operators between fractions with positive denominators have an answer
applied_exists : (operators : List Operator) (ys : List (ℤ × ℤ)) (x : ℤ × ℤ) → pos 0 <ℤ x.1 → ArePositive ys → Exists (IsApplied operators x ys)
applied_exists [] ys x left rights = text_exists (text_of 64 Decimal false x.0 x.1)
applied_exists (operator ∷ operators) [] x left rights = text_exists (text_of 64 Decimal false x.0 x.1)
applied_exists (operator ∷ operators) (y ∷ ys) x left rights =
    let first = outcome_exists operator x y left rights.0 in
    let next = outcome_answers first.0 (λ z. IsApplied operators z ys) (λ z positive. applied_exists operators ys z positive rights.1) (outcome_positive operator x y first.0 first.1) in
    (next.0, (first.0, first.1, next.1))

-- each text is an operand, or is refused
pub operand_exists : (text : List ℕ) → (operand : Result (ℤ × ℤ) RatioErrorKind) × IsOperand text operand
operand_exists text = text_answer_exists least64 greatest64 text (omega (arith, ints))

-- one more operand is read or refused, if the others are
operand_more : (text : List ℕ) (texts : List (List ℕ)) (operand : Result (ℤ × ℤ) RatioErrorKind) (read : Result (List (ℤ × ℤ)) RatioErrorKind) → IsOperand text operand → AreRead texts read
    → (all : Result (List (ℤ × ℤ)) RatioErrorKind) × AreRead (text ∷ texts) all
operand_more text texts (Err kind) read h k = (Err kind, inl h)
operand_more text texts (Ok x) (Err kind) h k = (Err kind, inr (x, h, k))
operand_more text texts (Ok x) (Ok xs) h k = (Ok (x ∷ xs), (h, k))

-- texts are read or refused
pub rights_exist : (texts : List (List ℕ)) → (read : Result (List (ℤ × ℤ)) RatioErrorKind) × AreRead texts read
rights_exist [] = (Ok [], refl)
rights_exist (text ∷ texts) =
    let operand = operand_exists text in let others = rights_exist texts in operand_more text texts operand.0 others.0 operand.1 others.1

-- what was read has positive denominators, since it is in lowest terms
read_positive : (texts : List (List ℕ)) (ys : List (ℤ × ℤ)) → AreRead texts (Ok ys) → ArePositive ys
read_positive [] [] h = tt
read_positive [] (y ∷ ys) h = absurd (cc)
read_positive (text ∷ texts) [] h = absurd h
read_positive (text ∷ texts) (y ∷ ys) h = (h.0.low.terms.lowest.positive, read_positive texts ys h.1)

-- a refusal has an answer, and so have fractions
operands_exist : (operators : List Operator) (left : List ℕ) (rights : List (List ℕ)) (x : Result (ℤ × ℤ) RatioErrorKind) (ys : Result (List (ℤ × ℤ)) RatioErrorKind) → IsOperand left x
    → AreRead rights ys → Exists (IsOperandsAnswer operators x ys)
operands_exist operators left rights (Err kind) ys p q = text_exists (codes "error: left: " ++ refusal_text kind)
operands_exist operators left rights (Ok x) (Err kind) p q = text_exists (codes "error: right: " ++ refusal_text kind)
operands_exist operators left rights (Ok x) (Ok ys) p q = applied_exists operators ys x p.low.terms.lowest.positive (read_positive rights ys q)

texts_exist : (operators : List Operator) (left : List ℕ) (rights : List (List ℕ)) → Exists (IsTextsAnswer operators left rights)
texts_exist operators left rights =
    let x = operand_exists left in
    let ys = rights_exist rights in
    let found = operands_exist operators left rights x.0 ys.0 x.1 ys.1 in
    (found.0, record { left_operand = x.0; right_operands = ys.0; left_reads = x.1; rights_read = ys.1; is_answer = found.1 })

-- ---- lines

-- parts that name no operator have an answer too
chain_exists : (operators : Option (List Operator)) (left : List ℕ) (rights : List (List ℕ)) → Exists (IsChainAnswer operators left rights)
chain_exists None left rights = text_exists (codes "error: unknown operator")
chain_exists (Some operators) left rights =
    of_two (list_any is_cmp (front_of operators)) (λ x. x ≡ codes "error: cmp must be last") (IsTextsAnswer operators left rights)
    (text_exists (codes "error: cmp must be last")) (texts_exist operators left rights)

parts_exist : (parts : List (List ℕ)) → Exists (IsPartsAnswer parts)
parts_exist [] = text_exists want_three
parts_exist (left ∷ parts) =
    of_two (is_chain (left ∷ parts)) (IsChainAnswer (operators_of (operator_parts parts)) left (right_parts parts)) (λ x. x ≡ want_three)
    (chain_exists (operators_of (operator_parts parts)) left (right_parts parts)) (text_exists want_three)

-- each line has an answer
pub answer_exists : (line : List ℕ) → (answer : List ℕ) × IsAnswer line answer
answer_exists line =
    of_two (nat_lt longest_line (length line)) (λ x. x ≡ codes "error: line too long")
    (λ x. MatchBool (is_utf8 line) (IsPartsAnswer (slice_split is_space (without_return line)) x) (x ≡ codes "error: not UTF-8"))
    (text_exists (codes "error: line too long"))
    (of_two (is_utf8 line) (IsPartsAnswer (slice_split is_space (without_return line))) (λ x. x ≡ codes "error: not UTF-8")
    (parts_exist (slice_split is_space (without_return line))) (text_exists (codes "error: not UTF-8")))

-- some lines have a list of answers
pub answers_of_lines : (lines : List (List ℕ)) → (written : List ℕ) × AreAnswers lines written
answers_of_lines [] = ([], refl)
answers_of_lines (line ∷ lines) =
    let first = answer_exists line in
    let others = answers_of_lines lines in
    (first.0 ++ 10 ∷ others.0, (first.0, others.0, first.1, others.1, refl))

-- an input has a list of answers
pub answers_exist : (input : List ℕ) → (answers : List ℕ) × AreAnswersOf input answers
answers_exist input = answers_of_lines (lines_of input)
