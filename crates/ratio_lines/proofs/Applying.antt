-- Operators apply one by one, while each operand is read.
use Rattle.std.proofs.Common.{◌≡◌, ℕ, ℤ, pos, ◌<ℤ◌, List, [], ◌∷◌, ◌++◌, Option, None, Some, Result, Ok, Err, refl, ap, ◌∙◌, sym, inl, inr, Bor, false}
use Rattle.std.specs.Prelude.{codes, ⊤, option_and_then, option_map, unwrap_or}
use Rattle.either.specs.Either.{MatchEither}
use Rattle.either.specs.declared.Either.{Either}
use Rattle.either.specs.declared.Either.TheVariants.{Left, Right}
use Rattle.num_rational.specs.Ratio.{denominator, numerator}
use Rattle.num_rational.specs.declared.ratio.Ratio.{Ratio}
use Rattle.ratio_core.specs.Printing.{text_of}
use Rattle.ratio_core.specs.Refusal.{refusal_text}
use Rattle.ratio_core.specs.declared.parse_error.RatioErrorKind.{RatioErrorKind}
use Rattle.ratio_core.specs.declared.text.Form.TheVariants.{Decimal}
use Rattle.ratio_lines.specs.AnswerText.{bytes_of, outcome_of}
use Rattle.ratio_lines.specs.Answers.{AreRead, IsApplied, IsOperandsAnswer, IsOutcome, IsTextsAnswer, Outcome, operator_parts, operators_of, right_parts}
use Rattle.ratio_lines.specs.Operands.{IsOperand, operator_of}
use Rattle.ratio_lines.specs.Parts.{OperatesOn, RefusesFirst}
use Rattle.ratio_lines.specs.declared.operator.Operator.{Operator}
use Rattle.ratio_lines.proofs.AnswersExist.{rights_exist}
use Rattle.ratio_lines.proofs.Outcomes.{IsPositive, outcome_positive}

-- ---- the rest of a line

-- the answer from an outcome on: the refusal of an operand that is still to be read, else what the remaining operators give
abbrev pub AnswersFrom : Outcome → List Operator → Result (List (ℤ × ℤ)) RatioErrorKind → List ℕ → Type 0
AnswersFrom outcome operators (Err kind) answer = answer ≡ codes "error: right: " ++ refusal_text kind
AnswersFrom outcome operators (Ok ys) answer = MatchEither outcome (λ text. answer ≡ text) (λ z. IsApplied operators z ys answer)

pub record FromHere (outcome : Outcome) (operators : List Operator) (rights : List (List ℕ)) (answer : List ℕ) : Type 0 where
  pub read : Result (List (ℤ × ℤ)) RatioErrorKind
  pub are_read : AreRead rights read
  pub answers : AnswersFrom outcome operators read answer

-- what operands read as, with one more before them
abbrev with_one : ℤ × ℤ → Result (List (ℤ × ℤ)) RatioErrorKind → Result (List (ℤ × ℤ)) RatioErrorKind
with_one y (Ok ys) = Ok (y ∷ ys)
with_one y (Err kind) = Err kind

read_with : (y : ℤ × ℤ) (right : List ℕ) (rights : List (List ℕ)) (read : Result (List (ℤ × ℤ)) RatioErrorKind) → IsOperand right (Ok y) → AreRead rights read
    → AreRead (right ∷ rights) (with_one y read)
read_with y right rights (Ok ys) h k = (h, k)
read_with y right rights (Err kind) h k = inr (y, h, k)

-- an operator between fractions, and then the rest
operands_from : (operator : Operator) (operators : List Operator) (x y : ℤ × ℤ) (outcome : Outcome) (read : Result (List (ℤ × ℤ)) RatioErrorKind) (answer : List ℕ)
    → IsOutcome operator x y outcome → AnswersFrom outcome operators read answer → IsOperandsAnswer (operator ∷ operators) (Ok x) (with_one y read) answer
operands_from operator operators x y outcome (Ok ys) answer h k = (outcome, h, k)
operands_from operator operators x y outcome (Err kind) answer h k = k

-- The remaining operators are known. What was applied gives a text, or a number with a positive denominator. An
-- answer from here on is an answer to the whole.
pub record AppliedSoFar (outcome : Outcome) (rest : List (List ℕ)) (operators : List Operator) (left : List ℕ) (rights : List (List ℕ)) : Type 0 where
  pub others : List Operator
  pub named : operators_of (operator_parts rest) ≡ Some others
  pub positive : IsPositive outcome
  pub goes_on : (answer : List ℕ) → FromHere outcome others (right_parts rest) answer → IsTextsAnswer operators left rights answer

pub applied_first : (operator : Operator) (others : List Operator) (left right : List ℕ) (rest : List (List ℕ)) (x y : ℤ × ℤ) (outcome : Outcome) → operators_of (operator_parts rest) ≡ Some others
    → IsOperand left (Ok x) → IsOperand right (Ok y) → IsOutcome operator x y outcome
    → AppliedSoFar outcome rest (operator ∷ unwrap_or (operators_of (operator_parts rest)) []) left (right ∷ right_parts rest)
applied_first operator others left right rest x y outcome named p q is = record {
  others = others;
  named = named;
  positive = outcome_positive operator x y outcome is;
  goes_on = λ answer h. rw named (record {
    left_operand = Ok x;
    right_operands = with_one y h.read;
    left_reads = p;
    rights_read = read_with y right (right_parts rest) h.read q h.are_read;
    is_answer = operands_from operator others x y outcome h.read answer is h.answers;
  });
}

-- the outcome of an operator after others
abbrev pub GoesOn : Outcome → Operator → ℤ × ℤ → Outcome → Type 0
GoesOn outcome operator y next = MatchEither outcome (λ text. next ≡ Left text) (λ x. IsOutcome operator x y next)

next_positive : (outcome next : Outcome) (operator : Operator) (y : ℤ × ℤ) → GoesOn outcome operator y next → IsPositive next
next_positive (Left text) next operator y h = rw h tt
next_positive (Right x) next operator y h = outcome_positive operator x y next h

next_answers : (outcome next : Outcome) (operator : Operator) (others : List Operator) (y : ℤ × ℤ) (read : Result (List (ℤ × ℤ)) RatioErrorKind) (answer : List ℕ)
    → GoesOn outcome operator y next → AnswersFrom next others read answer → AnswersFrom outcome (operator ∷ others) (with_one y read) answer
next_answers outcome next operator others y (Err kind) answer h k = k
next_answers (Left text) next operator others y (Ok ys) answer h k = let same : AnswersFrom (Left text) others (Ok ys) answer = rw h at k in same
next_answers (Right x) next operator others y (Ok ys) answer h k = (next, h, k)

first_named : (part : List ℕ) (parts : List (List ℕ)) (operator : Operator) (read : Option (List Operator)) (others : List Operator) → operator_of part ≡ Some operator
    → operators_of parts ≡ read → operators_of (part ∷ parts) ≡ Some others → (more : List Operator) × (operators_of parts ≡ Some more) × (others ≡ operator ∷ more)
first_named part parts operator None others p q r =
    absurd (let none : operators_of (part ∷ parts) ≡ None = rw (p, q) refl in cc)
first_named part parts operator (Some more) others p q r =
    let some : operators_of (part ∷ parts) ≡ Some (operator ∷ more) = rw (p, q) refl in
    (more, q, let same : others ≡ operator ∷ more = cc in same)

pub applied_next : (outcome next : Outcome) (rest more : List (List ℕ)) (operators : List Operator) (left : List ℕ) (rights : List (List ℕ)) (part right : List ℕ) (operator : Operator) (y : ℤ × ℤ)
    → AppliedSoFar outcome rest operators left rights → rest ≡ part ∷ right ∷ more → operator_of part ≡ Some operator → IsOperand right (Ok y) → GoesOn outcome operator y next
    → AppliedSoFar next more operators left rights
applied_next outcome next rest more operators left rights part right operator y p cut named reads is =
    let found = first_named part (operator_parts more) operator (operators_of (operator_parts more)) p.others named refl (ap operators_of (ap operator_parts (sym cut)) ∙ p.named) in
    record {
      others = found.0;
      named = found.1;
      positive = next_positive outcome next operator y is;
      goes_on = λ answer h. p.goes_on answer (rw (cut, found.2) (record {
        read = with_one y h.read;
        are_read = read_with y right (right_parts more) h.read reads h.are_read;
        answers = next_answers outcome next operator found.0 y h.read answer is h.answers;
      }));
    }

-- if the first operand is refused, its refusal is the answer
pub left_refused : (operators : List Operator) (left : List ℕ) (rights : List (List ℕ)) (answer : List ℕ) (kind said : RatioErrorKind) → IsOperand left (Err kind) → said ≡ kind
    → answer ≡ codes "error: left: " ++ refusal_text said → IsTextsAnswer operators left rights answer
left_refused operators left rights answer kind said refused same is =
    let others = rights_exist rights in
    record {
      left_operand = Err kind;
      right_operands = others.0;
      left_reads = refused;
      rights_read = others.1;
      is_answer = is ∙ ap (λ k. codes "error: left: " ++ refusal_text k) same;
    }

-- the same for the second operand
pub second_refused : (operators : List Operator) (left right : List ℕ) (rights : List (List ℕ)) (answer : List ℕ) (x : ℤ × ℤ) (kind said : RatioErrorKind) → IsOperand left (Ok x)
    → IsOperand right (Err kind) → said ≡ kind → answer ≡ codes "error: right: " ++ refusal_text said → IsTextsAnswer operators left (right ∷ rights) answer
second_refused operators left right rights answer x kind said reads refused same is = record {
  left_operand = Ok x;
  right_operands = Err kind;
  left_reads = reads;
  rights_read = inl refused;
  is_answer = is ∙ ap (λ k. codes "error: right: " ++ refusal_text k) same;
}

-- the same for the first of the two that is refused
pub first_refused : (operators : List Operator) (left right : List ℕ) (rights : List (List ℕ)) (answer : List ℕ) → RefusesFirst left right answer → IsTextsAnswer operators left (right ∷ rights) answer
first_refused operators left right rights answer (inl h) = left_refused operators left (right ∷ rights) answer h.0 h.0 h.1 refl h.2
first_refused operators left right rights answer (inr h) = second_refused operators left right rights answer h.0 h.1 h.1 h.2 h.3 refl h.4

-- if a later operand is refused, its refusal is the answer
pub applied_refused : (outcome : Outcome) (rest more : List (List ℕ)) (operators : List Operator) (left : List ℕ) (rights : List (List ℕ)) (part right answer : List ℕ) (kind said : RatioErrorKind)
    → AppliedSoFar outcome rest operators left rights → rest ≡ part ∷ right ∷ more → IsOperand right (Err kind) → said ≡ kind → answer ≡ codes "error: right: " ++ refusal_text said
    → IsTextsAnswer operators left rights answer
applied_refused outcome rest more operators left rights part right answer kind said p cut refused same is =
    p.goes_on answer
    (rw cut (record { read = Err kind; are_read = inl refused; answers = is ∙ ap (λ k. codes "error: right: " ++ refusal_text k) same }))

-- what `go_on` requires of the outcome so far
pub positive_so_far : {T : _} {i : _} {o : _} {e : _} {p : _} {h : _} (outcome : Either (Bor (List ℕ)) (Ratio T i o e p h)) → IsPositive (outcome_of outcome)
    → MatchEither outcome (λ _. ⊤) (λ left. pos 0 <ℤ denominator left)
positive_so_far (Left text) h = tt
positive_so_far (Right number) h = h

no_operand : (operators : List Operator) (z : ℤ × ℤ) → IsApplied operators z [] (text_of 64 Decimal false z.0 z.1)
no_operand [] z = refl
no_operand (operator ∷ operators) z = refl

outcome_answers : {T : _} {i : _} {o : _} {e : _} {p : _} {h : _} (operators : List Operator) (outcome : Either (Bor (List ℕ)) (Ratio T i o e p h))
    → AnswersFrom (outcome_of outcome) operators (Ok []) (bytes_of outcome)
outcome_answers operators (Left text) = refl
outcome_answers operators (Right number) = no_operand operators (numerator number, denominator number)

-- if no operand is left, the outcome is the answer
pub applied_all : {T : _} {i : _} {o : _} {e : _} {p : _} {h : _} (outcome : Either (Bor (List ℕ)) (Ratio T i o e p h)) (rest : List (List ℕ)) (operators : List Operator) (left : List ℕ)
    (rights : List (List ℕ)) → AppliedSoFar (outcome_of outcome) rest operators left rights → right_parts rest ≡ [] → IsTextsAnswer operators left rights (bytes_of outcome)
applied_all outcome rest operators left rights p none =
    p.goes_on (bytes_of outcome) (rw none (record { read = Ok []; are_read = refl; answers = outcome_answers p.others outcome }))

-- a part in an operator's place names one
pub applied_named : (outcome : Outcome) (rest more : List (List ℕ)) (operators : List Operator) (left : List ℕ) (rights : List (List ℕ)) (part : List ℕ)
    → AppliedSoFar outcome rest operators left rights → operator_parts rest ≡ part ∷ more → operator_of part ≡ None → ⊥
applied_named outcome rest more operators left rights part p cut none =
    let here : operators_of (operator_parts rest) ≡ None =
    ap operators_of cut ∙ ap (option_and_then (λ operator. option_map (λ others. operator ∷ others) (operators_of more))) none in
    let known : operators_of (operator_parts rest) ≡ Some p.others = p.named in cc

-- one operator between two operands
pub two_answered : {T : _} {i : _} {o : _} {e : _} {p : _} {h : _} (outcome : Either (Bor (List ℕ)) (Ratio T i o e p h)) (left : List ℕ) (operator : Operator) (right : List ℕ)
    → OperatesOn left operator right (outcome_of outcome) → IsTextsAnswer (operator ∷ []) left (right ∷ []) (bytes_of outcome)
two_answered outcome left operator right p =
    applied_all outcome [] (operator ∷ []) left (right ∷ [])
    (applied_first operator [] left right [] p.first p.second (outcome_of outcome) refl p.left_reads p.right_reads p.is_outcome) refl
