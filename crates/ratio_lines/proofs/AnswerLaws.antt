-- An input has at most one list of answers. So the relation says exactly what is written.
use Rattle.std.proofs.Common.{◌≡◌, ℕ, ℤ, pos, List, [], ◌∷◌, ◌++◌, length, Bool, true, false, nat_lt, Option, None, Some, Result, Ok, Err, refl, ap, ◌∙◌, sym, inl, inr}
use Rattle.std.specs.Bool.{MatchBool}
use Rattle.std.specs.List.{list_any, slice_split}
use Rattle.std.specs.Ordering.{int_eq}
use Rattle.std.specs.Prelude.{codes}
use Rattle.std.specs.Str.{is_utf8}
use Rattle.either.specs.Either.{MatchEither}
use Rattle.either.specs.declared.Either.TheVariants.{Left, Right}
use Rattle.ratio_core.specs.Reading.{IsFractionText, Refuses, ReadsLowest}
use Rattle.ratio_core.specs.declared.parse_error.RatioErrorKind.{RatioErrorKind}
use Rattle.ratio_core.specs.declared.parse_error.RatioErrorKind.TheVariants.{ParseError, ZeroDenominator}
use Rattle.ratio_core.proofs.CutLemmas.{only_fraction}
use Rattle.ratio_integer.proofs.LowestTerms.{lowest_unique}
use Rattle.ratio_integer.specs.Arithmetic.{difference_of, product_of, quotient_of, remainder_of, sum_of}
use Rattle.ratio_integer.specs.Fraction.{IsHeldLowest}
use Rattle.ratio_integer.specs.SignedBits.{greatest64, least64}
use Rattle.ratio_lines.specs.Answers.{AreAnswers, AreAnswersOf, AreRead, IsAnswer, IsApplied, IsChainAnswer, IsDivisionOutcome, IsLowestResult, IsOperandsAnswer, IsOutcome, IsPartsAnswer, IsRemainderResult, IsResultOutcome, IsTextsAnswer, Outcome, is_chain, is_cmp, is_space, operator_parts, operators_of, outcome_of_result, right_parts, want_three, without_return}
use Rattle.ratio_lines.specs.Lines.{front_of, lines_of, longest_line}
use Rattle.ratio_lines.specs.Operands.{IsOperand}
use Rattle.ratio_lines.specs.declared.operator.Operator.{Operator}
use Rattle.ratio_lines.specs.declared.operator.Operator.TheVariants.{Add, Sub, Mul, Div, Rem, Cmp}

abbrev Reads : List ℕ → ℤ → ℤ → Type 0
Reads text = IsFractionText least64 greatest64 text

one_lowest : (text : List ℕ) (x y : ℤ × ℤ) → ReadsLowest least64 greatest64 (Reads text) x.0 x.1 → ReadsLowest least64 greatest64 (Reads text) y.0 y.1 → x ≡ y
one_lowest text x y h k =
    let pair = only_fraction least64 greatest64 text h.n h.d k.n k.d h.reads k.reads in
    let same : IsHeldLowest least64 greatest64 k.n k.d x.0 x.1 = rw (← pair.0, ← pair.1) h.low in
    let low = lowest_unique k.n k.d x.0 x.1 y.0 y.1 same.terms k.low.terms in
    ap (λ (a : ℤ). (a, x.1)) low.0 ∙ ap (λ (b : ℤ). (y.0, b)) low.1

read_or_refused : (text : List ℕ) (x : ℤ × ℤ) (kind : RatioErrorKind) → ReadsLowest least64 greatest64 (Reads text) x.0 x.1 → ¬ (Refuses least64 greatest64 (Reads text) kind)
read_or_refused text x ParseError h k = (k.each h.n h.d h.reads).1 (record { numer = x.0; denom = x.1; low = h.low })
read_or_refused text x ZeroDenominator h k = h.low.terms.fraction (only_fraction least64 greatest64 text h.n h.d k.0 (pos 0) h.reads k.1).1

one_refusal : (text : List ℕ) (kind other : RatioErrorKind) → Refuses least64 greatest64 (Reads text) kind → Refuses least64 greatest64 (Reads text) other → kind ≡ other
one_refusal text ParseError ParseError h k = refl
one_refusal text ParseError ZeroDenominator h k = absurd ((h.each k.0 (pos 0) k.1).0 refl)
one_refusal text ZeroDenominator ParseError h k = absurd ((k.each h.0 (pos 0) h.1).0 refl)
one_refusal text ZeroDenominator ZeroDenominator h k = refl

pub one_operand : (text : List ℕ) (x y : Result (ℤ × ℤ) RatioErrorKind) → IsOperand text x → IsOperand text y → x ≡ y
one_operand text (Ok x) (Ok y) h k = ap Ok (one_lowest text x y h k)
one_operand text (Ok x) (Err kind) h k = absurd (read_or_refused text x kind h k)
one_operand text (Err kind) (Ok y) h k = absurd (read_or_refused text y kind k h)
one_operand text (Err kind) (Err other) h k = ap Err (one_refusal text kind other h k)

one_of_two : (t : Bool) (P Q : List ℕ → Type 0) (a b : List ℕ) → (P a → P b → a ≡ b) → (Q a → Q b → a ≡ b) → MatchBool t (P a) (Q a) → MatchBool t (P b) (Q b) → a ≡ b
one_of_two true P Q a b p q h k = p h k
one_of_two false P Q a b p q h k = q h k

one_text : (text a b : List ℕ) → a ≡ text → b ≡ text → a ≡ b
one_text text a b h k = h ∙ sym k

-- a pair has at most one pair of lowest terms in 64 bits
one_pair : (n d : ℤ) (x y : ℤ × ℤ) → IsHeldLowest least64 greatest64 n d x.0 x.1 → IsHeldLowest least64 greatest64 n d y.0 y.1 → x ≡ y
one_pair n d x y h k =
    let low = lowest_unique n d x.0 x.1 y.0 y.1 h.terms k.terms in
    ap (λ (a : ℤ). (a, x.1)) low.0 ∙ ap (λ (b : ℤ). (y.0, b)) low.1

one_result : (pair : ℤ × ℤ) (x y : Option (ℤ × ℤ)) → IsLowestResult pair x → IsLowestResult pair y → x ≡ y
one_result pair None None h k = refl
one_result pair None (Some y) h k = absurd (h (record { numer = y.0; denom = y.1; low = k }))
one_result pair (Some x) None h k = absurd (k (record { numer = x.0; denom = x.1; low = h }))
one_result pair (Some x) (Some y) h k = ap Some (one_pair pair.0 pair.1 x y h k)

one_remainder : (a b : ℤ × ℤ) (x y : Option (ℤ × ℤ)) → IsRemainderResult a b x → IsRemainderResult a b y → x ≡ y
one_remainder a b None None h k = refl
one_remainder a b None (Some y) h k = absurd (h k.0)
one_remainder a b (Some x) None h k = absurd (k h.0)
one_remainder a b (Some x) (Some y) h k = ap Some (one_pair (remainder_of a.0 a.1 b.0 b.1).0 (remainder_of a.0 a.1 b.0 b.1).1 x y h.1 k.1)

one_result_outcome : (Is : Option (ℤ × ℤ) → Type 0) (a b : Outcome) → ((x y : Option (ℤ × ℤ)) → Is x → Is y → x ≡ y) → IsResultOutcome Is a → IsResultOutcome Is b → a ≡ b
one_result_outcome Is a b one h k = h.is_outcome ∙ ap outcome_of_result (one h.number k.number h.is_number k.is_number) ∙ sym k.is_outcome

one_division : (divisor : ℤ × ℤ) (Is : Option (ℤ × ℤ) → Type 0) (a b : Outcome) → ((x y : Option (ℤ × ℤ)) → Is x → Is y → x ≡ y)
    → IsDivisionOutcome divisor Is a → IsDivisionOutcome divisor Is b → a ≡ b
one_division divisor Is a b one h k =
    elim (int_eq divisor.0 (pos 0))
    as (λ t. MatchBool t (a ≡ Left (codes "error: division by zero")) (IsResultOutcome Is a) → MatchBool t (b ≡ Left (codes "error: division by zero")) (IsResultOutcome Is b) → a ≡ b)
    [ true ↦ λ p q. p ∙ sym q | false ↦ λ p q. one_result_outcome Is a b one p q ] h k

-- an operator has at most one outcome
one_outcome : (operator : Operator) (x y : ℤ × ℤ) (a b : Outcome) → IsOutcome operator x y a → IsOutcome operator x y b → a ≡ b
one_outcome Add x y a b = one_result_outcome (IsLowestResult (sum_of x.0 x.1 y.0 y.1)) a b (one_result (sum_of x.0 x.1 y.0 y.1))
one_outcome Sub x y a b = one_result_outcome (IsLowestResult (difference_of x.0 x.1 y.0 y.1)) a b (one_result (difference_of x.0 x.1 y.0 y.1))
one_outcome Mul x y a b = one_result_outcome (IsLowestResult (product_of x.0 x.1 y.0 y.1)) a b (one_result (product_of x.0 x.1 y.0 y.1))
one_outcome Div x y a b = one_division y (IsLowestResult (quotient_of x.0 x.1 y.0 y.1)) a b (one_result (quotient_of x.0 x.1 y.0 y.1))
one_outcome Rem x y a b = one_division y (IsRemainderResult x y) a b (one_remainder x y)
one_outcome Cmp x y a b = λ h k. h ∙ sym k

one_after : (outcome : Outcome) (Next : ℤ × ℤ → List ℕ → Type 0) (a b : List ℕ) → ((z : ℤ × ℤ) → Next z a → Next z b → a ≡ b)
    → MatchEither outcome (λ text. a ≡ text) (λ z. Next z a) → MatchEither outcome (λ text. b ≡ text) (λ z. Next z b) → a ≡ b
one_after (Left text) Next a b one h k = h ∙ sym k
one_after (Right z) Next a b one h k = one z h k

one_applied : (operators : List Operator) (ys : List (ℤ × ℤ)) (x : ℤ × ℤ) (a b : List ℕ) → IsApplied operators x ys a → IsApplied operators x ys b → a ≡ b
one_applied [] ys x a b h k = h ∙ sym k
one_applied (operator ∷ operators) [] x a b h k = h ∙ sym k
one_applied (operator ∷ operators) (y ∷ ys) x a b h k =
    one_after k.0 (λ z. IsApplied operators z ys) a b (λ z. one_applied operators ys z a b) (rw (one_outcome operator x y h.0 k.0 h.1 k.1) at h.2) k.2

-- texts are read as at most one list of fractions, or refused in one way
one_read : (texts : List (List ℕ)) (p q : Result (List (ℤ × ℤ)) RatioErrorKind) → AreRead texts p → AreRead texts q → p ≡ q
one_read [] p q h k = h ∙ sym k
one_read (text ∷ texts) (Ok []) q h k = absurd h
one_read (text ∷ texts) (Ok (x ∷ xs)) (Ok []) h k = absurd k
one_read (text ∷ texts) (Ok (x ∷ xs)) (Ok (y ∷ ys)) h k =
    let first : x ≡ y = let same = one_operand text (Ok x) (Ok y) h.0 k.0 in cc in
    let others : xs ≡ ys = let same = one_read texts (Ok xs) (Ok ys) h.1 k.1 in cc in
    cc
one_read (text ∷ texts) (Ok (x ∷ xs)) (Err kind) h (inl refused) = absurd (let no = one_operand text (Ok x) (Err kind) h.0 refused in cc)
one_read (text ∷ texts) (Ok (x ∷ xs)) (Err kind) h (inr later) = absurd (let no = one_read texts (Ok xs) (Err kind) h.1 later.2 in cc)
one_read (text ∷ texts) (Err kind) (Ok []) h k = absurd k
one_read (text ∷ texts) (Err kind) (Ok (y ∷ ys)) (inl refused) k = absurd (let no = one_operand text (Ok y) (Err kind) k.0 refused in cc)
one_read (text ∷ texts) (Err kind) (Ok (y ∷ ys)) (inr later) k = absurd (let no = one_read texts (Ok ys) (Err kind) k.1 later.2 in cc)
one_read (text ∷ texts) (Err kind) (Err other) (inl p) (inl q) = let same = one_operand text (Err kind) (Err other) p q in cc
one_read (text ∷ texts) (Err kind) (Err other) (inl p) (inr q) = absurd (let no = one_operand text (Ok q.0) (Err kind) q.1 p in cc)
one_read (text ∷ texts) (Err kind) (Err other) (inr p) (inl q) = absurd (let no = one_operand text (Ok p.0) (Err other) p.1 q in cc)
one_read (text ∷ texts) (Err kind) (Err other) (inr p) (inr q) = let same = one_read texts (Err kind) (Err other) p.2 q.2 in cc

one_operands : (operators : List Operator) (x : Result (ℤ × ℤ) RatioErrorKind) (ys : Result (List (ℤ × ℤ)) RatioErrorKind) (a b : List ℕ) → IsOperandsAnswer operators x ys a
    → IsOperandsAnswer operators x ys b → a ≡ b
one_operands operators (Err kind) ys a b h k = h ∙ sym k
one_operands operators (Ok x) (Err kind) a b h k = h ∙ sym k
one_operands operators (Ok x) (Ok ys) a b h k = one_applied operators ys x a b h k

one_texts : (operators : List Operator) (left : List ℕ) (rights : List (List ℕ)) (a b : List ℕ) → IsTextsAnswer operators left rights a → IsTextsAnswer operators left rights b → a ≡ b
one_texts operators left rights a b h k =
    let left_same = one_operand left h.left_operand k.left_operand h.left_reads k.left_reads in
    let rights_same = one_read rights h.right_operands k.right_operands h.rights_read k.rights_read in
    one_operands operators k.left_operand k.right_operands a b (rw (← left_same, ← rights_same) h.is_answer) k.is_answer

one_chain : (operators : Option (List Operator)) (left : List ℕ) (rights : List (List ℕ)) (a b : List ℕ) → IsChainAnswer operators left rights a → IsChainAnswer operators left rights b → a ≡ b
one_chain None left rights a b = one_text (codes "error: unknown operator") a b
one_chain (Some operators) left rights a b =
    one_of_two (list_any is_cmp (front_of operators)) (λ x. x ≡ codes "error: cmp must be last") (IsTextsAnswer operators left rights) a b
    (one_text (codes "error: cmp must be last") a b) (one_texts operators left rights a b)

one_parts : (parts : List (List ℕ)) (a b : List ℕ) → IsPartsAnswer parts a → IsPartsAnswer parts b → a ≡ b
one_parts [] a b = one_text want_three a b
one_parts (left ∷ parts) a b =
    one_of_two (is_chain (left ∷ parts)) (IsChainAnswer (operators_of (operator_parts parts)) left (right_parts parts)) (λ x. x ≡ want_three) a b
    (one_chain (operators_of (operator_parts parts)) left (right_parts parts) a b) (one_text want_three a b)

pub one_answer : (line a b : List ℕ) → IsAnswer line a → IsAnswer line b → a ≡ b
one_answer line a b =
    one_of_two (nat_lt longest_line (length line)) (λ x. x ≡ codes "error: line too long")
    (λ x. MatchBool (is_utf8 line) (IsPartsAnswer (slice_split is_space (without_return line)) x) (x ≡ codes "error: not UTF-8")) a b
    (one_text (codes "error: line too long") a b)
    (one_of_two (is_utf8 line) (IsPartsAnswer (slice_split is_space (without_return line))) (λ x. x ≡ codes "error: not UTF-8") a b
    (one_parts (slice_split is_space (without_return line)) a b) (one_text (codes "error: not UTF-8") a b))

-- some lines have at most one list of answers
pub one_list : (lines : List (List ℕ)) (xs ys : List ℕ) → AreAnswers lines xs → AreAnswers lines ys → xs ≡ ys
one_list [] xs ys h k = h ∙ sym k
one_list (line ∷ lines) xs ys h k =
    h.4 ∙ ap (λ answer. answer ++ 10 ∷ h.1) (one_answer line h.0 k.0 h.2 k.2)
    ∙ ap (λ rest. k.0 ++ 10 ∷ rest) (one_list lines h.1 k.1 h.3 k.3) ∙ sym k.4

-- an input has at most one list of answers
pub one_list_of : (input xs ys : List ℕ) → AreAnswersOf input xs → AreAnswersOf input ys → xs ≡ ys
one_list_of input = one_list (lines_of input)
