-- The rest of a line, while its parts are taken one by one.
use Rattle.std.specs.Prelude.{◌≡◌, ◌⊎◌, ℕ, ℤ, List, [], ◌∷◌, ◌++◌, Bool, false, ◌&&◌, ◌==◌, ◌%◌, length, Option, None, Some, Result, Ok, Err, option_map, codes}
use Rattle.std.specs.Borrow.{Bor}
use Rattle.std.specs.List.{list_all, list_any, slice_split}
use Rattle.ratio_core.specs.Refusal.{refusal_text}
use Rattle.ratio_core.specs.declared.parse_error.RatioErrorKind.{RatioErrorKind}
use Rattle.ratio_lines.specs.Answers.{IsOutcome, Outcome, has_byte, is_cmp, is_space, operators_of}
use Rattle.ratio_lines.specs.{Lines.front_of, Operands.IsOperand}
use Rattle.ratio_lines.specs.declared.operator.Operator.{Operator}

-- the parts that are left: none, or the parts of a text
-- Example: `+ 2`: `+`, `2`
abbrev pub parts_of : Option (Bor (List ℕ)) → List (List ℕ)
parts_of None = []
parts_of (Some text) = slice_split is_space text.now

-- the parts are pairs of an operator and an operand, so their number is even, and none is empty
-- Example: `+`, `2`
abbrev pub are_terms : List (List ℕ) → Bool
are_terms parts = (length parts % 2 == 0) && list_all has_byte parts

-- an operator and then the other operators of a list, if these are known
abbrev pub with_first : Operator → Option (List Operator) → Option (List Operator)
with_first first operators = option_map (λ others. first ∷ others) operators

-- of a first operator and the parts behind it: each part that should be an operator names one, and `cmp` comes before none
pub record AreChained (first : Operator) (parts : List (List ℕ)) : Type 0 where
  pub others : List Operator
  pub named : operators_of parts ≡ Some others
  pub cmp_last : list_any is_cmp (front_of (first ∷ others)) ≡ false

-- both texts are read as fractions, and the operator between these has this outcome
-- Example: `1/2`, `+`, `1/3`: 5/6
pub record OperatesOn (left : List ℕ) (operator : Operator) (right : List ℕ) (outcome : Outcome) : Type 0 where
  pub first : ℤ × ℤ
  pub second : ℤ × ℤ
  pub left_reads : IsOperand left (Ok first)
  pub right_reads : IsOperand right (Ok second)
  pub is_outcome : IsOutcome operator first second outcome

-- the first text is refused, or else the second one, and the answer is this refusal
-- Example: `x`, `1`: `error: left: ..`
abbrev pub RefusesFirst : List ℕ → List ℕ → List ℕ → Type 0
RefusesFirst left right answer =
    ((kind : RatioErrorKind) × IsOperand left (Err kind) × (answer ≡ codes "error: left: " ++ refusal_text kind))
    ⊎ ((first : ℤ × ℤ) × (kind : RatioErrorKind) × IsOperand left (Ok first) × IsOperand right (Err kind) × (answer ≡ codes "error: right: " ++ refusal_text kind))

-- the first part of the text is read as this operand, or refused (`IsOperand`), and these parts come after it
-- Example: `6/4 + 2`: 3/2, and then `+`, `2`
pub record ReadsFirst (text : List ℕ) (operand : Result (ℤ × ℤ) RatioErrorKind) (parts : List (List ℕ)) : Type 0 where
  pub part : List ℕ
  pub split : slice_split is_space text ≡ part ∷ parts
  pub reads : IsOperand part operand
