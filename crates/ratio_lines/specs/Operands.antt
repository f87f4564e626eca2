-- The operands and the operator of a line.
use Rattle.std.specs.Prelude.{◌==◌, Bool, ℕ, ℤ, List, Option, Some, None, Result, Ok, Err, if◌then◌else◌, codes}
use Rattle.std.specs.Cmp.Lexicographic.{pointwise}
use Rattle.ratio_integer.specs.SignedBits.{greatest64, least64}
use Rattle.ratio_core.specs.Reading.{AnswersText, IsFractionText}
use Rattle.ratio_core.specs.declared.parse_error.RatioErrorKind.{RatioErrorKind}
use Rattle.num_rational.specs.Ratio.{numerator, denominator}
use Rattle.num_rational.specs.declared.ratio.Ratio.{Ratio}
use Rattle.ratio_lines.specs.declared.operator.Operator.{Operator}
use Rattle.ratio_lines.specs.declared.operator.Operator.TheVariants.{Add, Sub, Mul, Div, Rem, Cmp}

-- what a text gives as an operand: its fraction in lowest terms, or a refusal that applies (`AnswersText`, from -2^63 to 2^63-1)
-- Example: `6/4`: 3 and 2
abbrev pub IsOperand : List ℕ → Result (ℤ × ℤ) RatioErrorKind → Type 0
IsOperand text operand = AnswersText (λ x. x.0) (λ x. x.1) least64 greatest64 (IsFractionText least64 greatest64 text) operand

-- the two numbers of a fraction that was read
abbrev pub numbers_of : {T : _} {i : _} {o : _} {e : _} {p : _} {h : _} → Result (Ratio T i o e p h) RatioErrorKind → Result (ℤ × ℤ) RatioErrorKind
numbers_of (Ok r) = Ok (numerator r, denominator r)
numbers_of (Err kind) = Err kind

-- the two texts have the same bytes
abbrev pub is_text : List ℕ → List ℕ → Bool
is_text text other = pointwise (λ a b. a == b) text other

-- the operator that a part names: `+`, `-`, `*`, `/`, `%` or `cmp`
-- Example: none for `^`
abbrev pub operator_of : List ℕ → Option Operator
operator_of part =
    if is_text part (codes "+") then Some Add
    else (if is_text part (codes "-") then Some Sub
    else (if is_text part (codes "*") then Some Mul
    else (if is_text part (codes "/") then Some Div
    else (if is_text part (codes "%") then Some Rem
    else (if is_text part (codes "cmp") then Some Cmp
    else None)))))

-- the two numbers of a fraction that a checked call returned
abbrev pub number_of : {T : _} {i : _} {o : _} {e : _} {p : _} {h : _} → Option (Ratio T i o e p h) → Option (ℤ × ℤ)
number_of (Some r) = Some (numerator r, denominator r)
number_of None = None
