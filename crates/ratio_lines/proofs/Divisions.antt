-- The outcome of a division by a number that is not 0.
use Rattle.std.proofs.Common.{◌≡◌, ℤ, pos, true, false, Option, None, Some, refl}
use Rattle.std.specs.Bool.{IsTrue, MatchBool}
use Rattle.std.specs.Ordering.{int_eq}
use Rattle.std.specs.Prelude.{codes}
use Rattle.std.proofs.lemmas.Bool.Decides.{Decides-int_eq}
use Rattle.ratio_integer.specs.Fraction.{AnswersLowest, ChecksLowest}
use Rattle.either.specs.declared.Either.TheVariants.{Left}
use Rattle.num_rational.specs.Ratio.{numerator, denominator}
use Rattle.num_rational.specs.declared.ratio.Ratio.{Ratio}
use Rattle.ratio_lines.specs.Answers.{IsDivisionOutcome, IsResultOutcome, Outcome, outcome_of_result}
use Rattle.ratio_lines.specs.Operands.{number_of}

pub divides : (divisor : ℤ × ℤ) (Is : Option (ℤ × ℤ) → Type 0) (number : Option (ℤ × ℤ)) (outcome : Outcome) → (divisor.0 ≡ pos 0 → IsTrue false) → Is number
    → outcome ≡ outcome_of_result number → IsDivisionOutcome divisor Is outcome
divides divisor Is number outcome nonzero is e =
    elim (int_eq divisor.0 (pos 0))
    as (λ t. int_eq divisor.0 (pos 0) ≡ t → MatchBool t (outcome ≡ Left (codes "error: division by zero")) (IsResultOutcome Is outcome)) [
      | true ↦ λ t. absurd (let never : false ≡ true = nonzero ((Decides-int_eq divisor.0 (pos 0)).0 t) in cc)
      | false ↦ λ t. record { number = number; is_number = is; is_outcome = e }
    ] refl

-- the two numbers of a fraction that a checked call returned are the lowest terms too
pub lowest_number : {T : _} {i : _} {o : _} {e : _} {p : _} {h : _} (lo hi : ℤ) (pair : ℤ × ℤ) (r : Option (Ratio T i o e p h))
    → ChecksLowest numerator denominator lo hi pair r → ChecksLowest (λ x. x.0) (λ x. x.1) lo hi pair (number_of r)
lowest_number lo hi pair None answer = answer
lowest_number lo hi pair (Some r) answer = answer

pub answered_number : {T : _} {i : _} {o : _} {e : _} {p : _} {h : _} (lo hi : ℤ) (P : Type 0) (pair : ℤ × ℤ) (r : Option (Ratio T i o e p h))
    → AnswersLowest numerator denominator lo hi P pair r → AnswersLowest (λ x. x.0) (λ x. x.1) lo hi P pair (number_of r)
answered_number lo hi P pair None answer = answer
answered_number lo hi P pair (Some r) answer = answer
