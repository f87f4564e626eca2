-- A number for the next operator has a positive denominator.
use Rattle.std.proofs.Common.{◌≡◌, ℤ, pos, ◌<ℤ◌, true, false, Option, None, Some}
use Rattle.std.specs.Bool.{MatchBool}
use Rattle.std.specs.Ordering.{int_eq}
use Rattle.std.specs.Prelude.{codes}
use Rattle.either.specs.Either.{MatchEither}
use Rattle.either.specs.declared.Either.TheVariants.{Left}
use Rattle.ratio_integer.specs.Arithmetic.{difference_of, product_of, quotient_of, sum_of}
use Rattle.ratio_lines.specs.Answers.{IsDivisionOutcome, IsLowestResult, IsOutcome, IsRemainderResult, IsResultOutcome, Outcome, outcome_of_result}
use Rattle.ratio_lines.specs.declared.operator.Operator.{Operator}
use Rattle.ratio_lines.specs.declared.operator.Operator.TheVariants.{Add, Sub, Mul, Div, Rem, Cmp}

-- if the outcome is a number, its denominator is positive
abbrev pub IsPositive : Outcome → Type 0
IsPositive outcome = MatchEither outcome (λ text. Unit {0}) (λ z. pos 0 <ℤ z.1)

lowest_positive : (pair : ℤ × ℤ) (number : Option (ℤ × ℤ)) → IsLowestResult pair number → IsPositive (outcome_of_result number)
lowest_positive pair None h = tt
lowest_positive pair (Some z) h = h.terms.lowest.positive

remainder_positive : (x y : ℤ × ℤ) (number : Option (ℤ × ℤ)) → IsRemainderResult x y number → IsPositive (outcome_of_result number)
remainder_positive x y None h = tt
remainder_positive x y (Some z) h = h.1.terms.lowest.positive

result_positive : (Is : Option (ℤ × ℤ) → Type 0) (outcome : Outcome) → ((number : Option (ℤ × ℤ)) → Is number → IsPositive (outcome_of_result number)) → IsResultOutcome Is outcome
    → IsPositive outcome
result_positive Is outcome each h = rw h.is_outcome (each h.number h.is_number)

division_positive : (divisor : ℤ × ℤ) (Is : Option (ℤ × ℤ) → Type 0) (outcome : Outcome) → ((number : Option (ℤ × ℤ)) → Is number → IsPositive (outcome_of_result number))
    → IsDivisionOutcome divisor Is outcome → IsPositive outcome
division_positive divisor Is outcome each h =
    elim (int_eq divisor.0 (pos 0)) as (λ t. MatchBool t (outcome ≡ Left (codes "error: division by zero")) (IsResultOutcome Is outcome) → IsPositive outcome)
    [ true ↦ λ k. rw k tt | false ↦ λ k. result_positive Is outcome each k ] h

pub outcome_positive : (operator : Operator) (x y : ℤ × ℤ) (outcome : Outcome) → IsOutcome operator x y outcome → IsPositive outcome
outcome_positive Add x y outcome h = result_positive _ outcome (lowest_positive (sum_of x.0 x.1 y.0 y.1)) h
outcome_positive Sub x y outcome h = result_positive _ outcome (lowest_positive (difference_of x.0 x.1 y.0 y.1)) h
outcome_positive Mul x y outcome h = result_positive _ outcome (lowest_positive (product_of x.0 x.1 y.0 y.1)) h
outcome_positive Div x y outcome h = division_positive y _ outcome (lowest_positive (quotient_of x.0 x.1 y.0 y.1)) h
outcome_positive Rem x y outcome h = division_positive y _ outcome (remainder_positive x y) h
outcome_positive Cmp x y outcome h = rw h tt
