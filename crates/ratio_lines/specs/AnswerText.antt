-- The bytes of an answer.
use Rattle.std.specs.Prelude.{ℕ, List, false}
use Rattle.std.specs.Borrow.{Bor}
use Rattle.either.specs.declared.Either.{Either, TheVariants.Left, TheVariants.Right}
use Rattle.num_rational.specs.Ratio.{numerator, denominator}
use Rattle.num_rational.specs.declared.ratio.Ratio.{Ratio}
use Rattle.ratio_core.specs.Printing.{text_of}
use Rattle.ratio_core.specs.declared.text.Form.TheVariants.{Decimal}
use Rattle.ratio_lines.specs.Answers.{Outcome}

-- the bytes of an answer that is a known text or a number, which is printed in decimal
-- Example: `5/6`
abbrev pub bytes_of : {T : _} {i : _} {o : _} {e : _} {p : _} {h : _} → Either (Bor (List ℕ)) (Ratio T i o e p h) → List ℕ
bytes_of (Left text) = text.now
bytes_of (Right number) = text_of 64 Decimal false (numerator number) (denominator number)

-- the outcome that such a computed value stands for: the text, or the two numbers of the fraction
abbrev pub outcome_of : {T : _} {i : _} {o : _} {e : _} {p : _} {h : _} → Either (Bor (List ℕ)) (Ratio T i o e p h) → Outcome
outcome_of (Left text) = Left text.now
outcome_of (Right number) = Right (numerator number, denominator number)
