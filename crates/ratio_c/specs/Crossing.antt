-- Fractions and answers as they cross from a caller and back.
use Rattle.std.specs.Prelude.{◌≡◌, ◌+◌, ◌*◌, ◌%◌, ◌+ℤ◌, ◌*ℤ◌, ◌^◌, ◌==◌, if◌then◌else◌, unsigned_abs, ℕ, ℤ, pos, negsuc, Option, Some, None, Result, Ok, Err}
use Rattle.std.specs.Int.{int_rem_euclid}
use Rattle.std.specs.declared.cmp.Ordering.{Ordering, TheVariants.Less, TheVariants.Equal, TheVariants.Greater}
use Rattle.ratio_core.specs.declared.parse_error.RatioErrorKind.{RatioErrorKind, TheVariants.ParseError, TheVariants.ZeroDenominator}
use Rattle.ratio_decimal.specs.declared.reading.DecimalRefusal.{DecimalRefusal, TheVariants.NotDecimal, TheVariants.NotHeld}
use Rattle.ratio_decimal.specs.declared.typed.TextRefusal.{TextRefusal, TheVariants.NotNumber, TheVariants.ZeroDenominator, TheVariants.NotHeld}
use Rattle.ratio_decimal.specs.declared.rounding_rule.Rounding.{Rounding}
use Rattle.ratio_decimal.specs.declared.rounding_rule.Rounding.TheVariants.{HalfAway, HalfEven, Down, Up, Floor, Ceil}
use Rattle.ratio_c.specs.declared.wide.Wide.{Wide}
use Rattle.ratio_c.specs.Codes.{code_answered, code_not_held, code_parse_error, code_rule_down, code_rule_floor, code_rule_half_away, code_rule_half_even, code_rule_up, code_zero_denominator, hash_multiplier}

-- what an answer says: its code and its two numbers
-- Example: (0, 1/2)
abbrev pub Said : Type 0
Said = ℕ × (ℤ × ℤ)

-- an answer without numbers: its code, and 0 twice
-- Example: (1, 0/0)
abbrev pub refused : ℕ → Said
refused code = (code, (pos 0, pos 0))

-- a result has the code 0, `code_answered`, and its two numbers; `None` has the code 1, `code_not_held`, and 0 twice
-- Example: `Some` of 1/2: (0, 1/2); `None`: (1, 0/0)
abbrev pub said_of : Option (ℤ × ℤ) → Said
said_of (Some x) = (code_answered, x)
said_of None = refused code_not_held

-- the answer says a result of which `Is` holds
pub record Says (Is : Option (ℤ × ℤ) → Type 0) (answer : Said) : Type 0 where
  pub result : Option (ℤ × ℤ)
  pub is_result : Is result
  pub is_said : answer ≡ said_of result

-- an order as a number: -1, 0 or 1
abbrev pub order_number : Ordering → ℤ
order_number Less = negsuc 0
order_number Equal = pos 0
order_number Greater = pos 1

-- the number of two halves: the upper one times 2^64, plus the lower one
-- Example: -1 and 5: 5 - 2^64
abbrev pub wide_number : Wide → ℤ
wide_number n = n.high *ℤ pos (2 ^ 64) +ℤ pos n.low

-- a number, such as a code of `IsCodesOf`, modulo 2^64
-- Example: -1: 2^64-1
abbrev pub residue : ℤ → ℕ
residue z = unsigned_abs (int_rem_euclid z (pos (2 ^ 64)))

-- a hash after one more code: the hash times the multiplier, plus the code, modulo 2^64
abbrev pub mixed : ℕ → ℤ → ℕ
mixed hash code = ((hash * hash_multiplier) % 2 ^ 64 + residue code) % 2 ^ 64

-- the code of a text with no fraction over a narrower type, by how it reads over 128 bits: 1 for a fraction, 5 for a parse error, 4 for n/0
-- Example: `x`: 5
abbrev pub code_of_wide : Result (ℤ × ℤ) RatioErrorKind → ℕ
code_of_wide (Ok x) = code_not_held
code_of_wide (Err ParseError) = code_parse_error
code_of_wide (Err ZeroDenominator) = code_zero_denominator

-- what the answer says of a result: the code 0 and its numbers, or the code of a refusal
abbrev pub said_by : {T : Type 0} → (T → ℤ) → Result (T × T) ℕ → Said
said_by value (Ok x) = (code_answered, (value x.0, value x.1))
said_by value (Err code) = refused code

-- what the answer says of a decimal that was read: the code 0 and its numbers, or a refusal's code, 5 or 1
abbrev pub said_of_decimal : Result (ℤ × ℤ) DecimalRefusal → Said
said_of_decimal (Ok x) = (code_answered, x)
said_of_decimal (Err NotDecimal) = refused code_parse_error
said_of_decimal (Err NotHeld) = refused code_not_held

-- what the answer says of a typed text that was read: the code 0 and its numbers, or a refusal's code, 5, 4 or 1
abbrev pub said_of_typed : Result (ℤ × ℤ) TextRefusal → Said
said_of_typed (Ok x) = (code_answered, x)
said_of_typed (Err NotNumber) = refused code_parse_error
said_of_typed (Err ZeroDenominator) = refused code_zero_denominator
said_of_typed (Err NotHeld) = refused code_not_held

-- the rule of a number from 0 to 5
-- Example: 1: `HalfEven`
abbrev pub rule_of : ℕ → Rounding
rule_of number =
    if number == code_rule_half_away then HalfAway else
    if number == code_rule_half_even then HalfEven else
    if number == code_rule_down then Down else
    if number == code_rule_up then Up else
    if number == code_rule_floor then Floor else Ceil
