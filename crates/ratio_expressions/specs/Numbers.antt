-- Which number a piece of a text says, and which it refuses.
use Rattle.std.specs.Prelude.{◌≡◌, ◌<◌, ◌≤◌, ◌-◌, ◌&&◌, ◌==◌, ◌*ℤ◌, not, ℕ, ℤ, pos, Bool, true, List, Option, Some, None, Result, Ok, Err, drop, length, take, slice_index, if◌then◌else◌}
use Rattle.std.specs.Char.{is_ascii_digit}
use Rattle.std.specs.List.{count_by, list_any, take_while}
use Rattle.ratio_decimal.specs.TypedText.{IsTypedText, percent_sign, share, space}
use Rattle.ratio_decimal.specs.declared.typed.TextRefusal.{TextRefusal}
use Rattle.ratio_decimal.specs.declared.typed.TextRefusal.TheVariants as typed
use Rattle.ratio_big.specs.Texts.{ReadsBig}
use Rattle.ratio_big.specs.Values.{HasTerms}
use Rattle.ratio_big.specs.declared.fraction.BigFraction.{BigFraction}
use Rattle.ratio_expressions.specs.Vulgar.{with_slash}
use Rattle.ratio_expressions.specs.declared.refusal.Reason.{Reason}
use Rattle.ratio_expressions.specs.declared.refusal.Reason.TheVariants as reasons

-- the byte is no e, neither `e` nor `E`
abbrev pub is_no_e : ℕ → Bool
is_no_e c = not (c == 101) && not (c == 69)

-- how many digits an exponent has: those behind an e
-- Example: `2.5e-13`: 2; `12.5`: 0
abbrev pub exponent_digits : List ℕ → ℕ
exponent_digits text = count_by is_ascii_digit (drop (length (take_while is_no_e text)) text)

-- the mixed number before a percent sign: all before the sign, if that ends the text and a space is in it
-- Example: `1 1/2%`: `1 1/2`; `1/2%`: none
abbrev pub mixed_front : List ℕ → Option (List ℕ)
mixed_front text = if (slice_index text (length text - 1) == percent_sign) && list_any (λ c. c == space) text then Some (take (length text - 1) text) else None

-- Inner: the result is the lowest terms of what is read. Or nothing is read. Or n over 0 is
abbrev pub AnswersBigReading : (ℤ → ℤ → List ℕ → Type 0) → Result BigFraction TextRefusal → Type 0
AnswersBigReading Reads (Ok r) = ReadsBig (λ n d. (numbers : List ℕ) × Reads n d numbers) r
AnswersBigReading Reads (Err typed.NotNumber) = (n d : ℤ) (numbers : List ℕ) → ¬ (Reads n d numbers)
AnswersBigReading Reads (Err typed.ZeroDenominator) = (n : ℤ) × (numbers : List ℕ) × Reads n (pos 0) numbers
AnswersBigReading Reads (Err typed.NotHeld) = ⊥

-- n over d is the 100th part of what the mixed number says
-- Example: `1 1/2`: 3/200
abbrev pub IsShareOf : List ℕ → ℤ → ℤ → List ℕ → Type 0
IsShareOf mixed n d numbers = (base : ℤ) × IsTypedText mixed n base numbers × (d ≡ pos (share true) *ℤ base)

-- n over d is what the text says (`IsTypedText`), or the 100th part of what the mixed number before its percent sign says
abbrev pub IsSaid : Option (List ℕ) → List ℕ → ℤ → ℤ → List ℕ → Type 0
IsSaid None text n d numbers = IsTypedText text n d numbers
IsSaid (Some mixed) text n d numbers = IsShareOf mixed n d numbers

-- the text says n over d as a person types it: as one field (`IsTypedText`), or as the percentage of a mixed number
-- Example: `12.5%`: 125/1000; `1 1/2%`: 3/200
abbrev pub IsTypedNumber : List ℕ → ℤ → ℤ → List ℕ → Type 0
IsTypedNumber text n d numbers = IsSaid (mixed_front text) text n d numbers

-- the text, without a vulgar fraction, says a number with the lowest terms x, and its exponent has at most five digits
-- Example: `12.5%`: 1/8
pub record SaysPlainNumber (text : List ℕ) (x : ℤ × ℤ) : Type 0 where
  pub n : ℤ
  pub d : ℤ
  pub numbers : List ℕ
  pub small : exponent_digits text ≤ 5
  pub reads : IsTypedNumber text n d numbers
  pub terms : HasTerms (n, d) x

-- why such a text says no number
-- Example: `1/0`: `ZeroDenominator`; `1e100000`: `NumberTooLarge`
abbrev pub SaysNoPlainNumber : List ℕ → Reason → Type 0
SaysNoPlainNumber text reasons.NumberTooLarge = 5 < exponent_digits text
SaysNoPlainNumber text reasons.ZeroDenominator = (exponent_digits text ≤ 5) × (n : ℤ) × (numbers : List ℕ) × IsTypedNumber text n (pos 0) numbers
SaysNoPlainNumber text reasons.NotNumeral = (exponent_digits text ≤ 5) × ((n d : ℤ) (numbers : List ℕ) → ¬ (IsTypedNumber text n d numbers))
SaysNoPlainNumber text r = ⊥

-- the text says a number with the lowest terms x, with a slash in place of its vulgar fraction
-- Example: `1½`: 3/2
abbrev pub SaysNumber : List ℕ → ℤ × ℤ → Type 0
SaysNumber text x = SaysPlainNumber (with_slash text) x

-- why a text says no number
-- Example: `1/0`: `ZeroDenominator`
abbrev pub SaysNoNumber : List ℕ → Reason → Type 0
SaysNoNumber text r = SaysNoPlainNumber (with_slash text) r
