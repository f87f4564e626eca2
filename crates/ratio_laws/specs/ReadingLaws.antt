-- What reading a printed `Reduced` returns. A premise only says what a call returned.
use Rattle.std.specs.Prelude.{◌≡◌, ◌≢◌, ◌≤ℤ◌, ◌<ℤ◌, ℕ, pos, Bool, false, List, Result, Ok, Err}
use Rattle.ratio_core.specs.declared.parse_error.RatioErrorKind.{RatioErrorKind, TheVariants.ParseError}
use Rattle.ratio_decimal.specs.declared.rounding_rule.Rounding.{Rounding}
use Rattle.ratio_core.specs.declared.text.Form.{Form, TheVariants.Decimal}
use Rattle.ratio_decimal.specs.declared.reading.DecimalRefusal.{DecimalRefusal}
use Rattle.ratio_decimal.specs.Decimal.{IsDecimalOf, IsExactDecimal}
use Rattle.ratio_laws.specs.DecimalLaws.{IsReadNear}
use Rattle.ratio_decimal.specs.DecimalReading.{AnswersDecimal, IsReadDecimal}
use Rattle.ratio_core.specs.{Printing.base_of, Printing.text_of, Reading.AnswersText, Reading.IsSlashedText}
use Rattle.num_rational.specs.declared.reduced.Reduced.{Reduced}
use Rattle.num_rational.specs.{Comparison.HaveSameFields, Ratio.denominator, Ratio.numerator, Reduced.ReadsReduced, Reduced.ratio_of}

-- the result is `Ok` of x
abbrev pub IsReadAs : {T : _} {i : _} {o : _} {e : _} {p : _} {h : _} → Reduced T i o e p h → Result (Reduced T i o e p h) RatioErrorKind → Type 0
IsReadAs x (Ok r) = HaveSameFields (ratio_of r) (ratio_of x)
IsReadAs x (Err kind) = ⊥

-- the text that x prints by its form, with or without the prefix
-- Example: 15/16 in base 16: `f/10`
abbrev pub printed : {T : _} {i : _} {o : _} {e : _} {p : _} {h : _} → ℕ → Form → Bool → Reduced T i o e p h → List ℕ
printed bits form alternate x = text_of bits form alternate (numerator (ratio_of x)) (denominator (ratio_of x))

-- what `from_str_radix` returns for a text
abbrev pub ReadsInBase : {T : _} {i : _} {o : _} {e : _} {p : _} {h : _} → ℕ → List ℕ → Result (Reduced T i o e p h) RatioErrorKind → Type 0
ReadsInBase {i = i} radix text result = AnswersText (λ x. numerator (ratio_of x)) (λ x. denominator (ratio_of x)) i.lo i.hi (IsSlashedText i.lo i.hi radix text) result

-- reading the text of x in base 10 gives `Ok` of x. `Display` writes this text, and `FromStr` reads it
abbrev pub ReadsItsText : {T : _} {i : _} {o : _} {e : _} {p : _} {h : _} → ℕ → Reduced T i o e p h → Type 0
ReadsItsText {T} {i} {o} {e} {p} {h} bits x =
    (alternate : Bool) (result : Result (Reduced T i o e p h) RatioErrorKind) → ReadsReduced (printed bits Decimal alternate x) result → IsReadAs x result

-- reading the text of x in the base of its form gives `Ok` of x, if it has no prefix and x is neither whole nor below 0
-- Example: `f/10` in base 16: 15/16
abbrev pub ReadsItsTextInBase : {T : _} {i : _} {o : _} {e : _} {p : _} {h : _} → ℕ → Reduced T i o e p h → Type 0
ReadsItsTextInBase {T} {i} {o} {e} {p} {h} bits x =
    (form : Form) (result : Result (Reduced T i o e p h) RatioErrorKind)
    → pos 0 ≤ℤ numerator (ratio_of x)
    → denominator (ratio_of x) ≢ pos 1
    → ReadsInBase (base_of form) (printed bits form false x) result
    → IsReadAs x result

-- by `from_str_radix`, the text of a whole number has no slash, so it is a parse error in each base
-- Example: `2`
abbrev pub RefusesWholeInBase : {T : _} {i : _} {o : _} {e : _} {p : _} {h : _} → ℕ → Reduced T i o e p h → Type 0
RefusesWholeInBase {T} {i} {o} {e} {p} {h} bits x =
    (form : Form) (alternate : Bool) (radix : ℕ) (result : Result (Reduced T i o e p h) RatioErrorKind)
    → denominator (ratio_of x) ≡ pos 1
    → ReadsInBase radix (printed bits form alternate x) result
    → result ≡ Err ParseError

-- in another base than 10, a number below 0 is printed in two's complement. That number does not fit, so `from_str_radix` gives a parse error
-- Example: `ff/2` for -1/2
abbrev pub RefusesBelowZeroInBase : {T : _} {i : _} {o : _} {e : _} {p : _} {h : _} → ℕ → Reduced T i o e p h → Type 0
RefusesBelowZeroInBase {T} {i} {o} {e} {p} {h} bits x =
    (form : Form) (result : Result (Reduced T i o e p h) RatioErrorKind)
    → form ≢ Decimal
    → numerator (ratio_of x) <ℤ pos 0
    → ReadsInBase (base_of form) (printed bits form false x) result
    → result ≡ Err ParseError

-- reading all of x as a decimal (its exact decimal) gives `Ok` of x
abbrev pub ReadsItsDecimal : {T : _} {i : _} {o : _} {e : _} {p : _} {h : _} → Reduced T i o e p h → Type 0
ReadsItsDecimal {T} {i} {o} {e} {p} {h} x =
    (text : List ℕ) (result : Result (Reduced T i o e p h) DecimalRefusal)
    → IsExactDecimal (numerator (ratio_of x)) (denominator (ratio_of x)) text
    → AnswersDecimal (λ y. numerator (ratio_of y)) (λ y. denominator (ratio_of y)) i.lo i.hi text result
    → IsReadDecimal (λ y. numerator (ratio_of y)) (λ y. denominator (ratio_of y)) (numerator (ratio_of x)) (denominator (ratio_of x)) result

-- reading a decimal of x to so many places gives what the rule says of x, where it fits the type, and else `NotHeld`
abbrev pub ReadsItsRoundedDecimal : {T : _} {i : _} {o : _} {e : _} {p : _} {h : _} → Reduced T i o e p h → Type 0
ReadsItsRoundedDecimal {T} {i} {o} {e} {p} {h} x =
    (rule : Rounding) (places : ℕ) (text : List ℕ) (result : Result (Reduced T i o e p h) DecimalRefusal)
    → IsDecimalOf rule places (numerator (ratio_of x)) (denominator (ratio_of x)) text
    → AnswersDecimal (λ y. numerator (ratio_of y)) (λ y. denominator (ratio_of y)) i.lo i.hi text result
    → IsReadNear (λ y. numerator (ratio_of y)) (λ y. denominator (ratio_of y)) rule places (numerator (ratio_of x)) (denominator (ratio_of x)) result
