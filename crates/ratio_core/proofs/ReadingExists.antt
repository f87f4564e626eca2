-- Reading each text has a result: the lowest terms of its two numbers, or a refusal.
use Rattle.std.proofs.Common.{◌≡◌, ◌≢◌, ◌⊎◌, refl, sym, ◌∙◌, ap, subst, inl, inr, arith, ℕ, zero, suc, ◌≤◌, List, [], ◌∷◌, ◌++◌, ℤ, pos, ◌<ℤ◌, Option, Some, None, Result, Ok, Err, lit≤}
use Rattle.std.proofs.lemmas.Bool.{cases_eq, cases_lt}
use Rattle.std.proofs.lemmas.Int.{ints}
use Rattle.std.specs.Char.{digit_value}
use Rattle.std.specs.Str.Parse.{AllDigits, IsNumeral, signed_digits_value, without_leading_sign}
use Rattle.ratio_integer.specs.Range.{IsHeld}
use Rattle.ratio_core.specs.declared.parse_error.RatioErrorKind.{RatioErrorKind}
use Rattle.ratio_core.specs.declared.parse_error.RatioErrorKind.TheVariants.{ParseError, ZeroDenominator}
use Rattle.ratio_core.specs.Reading.{slash, AnswersFields, AnswersText, IsFractionText, ReadsNumber, SidesReadAs}
use Rattle.ratio_core.proofs.CutLemmas.{HasNoSlash, fraction_with_slash, no_fraction, only_fraction, same_cut, with_slash}
use Rattle.ratio_core.proofs.NumberLemmas.{from_signed, to_signed}
use Rattle.ratio_core.proofs.NumbersExist.{fits_decided, held_decided, zero_decided}
use Rattle.ratio_core.proofs.RefusalLemmas.{none_fits, refused}

-- ---- numbers

-- the bytes of a text are all digits or not
digits_decided : (radix : ℕ) (ds : List ℕ) → Dec (AllDigits radix ds)
digits_decided radix [] = yes tt
digits_decided radix (c ∷ cs) =
    elim (cases_lt (digit_value c) radix) [
      | inr large ↦ no (λ all. omega (arith, all.0))
      | inl small ↦ elim (digits_decided radix cs) [ yes others ↦ yes (small, others) | no bad ↦ no (λ all. bad all.1) ]
    ]

numeral_decided : (radix : ℕ) (ds : List ℕ) → Dec (IsNumeral radix ds)
numeral_decided radix [] = no (λ h. omega (arith, h.0))
numeral_decided radix (c ∷ cs) = elim (digits_decided radix (c ∷ cs)) [ yes all ↦ yes (omega arith, all) | no bad ↦ no (λ h. bad h.1) ]

abbrev itself : ℤ → ℤ
itself z = z

-- for a type with numbers below 0, each text has a result as a number: std's number, if that is in range
number_exists : (lo hi : ℤ) (radix : ℕ) (text : List ℕ) → lo <ℤ pos 0 → radix ≤ 36 → (r : Option ℤ) × ReadsNumber itself lo hi radix text r
number_exists lo hi radix text below small =
    elim (numeral_decided radix (without_leading_sign text)) [
      | no bad ↦ (None, λ z reads. bad (to_signed lo radix text z small reads.number).0)
      | yes numeral ↦ elim (held_decided lo hi (signed_digits_value radix text)) [
        | no out ↦ (None, λ z reads. out (subst (IsHeld lo hi) (to_signed lo radix text z small reads.number).1 reads.held))
        | yes held ↦ (Some (signed_digits_value radix text), record { number = from_signed lo radix text below numeral; held = held })
      ]
    ]

-- ---- the two sides of a slash

abbrev Sides : ℤ → ℤ → List ℕ → List ℕ → Type 0
Sides lo hi front back = (r : Result (ℤ × ℤ) RatioErrorKind) × AnswersFields itself (SidesReadAs lo hi 10 front back) r

-- two texts have a result: the two numbers that they read as, or a refusal
sides_by : (lo hi : ℤ) (front back : List ℕ) (n d : Option ℤ) → ReadsNumber itself lo hi 10 front n → ReadsNumber itself lo hi 10 back d → Sides lo hi front back
sides_by lo hi front back None d numer denom = (Err ParseError, λ n m reads. numer n reads.numer)
sides_by lo hi front back (Some n) None numer denom = (Err ParseError, λ m d reads. denom d reads.denom)
sides_by lo hi front back (Some n) (Some d) numer denom =
    elim (zero_decided d) [
      | no nonzero ↦ (Ok (n, d), (record { numer = numer; denom = denom }, nonzero))
      | yes none ↦ (Err ZeroDenominator, (n, record { numer = numer; denom = rw none at denom }))
    ]

sides_exist : (lo hi : ℤ) (front back : List ℕ) → lo <ℤ pos 0 → Sides lo hi front back
sides_exist lo hi front back below =
    let numer = number_exists lo hi 10 front below (lit≤ tt) in
    let denom = number_exists lo hi 10 back below (lit≤ tt) in
    sides_by lo hi front back numer.0 denom.0 numer.1 denom.1

-- ---- the first slash

-- a text, cut at its first slash
record IsTruncatedDivision (text : List ℕ) : Type 0 where
  front : List ℕ
  back : List ℕ
  cut : text ≡ front ++ slash ∷ back
  first : HasNoSlash front

none_in_empty : HasNoSlash []
none_in_empty i inside = absurd (omega (arith, inside))

none_before : (c : ℕ) (cs : List ℕ) → c ≢ slash → HasNoSlash cs → HasNoSlash (c ∷ cs)
none_before c cs other free zero inside = other
none_before c cs other free (suc i) inside = free i (omega (arith, inside))

-- a text has a first slash or none
cut_exists : (text : List ℕ) → (IsTruncatedDivision text) ⊎ (HasNoSlash text)
cut_exists [] = inr none_in_empty
cut_exists (c ∷ cs) =
    elim (cases_eq c slash) [
      | inl same ↦ inl (record { front = []; back = cs; cut = ap (λ b. b ∷ cs) same; first = none_in_empty })
      | inr other ↦ elim (cut_exists cs) [
        | inl later ↦ inl (record { front = c ∷ later.front; back = later.back; cut = ap (λ bs. c ∷ bs) later.cut; first = none_before c later.front other later.first })
        | inr free ↦ inr (none_before c cs other free)
      ]
    ]

-- ---- the two numbers of a text

abbrev FieldsOf : ℤ → ℤ → List ℕ → Type 0
FieldsOf lo hi text = (r : Result (ℤ × ℤ) RatioErrorKind) × AnswersFields itself (IsFractionText lo hi text) r

-- a text with a slash: the numbers of its two sides
fields_with_slash : (lo hi : ℤ) (text : List ℕ) → lo <ℤ pos 0 → IsTruncatedDivision text → FieldsOf lo hi text
fields_with_slash lo hi text below at =
    let sides = sides_exist lo hi at.front at.back below in (
      sides.0,
      fraction_with_slash itself lo hi text at.front at.back at.cut sides.0
          (with_slash itself lo hi 10 text (lit≤ tt) at.front at.back at.cut
          (λ xs ys other free. same_cut at.front xs at.back ys (sym at.cut ∙ other) at.first free) sides.0 sides.1),
    )

-- a text without a slash: its number and 1
fields_without_slash : (lo hi : ℤ) (text : List ℕ) → HasNoSlash text → (r : Option ℤ) → ReadsNumber itself lo hi 10 text r → FieldsOf lo hi text
fields_without_slash lo hi text free None reads = (Err ParseError, no_fraction itself lo hi text free reads)
fields_without_slash lo hi text free (Some n) reads = (Ok (n, pos 1), (inr (reads, refl), λ e. omega (arith, ints, e)))

fields_exist : (lo hi : ℤ) (text : List ℕ) → lo <ℤ pos 0 → FieldsOf lo hi text
fields_exist lo hi text below =
    elim (cut_exists text) [
      | inl at ↦ fields_with_slash lo hi text below at
      | inr free ↦ let number = number_exists lo hi 10 text below (lit≤ tt) in fields_without_slash lo hi text free number.0 number.1
    ]

-- ---- the result for a text

abbrev Answer : ℤ → ℤ → List ℕ → Type 0
Answer lo hi text = (r : Result (ℤ × ℤ) RatioErrorKind) × AnswersText (λ x. x.0) (λ x. x.1) lo hi (IsFractionText lo hi text) r

-- its two numbers are reduced, if the lowest terms fit
answer_by : (lo hi : ℤ) (text : List ℕ) (r : Result (ℤ × ℤ) RatioErrorKind) → AnswersFields itself (IsFractionText lo hi text) r → Answer lo hi text
answer_by lo hi text (Err kind) fields = (Err kind, refused itself lo hi (IsFractionText lo hi text) kind fields)
answer_by lo hi text (Ok p) fields =
    elim (fits_decided lo hi p.0 p.1) [
      | yes fits ↦ (Ok (fits.numer, fits.denom), record { n = p.0; d = p.1; reads = fields.0; low = fits.low })
      | no out ↦ (Err ParseError, none_fits lo hi (IsFractionText lo hi text) p.0 p.1 (λ m e other. only_fraction lo hi text m e p.0 p.1 other fields.0) fields.1 out)
    ]

-- for a type with numbers below 0, reading each text has a result
pub text_answer_exists : (lo hi : ℤ) (text : List ℕ) → lo <ℤ pos 0
    → (r : Result (ℤ × ℤ) RatioErrorKind) × AnswersText (λ x. x.0) (λ x. x.1) lo hi (IsFractionText lo hi text) r
text_answer_exists lo hi text below = let fields = fields_exist lo hi text below in answer_by lo hi text fields.0 fields.1
