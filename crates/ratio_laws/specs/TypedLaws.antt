-- The laws of typed texts: each has one reading, and what the calls for decimals and for printed fractions read, is read alike.
use Rattle.std.specs.Prelude.{◌≡◌, ◌^◌, ◌<ℤ◌, ℤ, ℕ, pos, neg_ℤ, List}
use Rattle.ratio_decimal.specs.DecimalReading.{IsDecimalText, ReadsNotHeld}
use Rattle.ratio_core.specs.Reading.{IsFractionText, ReadsLowest}
use Rattle.ratio_decimal.specs.TypedText.{IsTypedText, ReadsTyped, TypedNotHeld}

-- Law: each text is read in at most one way
abbrev pub TypedTextsHaveOneReading : Type 0
TypedTextsHaveOneReading = (text : List ℕ) (n d m e : ℤ) (numbers others : List ℕ) → IsTypedText text n d numbers → IsTypedText text m e others → (n ≡ m) × (d ≡ e) × (numbers ≡ others)

-- Law: a decimal whose lowest terms are in range is read as these, as by `from_decimal`
abbrev pub DecimalsAreTyped : Type 0
DecimalsAreTyped = (lo hi : ℤ) (text : List ℕ) (a b : ℤ) → ReadsLowest lo hi (IsDecimalText text) a b → ReadsTyped lo hi text a b

-- Law: a decimal whose lowest terms are not in range is not held, as by `from_decimal`
abbrev pub WideDecimalsAreTyped : Type 0
WideDecimalsAreTyped = (lo hi : ℤ) (text : List ℕ) → ReadsNotHeld lo hi (IsDecimalText text) → TypedNotHeld lo hi text

-- the range lies between -2^128 and 2^128
pub record IsBelowPower (lo hi : ℤ) : Type 0 where
  pub above : neg_ℤ (pos (2 ^ 128)) <ℤ lo
  pub below : hi <ℤ pos (2 ^ 128)

-- Law: for such a range (`IsBelowPower`), a fraction as `from_str` reads it is read as the same lowest terms
abbrev pub FractionsAreTyped : Type 0
FractionsAreTyped = (lo hi : ℤ) (text : List ℕ) (a b : ℤ) → IsBelowPower lo hi → ReadsLowest lo hi (IsFractionText lo hi text) a b → ReadsTyped lo hi text a b
