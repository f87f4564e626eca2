-- How a float is written: its exact value, with the fewest places that read back as the float. So 1/10 gives `0.1`, and 10^23, whose nearest
-- float is 99999999999999991611392, these digits.
use Rattle.std.specs.Prelude.{◌≡◌, ◌≤◌, ◌*◌, ◌^◌, ◌≤ℤ◌, ◌<ℤ◌, ◌*ℤ◌, ℕ, ℤ, pos, unsigned_abs, true, false, T, List, codes}
use Rattle.std.specs.Float.{Float, binary64, nan, inf, fin}
use Rattle.std.specs.Float.Ieee.{eq}
use Rattle.ratio_decimal.specs.RoundingRules.{IsRoundedBy}
use Rattle.ratio_decimal.specs.declared.rounding_rule.Rounding.TheVariants.{HalfEven}
use Rattle.ratio_decimal.specs.Floats.{fraction_of_float, nearest_float}
use Rattle.ratio_decimal.specs.Decimal.{IsDecimalOf}

-- the exact value of the float x, rounded by `HalfEven` to so many places, has x as its nearest float, where 0.0 equals -0.0
-- Example: 0.1 with one place; not with none, since 0 has the nearest float 0.0
pub record FloatReadsBack (x : Float) (places : ℕ) : Type 0 where
  pub multiple : ℤ
  pub rounded : IsRoundedBy HalfEven ((fraction_of_float x).0 *ℤ pos (10 ^ places)) (fraction_of_float x).1 multiple
  pub nearest : T (eq (nearest_float binary64 multiple (pos (10 ^ places))) x)

-- the float reads back with so many places, and with no fewer
-- Example: 0.1: 1; 5.0: 0
pub record IsFewestPlaces (x : Float) (places : ℕ) : Type 0 where
  pub reads_back : FloatReadsBack x places
  pub fewest : (k : ℕ) → FloatReadsBack x k → places ≤ k

-- the text is the float's value with the fewest places that read back, rounded by `HalfEven`
-- Example: 0.1: `0.1`; 5.0: `5`; -0.0: `0`
pub record IsWithFewestPlaces (x : Float) (text : List ℕ) : Type 0 where
  pub places : ℕ
  pub few : IsFewestPlaces x places
  pub decimal : IsDecimalOf HalfEven places (fraction_of_float x).0 (fraction_of_float x).1 text

-- the text is a float: `inf` or `-inf`, or a finite one with the fewest places
abbrev pub IsFloatText : Float → List ℕ → Type 0
IsFloatText nan text = ⊥
IsFloatText (inf true) text = text ≡ codes "-inf"
IsFloatText (inf false) text = text ≡ codes "inf"
IsFloatText (fin s m e) text = IsWithFewestPlaces (fin s m e) text

-- Law: a fraction n/d of at most 2^-1075, without its sign, is written `0`, even if it is below 0
-- Example: -2^-1075: `0`
abbrev pub TinyFloatsAreZero : Type 0
TinyFloatsAreZero = (n d : ℤ) (text : List ℕ) → pos 0 <ℤ d → pos (unsigned_abs n * 2 ^ 1075) ≤ℤ d → IsFloatText (nearest_float binary64 n d) text → text ≡ codes "0"
