-- The texts of floats: each float has one, and a tiny one has `0`.
use Rattle.std.specs.Prelude.{◌≡◌, ◌-◌, ◌*◌, ◌/◌, ◌^◌, ◌<◌, ◌≤◌, ◌<ℤ◌, ◌*ℤ◌, ℕ, ℤ, suc, pos, negsuc, Bool, true, false, List, Result, Ok, Err, IfOk, codes, cond}
use Rattle.std.specs.Float.{Float, NotNan, binary64, nan, inf, fin, is_sign_negative}
use Rattle.std.specs.Float.Ieee.{climb, down, is_nan, odd, prec, round, size, span, units, up}
use Rattle.std.proofs.Common.{refl, sym, subst, ap, arith, lit<, ◌∙◌}
use Rattle.std.proofs.lemmas.Float.{le_left}
use Rattle.std.proofs.lemmas.Int.{ints}
use Rattle.std.proofs.Math.Nat.{div-eq_of_lt, mul_assoc, pow-suc}
use lib.Ieee.Fits.{core, down_pos, round_is}
use lib.Ieee.Nearest.{closest, closest_mono}
use Rattle.ratio_core.specs.Signs.{with_sign}
use Rattle.ratio_decimal.specs.declared.rounding_rule.Rounding.TheVariants.{HalfEven}
use Rattle.ratio_decimal.specs.Floats.{fraction_of_float, nearest_float}
use Rattle.ratio_decimal.proofs.FloatLawLemmas.{monotone}
use Rattle.ratio_decimal.specs.Decimal.{IsDecimalOf}
use Rattle.ratio_decimal.proofs.DecimalLawLemmas.{decimal_by_value, decimals_agree}
use Rattle.ratio_big.specs.Values.{HasTerms}
use Rattle.ratio_expressions.specs.Floats.{IsFewestPlaces, IsFloatText, TinyFloatsAreZero}
use Rattle.ratio_expressions.proofs.FloatLemmas.{exact_to_even, tens, zero_reads_back}

pub nearest_number : (n d : ℤ) → pos 0 <ℤ d → NotNan (nearest_float binary64 n d)
nearest_number n d above = le_left (nearest_float binary64 n d) (nearest_float binary64 n d) (monotone binary64 n d n d above above (omega (arith, ints)))

pub finite_written : (x : Float) (value : ℤ × ℤ) (places : ℕ) (text : List ℕ) → HasTerms (fraction_of_float x) value → IsFewestPlaces x places → IsDecimalOf HalfEven places value.0 value.1 text → IsFloatText x text
finite_written nan value places text exact few decimal = absurd (exact.fraction refl)
finite_written (inf s) value places text exact few decimal = absurd (exact.fraction refl)
finite_written (fin s m e) value places text exact few decimal = record {
  places = places;
  few = few;
  decimal = decimal_by_value HalfEven places value.0 value.1 (with_sign s (m * up e)) (pos (down e)) text exact.lowest.positive (omega (arith, ints, down_pos e)) (sym exact.same) decimal;
}

infinite_written : (x : Float) (s : Bool) → NotNan x → (fraction_of_float x).1 ≡ pos 0 → s ≡ is_sign_negative x → IsFloatText x (cond s (codes "-inf") (codes "inf"))
unfolding is_sign_negative is_nan
infinite_written nan s number none is = absurd number
infinite_written (inf true) s number none is = ap (λ b. cond b (codes "-inf") (codes "inf")) is
infinite_written (inf false) s number none is = ap (λ b. cond b (codes "-inf") (codes "inf")) is
infinite_written (fin t m e) s number none is = absurd (omega (arith, ints, down_pos e, none))

pub infinite_given : {V E : Type 0} (x : Float) (s : Bool) (result : Result V E) (bytes : V → List ℕ) → NotNan x → (fraction_of_float x).1 ≡ pos 0 → s ≡ is_sign_negative x
    → IfOk result (λ v. bytes v ≡ cond s (codes "-inf") (codes "inf")) → IfOk result (λ v. IsFloatText x (bytes v))
infinite_given x s (Ok v) bytes number none is written = subst (IsFloatText x) (sym written) (infinite_written x s number none is)
infinite_given x s (Err e) bytes number none is written = tt

-- a float has one text
pub float_once : (x : Float) (a b : List ℕ) → IsFloatText x a → IsFloatText x b → a ≡ b
float_once nan a b h g = absurd h
float_once (inf true) a b h g = h ∙ sym g
float_once (inf false) a b h g = h ∙ sym g
float_once (fin s m e) a b h g =
    let x : Float = fin s m e in
    let v : ℤ × ℤ = fraction_of_float x in
    let above : pos 0 <ℤ v.1 = omega (arith, ints, down_pos e) in
    let same : h.places ≡ g.places = omega (arith, h.few.fewest g.places g.few.reads_back, g.few.fewest h.places h.few.reads_back) in
    decimals_agree HalfEven g.places v.0 v.1 v.0 v.1 a b above above refl (subst (λ k. IsDecimalOf HalfEven k v.0 v.1 a) same h.decimal) g.decimal

-- ---- tiny fractions

units_of_none : (s : Bool) → units binary64 s 0 0 ≡ fin s 0 (pos 0)
unfolding units odd
units_of_none s = refl

no_digits : size 0 ≡ 0
unfolding size climb span
no_digits = refl

module _ (s : Bool) (num den : ℕ) (some : 0 < den) (few : num * 2 ^ 1075 ≤ den) where
  abbrev least_parts : ℕ
  least_parts = num * 2 ^ 1074

  half : least_parts * 2 ≤ 1 * den
  half = omega (arith, few, ap (λ p. num * p) (pow-suc 2 1074), mul_assoc num (2 ^ 1074) 2)

  kept : size (least_parts / den) - prec binary64 ≡ 0
  kept = let cut : least_parts / den ≡ 0 = div-eq_of_lt (omega (arith, half)) in omega (arith, ap size cut, no_digits)

  no_part : closest least_parts (den * 2 ^ 0) ≡ 0
  no_part =
      let whole : den * 2 ^ 0 ≡ den = omega arith in
      let least = closest_mono least_parts den 1 2 some (lit< tt) half in
      ap (closest least_parts) whole ∙ omega (arith, least)

  -- at most half of the least float is rounded to 0
  tiny_round : round binary64 s num den ≡ fin s 0 (pos 0)
  tiny_round = round_is binary64 s num den ∙ ap (core binary64 s least_parts den) kept ∙ ap (λ q. units binary64 s q 0) no_part ∙ units_of_none s

-- what is written of 0.0 and of -0.0
zero_text : (s : Bool) (text : List ℕ) → IsFloatText (fin s 0 (pos 0)) text → text ≡ codes "0"
zero_text s text is = float_once (fin s 0 (pos 0)) text (codes "0") is (record {
  places = 0;
  few = record { reads_back = zero_reads_back s (pos 0) 0 1 refl; fewest = λ k other. omega arith };
  decimal = record {
    multiple = pos 0;
    rounded = exact_to_even (with_sign s 0) (pos 1) (tens 0) (pos 0) (omega (arith, ints)) (sym (nothing s));
    written = refl;
  };
})
  where
    nothing : (s : Bool) → with_sign s 0 *ℤ tens 0 ≡ pos 0 *ℤ pos 1
    nothing true = refl
    nothing false = refl

pub tiny_is_zero : TinyFloatsAreZero
tiny_is_zero (pos n) (pos d) text above few is = zero_text false text (subst (λ (x : Float). IsFloatText x text) (tiny_round false n d (omega (arith, ints, above)) (omega (arith, ints, few))) is)
tiny_is_zero (negsuc n) (pos d) text above few is = zero_text true text (subst (λ (x : Float). IsFloatText x text) (tiny_round true (suc n) d (omega (arith, ints, above)) (omega (arith, ints, few))) is)
tiny_is_zero n (negsuc d) text above few is = absurd (omega (arith, ints, above))
