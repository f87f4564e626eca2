-- Bytes that no decimal, no fraction and no mixed number has.
use Rattle.std.specs.Prelude.{◌≡◌, ◌≢◌, ◌⊎◌, ◌≤◌, ◌<◌, ℕ, ℤ, Bool, true, false, List, [], ◌∷◌, ◌++◌}
use Rattle.std.specs.Char.{digit_value}
use Rattle.std.specs.Str.Parse.{AllDigits}
use Rattle.std.proofs.Common.{refl, sym, ap, subst, arith, inl, inr}
use Rattle.ratio_decimal.specs.Decimal.{point}
use Rattle.ratio_decimal.specs.DecimalReading.{HasDecimalParts, IsDecimalText, IsExponent, IsLetterE, IsPointed, IsWrittenSign}
use Rattle.ratio_core.specs.Reading.{minus, plus, slash}
use Rattle.ratio_decimal.specs.TypedText.{HasMixedParts, HasQuotientParts, IsMixedText, IsPlainText, IsQuotientText, IsWholeText, percent_sign, space}
use Rattle.ratio_decimal.proofs.DecimalDigits.{all_split}

-- no byte of the text is c
abbrev IsFree : ℕ → List ℕ → Type 0
IsFree c [] = Unit {0}
IsFree c (x ∷ xs) = (x ≢ c) × IsFree c xs

free_append : (c : ℕ) (xs ys : List ℕ) → IsFree c xs → IsFree c ys → IsFree c (xs ++ ys)
free_append c [] ys first second = second
free_append c (x ∷ xs) ys first second = (first.0, free_append c xs ys first.1 second)

free_cut : (c : ℕ) (xs ys : List ℕ) → IsFree c (xs ++ c ∷ ys) → ⊥
free_cut c [] ys free = free.0 refl
free_cut c (x ∷ xs) ys free = free_cut c xs ys free.1

-- c is none of the bytes that a decimal is written with
record IsOther (c : ℕ) : Type 0 where
  digit : 10 ≤ digit_value c
  no_minus : minus ≢ c
  no_plus : plus ≢ c
  no_point : point ≢ c
  no_e : ¬ (IsLetterE c)

free_digits : (c : ℕ) (ds : List ℕ) → IsOther c → AllDigits 10 ds → IsFree c ds
free_digits c [] other all = tt
free_digits c (d ∷ ds) other all = ((λ e. let same : digit_value d ≡ digit_value c = ap digit_value e in omega (arith, all.0, other.digit, same)), free_digits c ds other all.1)

free_sign : (c : ℕ) (sign : List ℕ) (below : Bool) → IsOther c → IsWrittenSign sign below → IsFree c sign
free_sign c sign true other is = rw is (other.no_minus, tt)
free_sign c sign false other (inl is) = rw is tt
free_sign c sign false other (inr is) = rw is (other.no_plus, tt)

free_pointed : (c : ℕ) (text whole part : List ℕ) → IsOther c → IsPointed text whole part → IsFree c text
free_pointed c text whole part other is = by is.cut
  where
    halves : AllDigits 10 whole × AllDigits 10 part
    halves = all_split whole part is.digits.1

    by : (text ≡ whole ++ point ∷ part) ⊎ ((text ≡ whole) × (part ≡ [])) → IsFree c text
    by (inl e) = subst (IsFree c) (sym e) (free_append c whole (point ∷ part) (free_digits c whole other halves.0) (other.no_point, free_digits c part other halves.1))
    by (inr (e, none)) = subst (IsFree c) (sym e) (free_digits c whole other halves.0)

free_scale : (c : ℕ) (text : List ℕ) (below : Bool) (digits : List ℕ) → IsOther c → IsExponent text below digits → IsFree c text
free_scale c text below digits other (inl is) =
    subst (IsFree c) (sym is.cut) ((λ e. other.no_e (subst IsLetterE e is.is_e)), free_append c is.sign digits (free_sign c is.sign below other is.signed) (free_digits c digits other is.numeral.1))
free_scale c text below digits other (inr (none, no_minus, empty)) = subst (IsFree c) (sym none) tt

free_decimal : (c : ℕ) (text : List ℕ) (below : Bool) (whole part : List ℕ) (down : Bool) (exponent : List ℕ) → IsOther c → HasDecimalParts text below whole part down exponent → IsFree c text
free_decimal c text below whole part down exponent other is =
    subst (IsFree c) (sym is.cut) (free_append c is.sign (is.pointed ++ is.scale) (free_sign c is.sign below other is.signed)
    (free_append c is.pointed is.scale (free_pointed c is.pointed whole part other is.number) (free_scale c is.scale down exponent other is.scaled)))

free_whole : (c : ℕ) (text : List ℕ) (below : Bool) (digits : List ℕ) → IsOther c → IsWholeText text below digits → IsFree c text
free_whole c text below digits other is = subst (IsFree c) (sym is.cut) (free_append c is.sign digits (free_sign c is.sign below other is.signed) (free_digits c digits other is.numeral.1))

free_quotient : (c : ℕ) (text : List ℕ) (s : Bool) (ns : List ℕ) (t : Bool) (ds : List ℕ) → IsOther c → slash ≢ c → HasQuotientParts text s ns t ds → IsFree c text
free_quotient c text s ns t ds other no_slash is =
    subst (IsFree c) (sym is.cut) (free_append c is.front (slash ∷ is.back) (free_whole c is.front s ns other is.first) (no_slash, free_whole c is.back t ds other is.second))

free_mixed : (c : ℕ) (text : List ℕ) (s : Bool) (ws ns ds : List ℕ) → IsOther c → slash ≢ c → space ≢ c → HasMixedParts text s ws ns ds → IsFree c text
free_mixed c text s ws ns ds other no_slash no_space is =
    subst (IsFree c) (sym is.cut) (free_append c is.front (space ∷ (ns ++ slash ∷ ds)) (free_whole c is.front s ws other is.first)
    (no_space, free_append c ns (slash ∷ ds) (free_digits c ns other is.second.1) (no_slash, free_digits c ds other is.third.1)))

-- ---- the three bytes

no_letter : (c : ℕ) → c < 69 → ¬ (IsLetterE c)
no_letter c small (inl is) = omega (arith, small, is)
no_letter c small (inr is) = omega (arith, small, is)

slash_other : IsOther slash
slash_other = record { digit = omega arith; no_minus = λ e. omega (arith, e); no_plus = λ e. omega (arith, e); no_point = λ e. omega (arith, e); no_e = no_letter slash (omega arith) }

space_other : IsOther space
space_other = record { digit = omega arith; no_minus = λ e. omega (arith, e); no_plus = λ e. omega (arith, e); no_point = λ e. omega (arith, e); no_e = no_letter space (omega arith) }

percent_other : IsOther percent_sign
percent_other = record { digit = omega arith; no_minus = λ e. omega (arith, e); no_plus = λ e. omega (arith, e); no_point = λ e. omega (arith, e); no_e = no_letter percent_sign (omega arith) }

-- ---- what no text is at once

pub no_decimal_quotient : (text : List ℕ) (n d m e : ℤ) (others : List ℕ) → IsDecimalText text n d → ¬ (IsQuotientText text m e others)
no_decimal_quotient text n d m e others first second =
    free_cut slash second.parts.front second.parts.back (subst (IsFree slash) second.parts.cut (free_decimal slash text first.below first.whole first.part first.down first.exponent slash_other first.parts))

pub no_plain_mixed : (text : List ℕ) (n d : ℤ) (numbers : List ℕ) (m e : ℤ) (others : List ℕ) → IsPlainText text n d numbers → ¬ (IsMixedText text m e others)
no_plain_mixed text n d numbers m e others first second = free_cut space second.parts.front (second.over ++ slash ∷ second.base) (subst (IsFree space) second.parts.cut (by first))
  where
    by : IsPlainText text n d numbers → IsFree space text
    by (inl (is, none)) = free_decimal space text is.below is.whole is.part is.down is.exponent space_other is.parts
    by (inr is) = free_quotient space text is.below is.over is.under is.base space_other (λ e. omega (arith, e)) is.parts

pub no_plain_percent : (text front : List ℕ) (n d : ℤ) (numbers : List ℕ) → IsPlainText text n d numbers → ¬ (text ≡ front ++ percent_sign ∷ [])
no_plain_percent text front n d numbers first cut = free_cut percent_sign front [] (subst (IsFree percent_sign) cut (by first))
  where
    by : IsPlainText text n d numbers → IsFree percent_sign text
    by (inl (is, none)) = free_decimal percent_sign text is.below is.whole is.part is.down is.exponent percent_other is.parts
    by (inr is) = free_quotient percent_sign text is.below is.over is.under is.base percent_other (λ e. omega (arith, e)) is.parts

pub no_mixed_percent : (text front : List ℕ) (n d : ℤ) (numbers : List ℕ) → IsMixedText text n d numbers → ¬ (text ≡ front ++ percent_sign ∷ [])
no_mixed_percent text front n d numbers is cut =
    free_cut percent_sign front [] (subst (IsFree percent_sign) cut (free_mixed percent_sign text is.below is.whole is.over is.base percent_other (λ e. omega (arith, e)) (λ e. omega (arith, e)) is.parts))
