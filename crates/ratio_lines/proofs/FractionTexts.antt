-- The text of a fraction in base 10 has a byte, and its bytes are graphic.
use Rattle.std.proofs.Common.{◌≡◌, ℕ, ◌<◌, ℤ, pos, negsuc, ◌≤ℤ◌, FitsSigned, to_z, of_z, w64, sym, List, [], ◌∷◌, ◌++◌, length, ◌&&◌, true, inl, inr, refl, ap, ◌∙◌, arith, length-append}
use Rattle.std.specs.Char.{digit_value, is_ascii_graphic}
use Rattle.std.specs.List.{list_all}
use Rattle.std.specs.Str.Parse.{AllDigits}
use Rattle.std.proofs.lemmas.Bool.Decides.{nat_tests}
use Rattle.std.proofs.lemmas.Int.{ints, to_z-of_z}
use Rattle.std.proofs.lemmas.List.Folds.{list_all-append}
use Rattle.ratio_integer.specs.SignedBits.{IsHeld64, greatest64, least64}
use Rattle.ratio_core.specs.Reading.{IsFractionText, IsNumberText, slash}
use Rattle.ratio_lines.specs.PlainLine.{IsGraphic}

digit_graphic : (byte : ℕ) → digit_value byte < 10 → is_ascii_graphic byte ≡ true
digit_graphic byte h = grind (arith, nat_tests)

digits_graphic : (text : List ℕ) → AllDigits 10 text → IsGraphic text
digits_graphic [] h = refl
digits_graphic (byte ∷ text) h = ap (λ t. t && list_all is_ascii_graphic text) (digit_graphic byte h.0) ∙ digits_graphic text h.1

-- what is shown of a text
abbrev IsShown : List ℕ → Type 0
IsShown text = IsGraphic text × (0 < length text)

number_shown : (lo z : ℤ) (text : List ℕ) → IsNumberText lo 10 text z → IsShown text
number_shown lo z text (inl h) = (digits_graphic text h.0.1, h.0.0)
number_shown lo z text (inr (inl h)) = rw h.1 (digits_graphic h.0 h.2.1, omega arith)
number_shown lo z text (inr (inr h)) = rw h.2 (digits_graphic h.0 h.3.1, omega arith)

slashed_shown : (text front back : List ℕ) → text ≡ front ++ slash ∷ back → IsShown front → IsShown back → IsShown text
slashed_shown text front back cut p q =
    rw cut (list_all-append is_ascii_graphic front (slash ∷ back) ∙ ap (λ t. t && list_all is_ascii_graphic back) p.0 ∙ q.0, omega (arith, length-append front (slash ∷ back)))

pub fraction_shown : (lo hi n d : ℤ) (text : List ℕ) → IsFractionText lo hi text n d → IsShown text
fraction_shown lo hi n d text (inl h) =
    slashed_shown text h.front h.back h.cut (number_shown lo n h.front h.sides.numer.number) (number_shown lo d h.back h.sides.denom.number)
fraction_shown lo hi n d text (inr h) = number_shown lo n text h.0.number

-- ---- the numbers of the fraction

held_fits : (z : ℤ) → IsHeld64 z → FitsSigned w64 z
held_fits (pos n) h = let below : pos n ≤ℤ pos 9223372036854775807 = h.below in record { sfits = omega (arith, ints, below) }
held_fits (negsuc n) h = let above : negsuc 9223372036854775807 ≤ℤ negsuc n = h.above in record { sfits = omega (arith, ints, above) }

held_same : (z : ℤ) → IsHeld64 z → to_z w64 (of_z w64 z) ≡ z
held_same z h = to_z-of_z w64 z (held_fits z h)

-- they are values of an `i64`
pub fraction_same : (n d : ℤ) (text : List ℕ) → IsFractionText least64 greatest64 text n d → (to_z w64 (of_z w64 n) ≡ n) × (to_z w64 (of_z w64 d) ≡ d)
fraction_same n d text (inl h) = (held_same n h.sides.numer.held, held_same d h.sides.denom.held)
fraction_same n d text (inr h) = (held_same n h.0.held, ap (λ z. to_z w64 (of_z w64 z)) h.1 ∙ sym h.1)
