-- The text of a fraction under a precision is its decimal by `HalfEven`, and the only one.
use Rattle.std.specs.Prelude.{◌≡◌, ◌*◌, ◌+◌, ◌^◌, ◌<◌, ◌<ℤ◌, ◌*ℤ◌, ◌↔◌, ℕ, ℤ, pos, negsuc, Bool, true, false, List, int_lt, unsigned_abs, IsTrue, if◌then◌else◌}
use Rattle.std.proofs.Common.{refl, sym, ap, arith, ◌∙◌, subst, ltb-true}
use Rattle.std.proofs.lemmas.Int.{ints}
use Rattle.ratio_decimal.specs.Decimal.{IsDecimalOf, places_text}
use Rattle.ratio_decimal.specs.Precision.{HalfEvenIsDecimal, half_even, half_even_text}
use Rattle.ratio_decimal.specs.RoundingRules.{IsRoundedBy, mirrored, signed}
use Rattle.ratio_decimal.specs.declared.rounding_rule.Rounding.TheVariants.{HalfEven}
use Rattle.ratio_decimal.proofs.DecimalLemmas.{rounded_magnitude}
use Rattle.ratio_decimal.proofs.HalfEvenLemmas.{half_even_is}
use Rattle.ratio_decimal.proofs.RoundingRuleLaws.{one_by}

below_zero : (n : ℤ) → IsTrue (int_lt n (pos 0)) ↔ (n <ℤ pos 0)
below_zero (pos k) = (λ e. absurd (let h = ltb-true k 0 e in omega arith), λ h. absurd (omega (arith, ints)))
below_zero (negsuc k) = (λ e. omega (arith, ints), λ h. refl)

rounded_text : (places : ℕ) (n d : ℤ) → pos 0 <ℤ d → IsRoundedBy HalfEven (n *ℤ pos (10 ^ places)) d (signed (int_lt n (pos 0)) (half_even (unsigned_abs n * 10 ^ places) (unsigned_abs d)))
rounded_text places n d up =
    let mn = unsigned_abs n in
    let md = unsigned_abs d in
    let power = 10 ^ places in
    let p = half_even (mn * power) md in
    let alone : 0 * power + p ≡ p = omega arith in
    subst (λ x. IsRoundedBy HalfEven (n *ℤ pos power) d (signed (int_lt n (pos 0)) x)) alone
    (rounded_magnitude HalfEven HalfEven (int_lt n (pos 0)) n d mn md power places 0 p (below_zero n) up refl refl refl (same (int_lt n (pos 0)))
    (subst (λ x. IsRoundedBy HalfEven (pos (mn * power)) (pos md) (pos x)) (sym alone) (half_even_is (mn * power) md (above d up))))
  where
    same : (b : Bool) → HalfEven ≡ (if b then mirrored HalfEven else HalfEven)
    same true = refl
    same false = refl

    above : (z : ℤ) → pos 0 <ℤ z → 0 < unsigned_abs z
    above (pos k) h = omega (arith, ints)
    above (negsuc k) h = absurd (omega (arith, ints))

pub half_even_decimal : HalfEvenIsDecimal
half_even_decimal places n d up = record {
  multiple = signed (int_lt n (pos 0)) (half_even (unsigned_abs n * 10 ^ places) (unsigned_abs d));
  rounded = rounded_text places n d up;
  written = refl;
}

pub only_half_even : (places : ℕ) (n d : ℤ) (text : List ℕ) → pos 0 <ℤ d → IsDecimalOf HalfEven places n d text → text ≡ half_even_text places n d
only_half_even places n d text up is = is.written ∙ ap (places_text places) (one_by HalfEven (n *ℤ pos (10 ^ places)) d is.multiple _ up is.rounded (rounded_text places n d up))
