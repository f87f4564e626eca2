-- Lowest terms over a narrower type, and what an answer says of them.
use Rattle.std.specs.Prelude.{◌≡◌, ◌≤◌, ◌<ℤ◌, ◌*ℤ◌, ℕ, ℤ, pos, negsuc, nat_abs, unsigned_abs, Option, Some, None, option_map}
use Rattle.std.proofs.Common.{arith, inl, inr, refl, subst, sym}
use Rattle.std.proofs.lemmas.Int.{ints}
use Rattle.ratio_core.specs.Power.{ChecksBoth}
use Rattle.ratio_decimal.specs.RoundingRules.{IsRoundedBy}
use Rattle.ratio_decimal.specs.declared.rounding_rule.Rounding.{Rounding}
use Rattle.ratio_integer.specs.Fraction.{ChecksLowest, Fits, IsLowestTermsOf}
use Rattle.ratio_integer.specs.Range.{IsHeld}
use Rattle.ratio_integer.specs.SignedBits.{IsHeld64, greatest64, least64}
use Rattle.ratio_integer.proofs.LowestTerms.{lowest_unique}
use Rattle.ratio_natural.specs.Number.{base}
use Rattle.ratio_slots.specs.LowestSum.{ChecksPairMean, ChecksShortPair, HasLongPair, pair_mean}
use Rattle.ratio_slots.specs.Multiples.{ChecksMultiple}
use Rattle.ratio_c.specs.Crossing.{Said, Says, rule_of, said_of}
use Rattle.ratio_c.specs.TotalMultiples.{SaysMultiple}
use Rattle.ratio_c.specs.TotalReads.{Narrows, SaysLowest}

-- lowest terms, over another type if both numbers fit it
pub narrow_some : {R : Type 0} (numer denom : R → ℤ) (lo hi n d a b : ℤ) (r : Option R) → IsLowestTermsOf n d a b → ChecksBoth numer denom lo hi a b r → ChecksLowest numer denom lo hi (n, d) r
narrow_some numer denom lo hi n d a b None low out = λ fits.
    let same = lowest_unique n d a b fits.numer fits.denom low fits.low.terms in
    out (subst (IsHeld lo hi) (sym same.0) fits.low.numer_held, subst (IsHeld lo hi) (sym same.1) fits.low.denom_held)
narrow_some numer denom lo hi n d a b (Some r) low told = record {
  terms = subst (λ (t : ℤ). IsLowestTermsOf n d t (denom r)) (sym told.1.0) (subst (λ (t : ℤ). IsLowestTermsOf n d a t) (sym told.1.1) low);
  numer_held = subst (IsHeld lo hi) (sym told.1.0) told.0.0;
  denom_held = subst (IsHeld lo hi) (sym told.1.1) told.0.1;
}

pub same_terms : (n d p q a b : ℤ) → p ≡ n → q ≡ d → IsLowestTermsOf p q a b → IsLowestTermsOf n d a b
same_terms n d p q a b first second low = subst (λ t. IsLowestTermsOf n t a b) second (subst (λ t. IsLowestTermsOf t q a b) first low)

-- lowest terms over another type, as an answer says them
pub lowest_said : {R : Type 0} (first second : R → ℤ) (lo hi n d m e : ℤ) (r : Option R) (answer : Said) → m ≡ n → e ≡ d → ChecksLowest first second lo hi (m, e) r
    → answer ≡ said_of (option_map (λ z. (first z, second z)) r) → Says (ChecksLowest (λ (z : ℤ × ℤ). z.0) (λ (z : ℤ × ℤ). z.1) lo hi (n, d)) answer
lowest_said {R = R} first second lo hi n d m e r answer numer denom told said =
    record { result = option_map (λ z. (first z, second z)) r; is_result = mapped r (subst (λ t. ChecksLowest first second lo hi (n, t) r) denom (subst (λ t. ChecksLowest first second lo hi (t, e) r) numer told)); is_said = said }
  where
    mapped : (r : Option R) → ChecksLowest first second lo hi (n, d) r → ChecksLowest (λ (z : ℤ × ℤ). z.0) (λ (z : ℤ × ℤ). z.1) lo hi (n, d) (option_map (λ z. (first z, second z)) r)
    mapped None out = out
    mapped (Some z) low = low

-- ---- lowest terms whose numbers are below 2^64, over 64 bits

long_numer : (z : ℤ) → base ≤ unsigned_abs z → ¬ (IsHeld64 z)
long_numer (pos n) long held = absurd (omega (arith, ints, held.below, long))
long_numer (negsuc n) long held = absurd (omega (arith, ints, held.above, long))

long_denom : (n : ℕ) → base ≤ n → ¬ (IsHeld64 (pos n))
long_denom n long held = absurd (omega (arith, ints, held.below, long))

long_none : (x : ℤ × ℕ) → HasLongPair x → ¬ (Fits least64 greatest64 x.0 (pos x.1))
long_none x long fits =
    let same = lowest_unique x.0 (pos x.1) long.numer (pos long.denom) fits.numer fits.denom long.terms fits.low.terms in
    elim long.long [
      | inl numer ↦ long_numer long.numer numer (subst IsHeld64 (sym same.0) fits.low.numer_held)
      | inr denom ↦ long_denom long.denom denom (subst IsHeld64 (sym same.1) fits.low.denom_held)
    ]

none_lowest : (x : ℤ × ℕ) (r : Option (ℤ × ℤ)) → r ≡ None → ¬ (Fits least64 greatest64 x.0 (pos x.1)) → ChecksLowest (λ z. z.0) (λ z. z.1) least64 greatest64 (x.0, pos x.1) r
none_lowest x r none out = subst (λ s. ChecksLowest {R = ℤ × ℤ} (λ z. z.0) (λ z. z.1) least64 greatest64 (x.0, pos x.1) s) (sym none) out

short_lowest : (x : ℤ × ℕ) (terms : Option (ℤ × ℕ)) (r : Option (ℤ × ℤ)) → ChecksShortPair x terms → Narrows terms r
    → ChecksLowest (λ z. z.0) (λ z. z.1) least64 greatest64 (x.0, pos x.1) r
short_lowest x None r checks narrows = none_lowest x r narrows (long_none x checks)
short_lowest x (Some t) r checks narrows = narrow_some (λ z. z.0) (λ z. z.1) least64 greatest64 x.0 (pos x.1) t.0 (pos t.1) r checks.terms narrows

pub short_said : (x : ℤ × ℕ) (terms : Option (ℤ × ℕ)) (r : Option (ℤ × ℤ)) (answer : Said) → ChecksShortPair x terms → Narrows terms r
    → answer ≡ said_of (option_map (λ z. (z.0, z.1)) r) → SaysLowest x answer
short_said x terms r answer checks narrows said = lowest_said (λ z. z.0) (λ z. z.1) least64 greatest64 x.0 (pos x.1) x.0 (pos x.1) r answer refl refl (short_lowest x terms r checks narrows) said

pub mean_checked : (x : ℤ × ℕ) (count : ℤ) (terms : Option (ℤ × ℕ)) → pos 0 <ℤ count → ChecksPairMean x count terms → ChecksShortPair (pair_mean x count) terms
mean_checked x count None positive checks = elim checks [ inl none ↦ absurd (omega (arith, ints, none, positive)) | inr long ↦ long ]
mean_checked x count (Some t) positive checks = checks.1

-- a multiple of 1/parts whose terms are below 2^64, as an answer says it
pub multiple_said : (rule : Rounding) (number parts : ℕ) (p : ℤ) (x : ℤ × ℕ) (terms : Option (ℤ × ℕ)) (r : Option (ℤ × ℤ)) (answer : Said) → rule ≡ rule_of number → pos parts ≡ p
    → ChecksMultiple rule parts x terms → Narrows terms r → answer ≡ said_of (option_map (λ z. (z.0, z.1)) r) → SaysMultiple x p number answer
multiple_said rule number parts p x terms r answer rule_is parts_are multiple narrows said =
    let told : SaysLowest (multiple.number, parts) answer = short_said (multiple.number, parts) terms r answer multiple.terms narrows said in
    let rounded : IsRoundedBy (rule_of number) (x.0 *ℤ p) (pos x.1) multiple.number =
    subst (λ (o : Rounding). IsRoundedBy o (x.0 *ℤ p) (pos x.1) multiple.number) rule_is (subst (λ (z : ℤ). IsRoundedBy rule (x.0 *ℤ z) (pos x.1) multiple.number) parts_are multiple.rounded) in
    record {
      result = told.result;
      is_result = (multiple.number, rounded, subst (λ (z : ℤ). ChecksLowest (λ (y : ℤ × ℤ). y.0) (λ y. y.1) least64 greatest64 (multiple.number, z) told.result) parts_are told.is_result);
      is_said = told.is_said;
    }

-- a number above 0 is its magnitude
pub magnitude_above : (z : ℤ) → pos 0 <ℤ z → pos (nat_abs z) ≡ z
magnitude_above (pos n) h = refl
magnitude_above (negsuc n) h = absurd (omega (arith, ints, h))
