-- A wide total rounded to a whole number, which is a multiple of 1/1.
use Rattle.std.specs.Prelude.{◌≡◌, ◌<◌, ◌≤◌, ◌*ℤ◌, ℕ, ℤ, pos, unsigned_abs, Option, Some, None}
use Rattle.std.proofs.Common.{refl, ap, subst, arith, inl, inr}
use Rattle.std.proofs.lemmas.Int.{ints}
use Rattle.ratio_decimal.specs.RoundingRules.{IsRoundedBy}
use Rattle.ratio_decimal.specs.declared.rounding_rule.Rounding.{Rounding}
use Rattle.ratio_integer.proofs.LowestTerms.{lowest_own, lowest_unique, over_one}
use Rattle.ratio_integer.specs.Fraction.{IsLowestTermsOf}
use Rattle.ratio_integer.specs.Range.{Checks, IsHeld}
use Rattle.ratio_slots.specs.LowestSum.{HasPairNotBelow}
use Rattle.ratio_slots.specs.Multiples.{ChecksMultipleBelow}
use Rattle.ratio_totals.specs.Rounding.{ChecksRoundedInteger}

-- the lowest terms of z/1 are z and 1
whole_numer : (z p : ℤ) (q : ℕ) → IsLowestTermsOf z (pos 1) p (pos q) → p ≡ z
whole_numer z p q terms = (lowest_unique z (pos 1) p (pos q) z (pos 1) terms (lowest_own z (pos 1) (over_one z (pos 1) refl))).0

whole_denom : (z p : ℤ) (q : ℕ) → IsLowestTermsOf z (pos 1) p (pos q) → q ≡ 1
whole_denom z p q terms = ap unsigned_abs (lowest_unique z (pos 1) p (pos q) z (pos 1) terms (lowest_own z (pos 1) (over_one z (pos 1) refl))).1

times_one : (z : ℤ) → z *ℤ pos 1 ≡ z
times_one z = omega (arith, ints)

whole_rounded : (rule : Rounding) (x : ℤ × ℕ) (number : ℤ) → IsRoundedBy rule (x.0 *ℤ pos 1) (pos x.1) number → IsRoundedBy rule x.0 (pos x.1) number
whole_rounded rule x number rounded = subst (λ (z : ℤ). IsRoundedBy rule z (pos x.1) number) (times_one x.0) rounded

pub whole_some : {bound : ℕ} {T : Type 0} (value : T → ℤ) (lo hi : ℤ) (rule : Rounding) (x : ℤ × ℕ) (n : ℤ) (d : ℕ) (read : Option (ℤ × ℕ)) (r : Option T) → read ≡ Some (n, d) → ChecksMultipleBelow bound rule 1 x read → Checks value lo hi n r
    → ChecksRoundedInteger value lo hi rule x r
whole_some {bound = bound} value lo hi rule x n d read r is multiple checks =
    let found : ChecksMultipleBelow bound rule 1 x (Some (n, d)) = subst (ChecksMultipleBelow bound rule 1 x) is multiple in
    record {
      number = found.number;
      rounded = whole_rounded rule x found.number found.rounded;
      checks = subst (λ (z : ℤ). Checks value lo hi z r) (whole_numer found.number n d found.terms.terms) checks;
    }

-- one of the lowest terms of a whole number is the bound or more: it is this number
whole_long : (bound : ℕ) (z : ℤ) → 1 < bound → HasPairNotBelow bound (z, 1) → bound ≤ unsigned_abs z
whole_long bound z more long = elim long.long [
  | inl numer ↦ subst (λ (y : ℤ). bound ≤ unsigned_abs y) (whole_numer z long.numer long.denom long.terms) numer
  | inr denom ↦ absurd (omega (arith, more, denom, whole_denom z long.numer long.denom long.terms))
]

pub whole_none : {bound : ℕ} {T : Type 0} (value : T → ℤ) (lo hi : ℤ) (rule : Rounding) (x : ℤ × ℕ) (read : Option (ℤ × ℕ)) → 1 < bound → ((y : ℤ) → IsHeld lo hi y → unsigned_abs y < bound) → read ≡ None → ChecksMultipleBelow bound rule 1 x read
    → ChecksRoundedInteger value lo hi rule x None
whole_none {bound = bound} value lo hi rule x read more small is multiple =
    let found : ChecksMultipleBelow bound rule 1 x None = subst (ChecksMultipleBelow bound rule 1 x) is multiple in
    let long : bound ≤ unsigned_abs found.number = whole_long bound found.number more found.terms in
    record { number = found.number; rounded = whole_rounded rule x found.number found.rounded; checks = λ held. absurd (omega (arith, small found.number held, long)) }
