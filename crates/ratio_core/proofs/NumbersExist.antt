-- Each pair of numbers has a result: a number is in range or not, a pair fits or not, and two fractions can be scaled or not.
use Rattle.std.specs.Prelude.{◌≡◌, ◌≢◌, ◌<ℤ◌, ℤ, zero, suc, pos, negsuc, int_rem, Option, Some, None}
use Rattle.std.proofs.Common.{refl, arith}
use Rattle.std.proofs.lemmas.Int.{by_lt_z, ints}
use Rattle.ratio_integer.specs.Arithmetic.{IsHeldScaled, IsScaled, RemainderHeld, ScaledHeld, remainder_of}
use Rattle.ratio_integer.specs.Division.{IsGcdOf}
use Rattle.ratio_integer.specs.Fraction.{AnswersLowest, ChecksLowest, Fits}
use Rattle.ratio_integer.specs.Range.{IsHeld, IsRange}
use Rattle.ratio_integer.proofs.CommonDivisors.{gcd_exists}
use Rattle.ratio_integer.proofs.DivisionLemmas.{remainder_held}
use Rattle.ratio_integer.proofs.LowestTerms.{HasLowest, denom_out, gcd_held_positive, held_lowest_quotients, lowest_exist, numer_out}
use Rattle.ratio_integer.proofs.Whole.{positive_nonzero}
use Rattle.ratio_core.proofs.RemainderLemmas.{remainder_answer}
use Rattle.ratio_core.proofs.ScalingLemmas.{common_out, left_out, right_out, scaled_is}

-- ---- cases of a number

pub zero_decided : (z : ℤ) → Dec (z ≡ pos 0)
zero_decided (pos zero) = yes refl
zero_decided (pos (suc n)) = no (λ e. omega (arith, ints))
zero_decided (negsuc n) = no (λ e. omega (arith, ints))

pub held_decided : (lo hi z : ℤ) → Dec (IsHeld lo hi z)
held_decided lo hi z =
    by_lt_z z lo (λ low. no (λ held. omega (arith, ints, held.above)))
    (λ above. by_lt_z hi z (λ high. no (λ held. omega (arith, ints, held.below))) (λ below. yes (record { above = above; below = below })))

-- ---- lowest terms

-- if two numbers are in range and the second is positive, they fit
pub positive_fits : (lo hi n d : ℤ) → IsRange lo hi → IsHeld lo hi n → IsHeld lo hi d → pos 0 <ℤ d → Fits lo hi n d
positive_fits lo hi n d range n_held d_held positive =
    let found : (g : ℤ) × IsGcdOf n d g = gcd_exists n d in
    let divisor_held = (gcd_held_positive lo hi n d range d_held positive).each found.0 found.1 in
    record { numer = _; denom = _; low = held_lowest_quotients lo hi n d found.0 _ _ range n_held d_held divisor_held positive found.1 refl refl }

-- a pair with known lowest terms fits or not
known_fits : (lo hi n d : ℤ) → HasLowest n d → Dec (Fits lo hi n d)
known_fits lo hi n d low =
    elim (held_decided lo hi low.numer) [
      | no out ↦ no (numer_out lo hi n d low.numer low.denom low.terms out)
      | yes numer_held ↦ elim (held_decided lo hi low.denom) [
        | no out ↦ no (denom_out lo hi n d low.numer low.denom low.terms out)
        | yes denom_held ↦ yes (record { numer = low.numer; denom = low.denom; low = record { terms = low.terms; numer_held = numer_held; denom_held = denom_held } })
      ]
    ]

-- a pair fits or not; over 0 it has no lowest terms
pub fits_decided : (lo hi n d : ℤ) → Dec (Fits lo hi n d)
fits_decided lo hi n d =
    elim (zero_decided d) [ yes none ↦ no (λ fits. fits.low.terms.fraction none) | no fraction ↦ known_fits lo hi n d (lowest_exist n d fraction) ]

-- so each pair has a result of `ChecksLowest`
pub lowest_checked : (lo hi : ℤ) (pair : ℤ × ℤ) → (r : Option (ℤ × ℤ)) × ChecksLowest (λ x. x.0) (λ x. x.1) lo hi pair r
lowest_checked lo hi pair =
    elim (fits_decided lo hi pair.0 pair.1) [ yes fits ↦ (Some (fits.numer, fits.denom), fits.low) | no out ↦ (None, out) ]

-- ---- the least common denominator

-- known scaled numbers are in range or not
known_scaled : (lo hi a b c d l p q : ℤ) → pos 0 <ℤ b → pos 0 <ℤ d → IsScaled a b c d l p q → Dec (ScaledHeld lo hi a b c d)
known_scaled lo hi a b c d l p q b_positive d_positive is =
    elim (held_decided lo hi l) [
      | no out ↦ no (common_out lo hi a b c d l p q b_positive d_positive is out)
      | yes common ↦ elim (held_decided lo hi p) [
        | no out ↦ no (left_out lo hi a b c d l p q b_positive d_positive is out)
        | yes left ↦ elim (held_decided lo hi q) [
          | no out ↦ no (right_out lo hi a b c d l p q b_positive d_positive is out)
          | yes right ↦ yes (record { common = l; left = p; right = q; held = record { scaled = is; common_held = common; left_held = left; right_held = right } })
        ]
      ]
    ]

-- two fractions with positive denominators can be scaled in range or not
pub scaled_decided : (lo hi a b c d : ℤ) → pos 0 <ℤ b → pos 0 <ℤ d → Dec (ScaledHeld lo hi a b c d)
scaled_decided lo hi a b c d b_positive d_positive =
    let low = lowest_exist b d (positive_nonzero d d_positive) in
    known_scaled lo hi a b c d _ _ _ b_positive d_positive (scaled_is b d low.numer low.denom b_positive d_positive low.terms a c)

-- ---- remainders

-- if two fractions can be scaled and the second is not 0, they have a remainder, and it fits
remainder_formed : (lo hi a b c d : ℤ) → IsRange lo hi → pos 0 <ℤ b → pos 0 <ℤ d → c ≢ pos 0 → ScaledHeld lo hi a b c d
    → (r : Option (ℤ × ℤ)) × AnswersLowest (λ z. z.0) (λ z. z.1) lo hi (RemainderHeld lo hi a b c d) (remainder_of a b c d) r
remainder_formed lo hi a b c d range b_positive d_positive nonzero scaled =
    let is : IsHeldScaled lo hi a b c d scaled.common scaled.left scaled.right = scaled.held in
    let rest = int_rem scaled.left scaled.right in
    let fits = positive_fits lo hi rest scaled.common range (remainder_held lo hi scaled.left scaled.right range is.left_held) is.common_held is.scaled.least.positive in (
      Some (fits.numer, fits.denom),
      remainder_answer lo hi a b c d scaled.common scaled.left scaled.right rest fits.numer fits.denom b_positive d_positive nonzero is refl fits.low,
    )

-- two fractions with positive denominators have a result of their remainder
pub remainder_checked : (lo hi a b c d : ℤ) → IsRange lo hi → pos 0 <ℤ b → pos 0 <ℤ d
    → (r : Option (ℤ × ℤ)) × AnswersLowest (λ z. z.0) (λ z. z.1) lo hi (RemainderHeld lo hi a b c d) (remainder_of a b c d) r
remainder_checked lo hi a b c d range b_positive d_positive =
    elim (zero_decided c) [
      | yes none ↦ (None, λ held. held.divisor none)
      | no nonzero ↦ elim (scaled_decided lo hi a b c d b_positive d_positive) [
        | no out ↦ (None, λ held. out held.held)
        | yes scaled ↦ remainder_formed lo hi a b c d range b_positive d_positive nonzero scaled
      ]
    ]
