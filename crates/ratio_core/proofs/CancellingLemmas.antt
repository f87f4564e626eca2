-- From a fraction without a common divisor to its lowest terms.
use Rattle.std.specs.Prelude.{◌≡◌, ◌≢◌, ◌≤ℤ◌, ◌<ℤ◌, ◌*ℤ◌, ◌-ℤ◌, ℤ, pos, neg_ℤ, unsigned_abs}
use Rattle.std.proofs.Common.{sym, ap, arith, ◌∙◌}
use Rattle.std.proofs.lemmas.Int.{ints}
use lib.IntN.{*ℤ_comm, zero-*ℤ}
use Rattle.ratio_integer.specs.Fraction.{Fits, IsCancelledOf, IsHeldLowest, IsLowestTermsOf}
use Rattle.ratio_integer.specs.Range.{IsHeld, IsRange}
use Rattle.ratio_integer.proofs.DivisionLemmas.{low_below}
use Rattle.ratio_integer.proofs.LcmLemmas.{zero_held}
use Rattle.ratio_integer.proofs.LowestTerms.{cancelled_coprime, cancelled_fraction, cancelled_same, held_lowest_moved, lowest_moved, lowest_own, over_one}
use Rattle.ratio_integer.proofs.Whole.{neg-mul, unsigned_abs-neg}
use Rattle.ratio_core.specs.Cancelling.{IsCancelled}

-- ---- 0 and 1

pub one_held : (lo hi z : ℤ) → IsRange lo hi → z ≡ pos 1 → IsHeld lo hi z
one_held lo hi z range one = let low = low_below lo hi range in let high = range.high in record { above = omega (arith, ints); below = omega (arith, ints) }

-- 0/d is 0/1
pub lowest_of_zero : (lo hi n d a b : ℤ) → IsRange lo hi → d ≢ pos 0 → n ≡ pos 0 → a ≡ pos 0 → b ≡ pos 1 → IsHeldLowest lo hi n d a b
lowest_of_zero lo hi n d a b range fraction zero a_zero b_one = record {
  terms = record {
    fraction = fraction;
    same = ap (λ (t : ℤ). t *ℤ b) zero ∙ zero-*ℤ b ∙ sym (zero-*ℤ d) ∙ ap (λ (t : ℤ). t *ℤ d) (sym a_zero);
    lowest = over_one a b b_one;
  };
  numer_held = zero_held lo hi a range a_zero;
  denom_held = one_held lo hi b range b_one;
}

-- d/d is 1/1
pub lowest_of_same : (lo hi n d a b : ℤ) → IsRange lo hi → d ≢ pos 0 → n ≡ d → a ≡ pos 1 → b ≡ pos 1 → IsHeldLowest lo hi n d a b
lowest_of_same lo hi n d a b range fraction equal a_one b_one = record {
  terms = record {
    fraction = fraction;
    same = ap (λ (t : ℤ). t *ℤ b) equal ∙ ap (λ (t : ℤ). d *ℤ t) (b_one ∙ sym a_one) ∙ *ℤ_comm d a;
    lowest = over_one a b b_one;
  };
  numer_held = one_held lo hi a range a_one;
  denom_held = one_held lo hi b range b_one;
}

-- ---- the common divisor

pub cancelled_left : (n d a b : ℤ) → d ≢ pos 0 → IsCancelledOf n d a b → IsCancelled a b
cancelled_left n d a b fraction is = record { fraction = cancelled_fraction n d a b fraction is; only_one = cancelled_coprime n d a b fraction is }

-- the lowest terms of the divided numbers are those of n/d
pub terms_of_cancelled : (n d a b p q : ℤ) → d ≢ pos 0 → IsCancelledOf n d a b → IsLowestTermsOf a b p q → IsLowestTermsOf n d p q
terms_of_cancelled n d a b p q fraction is low = lowest_moved a b n d p q fraction (cancelled_same n d a b is) low

-- if the divided numbers do not fit, n/d does not
pub cancelled_out : (lo hi n d a b : ℤ) → d ≢ pos 0 → IsCancelledOf n d a b → ¬ (Fits lo hi a b) → ¬ (Fits lo hi n d)
cancelled_out lo hi n d a b fraction is out fits = out (record {
  numer = fits.numer;
  denom = fits.denom;
  low = held_lowest_moved lo hi n d a b fits.numer fits.denom (cancelled_fraction n d a b fraction is) (sym (cancelled_same n d a b is)) fits.low;
})

-- ---- the sign

pub kept : (lo hi a b zero : ℤ) → IsCancelled a b → zero ≡ pos 0 → zero ≤ℤ b → IsHeld lo hi a → IsHeld lo hi b → IsHeldLowest lo hi a b a b
kept lo hi a b zero is zero-is above a_held b_held = record {
  terms = lowest_own a b (record { positive = let nonzero = is.fraction in grind (arith, ints); only_one = is.only_one });
  numer_held = a_held;
  denom_held = b_held;
}

pub turned : (a b p q zero first second : ℤ) → IsCancelled a b → zero ≡ pos 0 → first ≡ pos 0 → second ≡ pos 0 → b <ℤ zero → p ≡ first -ℤ a → q ≡ second -ℤ b → IsLowestTermsOf a b p q
turned a b p q zero first second is zero-is first-is second-is below p-is q-is =
    let p-neg : p ≡ neg_ℤ a = omega (arith, ints) in
    let q-neg : q ≡ neg_ℤ b = omega (arith, ints) in
    record {
      fraction = is.fraction;
      same = ap (λ (t : ℤ). a *ℤ t) q-neg ∙ crossed ∙ ap (λ (t : ℤ). t *ℤ b) (sym p-neg);
      lowest = record {
        positive = omega (arith, ints);
        only_one = λ k x y. is.only_one k (rw (ap unsigned_abs p-neg ∙ unsigned_abs-neg a) at x) (rw (ap unsigned_abs q-neg ∙ unsigned_abs-neg b) at y);
      };
    }
  where
    crossed : a *ℤ neg_ℤ b ≡ neg_ℤ a *ℤ b
    crossed = *ℤ_comm a (neg_ℤ b) ∙ neg-mul b a ∙ ap neg_ℤ (*ℤ_comm b a) ∙ sym (neg-mul a b)
