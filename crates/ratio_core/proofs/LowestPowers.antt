-- Powers of fractions in lowest terms: where their lowest terms fit.
use Rattle.std.specs.Prelude.{◌≡◌, ◌≢◌, ◌⊎◌, ◌^◌, ◌<ℤ◌, ◌*ℤ◌, ℕ, ℤ, zero, suc, pos, negsuc, neg_ℤ, unsigned_abs, Option, Some, None}
use Rattle.std.specs.Int.{int_pow}
use Rattle.std.proofs.Common.{refl, sym, ap, arith, ◌∙◌, inl, inr}
use Rattle.std.proofs.lemmas.Int.{ints}
use lib.IntN.{*ℤ_comm}
use Rattle.ratio_integer.specs.Fraction.{ChecksLowest, Fits, IsLowestTerms, IsLowestTermsOf, SameValue}
use Rattle.ratio_integer.specs.Range.{IsHeld, IsRange}
use Rattle.ratio_integer.proofs.DivisionLemmas.{low_below}
use Rattle.ratio_integer.proofs.LowestTerms.{checks_lowest_moved, denom_out, lowest_moved, lowest_own, lowest_unique}
use Rattle.ratio_integer.proofs.Whole.{mul-swap_inner, neg-mul, positive_nonzero}
use Rattle.ratio_core.specs.Power.{ChecksPower, IsReciprocal, ReciprocalCondition, power_of}
use Rattle.ratio_core.proofs.KeptLowest.{own_held, powers_lowest, reciprocal_lowest}
use Rattle.ratio_core.proofs.PowerLemmas.{int_pow-suc, int_pow-zero, pow_nonzero, zero_pow}
use Rattle.ratio_core.proofs.PowerLoop.{base_below}
use Rattle.ratio_core.proofs.ReciprocalLemmas.{reciprocal_negative}

-- ---- powers of products and of equal values

pub int_pow-mul : (y z : ℤ) (m : ℕ) → int_pow (y *ℤ z) m ≡ int_pow y m *ℤ int_pow z m
int_pow-mul y z zero = rw (int_pow-zero (y *ℤ z), int_pow-zero y, int_pow-zero z) refl
int_pow-mul y z (suc m) =
    int_pow-suc (y *ℤ z) m
    ∙ ap (λ (t : ℤ). t *ℤ (y *ℤ z)) (int_pow-mul y z m)
    ∙ mul-swap_inner (int_pow y m) (int_pow z m) y z
    ∙ ap (λ (t : ℤ). t *ℤ (int_pow z m *ℤ z)) (sym (int_pow-suc y m))
    ∙ ap (λ (t : ℤ). int_pow y (suc m) *ℤ t) (sym (int_pow-suc z m))

pub powers_same : (n d a b : ℤ) (m : ℕ) → SameValue n d a b → SameValue (int_pow n m) (int_pow d m) (int_pow a m) (int_pow b m)
powers_same n d a b m same = sym (int_pow-mul n b m) ∙ ap (λ (t : ℤ). int_pow t m) same ∙ int_pow-mul a d m

-- a reciprocal of n/d has the value of d/n
pub reciprocal_value : (n d a b : ℤ) → n ≢ pos 0 → IsReciprocal n d a b → SameValue d n a b
reciprocal_value (pos zero) d a b nonzero is = absurd (nonzero refl)
reciprocal_value (pos (suc j)) d a b nonzero is = let parts = is.positive (omega (arith, ints)) in rw (parts.0, parts.1) refl
reciprocal_value (negsuc j) d a b nonzero is =
    let parts = is.negative (omega (arith, ints)) in
    rw (parts.0, parts.1) (crossed d (negsuc j))
  where
    crossed : (d n : ℤ) → d *ℤ neg_ℤ n ≡ neg_ℤ d *ℤ n
    crossed d n = *ℤ_comm d (neg_ℤ n) ∙ neg-mul n d ∙ ap neg_ℤ (*ℤ_comm n d) ∙ sym (neg-mul d n)

-- ---- results

-- the powers of a fraction in lowest terms are the lowest terms of the power, so the power fits exactly if they are in range
pub powers_checked : {R : Type 0} (numer denom : R → ℤ) (lo hi u l : ℤ) (m : ℕ) (r : Option R) → IsLowestTerms u l → ChecksPower numer denom lo hi u l (pos m) r → ChecksLowest numer denom lo hi (int_pow u m, int_pow l m) r
powers_checked numer denom lo hi u l m None lowest out = λ fits.
    let same = lowest_unique _ _ fits.numer fits.denom (int_pow u m) (int_pow l m) fits.low.terms (lowest_own _ _ (powers_lowest u l m lowest)) in
    out (record { numer = rw same.0 at fits.low.numer_held; denom = rw same.1 at fits.low.denom_held })
powers_checked numer denom lo hi u l m (Some r) lowest is = rw (is.1.0, is.1.1) (own_held lo hi _ _ (powers_lowest u l m lowest) is.0.numer is.0.denom)

-- the same for a negative exponent, by the powers of the reciprocal
pub turned_checked : {R : Type 0} (numer denom : R → ℤ) (lo hi n d u l : ℤ) (k : ℕ) (r : Option R) → IsLowestTerms n d → n ≢ pos 0 → IsReciprocal n d u l → ChecksPower numer denom lo hi u l (pos (suc k)) r → ChecksLowest numer denom lo hi (power_of n d (negsuc k)) r
turned_checked numer denom lo hi n d u l k r lowest nonzero is answer =
    let turned = reciprocal_lowest n d u l lowest nonzero is in
    checks_lowest_moved numer denom lo hi (int_pow u (suc k)) (int_pow l (suc k)) (int_pow d (suc k)) (int_pow n (suc k)) r
    (pow_nonzero l (suc k) (positive_nonzero l turned.positive))
    (pow_nonzero n (suc k) nonzero)
    (powers_same d n u l (suc k) (reciprocal_value n d u l nonzero is))
    (powers_checked numer denom lo hi u l (suc k) r turned answer)

-- a fraction without a reciprocal has no power with a negative exponent that fits
pub turned_out : (lo hi n d : ℤ) (k : ℕ) → IsRange lo hi → IsLowestTerms n d → ¬ (ReciprocalCondition lo hi n) → ¬ (Fits lo hi (int_pow d (suc k)) (int_pow n (suc k)))
turned_out lo hi (pos zero) d k range lowest out fits = fits.low.terms.fraction (zero_pow (pos 0) k refl)
turned_out lo hi (pos (suc j)) d k range lowest out fits = out (record { nonzero = λ e. omega (arith, ints); negative = λ h. absurd (omega (arith, ints)) })
turned_out lo hi (negsuc j) d k range lowest out fits =
    let nonzero : negsuc j ≢ pos 0 = λ e. omega (arith, ints) in
    let is : IsReciprocal (negsuc j) d (neg_ℤ d) (pos (suc j)) = reciprocal_negative (negsuc j) d (neg_ℤ d) (pos (suc j)) (omega (arith, ints)) refl refl in
    let turned = reciprocal_lowest (negsuc j) d (neg_ℤ d) (pos (suc j)) lowest nonzero is in
    let terms : IsLowestTermsOf (int_pow d (suc k)) (int_pow (negsuc j) (suc k)) (int_pow (neg_ℤ d) (suc k)) (int_pow (pos (suc j)) (suc k)) =
    lowest_moved (int_pow (neg_ℤ d) (suc k)) (int_pow (pos (suc j)) (suc k)) (int_pow d (suc k)) (int_pow (negsuc j) (suc k)) _ _
    (pow_nonzero (negsuc j) (suc k) nonzero)
    (powers_same d (negsuc j) (neg_ℤ d) (pos (suc j)) (suc k) (reciprocal_value (negsuc j) d (neg_ℤ d) (pos (suc j)) nonzero is))
    (lowest_own _ _ (powers_lowest (neg_ℤ d) (pos (suc j)) (suc k) turned)) in
    denom_out lo hi _ _ _ _ terms (λ held. out (record { nonzero = nonzero; negative = λ h. root_held (suc j) held })) fits
  where
    root_held : (a : ℕ) → IsHeld lo hi (pos (a ^ suc k)) → IsHeld lo hi (pos a)
    root_held zero held = let low = low_below lo hi range in let high = range.high in record { above = low; below = omega (arith, ints) }
    root_held (suc a) held =
        let low = low_below lo hi range in
        let below = held.below in
        let grown = base_below (suc a) (suc k) (omega arith) (omega arith) in
        record { above = omega (arith, ints, low); below = omega (arith, ints, below, grown) }

-- u/l is the fraction whose powers are formed for the exponent e: a reciprocal of n/d for an e below 0, else n/d
abbrev pub IsFormed : ℤ → ℤ → ℤ → ℤ → ℤ → Type 0
IsFormed n d e u l = ((e <ℤ pos 0) × (n ≢ pos 0) × IsReciprocal n d u l) ⊎ ((¬ (e <ℤ pos 0)) × (u ≡ n) × (l ≡ d))

pub formed_checked : {R : Type 0} (numer denom : R → ℤ) (lo hi n d e u l : ℤ) (m : ℕ) (r : Option R) → IsLowestTerms n d → m ≡ unsigned_abs e → IsFormed n d e u l → ChecksPower numer denom lo hi u l (pos m) r → ChecksLowest numer denom lo hi (power_of n d e) r
formed_checked numer denom lo hi n d (pos k) u l m r lowest em (inl w) answer = absurd (let h : pos k <ℤ pos 0 = w.0 in omega (arith, ints))
formed_checked numer denom lo hi n d (negsuc k) u l m r lowest em (inr w) answer = absurd (w.0 (omega (arith, ints)))
formed_checked numer denom lo hi n d (negsuc k) u l m r lowest em (inl w) answer = turned_checked numer denom lo hi n d u l k r lowest w.1 w.2 (rw em at answer)
formed_checked numer denom lo hi n d (pos k) u l m r lowest em (inr w) answer = powers_checked numer denom lo hi n d k r lowest (rw (em, w.1, w.2) at answer)

pub formed_out : (lo hi n d e : ℤ) → IsRange lo hi → IsLowestTerms n d → e <ℤ pos 0 → ¬ (ReciprocalCondition lo hi n) → ¬ (Fits lo hi (power_of n d e).0 (power_of n d e).1)
formed_out lo hi n d (pos k) range lowest below out = absurd (omega (arith, ints))
formed_out lo hi n d (negsuc k) range lowest below out = turned_out lo hi n d k range lowest out
