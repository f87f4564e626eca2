-- A natural number with a sign, and lowest terms that do not fit.
use Rattle.std.specs.Prelude.{◌≡◌, ◌*◌, ◌*ℤ◌, ℕ, ℤ, zero, suc, pos, unsigned_abs, Bool, true, false, None}
use Rattle.std.proofs.Common.{refl, arith}
use Rattle.std.proofs.lemmas.Int.{ints}
use Rattle.ratio_integer.specs.Fraction.{ChecksLowest, IsLowestTermsOf}
use Rattle.ratio_integer.specs.Range.{IsHeld}
use Rattle.ratio_integer.proofs.LowestTerms.{lowest_unique}
use Rattle.ratio_core.specs.Signs.{with_sign}

pub size_is : (s : Bool) (n : ℕ) → unsigned_abs (with_sign s n) ≡ n
size_is false n = refl
size_is true zero = refl
size_is true (suc n) = refl

pub with_sign-mul : (s : Bool) (x y : ℕ) → with_sign s x *ℤ pos y ≡ with_sign s (x * y)
with_sign-mul false x y = refl
with_sign-mul true zero y = omega (arith, ints)
with_sign-mul true (suc x) zero = omega (arith, ints)
with_sign-mul true (suc x) (suc y) = omega (arith, ints)

pub lowest_out : {R : Type 0} (numer denom : R → ℤ) (lo hi n d a b : ℤ) → IsLowestTermsOf n d a b → ¬ (IsHeld lo hi a × IsHeld lo hi b) → ChecksLowest {R = R} numer denom lo hi (n, d) None
lowest_out numer denom lo hi n d a b is out = λ fits. (
    let same = lowest_unique n d a b fits.numer fits.denom is fits.low.terms in
    out (rw same.0 fits.low.numer_held, rw same.1 fits.low.denom_held))
