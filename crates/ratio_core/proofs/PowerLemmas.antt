-- Powers of whole numbers: as products, their signs and their magnitudes.
use Rattle.std.specs.Prelude.{◌≡◌, ◌≢◌, ◌⊎◌, ◌*◌, ◌%◌, ◌^◌, ◌<◌, ◌<ℤ◌, ◌*ℤ◌, ℕ, ℤ, zero, suc, pos, negsuc, neg_ℤ, unsigned_abs}
use Rattle.std.specs.Int.{int_pow}
use Rattle.std.proofs.Common.{sym, ap, arith, ◌∙◌, inl, inr, pow-suc}
use Rattle.std.proofs.lemmas.Int.{ints, unsigned_abs-mul}
use Rattle.std.proofs.Math.Nat.{one-le-pow, pow-zero}
use lib.IntN.{pos-*ℤ-negsuc, negsuc-*ℤ-negsuc, *ℤ-zero}
use Rattle.ratio_integer.proofs.DivisionLemmas.{abs_pos}
use Rattle.ratio_integer.proofs.Whole.{mul_assoc}

-- ---- a power is a product

parity : (e : ℕ) → ((e % 2 ≡ 0) × (suc e % 2 ≡ 1)) ⊎ ((e % 2 ≡ 1) × (suc e % 2 ≡ 0))
parity e = grind arith

neg-times : (m a : ℕ) → neg_ℤ (pos m) *ℤ negsuc a ≡ pos (m * suc a)
neg-times zero a = omega (arith, ints)
neg-times (suc m) a = negsuc-*ℤ-negsuc m a

-- z^(e+1) is z^e * z
pub int_pow-suc : (z : ℤ) (e : ℕ) → int_pow z (suc e) ≡ int_pow z e *ℤ z
int_pow-suc (pos a) e = ap pos (pow-suc a e)
int_pow-suc (negsuc a) e = go (parity e)
  where
    go : ((e % 2 ≡ 0) × (suc e % 2 ≡ 1)) ⊎ ((e % 2 ≡ 1) × (suc e % 2 ≡ 0)) → int_pow (negsuc a) (suc e) ≡ int_pow (negsuc a) e *ℤ negsuc a
    go (inl p) = rw (p.0, p.1) (ap (λ m. neg_ℤ (pos m)) (pow-suc (suc a) e) ∙ sym (pos-*ℤ-negsuc (suc a ^ e) a))
    go (inr p) = rw (p.0, p.1) (ap pos (pow-suc (suc a) e) ∙ sym (neg-times (suc a ^ e) a))

pub int_pow-zero : (z : ℤ) → int_pow z 0 ≡ pos 1
int_pow-zero (pos a) = ap pos (pow-zero a)
int_pow-zero (negsuc a) = ap pos (pow-zero (suc a))

-- (z*z)^k is z^(2*k)
pub int_pow-double : (z : ℤ) (k : ℕ) → int_pow (z *ℤ z) k ≡ int_pow z (2 * k)
int_pow-double z zero = int_pow-zero (z *ℤ z) ∙ sym (int_pow-zero z)
int_pow-double z (suc k) =
    int_pow-suc (z *ℤ z) k
    ∙ ap (λ (t : ℤ). t *ℤ (z *ℤ z)) (int_pow-double z k)
    ∙ sym (mul_assoc (int_pow z (2 * k)) z z)
    ∙ ap (λ (t : ℤ). t *ℤ z) (sym (int_pow-suc z (2 * k)))
    ∙ sym (int_pow-suc z (suc (2 * k)))
    ∙ ap (int_pow z) (two k)
  where
    two : (n : ℕ) → suc (suc (2 * n)) ≡ 2 * suc n
    two n = omega arith

-- ---- signs and magnitudes

pub pow_above : (d : ℤ) (m : ℕ) → pos 0 <ℤ d → pos 0 <ℤ int_pow d m
pow_above (pos zero) m u = absurd (omega (arith, ints))
pow_above (pos (suc n)) m u = let t = one-le-pow m (suc n) (let h : 0 < suc n = omega arith in h) in omega (arith, ints)
pow_above (negsuc n) m u = absurd (omega (arith, ints))

-- the magnitude of a power is the power of the magnitude
pub size-pow : (z : ℤ) (e : ℕ) → unsigned_abs (int_pow z e) ≡ unsigned_abs z ^ e
size-pow z zero = ap unsigned_abs (int_pow-zero z) ∙ sym (pow-zero (unsigned_abs z))
size-pow z (suc e) =
    ap unsigned_abs (int_pow-suc z e)
    ∙ unsigned_abs-mul (int_pow z e) z
    ∙ ap (λ k. k * unsigned_abs z) (size-pow z e)
    ∙ sym (pow-suc (unsigned_abs z) e)

pub pow_nonzero : (z : ℤ) (e : ℕ) → z ≢ pos 0 → int_pow z e ≢ pos 0
pow_nonzero z e h k = absurd (omega (arith, one-le-pow e (unsigned_abs z) (abs_pos z h), ap unsigned_abs k, size-pow z e))

pub zero_pow : (z : ℤ) (e : ℕ) → z ≡ pos 0 → int_pow z (suc e) ≡ pos 0
zero_pow z e h = int_pow-suc z e ∙ ap (λ (t : ℤ). int_pow z e *ℤ t) h ∙ *ℤ-zero (int_pow z e)
