-- Reciprocals, and powers with negative exponents.
use Rattle.std.specs.Prelude.{◌≡◌, ◌≢◌, ◌⊎◌, ◌<ℤ◌, ℕ, ℤ, zero, suc, pos, negsuc, neg_ℤ, unsigned_abs, Option, Some, None}
use Rattle.std.specs.Int.{int_pow}
use Rattle.std.proofs.Common.{refl, arith, inl, inr}
use Rattle.std.proofs.lemmas.Int.{ints}
use Rattle.ratio_core.specs.Power.{ChecksPower, ChecksReciprocal, IsPower, IsReciprocal, PowerCondition, PowersHeld}
use Rattle.ratio_core.proofs.PowerLemmas.{pow_above}

pub reciprocal_negative : (n d a b : ℤ) → n <ℤ pos 0 → a ≡ neg_ℤ d → b ≡ neg_ℤ n → IsReciprocal n d a b
reciprocal_negative n d a b h ea eb = record { positive = λ k. absurd (omega (arith, ints)); negative = λ k. (ea, eb) }

pub reciprocal_positive : (n d : ℤ) → ¬ (n <ℤ pos 0) → IsReciprocal n d d n
reciprocal_positive n d h = record { positive = λ k. (refl, refl); negative = λ k. absurd (h k) }

-- the denominator of a reciprocal is not 0
pub reciprocal_denom : (n d a b : ℤ) → n ≢ pos 0 → IsReciprocal n d a b → b ≢ pos 0
reciprocal_denom (pos zero) d a b nz is z = nz refl
reciprocal_denom (pos (suc n)) d a b nz is z = let e : b ≡ pos (suc n) = (is.positive (omega (arith, ints))).1 in omega (arith, ints)
reciprocal_denom (negsuc n) d a b nz is z = let e : b ≡ pos (suc n) = (is.negative (omega (arith, ints))).1 in omega (arith, ints)

-- the fraction whose power is inverted at the end: n/d for a negative e, else d/n
abbrev pub IsWay : ℤ → ℤ → ℤ → ℤ → ℤ → Type 0
IsWay n d e u l = ((e <ℤ pos 0) × (u ≡ n) × (l ≡ d)) ⊎ ((¬ (e <ℤ pos 0)) × (u ≡ d) × (l ≡ n))

-- a and b are the powers of u and l, and both are in range
abbrev ArePowers : ℤ → ℤ → ℤ → ℤ → ℕ → ℤ → ℤ → Type 0
ArePowers lo hi u l m a b = PowersHeld lo hi u l m × ((a ≡ int_pow u m) × (b ≡ int_pow l m))

pub way_asked : (lo hi n d e u l a b : ℤ) (m : ℕ) → pos 0 <ℤ d → IsWay n d e u l → ArePowers lo hi u l m a b → a <ℤ pos 0 → pos 0 <ℤ b
way_asked lo hi n d e u l a b m above (inl w) p h = rw (p.1.1, w.2) (pow_above d m above)
way_asked lo hi n d e u l a b m above (inr w) p h =
    let t : pos 0 <ℤ a = rw (p.1.0, w.1) (pow_above d m above) in
    absurd (omega (arith, ints))

-- the reciprocal of these powers is the power
pub way_back : {R : Type 0} (numer denom : R → ℤ) (lo hi n d e u l a b : ℤ) (m : ℕ) (r : Option R) → pos 0 <ℤ d → m ≡ unsigned_abs e → IsWay n d e u l → ArePowers lo hi u l m a b → ChecksReciprocal numer denom lo hi a b r → ChecksPower numer denom lo hi n d e r
way_back numer denom lo hi n d (pos k) u l a b m r above em (inl w) p c = absurd (let h : pos k <ℤ pos 0 = w.0 in omega (arith, ints))
way_back numer denom lo hi n d (negsuc k) u l a b m r above em (inr w) p c = absurd (w.0 (omega (arith, ints)))
way_back numer denom lo hi n d (negsuc k) u l a b m None above em (inl w) p c = λ held. c (rw (p.1.0, w.1, em) held.1)
way_back numer denom lo hi n d (negsuc k) u l a b m (Some x) above em (inl w) p c = ((rw (w.1, w.2, em) at p.0, rw (p.1.0, w.1, em) at c.0), rw (p.1.0, p.1.1, w.1, w.2, em) at c.1)
way_back numer denom lo hi n d (pos k) u l a b m None above em (inr w) p c =
    let t : pos 0 <ℤ a = rw (p.1.0, w.1) (pow_above d m above) in
    λ held. c (record { nonzero = λ z. omega (arith, ints); negative = λ h. absurd (omega (arith, ints)) })
way_back numer denom lo hi n d (pos k) u l a b m (Some x) above em (inr w) p c =
    let t : pos 0 <ℤ a = rw (p.1.0, w.1) (pow_above d m above) in
    let turned = c.1.positive t in
    let held : PowersHeld lo hi l u m = record { numer = p.0.denom; denom = p.0.numer } in (
      rw (w.1, w.2, em) at held,
      (rw (p.1.1, w.2, em) at turned.0, rw (p.1.0, w.1, em) at turned.1),
    )

-- the denominator of a power is not 0
pub power_denom : (lo hi n d e a b : ℤ) → pos 0 <ℤ d → PowerCondition lo hi n d e → IsPower n d e a b → b ≢ pos 0
power_denom lo hi n d (pos m) a b u held is z = let t = pow_above d m u in let e : b ≡ int_pow d m = is.1 in omega (arith, ints)
power_denom lo hi n d (negsuc k) a b u held is z = reciprocal_denom (int_pow n (suc k)) (int_pow d (suc k)) a b held.1.nonzero is z
