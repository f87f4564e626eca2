-- `ComesFirst` is an order.
use Rattle.std.specs.Prelude.{◌≡◌, ◌⊎◌, ◌*◌, ◌<◌, ◌≤◌, ◌≤ℤ◌, ◌<ℤ◌, ℕ, ℤ, pos, negsuc}
use Rattle.std.proofs.Common.{refl, ap, arith, inl, inr}
use Rattle.std.proofs.Math.Nat.{eq_of_mul-eq-mul_right, lt_of_mul-lt-mul_right, mul-le-mul_right, mul-lt-mul_of_pos_right}
use Rattle.std.proofs.lemmas.Int.{ints}
use Rattle.ratio_approximation.specs.Nearest.{ComesFirst}

-- ---- distances g/q, h/e and k/s

less_then : (g q h e k s : ℕ) → 0 < s → g * e < h * q → h * s ≤ k * e → g * s < k * q
less_then g q h e k s up first second =
    let a : (g * e) * s < (h * q) * s = mul-lt-mul_of_pos_right first up in
    let b : (h * s) * q ≤ (k * e) * q = mul-le-mul_right q second in
    let c : (g * s) * e < (k * q) * e = omega arith in
    lt_of_mul-lt-mul_right e c

then_less : (g q h e k s : ℕ) → 0 < q → g * e ≤ h * q → h * s < k * e → g * s < k * q
then_less g q h e k s up first second =
    let a : (g * e) * s ≤ (h * q) * s = mul-le-mul_right s first in
    let b : (h * s) * q < (k * e) * q = mul-lt-mul_of_pos_right second up in
    let c : (g * s) * e < (k * q) * e = omega arith in
    lt_of_mul-lt-mul_right e c

same_then : (g q h e k s : ℕ) → 0 < e → g * e ≡ h * q → h * s ≡ k * e → g * s ≡ k * q
same_then g q h e k s up first second =
    eq_of_mul-eq-mul_right e up (g * s) (k * q) (omega (arith, ap (λ t. t * s) first, ap (λ t. t * q) second))

-- ---- the order

pub itself_first : (g : ℕ) (p q : ℤ) → ComesFirst g p q g p q
itself_first g p q = inr (refl, inr (refl, omega (arith, ints)))

later_chained : (p q m e r s : ℤ) → (q <ℤ e) ⊎ ((q ≡ e) × (p ≤ℤ m)) → (e <ℤ s) ⊎ ((e ≡ s) × (m ≤ℤ r)) → (q <ℤ s) ⊎ ((q ≡ s) × (p ≤ℤ r))
later_chained p q m e r s a b = grind (arith, ints)

pub first_chained : (g : ℕ) (p : ℤ) (q : ℤ) (h : ℕ) (m : ℤ) (e : ℤ) (k : ℕ) (r : ℤ) (s : ℤ) → pos 0 <ℤ q → pos 0 <ℤ e → pos 0 <ℤ s → ComesFirst g p q h m e → ComesFirst h m e k r s → ComesFirst g p q k r s
first_chained g p (negsuc q) h m e k r s qp ep sp a b = absurd (omega (arith, ints))
first_chained g p q h m (negsuc e) k r s qp ep sp a b = absurd (omega (arith, ints))
first_chained g p q h m e k r (negsuc s) qp ep sp a b = absurd (omega (arith, ints))
first_chained g p (pos q) h m (pos e) k r (pos s) qp ep sp (inl a) (inl b) = inl (less_then g q h e k s (omega (arith, ints)) a (omega arith))
first_chained g p (pos q) h m (pos e) k r (pos s) qp ep sp (inl a) (inr b) = inl (less_then g q h e k s (omega (arith, ints)) a (omega (arith, b.0)))
first_chained g p (pos q) h m (pos e) k r (pos s) qp ep sp (inr a) (inl b) = inl (then_less g q h e k s (omega (arith, ints)) (omega (arith, a.0)) b)
first_chained g p (pos q) h m (pos e) k r (pos s) qp ep sp (inr a) (inr b) = inr (same_then g q h e k s (omega (arith, ints)) a.0 b.0, later_chained p (pos q) m (pos e) r (pos s) a.1 b.1)
