-- There is exactly one floor, ceiling, truncation and rounded value, and each depends only on the value.
use Rattle.std.specs.Prelude.{◌≡◌, ◌≢◌, ◌⊎◌, ◌*◌, ◌≤◌, ◌≤ℤ◌, ◌<ℤ◌, ◌*ℤ◌, ◌+ℤ◌, ◌-ℤ◌, ℤ, pos, negsuc, neg_ℤ, unsigned_abs, int_div, int_rem}
use Rattle.std.proofs.Common.{refl, sym, ap, arith, ◌∙◌, inl, inr}
use Rattle.std.proofs.lemmas.Int.{ints}
use lib.IntN.{*ℤ_comm}
use Rattle.ratio_integer.proofs.Whole.{mul_assoc}
use Rattle.ratio_core.specs.Rounding.{IsBelowHalf, IsCeiling, IsTruncatedDivision, IsFloor, IsRounded, IsTruncation, IsWithinHalf}
use Rattle.ratio_core.specs.RoundingLaws.{CeilingsAreNextToFloors, EachHasOne}
use Rattle.ratio_core.proofs.ProductOrder.{less-times, more-times, times_le, whole_at_most}
use Rattle.ratio_core.proofs.RoundingLemmas.{ceiling_more, ceiling_same, cut_division, floor_less, floor_same, rounded_less, rounded_more, rounded_same, truncation_of_cut}

-- ---- there is only one

pub one_floor : (n d f g : ℤ) → pos 0 <ℤ d → IsFloor n d f → IsFloor n d g → f ≡ g
one_floor n d f g u x y =
    let l = x.at_most in let h = x.next_above in let k = y.at_most in let m = y.next_above in
    let a : f ≤ℤ g = whole_at_most f g d u (omega (arith, ints)) in
    let b : g ≤ℤ f = whole_at_most g f d u (omega (arith, ints)) in
    omega (arith, ints)

pub one_ceiling : (n d f g : ℤ) → pos 0 <ℤ d → IsCeiling n d f → IsCeiling n d g → f ≡ g
one_ceiling n d f g u x y =
    let l = x.at_least in let h = x.last_below in let k = y.at_least in let m = y.last_below in
    let a : f ≤ℤ g = whole_at_most f g d u (omega (arith, ints)) in
    let b : g ≤ℤ f = whole_at_most g f d u (omega (arith, ints)) in
    omega (arith, ints)

pub one_truncation : (n d f g : ℤ) → pos 0 <ℤ d → IsTruncation n d f → IsTruncation n d g → f ≡ g
one_truncation (pos n) d f g u x y = one_floor (pos n) d f g u (x.floor (omega (arith, ints))) (y.floor (omega (arith, ints)))
one_truncation (negsuc n) d f g u x y = one_ceiling (negsuc n) d f g u (x.ceiling (omega (arith, ints))) (y.ceiling (omega (arith, ints)))

apart : (r s d n : ℤ) → r ≡ neg_ℤ s → r ≢ s → pos 0 <ℤ d → IsWithinHalf n d r → IsWithinHalf n d s → ⊥
apart r s d n e ne u x y = go (sides r s)
  where
    sides : (a b : ℤ) → (b ≤ℤ a) ⊎ ((a +ℤ pos 1) ≤ℤ b)
    sides a b = grind (arith, ints)

    wide : (a b : ℤ) → IsWithinHalf n d a → IsWithinHalf n d b → (a +ℤ pos 1 +ℤ pos 1) ≤ℤ b → ⊥
    wide a b p q h =
        let l : neg_ℤ d ≤ℤ (pos 2 *ℤ n -ℤ pos 2 *ℤ (b *ℤ d)) = q.above in
        let m : (pos 2 *ℤ n -ℤ pos 2 *ℤ (a *ℤ d)) ≤ℤ d = p.below in
        let k : ((a +ℤ pos 1 +ℤ pos 1) *ℤ d) ≤ℤ (b *ℤ d) = times_le (a +ℤ pos 1 +ℤ pos 1) b d h (omega (arith, ints)) in
        omega (arith, ints, more-times (a +ℤ pos 1) d, more-times a d)

    go : (s ≤ℤ r) ⊎ ((r +ℤ pos 1) ≤ℤ s) → ⊥
    go (inl h) = wide s r y x (omega (arith, ints))
    go (inr h) = wide r s x y (omega (arith, ints))

pub one_rounded : (n d r s : ℤ) → pos 0 <ℤ d → IsRounded n d r → IsRounded n d s → r ≡ s
one_rounded n d r s u x y = go (which r s (x.furthest s y.near) (y.furthest r x.near))
  where
    which : (a b : ℤ) → unsigned_abs b ≤ unsigned_abs a → unsigned_abs a ≤ unsigned_abs b → (a ≡ b) ⊎ ((a ≢ b) × (a ≡ neg_ℤ b))
    which a b h k = grind (arith, ints)

    go : (r ≡ s) ⊎ ((r ≢ s) × (r ≡ neg_ℤ s)) → r ≡ s
    go (inl e) = e
    go (inr e) = absurd (apart r s d n e.1 e.0 u x.near y.near)

-- ---- only the value counts

turn : (f d e : ℤ) → (f *ℤ d) *ℤ e ≡ (f *ℤ e) *ℤ d
turn f d e = mul_assoc f d e ∙ ap (λ (t : ℤ). f *ℤ t) (*ℤ_comm d e) ∙ sym (mul_assoc f e d)

-- if f*d ≤ n, then f*e ≤ m
lower : (n d m e f : ℤ) → pos 0 <ℤ d → pos 0 <ℤ e → n *ℤ e ≡ m *ℤ d → (f *ℤ d) ≤ℤ n → (f *ℤ e) ≤ℤ m
lower n d m e f u w same h =
    let a : ((f *ℤ d) *ℤ e) ≤ℤ (n *ℤ e) = times_le (f *ℤ d) n e h (omega (arith, ints)) in
    whole_at_most (f *ℤ e) m d u (omega (arith, ints, turn f d e, same))

-- if n ≤ f*d, then m ≤ f*e
upper : (n d m e f : ℤ) → pos 0 <ℤ d → pos 0 <ℤ e → n *ℤ e ≡ m *ℤ d → n ≤ℤ (f *ℤ d) → m ≤ℤ (f *ℤ e)
upper n d m e f u w same h =
    let a : (n *ℤ e) ≤ℤ ((f *ℤ d) *ℤ e) = times_le n (f *ℤ d) e h (omega (arith, ints)) in
    whole_at_most m (f *ℤ e) d u (omega (arith, ints, turn f d e, same))

-- if n < f*d, then m < f*e
strict_upper : (n d m e f : ℤ) → pos 0 <ℤ d → pos 0 <ℤ e → n *ℤ e ≡ m *ℤ d → n <ℤ (f *ℤ d) → m <ℤ (f *ℤ e)
strict_upper n d m e f u w same h = go (split (f *ℤ e) m)
  where
    split : (a b : ℤ) → (b <ℤ a) ⊎ (a ≤ℤ b)
    split a b = grind (arith, ints)

    go : (m <ℤ (f *ℤ e)) ⊎ ((f *ℤ e) ≤ℤ m) → m <ℤ (f *ℤ e)
    go (inl k) = k
    go (inr k) = absurd (let t = lower m e n d f w u (sym same) k in omega (arith, ints))

strict_lower : (n d m e f : ℤ) → pos 0 <ℤ d → pos 0 <ℤ e → n *ℤ e ≡ m *ℤ d → (f *ℤ d) <ℤ n → (f *ℤ e) <ℤ m
strict_lower n d m e f u w same h = go (split (f *ℤ e) m)
  where
    split : (a b : ℤ) → (a <ℤ b) ⊎ (b ≤ℤ a)
    split a b = grind (arith, ints)

    go : ((f *ℤ e) <ℤ m) ⊎ (m ≤ℤ (f *ℤ e)) → (f *ℤ e) <ℤ m
    go (inl k) = k
    go (inr k) = absurd (let t = upper m e n d f w u (sym same) k in omega (arith, ints))

pub same_floor : (n d m e f : ℤ) → pos 0 <ℤ d → pos 0 <ℤ e → n *ℤ e ≡ m *ℤ d → IsFloor n d f → IsFloor m e f
same_floor n d m e f u w same x = record {
  at_most = lower n d m e f u w same x.at_most;
  next_above = let t = strict_upper n d m e (f +ℤ pos 1) u w same (let b : n <ℤ (f *ℤ d +ℤ d) = x.next_above in omega (arith, ints, more-times f d)) in omega (arith, ints, more-times f e);
}

pub same_ceiling : (n d m e f : ℤ) → pos 0 <ℤ d → pos 0 <ℤ e → n *ℤ e ≡ m *ℤ d → IsCeiling n d f → IsCeiling m e f
same_ceiling n d m e f u w same x = record {
  last_below = let t = strict_lower n d m e (f -ℤ pos 1) u w same (let b : (f *ℤ d -ℤ d) <ℤ n = x.last_below in omega (arith, ints, less-times f d)) in omega (arith, ints, less-times f e);
  at_least = upper n d m e f u w same x.at_least;
}

-- n and m are on the same side of 0
pub side_up : (n d m e : ℤ) → pos 0 <ℤ d → pos 0 <ℤ e → n *ℤ e ≡ m *ℤ d → pos 0 ≤ℤ n → pos 0 ≤ℤ m
side_up n d m e u w same h = let t = lower n d m e (pos 0) u w same (omega (arith, ints)) in omega (arith, ints)

pub side_down : (n d m e : ℤ) → pos 0 <ℤ d → pos 0 <ℤ e → n *ℤ e ≡ m *ℤ d → n ≤ℤ pos 0 → m ≤ℤ pos 0
side_down n d m e u w same h = let t = upper n d m e (pos 0) u w same (omega (arith, ints)) in omega (arith, ints)

pub same_truncation : (n d m e t : ℤ) → pos 0 <ℤ d → pos 0 <ℤ e → n *ℤ e ≡ m *ℤ d → IsTruncation n d t → IsTruncation m e t
same_truncation n d m e t u w same x = record {
  floor = λ h. same_floor n d m e t u w same (x.floor (side_up m e n d w u (sym same) h));
  ceiling = λ h. same_ceiling n d m e t u w same (x.ceiling (side_down m e n d w u (sym same) h));
}

-- a half from n/d: (2*r - 1)*d ≤ 2*n ≤ (2*r + 1)*d
pub same_half : (n d m e r : ℤ) → pos 0 <ℤ d → pos 0 <ℤ e → n *ℤ e ≡ m *ℤ d → IsWithinHalf n d r → IsWithinHalf m e r
same_half n d m e r u w same x =
    let doubled : (pos 2 *ℤ n) *ℤ e ≡ (pos 2 *ℤ m) *ℤ d = mul_assoc (pos 2) n e ∙ ap (λ (t : ℤ). pos 2 *ℤ t) same ∙ sym (mul_assoc (pos 2) m d) in
    let a : neg_ℤ d ≤ℤ (pos 2 *ℤ n -ℤ pos 2 *ℤ (r *ℤ d)) = x.above in
    let b : (pos 2 *ℤ n -ℤ pos 2 *ℤ (r *ℤ d)) ≤ℤ d = x.below in
    let l = lower (pos 2 *ℤ n) d (pos 2 *ℤ m) e (pos 2 *ℤ r -ℤ pos 1) u w doubled (omega (arith, ints, less-times (pos 2 *ℤ r) d, mul_assoc (pos 2) r d)) in
    let h = upper (pos 2 *ℤ n) d (pos 2 *ℤ m) e (pos 2 *ℤ r +ℤ pos 1) u w doubled (omega (arith, ints, more-times (pos 2 *ℤ r) d, mul_assoc (pos 2) r d)) in
    record {
      above = omega (arith, ints, less-times (pos 2 *ℤ r) e, mul_assoc (pos 2) r e);
      below = omega (arith, ints, more-times (pos 2 *ℤ r) e, mul_assoc (pos 2) r e);
    }

pub same_rounded : (n d m e r : ℤ) → pos 0 <ℤ d → pos 0 <ℤ e → n *ℤ e ≡ m *ℤ d → IsRounded n d r → IsRounded m e r
same_rounded n d m e r u w same x = record {
  near = same_half n d m e r u w same x.near;
  furthest = λ s k. x.furthest s (same_half m e n d s w u (sym same) k);
}

-- ---- there is at least one

cut_of : (n d : ℤ) → pos 0 <ℤ d → IsTruncatedDivision n d (int_div n d) (int_rem n d)
cut_of n d u = cut_division n d _ _ u refl refl

sides : (r : ℤ) → (r <ℤ pos 0) ⊎ (¬ (r <ℤ pos 0))
sides (pos n) = inr (λ h. omega (arith, ints))
sides (negsuc n) = inl (omega (arith, ints))

pub each_floor : EachHasOne IsFloor
each_floor n d u = go (sides (int_rem n d))
  where
    go : (int_rem n d <ℤ pos 0) ⊎ (¬ (int_rem n d <ℤ pos 0)) → (f : ℤ) × IsFloor n d f × ((y : ℤ) → IsFloor n d y → y ≡ f)
    go (inl h) = let is = floor_less n d _ _ (cut_of n d u) h in (int_div n d -ℤ pos 1, is, λ y k. one_floor n d y _ u k is)
    go (inr h) = let is = floor_same n d _ _ (cut_of n d u) h in (int_div n d, is, λ y k. one_floor n d y _ u k is)

pub each_ceiling : EachHasOne IsCeiling
each_ceiling n d u = go (above (int_rem n d))
  where
    above : (r : ℤ) → (pos 0 <ℤ r) ⊎ (¬ (pos 0 <ℤ r))
    above r = elim (sides (neg_ℤ r)) [ inl h ↦ inl (omega (arith, ints)) | inr h ↦ inr (λ k. h (omega (arith, ints))) ]

    go : (pos 0 <ℤ int_rem n d) ⊎ (¬ (pos 0 <ℤ int_rem n d)) → (f : ℤ) × IsCeiling n d f × ((y : ℤ) → IsCeiling n d y → y ≡ f)
    go (inl h) = let is = ceiling_more n d _ _ (cut_of n d u) h in (int_div n d +ℤ pos 1, is, λ y k. one_ceiling n d y _ u k is)
    go (inr h) = let is = ceiling_same n d _ _ (cut_of n d u) h in (int_div n d, is, λ y k. one_ceiling n d y _ u k is)

pub each_truncation : EachHasOne IsTruncation
each_truncation n d u = let is = truncation_of_cut n d _ _ (cut_of n d u) in (int_div n d, is, λ y k. one_truncation n d y _ u k is)

pub each_rounded : EachHasOne IsRounded
each_rounded n d u = half (sides (d -ℤ pos (2 * unsigned_abs (int_rem n d)) -ℤ pos 1))
  where
    only : (f : ℤ) → IsRounded n d f → (f : ℤ) × IsRounded n d f × ((y : ℤ) → IsRounded n d y → y ≡ f)
    only f is = (f, is, λ y k. one_rounded n d y f u k is)

    away : ¬ (IsBelowHalf d (int_rem n d)) → (int_rem n d <ℤ pos 0) ⊎ (¬ (int_rem n d <ℤ pos 0)) → (f : ℤ) × IsRounded n d f × ((y : ℤ) → IsRounded n d y → y ≡ f)
    away o (inl h) = only _ (rounded_less n d _ _ (cut_of n d u) o h)
    away o (inr h) = only _ (rounded_more n d _ _ (cut_of n d u) o h)

    half : ((d -ℤ pos (2 * unsigned_abs (int_rem n d)) -ℤ pos 1) <ℤ pos 0) ⊎ (¬ ((d -ℤ pos (2 * unsigned_abs (int_rem n d)) -ℤ pos 1) <ℤ pos 0)) → (f : ℤ) × IsRounded n d f × ((y : ℤ) → IsRounded n d y → y ≡ f)
    half (inl h) = away (λ k. let l : pos (2 * unsigned_abs (int_rem n d)) <ℤ d = k in omega (arith, ints)) (sides (int_rem n d))
    half (inr h) = only _ (rounded_same n d _ _ (cut_of n d u) (grind (arith, ints)))

-- ---- floors and ceilings

pub next_to : CeilingsAreNextToFloors
next_to n d f c u x y =
    let l = x.at_most in let h = x.next_above in let k = y.at_least in let m = y.last_below in
    (whole_at_most f c d u (omega (arith, ints)), whole_at_most c (f +ℤ pos 1) d u (omega (arith, ints, more-times f d)))
