-- Each rule has one rounded value, which depends only on the value and never falls as the value grows.
use Rattle.std.specs.Prelude.{◌≡◌, ◌⊎◌, ◌≤ℤ◌, ◌<ℤ◌, ◌*ℤ◌, ◌+ℤ◌, ◌-ℤ◌, ℤ, pos}
use Rattle.std.proofs.Common.{sym, ap, arith, ◌∙◌, inl, inr}
use Rattle.std.proofs.lemmas.Int.{ints}
use lib.IntN.{*ℤ_comm, zero-*ℤ}
use Rattle.ratio_integer.specs.Division.{IsMultiple}
use Rattle.ratio_integer.proofs.Whole.{mul_assoc}
use Rattle.ratio_core.specs.Parts.{IsDivided}
use Rattle.ratio_core.specs.Rounding.{IsCeiling, IsFloor, IsWithinHalf}
use Rattle.ratio_core.specs.RoundingLaws.{EachHasOne, IsByValue}
use Rattle.ratio_decimal.specs.RoundingRules.{GoesUp, HalvesDifferAtTies, IsAwayFromZero, IsRoundedBy, IsRoundedToEven, IsTie, RoundedIsMonotone, RoundedIsNear}
use Rattle.ratio_decimal.specs.declared.rounding_rule.Rounding.{Rounding}
use Rattle.ratio_decimal.specs.declared.rounding_rule.Rounding.TheVariants.{HalfAway, HalfEven, Down, Up, Floor, Ceil}
use Rattle.ratio_core.proofs.Floored.{one-mul}
use Rattle.ratio_core.proofs.ProductOrder.{more-times, times_le, whole_at_most}
use Rattle.ratio_core.proofs.RoundingLawLemmas.{each_floor, one_ceiling, one_floor, one_rounded, one_truncation, same_ceiling, same_floor, same_half, same_rounded, same_truncation, side_down, side_up}
use Rattle.ratio_decimal.proofs.RoundingRuleLemmas.{even_or_odd, is_odd_number, rises, sides, stays}

-- ---- there is only one

-- two numbers within a half of n/d are next to one another, or equal
near_both : (n d r s : ℤ) → pos 0 <ℤ d → IsWithinHalf n d r → IsWithinHalf n d s → r ≤ℤ (s +ℤ pos 1)
near_both n d r s u x y = let a = x.above in let b = y.below in whole_at_most r (s +ℤ pos 1) d u (omega (arith, ints, more-times s d))

two_even : (r s : ℤ) → r ≤ℤ (s +ℤ pos 1) → s ≤ℤ (r +ℤ pos 1) → IsMultiple r (pos 2) → IsMultiple s (pos 2) → r ≡ s
two_even r s h k x y = let a = x.1 in let b = y.1 in let i = x.0 in let j = y.0 in omega (arith, ints)

one_even : (n d r s : ℤ) → pos 0 <ℤ d → IsRoundedToEven n d r → IsRoundedToEven n d s → r ≡ s
one_even n d r s u x y = go (x.even s y.near) (y.even r x.near)
  where
    go : (s ≡ r) ⊎ IsMultiple r (pos 2) → (r ≡ s) ⊎ IsMultiple s (pos 2) → r ≡ s
    go (inl e) k = sym e
    go (inr m) (inl e) = e
    go (inr m) (inr k) = two_even r s (near_both n d r s u x.near y.near) (near_both n d s r u y.near x.near) m k

one_away : (n d r s : ℤ) → pos 0 <ℤ d → IsAwayFromZero n d r → IsAwayFromZero n d s → r ≡ s
one_away n d r s u x y = go (sides n)
  where
    from_zero : ¬ (n <ℤ pos 0) → pos 0 ≤ℤ n
    from_zero h = grind (arith, ints)

    go : (n <ℤ pos 0) ⊎ (¬ (n <ℤ pos 0)) → r ≡ s
    go (inl h) = one_floor n d r s u (x.floor (omega (arith, ints))) (y.floor (omega (arith, ints)))
    go (inr h) = one_ceiling n d r s u (x.ceiling (from_zero h)) (y.ceiling (from_zero h))

pub one_by : (rule : Rounding) (n d r s : ℤ) → pos 0 <ℤ d → IsRoundedBy rule n d r → IsRoundedBy rule n d s → r ≡ s
one_by HalfAway n d r s u x y = one_rounded n d r s u x y
one_by HalfEven n d r s u x y = one_even n d r s u x y
one_by Down n d r s u x y = one_truncation n d r s u x y
one_by Up n d r s u x y = one_away n d r s u x y
one_by Floor n d r s u x y = one_floor n d r s u x y
one_by Ceil n d r s u x y = one_ceiling n d r s u x y

-- ---- there is at least one

less_or_not : (a b : ℤ) → (a <ℤ b) ⊎ (¬ (a <ℤ b))
less_or_not a b = go (sides (a -ℤ b))
  where
    go : ((a -ℤ b) <ℤ pos 0) ⊎ (¬ ((a -ℤ b) <ℤ pos 0)) → (a <ℤ b) ⊎ (¬ (a <ℤ b))
    go (inl h) = inl (omega (arith, ints))
    go (inr h) = inr (λ k. h (omega (arith, ints)))

-- whether a half goes up
half_or_not : (d r : ℤ) (P : Type 0) → P ⊎ (¬ P) → ((d <ℤ (r +ℤ r)) ⊎ ((r +ℤ r ≡ d) × P)) ⊎ (¬ ((d <ℤ (r +ℤ r)) ⊎ ((r +ℤ r ≡ d) × P)))
half_or_not d r P p = go (less_or_not d (r +ℤ r)) (less_or_not (r +ℤ r) d) p
  where
    same : (a b : ℤ) → ¬ (a <ℤ b) → ¬ (b <ℤ a) → b ≡ a
    same a b h k = grind (arith, ints)

    go : (d <ℤ (r +ℤ r)) ⊎ (¬ (d <ℤ (r +ℤ r))) → ((r +ℤ r) <ℤ d) ⊎ (¬ ((r +ℤ r) <ℤ d)) → P ⊎ (¬ P)
        → ((d <ℤ (r +ℤ r)) ⊎ ((r +ℤ r ≡ d) × P)) ⊎ (¬ ((d <ℤ (r +ℤ r)) ⊎ ((r +ℤ r ≡ d) × P)))
    go (inl h) k p = inl (inl h)
    go (inr h) (inl k) p = inr (λ x. elim x [ inl l ↦ h l | inr e ↦ let f = e.0 in omega (arith, ints) ])
    go (inr h) (inr k) (inl p) = inl (inr (same d (r +ℤ r) h k, p))
    go (inr h) (inr k) (inr p) = inr (λ x. elim x [ inl l ↦ h l | inr e ↦ p e.1 ])

goes_or_not : (rule : Rounding) (z r d : ℤ) → GoesUp rule z r d ⊎ (¬ (GoesUp rule z r d))
goes_or_not HalfAway z r d = half_or_not d r (¬ (z <ℤ pos 0)) (turned (sides z))
  where
    turned : (z <ℤ pos 0) ⊎ (¬ (z <ℤ pos 0)) → (¬ (z <ℤ pos 0)) ⊎ (¬ (¬ (z <ℤ pos 0)))
    turned (inl h) = inr (λ k. k h)
    turned (inr h) = inl h
goes_or_not HalfEven z r d = half_or_not d r (¬ (IsMultiple z (pos 2))) (turned (even_or_odd z))
  where
    turned : (IsMultiple z (pos 2)) ⊎ ((k : ℤ) × (z ≡ k *ℤ pos 2 +ℤ pos 1)) → (¬ (IsMultiple z (pos 2))) ⊎ (¬ (¬ (IsMultiple z (pos 2))))
    turned (inl m) = inr (λ k. k m)
    turned (inr o) = inl (is_odd_number z o.0 o.1)
goes_or_not Down z r d = go (sides z) (less_or_not (pos 0) r)
  where
    go : (z <ℤ pos 0) ⊎ (¬ (z <ℤ pos 0)) → (pos 0 <ℤ r) ⊎ (¬ (pos 0 <ℤ r)) → GoesUp Down z r d ⊎ (¬ (GoesUp Down z r d))
    go (inl h) (inl k) = inl (h, k)
    go (inl h) (inr k) = inr (λ x. k x.1)
    go (inr h) k = inr (λ x. h x.0)
goes_or_not Up z r d = go (sides z) (less_or_not (pos 0) r)
  where
    go : (z <ℤ pos 0) ⊎ (¬ (z <ℤ pos 0)) → (pos 0 <ℤ r) ⊎ (¬ (pos 0 <ℤ r)) → GoesUp Up z r d ⊎ (¬ (GoesUp Up z r d))
    go (inl h) k = inr (λ x. x.0 h)
    go (inr h) (inl k) = inl (h, k)
    go (inr h) (inr k) = inr (λ x. k x.1)
goes_or_not Floor z r d = inr (λ h. let k : pos 0 <ℤ pos 0 = h in omega (arith, ints))
goes_or_not Ceil z r d = less_or_not (pos 0) r

floor_divides : (n d f : ℤ) → IsFloor n d f → IsDivided n d f (n -ℤ f *ℤ d)
floor_divides n d f is = let a = is.at_most in let b = is.next_above in record { sum = omega (arith, ints); rest = record { above = omega (arith, ints); below = omega (arith, ints) } }

pub each_by : (rule : Rounding) → EachHasOne (IsRoundedBy rule)
each_by rule n d u =
    let f = (each_floor n d u).0 in
    let is = floor_divides n d f (each_floor n d u).1 in
    elim (goes_or_not rule f (n -ℤ f *ℤ d) d) [
      | inl go ↦ let by = rises n d f (n -ℤ f *ℤ d) is rule go in (f +ℤ pos 1, by, λ y k. one_by rule n d y (f +ℤ pos 1) u k by)
      | inr out ↦ let by = stays n d f (n -ℤ f *ℤ d) is rule out in (f, by, λ y k. one_by rule n d y f u k by)
    ]

-- ---- only the value counts

same_even : (n d m e r : ℤ) → pos 0 <ℤ d → pos 0 <ℤ e → n *ℤ e ≡ m *ℤ d → IsRoundedToEven n d r → IsRoundedToEven m e r
same_even n d m e r u w same x = record { near = same_half n d m e r u w same x.near; even = λ s k. x.even s (same_half m e n d s w u (sym same) k) }

same_away : (n d m e r : ℤ) → pos 0 <ℤ d → pos 0 <ℤ e → n *ℤ e ≡ m *ℤ d → IsAwayFromZero n d r → IsAwayFromZero m e r
same_away n d m e r u w same x = record {
  ceiling = λ h. same_ceiling n d m e r u w same (x.ceiling (side_up m e n d w u (sym same) h));
  floor = λ h. same_floor n d m e r u w same (x.floor (side_down m e n d w u (sym same) h));
}

pub same_by : (rule : Rounding) → IsByValue (IsRoundedBy rule)
same_by HalfAway n d m e r u w same x = same_rounded n d m e r u w same x
same_by HalfEven n d m e r u w same x = same_even n d m e r u w same x
same_by Down n d m e r u w same x = same_truncation n d m e r u w same x
same_by Up n d m e r u w same x = same_away n d m e r u w same x
same_by Floor n d m e r u w same x = same_floor n d m e r u w same x
same_by Ceil n d m e r u w same x = same_ceiling n d m e r u w same x

-- ---- halves

pub halves_differ : HalvesDifferAtTies
halves_differ n d r s u x y = go (which r s (near_both n d r s u x.near y.near) (near_both n d s r u y.near x.near))
  where
    which : (a b : ℤ) → a ≤ℤ (b +ℤ pos 1) → b ≤ℤ (a +ℤ pos 1) → (a ≡ b) ⊎ ((a ≡ b +ℤ pos 1) ⊎ (b ≡ a +ℤ pos 1))
    which a b h k = grind (arith, ints)

    tie : (a b : ℤ) → b ≡ a +ℤ pos 1 → IsWithinHalf n d a → IsWithinHalf n d b → IsTie n d
    tie a b e p q =
        let h = p.below in
        let k = q.above in
        let t : b *ℤ d ≡ a *ℤ d +ℤ d = ap (λ (z : ℤ). z *ℤ d) e ∙ more-times a d in
        (a, omega (arith, ints))

    go : (r ≡ s) ⊎ ((r ≡ s +ℤ pos 1) ⊎ (s ≡ r +ℤ pos 1)) → (r ≡ s) ⊎ IsTie n d
    go (inl e) = inl e
    go (inr (inl e)) = inr (tie s r e y.near x.near)
    go (inr (inr e)) = inr (tie r s e x.near y.near)

-- ---- less than 1 away

near_floor : (n d r : ℤ) → pos 0 <ℤ d → IsFloor n d r → ((r *ℤ d -ℤ d) <ℤ n) × (n <ℤ (r *ℤ d +ℤ d))
near_floor n d r u x = let a = x.at_most in let b = x.next_above in (omega (arith, ints), omega (arith, ints))

near_ceiling : (n d r : ℤ) → pos 0 <ℤ d → IsCeiling n d r → ((r *ℤ d -ℤ d) <ℤ n) × (n <ℤ (r *ℤ d +ℤ d))
near_ceiling n d r u x = let a = x.last_below in let b = x.at_least in (omega (arith, ints), omega (arith, ints))

near_half : (n d r : ℤ) → pos 0 <ℤ d → IsWithinHalf n d r → ((r *ℤ d -ℤ d) <ℤ n) × (n <ℤ (r *ℤ d +ℤ d))
near_half n d r u x = let a = x.above in let b = x.below in (omega (arith, ints), omega (arith, ints))

from_zero : (n : ℤ) → ¬ (n <ℤ pos 0) → pos 0 ≤ℤ n
from_zero n h = grind (arith, ints)

to_zero : (n : ℤ) → n <ℤ pos 0 → n ≤ℤ pos 0
to_zero n h = omega (arith, ints)

pub rounded_near : RoundedIsNear
rounded_near HalfAway n d r u x = near_half n d r u x.near
rounded_near HalfEven n d r u x = near_half n d r u x.near
rounded_near Down n d r u x = elim (sides n) [ inl h ↦ near_ceiling n d r u (x.ceiling (to_zero n h)) | inr h ↦ near_floor n d r u (x.floor (from_zero n h)) ]
rounded_near Up n d r u x = elim (sides n) [ inl h ↦ near_floor n d r u (x.floor (to_zero n h)) | inr h ↦ near_ceiling n d r u (x.ceiling (from_zero n h)) ]
rounded_near Floor n d r u x = near_floor n d r u x
rounded_near Ceil n d r u x = near_ceiling n d r u x

-- ---- a greater fraction is not rounded to less

module _ (n m d r s : ℤ) (u : pos 0 <ℤ d) (least : n ≤ℤ m) where
  floors : IsFloor n d r → IsFloor m d s → r ≤ℤ s
  floors x y = let a = x.at_most in let b = y.next_above in whole_at_most r s d u (omega (arith, ints))

  ceilings : IsCeiling n d r → IsCeiling m d s → r ≤ℤ s
  ceilings x y = let a = x.last_below in let b = y.at_least in whole_at_most r s d u (omega (arith, ints))

  -- around 0
  ceiling_floor : n <ℤ pos 0 → pos 0 ≤ℤ m → IsCeiling n d r → IsFloor m d s → r ≤ℤ s
  ceiling_floor h k x y =
      let a = x.last_below in
      let b = y.next_above in
      let down : r ≤ℤ pos 0 = whole_at_most r (pos 0) d u (omega (arith, ints, zero-*ℤ d)) in
      let up : pos 0 ≤ℤ s = whole_at_most (pos 0) s d u (omega (arith, ints, zero-*ℤ d)) in
      omega (arith, ints)

  floor_ceiling : n <ℤ pos 0 → pos 0 ≤ℤ m → IsFloor n d r → IsCeiling m d s → r ≤ℤ s
  floor_ceiling h k x y = let a = x.at_most in let b = y.at_least in whole_at_most r s d u (omega (arith, ints))

  lower : n <ℤ pos 0 → m <ℤ pos 0 → n ≤ℤ pos 0
  lower h k = omega (arith, ints)

  not_both : ¬ (n <ℤ pos 0) → ¬ (m <ℤ pos 0)
  not_both h k = h (omega (arith, ints))

  halves : (n ≡ m → r ≡ s) → IsWithinHalf n d r → IsWithinHalf m d s → r ≤ℤ s
  halves same x y = go (which r s)
    where
      which : (a b : ℤ) → (a ≤ℤ b) ⊎ ((b +ℤ pos 1) ≤ℤ a)
      which a b = grind (arith, ints)

      go : (r ≤ℤ s) ⊎ ((s +ℤ pos 1) ≤ℤ r) → r ≤ℤ s
      go (inl h) = h
      go (inr h) =
          let a = x.above in
          let b = y.below in
          let more : ((s +ℤ pos 1) *ℤ d) ≤ℤ (r *ℤ d) = times_le (s +ℤ pos 1) r d h (omega (arith, ints)) in
          let e : n ≡ m = omega (arith, ints, more-times s d) in
          let one = same e in
          omega (arith, ints)

  pub monotone_over : (rule : Rounding) → IsRoundedBy rule n d r → IsRoundedBy rule m d s → r ≤ℤ s
  monotone_over HalfAway x y = halves (λ e. one_by HalfAway n d r s u x (rw e y)) x.near y.near
  monotone_over HalfEven x y = halves (λ e. one_by HalfEven n d r s u x (rw e y)) x.near y.near
  monotone_over Down x y = go (sides n) (sides m)
    where
      go : (n <ℤ pos 0) ⊎ (¬ (n <ℤ pos 0)) → (m <ℤ pos 0) ⊎ (¬ (m <ℤ pos 0)) → r ≤ℤ s
      go (inl h) (inl k) = ceilings (x.ceiling (to_zero n h)) (y.ceiling (to_zero m k))
      go (inl h) (inr k) = ceiling_floor h (from_zero m k) (x.ceiling (to_zero n h)) (y.floor (from_zero m k))
      go (inr h) k = floors (x.floor (from_zero n h)) (y.floor (from_zero m (not_both h)))
  monotone_over Up x y = go (sides n) (sides m)
    where
      go : (n <ℤ pos 0) ⊎ (¬ (n <ℤ pos 0)) → (m <ℤ pos 0) ⊎ (¬ (m <ℤ pos 0)) → r ≤ℤ s
      go (inl h) (inl k) = floors (x.floor (to_zero n h)) (y.floor (to_zero m k))
      go (inl h) (inr k) = floor_ceiling h (from_zero m k) (x.floor (to_zero n h)) (y.ceiling (from_zero m k))
      go (inr h) k = ceilings (x.ceiling (from_zero n h)) (y.ceiling (from_zero m (not_both h)))
  monotone_over Floor x y = floors x y
  monotone_over Ceil x y = ceilings x y

-- over one denominator
over_both : (n d e : ℤ) → n *ℤ (d *ℤ e) ≡ (n *ℤ e) *ℤ d
over_both n d e = ap (λ (t : ℤ). n *ℤ t) (*ℤ_comm d e) ∙ sym (mul_assoc n e d)

pub rounded_monotone : RoundedIsMonotone
rounded_monotone rule n d m e r s u w least x y =
    let more : e ≤ℤ (d *ℤ e) = up_times_right in
    let both : pos 0 <ℤ (d *ℤ e) = omega (arith, ints) in
    monotone_over (n *ℤ e) (m *ℤ d) (d *ℤ e) r s both least rule
    (same_by rule n d (n *ℤ e) (d *ℤ e) r u both (over_both n d e) x)
    (same_by rule m e (m *ℤ d) (d *ℤ e) s w both (sym (mul_assoc m d e)) y)
  where
    up_times_right : e ≤ℤ (d *ℤ e)
    up_times_right = let up : (pos 1 *ℤ e) ≤ℤ (d *ℤ e) = times_le (pos 1) d e (omega (arith, ints)) (omega (arith, ints)) in omega (arith, ints, one-mul e)
