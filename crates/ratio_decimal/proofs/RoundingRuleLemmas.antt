-- What each rule takes for n/d, from the floor z of n/d and its rest r, and on the other side of 0.
use Rattle.std.specs.Prelude.{◌≡◌, ◌≢◌, ◌⊎◌, ◌↔◌, ◌/◌, ◌%◌, ◌≤ℤ◌, ◌<ℤ◌, ◌*ℤ◌, ◌+ℤ◌, ◌-ℤ◌, ℤ, pos, negsuc, neg_ℤ, unsigned_abs}
use Rattle.std.proofs.Common.{refl, sym, ap, arith, ◌∙◌, eq-zero-or-pos, inl, inr, subst}
use Rattle.std.proofs.lemmas.Int.{ints}
use Rattle.ratio_integer.specs.Division.{IsMultiple}
use Rattle.ratio_integer.proofs.Whole.{mul_assoc, neg-mul}
use Rattle.ratio_core.specs.Parts.{IsDivided}
use Rattle.ratio_core.specs.Rounding.{IsCeiling, IsFloor, IsRounded, IsWithinHalf}
use Rattle.ratio_decimal.specs.RoundingRules.{GoesUp, IsRoundedBy, IsRoundedToEven, mirrored}
use Rattle.ratio_decimal.specs.declared.rounding_rule.Rounding.{Rounding}
use Rattle.ratio_decimal.specs.declared.rounding_rule.Rounding.TheVariants.{HalfAway, HalfEven, Down, Up, Floor, Ceil}
use lib.IntN.{*ℤ_comm, zero-*ℤ}
use Rattle.ratio_core.proofs.Around.{up_product}
use Rattle.ratio_core.proofs.PartLemmas.{part_positive, whole_above}
use Rattle.ratio_core.proofs.ProductOrder.{more-times, times_le, whole_at_most}
use Rattle.ratio_core.proofs.RoundingLemmas.{round_above, round_below}

-- ---- even and odd numbers

pub is_odd_number : (z k : ℤ) → z ≡ k *ℤ pos 2 +ℤ pos 1 → ¬ (IsMultiple z (pos 2))
is_odd_number z k e m = let h = m.1 in let j = m.0 in omega (arith, ints)

pub even_or_odd : (z : ℤ) → (IsMultiple z (pos 2)) ⊎ ((k : ℤ) × (z ≡ k *ℤ pos 2 +ℤ pos 1))
even_or_odd (pos n) = elim (eq-zero-or-pos (n % 2)) [
  | inl e ↦ inl (pos (n / 2), omega (arith, ints))
  | inr e ↦ inr (pos (n / 2), omega (arith, ints))
]
even_or_odd (negsuc n) = elim (eq-zero-or-pos (n % 2)) [
  | inl e ↦ inr (negsuc (n / 2), omega (arith, ints))
  | inr e ↦ inl (negsuc (n / 2), omega (arith, ints))
]

pub next_even : (z : ℤ) → ¬ (IsMultiple z (pos 2)) → IsMultiple (z +ℤ pos 1) (pos 2)
next_even z odd = elim (even_or_odd z) [
  | inl m ↦ absurd (odd m)
  | inr k ↦ (k.0 +ℤ pos 1, let e = k.1 in let j = k.0 in omega (arith, ints))
]

-- adding an even number keeps even numbers even and odd ones odd, and adding an odd one turns them
pub more_even : (a q : ℤ) → IsMultiple a (pos 2) → (¬ (IsMultiple q (pos 2))) ↔ (¬ (IsMultiple (a +ℤ q) (pos 2)))
more_even a q m =
    let e = m.1 in
    let i = m.0 in
    ((λ odd k. odd (k.0 -ℤ i, let f = k.1 in let j = k.0 in omega (arith, ints))), (λ odd k. odd (k.0 +ℤ i, let f = k.1 in let j = k.0 in omega (arith, ints))))

pub more_odd : (a q : ℤ) → ¬ (IsMultiple a (pos 2)) → IsMultiple q (pos 2) ↔ (¬ (IsMultiple (a +ℤ q) (pos 2)))
more_odd a q odd = ((λ m k. odd (k.0 -ℤ m.0, let e = m.1 in let f = k.1 in let i = m.0 in let j = k.0 in omega (arith, ints))), (λ other. even (even_or_odd a) (even_or_odd q) other))
  where
    even : (IsMultiple a (pos 2)) ⊎ ((k : ℤ) × (a ≡ k *ℤ pos 2 +ℤ pos 1)) → (IsMultiple q (pos 2)) ⊎ ((k : ℤ) × (q ≡ k *ℤ pos 2 +ℤ pos 1)) → ¬ (IsMultiple (a +ℤ q) (pos 2)) → IsMultiple q (pos 2)
    even (inl m) k other = absurd (odd m)
    even (inr m) (inl k) other = k
    even (inr m) (inr k) other = absurd (other (m.0 +ℤ k.0 +ℤ pos 1, let e = m.1 in let f = k.1 in let i = m.0 in let j = k.0 in omega (arith, ints)))

-- a product is odd exactly if both numbers are
pub product_even : (f p : ℤ) → IsMultiple f (pos 2) ⊎ IsMultiple p (pos 2) → IsMultiple (f *ℤ p) (pos 2)
product_even f p (inl m) = (m.0 *ℤ p, ap (λ (t : ℤ). t *ℤ p) m.1 ∙ mul_assoc m.0 (pos 2) p ∙ ap (λ (t : ℤ). m.0 *ℤ t) (*ℤ_comm (pos 2) p) ∙ sym (mul_assoc m.0 p (pos 2)))
product_even f p (inr m) = (f *ℤ m.0, ap (λ (t : ℤ). f *ℤ t) m.1 ∙ sym (mul_assoc f m.0 (pos 2)))

pub product_odd : (f p : ℤ) → ¬ (IsMultiple f (pos 2)) → ¬ (IsMultiple p (pos 2)) → ¬ (IsMultiple (f *ℤ p) (pos 2))
product_odd f p odd other = elim (even_or_odd f) [
  | inl m ↦ absurd (odd m)
  | inr k ↦
      let e : f *ℤ p ≡ (k.0 *ℤ pos 2) *ℤ p +ℤ p = ap (λ (t : ℤ). t *ℤ p) k.1 ∙ more-times (k.0 *ℤ pos 2) p in
      subst (λ (t : ℤ). ¬ (IsMultiple t (pos 2))) (sym e) ((more_even ((k.0 *ℤ pos 2) *ℤ p) p (product_even (k.0 *ℤ pos 2) p (inl (k.0, refl)))).0 other)
]

-- ---- numbers near n/d

pub sides : (z : ℤ) → (z <ℤ pos 0) ⊎ (¬ (z <ℤ pos 0))
sides (pos n) = inr (λ h. omega (arith, ints))
sides (negsuc n) = inl (omega (arith, ints))

not_less : (a b : ℤ) → ¬ (a <ℤ b) → b ≤ℤ a
not_less a b h = grind (arith, ints)

-- no other number than z is within a half of n/d, if z is nearer
pub only_near : (n d z s : ℤ) → pos 0 <ℤ d → neg_ℤ d <ℤ (pos 2 *ℤ n -ℤ pos 2 *ℤ (z *ℤ d)) → (pos 2 *ℤ n -ℤ pos 2 *ℤ (z *ℤ d)) <ℤ d → IsWithinHalf n d s → s ≡ z
only_near n d z s u low high k =
    let a = k.above in
    let b = k.below in
    let down : z ≤ℤ s = whole_at_most z s d u (omega (arith, ints)) in
    let up : s ≤ℤ z = whole_at_most s z d u (omega (arith, ints)) in
    omega (arith, ints)

-- ---- the floor z and the number above it

module _ (n d z r : ℤ) (is : IsDivided n d z r) where
  positive : pos 0 <ℤ d
  positive = part_positive r d is.rest

  below_zero : z <ℤ pos 0 → n <ℤ pos 0
  below_zero h =
      let s = is.sum in
      let b = is.rest.below in
      let down : ((z +ℤ pos 1) *ℤ d) ≤ℤ (pos 0 *ℤ d) = times_le (z +ℤ pos 1) (pos 0) d (omega (arith, ints)) (let p = positive in omega (arith, ints)) in
      omega (arith, ints, more-times z d, zero-*ℤ d)

  from_zero : ¬ (z <ℤ pos 0) → pos 0 ≤ℤ n
  from_zero h = let s = is.sum in let w = whole_above z d r (not_less z (pos 0) h) is.rest in omega (arith, ints)

  floor_at : IsFloor n d z
  floor_at = let s = is.sum in let a = is.rest.above in let b = is.rest.below in record { at_most = omega (arith, ints); next_above = omega (arith, ints) }

  ceiling_at : r ≤ℤ pos 0 → IsCeiling n d z
  ceiling_at h = let s = is.sum in let a = is.rest.above in let p = positive in record { last_below = omega (arith, ints); at_least = omega (arith, ints) }

  ceiling_next : pos 0 <ℤ r → IsCeiling n d (z +ℤ pos 1)
  ceiling_next h = let s = is.sum in let b = is.rest.below in record { last_below = omega (arith, ints, more-times z d); at_least = omega (arith, ints, more-times z d) }

  -- how far z and z + 1 are from n/d, twice
  far : pos 2 *ℤ n -ℤ pos 2 *ℤ (z *ℤ d) ≡ r +ℤ r
  far = let s = is.sum in omega (arith, ints)

  far_next : pos 2 *ℤ n -ℤ pos 2 *ℤ ((z +ℤ pos 1) *ℤ d) ≡ (r +ℤ r) -ℤ (d +ℤ d)
  far_next = let s = is.sum in omega (arith, ints, more-times z d)

  half_above : (d ≤ℤ (r +ℤ r)) → IsWithinHalf n d (z +ℤ pos 1)
  half_above h = let f = far_next in let b = is.rest.below in let p = positive in record { above = omega (arith, ints); below = omega (arith, ints) }

  half_at : (r +ℤ r) ≤ℤ d → IsWithinHalf n d z
  half_at h = let f = far in let a = is.rest.above in let p = positive in record { above = omega (arith, ints); below = omega (arith, ints) }

  stays_away : ¬ (GoesUp HalfAway z r d) → IsRounded n d z
  stays_away out = go (sides z)
    where
      within : (r +ℤ r) ≤ℤ d
      within = not_less d (r +ℤ r) (λ h. out (inl h))

      less : (a b : ℤ) → a ≤ℤ b → a ≢ b → a <ℤ b
      less a b h k = grind (arith, ints)

      go : (z <ℤ pos 0) ⊎ (¬ (z <ℤ pos 0)) → IsRounded n d z
      go (inl h) = let f = far in let w = within in let a = is.rest.above in let p = positive in let k = below_zero h in round_below n d z p (omega (arith, ints)) (omega (arith, ints)) (omega (arith, ints))
      go (inr h) =
          let f = far in
          let a = is.rest.above in
          let p = positive in
          let w = less _ _ within (λ e. out (inr (e, h))) in
          round_above n d z p (from_zero h) (omega (arith, ints)) (omega (arith, ints))

  stays_even : ¬ (GoesUp HalfEven z r d) → IsRoundedToEven n d z
  stays_even out = record { near = half_at within; even = λ s k. choose s k (even_or_odd z) }
    where
      within : (r +ℤ r) ≤ℤ d
      within = not_less d (r +ℤ r) (λ h. out (inl h))

      less : (a b : ℤ) → a ≤ℤ b → a ≢ b → a <ℤ b
      less a b h k = grind (arith, ints)

      choose : (s : ℤ) → IsWithinHalf n d s → (IsMultiple z (pos 2)) ⊎ ((k : ℤ) × (z ≡ k *ℤ pos 2 +ℤ pos 1)) → (s ≡ z) ⊎ IsMultiple z (pos 2)
      choose s k (inl m) = inr m
      choose s k (inr o) =
          let f = far in
          let a = is.rest.above in
          let p = positive in
          let w = less _ _ within (λ e. out (inr (e, is_odd_number z o.0 o.1))) in
          inl (only_near n d z s p (omega (arith, ints)) (omega (arith, ints)) k)

  -- z is the rounded value if the rule does not go up
  pub stays : (rule : Rounding) → ¬ (GoesUp rule z r d) → IsRoundedBy rule n d z
  stays HalfAway out = stays_away out
  stays HalfEven out = stays_even out
  stays Down out = record { floor = λ h. floor_at; ceiling = λ h. ceiling_at (none h (sides z)) }
    where
      none : n ≤ℤ pos 0 → (z <ℤ pos 0) ⊎ (¬ (z <ℤ pos 0)) → r ≤ℤ pos 0
      none h (inl k) = not_less (pos 0) r (λ l. out (k, l))
      none h (inr k) = let s = is.sum in let p = positive in let w = up_product z d (not_less z (pos 0) k) (omega (arith, ints)) in omega (arith, ints)
  stays Up out = record { ceiling = λ h. ceiling_at (none h (sides z)); floor = λ h. floor_at }
    where
      none : pos 0 ≤ℤ n → (z <ℤ pos 0) ⊎ (¬ (z <ℤ pos 0)) → r ≤ℤ pos 0
      none h (inl k) = absurd (let l = below_zero k in omega (arith, ints))
      none h (inr k) = not_less (pos 0) r (λ l. out (k, l))
  stays Floor out = floor_at
  stays Ceil out = ceiling_at (not_less (pos 0) r out)

  rises_away : (z <ℤ pos 0) ⊎ (¬ (z <ℤ pos 0)) → GoesUp HalfAway z r d → IsRounded n d (z +ℤ pos 1)
  rises_away (inl h) (inl go) = let f = far_next in let b = is.rest.below in let p = positive in let k = below_zero h in round_below n d (z +ℤ pos 1) p (omega (arith, ints)) (omega (arith, ints)) (omega (arith, ints))
  rises_away (inl h) (inr go) = absurd (go.1 h)
  rises_away (inr h) (inl go) = let f = far_next in let b = is.rest.below in let p = positive in round_above n d (z +ℤ pos 1) p (from_zero h) (omega (arith, ints)) (omega (arith, ints))
  rises_away (inr h) (inr go) = let f = far_next in let b = is.rest.below in let p = positive in let e = go.0 in round_above n d (z +ℤ pos 1) p (from_zero h) (omega (arith, ints)) (omega (arith, ints))

  rises_even : GoesUp HalfEven z r d → IsRoundedToEven n d (z +ℤ pos 1)
  rises_even (inl go) = record {
    near = half_above (omega (arith, ints));
    even = λ s k. inl (let f = far_next in let b = is.rest.below in let p = positive in only_near n d (z +ℤ pos 1) s p (omega (arith, ints)) (omega (arith, ints)) k);
  }
  rises_even (inr go) = record {
    near = half_above (let e = go.0 in omega (arith, ints));
    even = λ s k. inr (next_even z go.1);
  }

  -- z + 1 is the rounded value if the rule goes up
  pub rises : (rule : Rounding) → GoesUp rule z r d → IsRoundedBy rule n d (z +ℤ pos 1)
  rises HalfAway go = rises_away (sides z) go
  rises HalfEven go = rises_even go
  rises Down go = record { floor = λ h. absurd (let l = below_zero go.0 in omega (arith, ints)); ceiling = λ h. ceiling_next go.1 }
  rises Up go = record { ceiling = λ h. ceiling_next go.1; floor = λ h. absurd (none h) }
    where
      none : n ≤ℤ pos 0 → ⊥
      none h = let s = is.sum in let p = positive in let l = go.1 in let w = up_product z d (not_less z (pos 0) go.0) (omega (arith, ints)) in omega (arith, ints)
  rises Floor go = absurd (let h : pos 0 <ℤ pos 0 = go in omega (arith, ints))
  rises Ceil go = ceiling_next go

  -- what goes up has a rest
  pub some_rest : (rule : Rounding) → GoesUp rule z r d → pos 0 <ℤ r
  some_rest HalfAway (inl go) = let p = positive in omega (arith, ints)
  some_rest HalfAway (inr go) = let p = positive in let e = go.0 in omega (arith, ints)
  some_rest HalfEven (inl go) = let p = positive in omega (arith, ints)
  some_rest HalfEven (inr go) = let p = positive in let e = go.0 in omega (arith, ints)
  some_rest Down go = go.1
  some_rest Up go = go.1
  some_rest Floor go = absurd (let h : pos 0 <ℤ pos 0 = go in omega (arith, ints))
  some_rest Ceil go = go

-- ---- the other side of 0

module _ (n d r : ℤ) where
  turned : neg_ℤ r *ℤ d ≡ neg_ℤ (r *ℤ d)
  turned = neg-mul r d

  negative_floor : IsFloor n d r → IsCeiling (neg_ℤ n) d (neg_ℤ r)
  negative_floor is = let a = is.at_most in let b = is.next_above in let t = turned in record { last_below = omega (arith, ints); at_least = omega (arith, ints) }

  negative_ceiling : IsCeiling n d r → IsFloor (neg_ℤ n) d (neg_ℤ r)
  negative_ceiling is = let a = is.last_below in let b = is.at_least in let t = turned in record { at_most = omega (arith, ints); next_above = omega (arith, ints) }

  negative_half : IsWithinHalf n d r → IsWithinHalf (neg_ℤ n) d (neg_ℤ r)
  negative_half is = let a = is.above in let b = is.below in let t = turned in record { above = omega (arith, ints); below = omega (arith, ints) }

twice_negative : (n : ℤ) → neg_ℤ (neg_ℤ n) ≡ n
twice_negative n = omega (arith, ints)

negative_abs : (n : ℤ) → unsigned_abs (neg_ℤ n) ≡ unsigned_abs n
negative_abs n = omega (arith, ints)

half_back : (n d s : ℤ) → IsWithinHalf (neg_ℤ n) d s → IsWithinHalf n d (neg_ℤ s)
half_back n d s is = subst (λ (z : ℤ). IsWithinHalf z d (neg_ℤ s)) (twice_negative n) (negative_half (neg_ℤ n) d s is)

-- a value and its negative are rounded by mirrored rules
pub mirror : (rule : Rounding) (n d r : ℤ) → IsRoundedBy (mirrored rule) n d r → IsRoundedBy rule (neg_ℤ n) d (neg_ℤ r)
mirror HalfAway n d r is = record {
  near = negative_half n d r is.near;
  furthest = λ s k. let f = is.furthest (neg_ℤ s) (half_back n d s k) in let a = negative_abs s in let b = negative_abs r in omega arith;
}
mirror HalfEven n d r is = record { near = negative_half n d r is.near; even = λ s k. choose s (is.even (neg_ℤ s) (half_back n d s k)) }
  where
    choose : (s : ℤ) → (neg_ℤ s ≡ r) ⊎ IsMultiple r (pos 2) → (s ≡ neg_ℤ r) ⊎ IsMultiple (neg_ℤ r) (pos 2)
    choose s (inl e) = inl (omega (arith, ints))
    choose s (inr m) = inr (neg_ℤ m.0, let e = m.1 in let k = m.0 in omega (arith, ints))
mirror Down n d r is = record {
  floor = λ h. negative_ceiling n d r (is.ceiling (omega (arith, ints)));
  ceiling = λ h. negative_floor n d r (is.floor (omega (arith, ints)));
}
mirror Up n d r is = record {
  ceiling = λ h. negative_floor n d r (is.floor (omega (arith, ints)));
  floor = λ h. negative_ceiling n d r (is.ceiling (omega (arith, ints)));
}
mirror Floor n d r is = negative_ceiling n d r is
mirror Ceil n d r is = negative_floor n d r is
