-- The laws of the simplest fraction: at most one, in lowest terms, and the same for ends of the same values.
use Rattle.std.specs.Prelude.{◌≡◌, ◌⊎◌, ◌+◌, ◌*◌, ◌<◌, ◌≤ℤ◌, ◌<ℤ◌, ◌*ℤ◌, ◌-ℤ◌, ◌+ℤ◌, ℕ, ℤ, zero, suc, pos, negsuc, unsigned_abs}
use Rattle.std.proofs.Common.{refl, sym, ap, arith, inl, inr, ◌∙◌}
use Rattle.std.proofs.lemmas.Int.{ints}
use borrow.Author.Differences.{up, down}
use Rattle.ratio_integer.proofs.CommonDivisors.{divides_multiple}
use Rattle.ratio_integer.proofs.Whole.{mul-swap_last}
use Rattle.ratio_integer.specs.Fraction.{IsLowestTerms, SameValue}
use Rattle.ratio_approximation.specs.Simplest.{IsBetween, IsSimplest}
use Rattle.ratio_approximation.proofs.SimplestEnclosing.{excess}

-- 0 lies between a fraction below it and one above it
low_below_zero : (n d p q : ℤ) → pos 0 <ℤ d → pos 0 <ℤ q → p <ℤ pos 0 → (n *ℤ q) <ℤ (p *ℤ d) → n <ℤ pos 0
low_below_zero (negsuc n) d p q d_up q_up below less = omega (arith, ints)
low_below_zero (pos n) (negsuc d) p q d_up q_up below less = absurd (omega (arith, ints))
low_below_zero (pos n) (pos d) (pos p) q d_up q_up below less = absurd (omega (arith, ints))
low_below_zero (pos n) (pos d) (negsuc p) (negsuc q) d_up q_up below less = absurd (omega (arith, ints))
low_below_zero (pos n) (pos d) (negsuc p) (pos q) d_up q_up below less = absurd (omega (arith, ints))

high_above_zero : (m e a b : ℤ) → pos 0 <ℤ e → pos 0 <ℤ b → pos 0 <ℤ a → (a *ℤ e) <ℤ (m *ℤ b) → pos 0 <ℤ m
high_above_zero (pos zero) e a b e_up b_up above less = absurd (none e a b e_up b_up above less)
  where
    none : (e a b : ℤ) → pos 0 <ℤ e → pos 0 <ℤ b → pos 0 <ℤ a → (a *ℤ e) <ℤ (pos zero *ℤ b) → ⊥
    none (negsuc e) a b e_up b_up above less = omega (arith, ints)
    none e (negsuc a) b e_up b_up above less = omega (arith, ints)
    none e a (negsuc b) e_up b_up above less = omega (arith, ints)
    none (pos e) (pos a) (pos b) e_up b_up above less = omega (arith, ints)
high_above_zero (pos (suc m)) e a b e_up b_up above less = omega (arith, ints)
high_above_zero (negsuc m) (negsuc e) a b e_up b_up above less = absurd (omega (arith, ints))
high_above_zero (negsuc m) (pos e) (negsuc a) b e_up b_up above less = absurd (omega (arith, ints))
high_above_zero (negsuc m) (pos e) (pos a) (negsuc b) e_up b_up above less = absurd (omega (arith, ints))
high_above_zero (negsuc m) (pos e) (pos a) (pos b) e_up b_up above less = absurd (omega (arith, ints))

opposite : (n d m e p q a b : ℤ) → pos 0 <ℤ d → pos 0 <ℤ e → IsSimplest n d m e p q → IsSimplest n d m e a b → p <ℤ pos 0 → pos 0 <ℤ a → ⊥
opposite n d m e p q a b d_up e_up first second below above =
    let low = low_below_zero n d p q d_up first.between.positive below first.between.above in
    let high = high_above_zero m e a b e_up second.between.positive above second.between.below in
    let zero_between : IsBetween n d m e (pos 0) (pos 1) = record { positive = omega (arith, ints); above = omega (arith, ints); below = omega (arith, ints) } in
    let none = first.numer (pos 0) (pos 1) zero_between in
    omega (arith, ints)

pub same_size : (p a : ℤ) → unsigned_abs p ≡ unsigned_abs a → (p ≡ a) ⊎ ((p <ℤ pos 0) × (pos 0 <ℤ a)) ⊎ ((a <ℤ pos 0) × (pos 0 <ℤ p))
same_size (pos p) (pos a) e = inl (omega (arith, ints))
same_size (pos p) (negsuc a) e = inr (inr (omega (arith, ints), omega (arith, ints)))
same_size (negsuc p) (pos a) e = inr (inl (omega (arith, ints), omega (arith, ints)))
same_size (negsuc p) (negsuc a) e = inl (omega (arith, ints))

pub simplest_unique : (n d m e p q a b : ℤ) → pos 0 <ℤ d → pos 0 <ℤ e → IsSimplest n d m e p q → IsSimplest n d m e a b → (p ≡ a) × (q ≡ b)
simplest_unique n d m e p q a b d_up e_up first second =
    let one = first.denom a b second.between in
    let two = second.denom p q first.between in
    let three = first.numer a b second.between in
    let four = second.numer p q first.between in
    let size : unsigned_abs p ≡ unsigned_abs a = omega arith in (
      elim (same_size p a size) [
        | inl same ↦ same
        | inr (inl sides) ↦ absurd (opposite n d m e p q a b d_up e_up first second sides.0 sides.1)
        | inr (inr sides) ↦ absurd (opposite n d m e a b p q d_up e_up second first sides.0 sides.1)
      ],
      omega (arith, ints),
    )

-- ---- a common divisor

not_moved : (n p a : ℤ) (d q b t h : ℕ) → 0 < b → p *ℤ pos d ≡ n *ℤ pos q +ℤ pos (suc h) → p *ℤ pos b ≡ a *ℤ pos q → n *ℤ pos b ≡ a *ℤ pos d +ℤ pos t → ⊥
not_moved n p a d q zero t h b_up above same under = absurd (omega arith)
not_moved n p a d q (suc b) t h b_up above same under =
    let w : up p * d + down n * q ≡ down p * d + up n * q + suc h = omega (arith, ints) in
    let s : up p * suc b + down a * q ≡ down p * suc b + up a * q = omega (arith, ints) in
    let u : up n * suc b + down a * d ≡ down n * suc b + up a * d + t = omega (arith, ints) in
    omega (arith, ap (λ z. z * suc b) w, ap (λ z. z * d) s, ap (λ z. z * q) u)

not_moved_down : (m p a : ℤ) (e q b t h : ℕ) → 0 < b → m *ℤ pos q ≡ p *ℤ pos e +ℤ pos (suc h) → p *ℤ pos b ≡ a *ℤ pos q → a *ℤ pos e ≡ m *ℤ pos b +ℤ pos t → ⊥
not_moved_down m p a e q zero t h b_up below same over = absurd (omega arith)
not_moved_down m p a e q (suc b) t h b_up below same over =
    let w : up m * q + down p * e ≡ down m * q + up p * e + suc h = omega (arith, ints) in
    let s : up p * suc b + down a * q ≡ down p * suc b + up a * q = omega (arith, ints) in
    let u : up a * e + down m * suc b ≡ down a * e + up m * suc b + t = omega (arith, ints) in
    omega (arith, ap (λ z. z * suc b) w, ap (λ z. z * e) s, ap (λ z. z * q) u)

pub below_or : (u w : ℤ) → ((t : ℕ) → u ≡ w +ℤ pos t → ⊥) → u <ℤ w
below_or u w never = by (w -ℤ u) refl
  where
    by : (z : ℤ) → z ≡ w -ℤ u → u <ℤ w
    by (pos (suc t)) e = omega (arith, ints)
    by (pos zero) e = absurd (never 0 (omega (arith, ints)))
    by (negsuc t) e = absurd (never (suc t) (omega (arith, ints)))

-- a fraction of the same value stays above n/d, and below m/e
kept_above : (n d p q a b : ℤ) → pos 0 <ℤ d → pos 0 <ℤ q → pos 0 <ℤ b → SameValue p q a b → (n *ℤ q) <ℤ (p *ℤ d) → (n *ℤ b) <ℤ (a *ℤ d)
kept_above n (negsuc d) p q a b d_up q_up b_up same less = absurd (omega (arith, ints))
kept_above n (pos d) p (negsuc q) a b d_up q_up b_up same less = absurd (omega (arith, ints))
kept_above n (pos d) p (pos q) a (negsuc b) d_up q_up b_up same less = absurd (omega (arith, ints))
kept_above n (pos d) p (pos q) a (pos b) d_up q_up b_up same less =
    let over = excess (p *ℤ pos d) (n *ℤ pos q) less in
    below_or _ _ (λ t more. not_moved n p a d q b t over.0 (omega (arith, ints)) over.1 same more)

kept_below : (m e p q a b : ℤ) → pos 0 <ℤ e → pos 0 <ℤ q → pos 0 <ℤ b → SameValue p q a b → (p *ℤ e) <ℤ (m *ℤ q) → (a *ℤ e) <ℤ (m *ℤ b)
kept_below m (negsuc e) p q a b e_up q_up b_up same less = absurd (omega (arith, ints))
kept_below m (pos e) p (negsuc q) a b e_up q_up b_up same less = absurd (omega (arith, ints))
kept_below m (pos e) p (pos q) a (negsuc b) e_up q_up b_up same less = absurd (omega (arith, ints))
kept_below m (pos e) p (pos q) a (pos b) e_up q_up b_up same less =
    let over = excess (m *ℤ pos q) (p *ℤ pos e) less in
    below_or _ _ (λ t more. not_moved_down m p a e q b t over.0 (omega (arith, ints)) over.1 same more)

between_moved : (n d m e p q a b : ℤ) → pos 0 <ℤ d → pos 0 <ℤ e → pos 0 <ℤ b → SameValue p q a b → IsBetween n d m e p q → IsBetween n d m e a b
between_moved n d m e p q a b d_up e_up b_up same is = record {
  positive = b_up;
  above = kept_above n d p q a b d_up is.positive b_up same is.above;
  below = kept_below m e p q a b e_up is.positive b_up same is.below;
}

-- ---- ends of the same values

pub between_same : (n d m e n' d' m' e' a b : ℤ) → pos 0 <ℤ d → pos 0 <ℤ e → pos 0 <ℤ d' → pos 0 <ℤ e' → SameValue n d n' d' → SameValue m e m' e' → IsBetween n d m e a b → IsBetween n' d' m' e' a b
between_same n d m e n' d' m' e' a b d_up e_up d'_up e'_up low high is = record {
  positive = is.positive;
  above = kept_below a b n d n' d' is.positive d_up d'_up low is.above;
  below = kept_above a b m e m' e' is.positive e_up e'_up high is.below;
}

pub simplest_same : (n d m e n' d' m' e' p q : ℤ) → pos 0 <ℤ d → pos 0 <ℤ e → pos 0 <ℤ d' → pos 0 <ℤ e' → SameValue n d n' d' → SameValue m e m' e' → IsSimplest n d m e p q → IsSimplest n' d' m' e' p q
simplest_same n d m e n' d' m' e' p q d_up e_up d'_up e'_up low high is = record {
  between = between_same n d m e n' d' m' e' p q d_up e_up d'_up e'_up low high is.between;
  denom = λ a b between. is.denom a b (between_same n' d' m' e' n d m e a b d'_up e'_up d_up e_up (sym low) (sym high) between);
  numer = λ a b between. is.numer a b (between_same n' d' m' e' n d m e a b d'_up e'_up d_up e_up (sym low) (sym high) between);
}

pub one_divisor : (q b : ℤ) (k : ℕ) → pos 0 <ℤ q → q ≡ b *ℤ pos k → (pos 0 <ℤ b → q ≤ℤ b) → k ≡ 1
one_divisor q (negsuc b) k q_up is most = absurd (omega (arith, ints))
one_divisor q (pos b) zero q_up is most = absurd (omega (arith, ints))
one_divisor q (pos zero) (suc k) q_up is most = absurd (omega (arith, ints))
one_divisor q (pos (suc b)) (suc zero) q_up is most = refl
one_divisor q (pos (suc b)) (suc (suc k)) q_up is most = absurd (let less = most (omega (arith, ints)) in omega (arith, ints))

pub simplest_lowest : (n d m e p q : ℤ) → pos 0 <ℤ d → pos 0 <ℤ e → IsSimplest n d m e p q → IsLowestTerms p q
simplest_lowest n d m e p q d_up e_up is = record {
  positive = is.between.positive;
  only_one = λ k over_p over_q. (
      let a = divides_multiple p (pos k) over_p in
      let b = divides_multiple q (pos k) over_q in
      one_divisor q b.0 k is.between.positive b.1 (λ b_up. is.denom a.0 b.0 (between_moved n d m e p q a.0 b.0 d_up e_up b_up (ap (λ (t : ℤ). t *ℤ b.0) a.1 ∙ mul-swap_last a.0 (pos k) b.0 ∙ sym (ap (λ (t : ℤ). a.0 *ℤ t) b.1)) is.between)));
}
