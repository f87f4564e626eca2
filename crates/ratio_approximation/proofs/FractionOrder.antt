-- The order of fractions with positive denominators, by their cross products, is transitive.
use Rattle.std.specs.Prelude.{◌≡◌, ◌+◌, ◌*◌, ◌≤ℤ◌, ◌<ℤ◌, ◌+ℤ◌, ◌-ℤ◌, ◌*ℤ◌, ℕ, ℤ, zero, suc, pos, negsuc}
use Rattle.std.proofs.Common.{refl, ap, arith}
use Rattle.std.proofs.lemmas.Int.{ints}
use borrow.Author.Differences.{up, down}
use Rattle.ratio_approximation.proofs.SimplestBeginning.{difference}
use Rattle.ratio_approximation.proofs.SimplestEnclosing.{excess}
use Rattle.ratio_approximation.proofs.SimplestLawLemmas.{below_or}

-- p/q is t above n/d and m/e is s above p/q, so n/e is not r above m/d unless all three are 0
no_turn : (n p m : ℤ) (d q e t s r : ℕ) → p *ℤ pos d ≡ n *ℤ pos q +ℤ pos t → m *ℤ pos q ≡ p *ℤ pos e +ℤ pos s → n *ℤ pos e ≡ m *ℤ pos d +ℤ pos r → r * q + t * e + s * d ≡ 0
no_turn n p m d q e t s r first second third =
    let a : up p * d + down n * q ≡ down p * d + up n * q + t = omega (arith, ints) in
    let b : up m * q + down p * e ≡ down m * q + up p * e + s = omega (arith, ints) in
    let c : up n * e + down m * d ≡ down n * e + up m * d + r = omega (arith, ints) in
    omega (arith, ap (λ z. z * e) a, ap (λ z. z * d) b, ap (λ z. z * q) c)

pub at_most_or : (u w : ℤ) → ((h : ℕ) → u ≡ w +ℤ pos (suc h) → ⊥) → u ≤ℤ w
at_most_or u w never = by (w -ℤ u) refl
  where
    by : (z : ℤ) → z ≡ w -ℤ u → u ≤ℤ w
    by (pos t) e = omega (arith, ints)
    by (negsuc t) e = absurd (never t (omega (arith, ints)))

module _ (n d p q m e : ℤ) (d_up : pos 0 <ℤ d) (q_up : pos 0 <ℤ q) (e_up : pos 0 <ℤ e) where
  -- n/d ≤ p/q ≤ m/e
  pub at_most_chained : (n *ℤ q) ≤ℤ (p *ℤ d) → (p *ℤ e) ≤ℤ (m *ℤ q) → (n *ℤ e) ≤ℤ (m *ℤ d)
  at_most_chained first second = by d q e d_up q_up e_up first second
    where
      by : (d q e : ℤ) → pos 0 <ℤ d → pos 0 <ℤ q → pos 0 <ℤ e → (n *ℤ q) ≤ℤ (p *ℤ d) → (p *ℤ e) ≤ℤ (m *ℤ q) → (n *ℤ e) ≤ℤ (m *ℤ d)
      by (negsuc d) q e d_up q_up e_up first second = absurd (omega (arith, ints))
      by d (negsuc q) e d_up q_up e_up first second = absurd (omega (arith, ints))
      by d q (negsuc e) d_up q_up e_up first second = absurd (omega (arith, ints))
      by d (pos zero) e d_up q_up e_up first second = absurd (omega (arith, ints))
      by (pos d) (pos (suc q)) (pos e) d_up q_up e_up first second =
          let t = difference _ _ first in
          let s = difference _ _ second in
          at_most_or _ _ (λ h over. (let none = no_turn n p m d (suc q) e t.0 s.0 (suc h) t.1 s.1 over in omega arith))

  -- n/d < p/q ≤ m/e
  pub below_then : (n *ℤ q) <ℤ (p *ℤ d) → (p *ℤ e) ≤ℤ (m *ℤ q) → (n *ℤ e) <ℤ (m *ℤ d)
  below_then first second = by d q e d_up q_up e_up first second
    where
      by : (d q e : ℤ) → pos 0 <ℤ d → pos 0 <ℤ q → pos 0 <ℤ e → (n *ℤ q) <ℤ (p *ℤ d) → (p *ℤ e) ≤ℤ (m *ℤ q) → (n *ℤ e) <ℤ (m *ℤ d)
      by (negsuc d) q e d_up q_up e_up first second = absurd (omega (arith, ints))
      by d (negsuc q) e d_up q_up e_up first second = absurd (omega (arith, ints))
      by d q (negsuc e) d_up q_up e_up first second = absurd (omega (arith, ints))
      by d q (pos zero) d_up q_up e_up first second = absurd (omega (arith, ints))
      by (pos d) (pos q) (pos (suc e)) d_up q_up e_up first second =
          let t = excess _ _ first in
          let s = difference _ _ second in
          below_or _ _ (λ r over. (let none = no_turn n p m d q (suc e) (suc t.0) s.0 r t.1 s.1 over in omega arith))

  -- n/d ≤ p/q < m/e
  pub then_below : (n *ℤ q) ≤ℤ (p *ℤ d) → (p *ℤ e) <ℤ (m *ℤ q) → (n *ℤ e) <ℤ (m *ℤ d)
  then_below first second = by d q e d_up q_up e_up first second
    where
      by : (d q e : ℤ) → pos 0 <ℤ d → pos 0 <ℤ q → pos 0 <ℤ e → (n *ℤ q) ≤ℤ (p *ℤ d) → (p *ℤ e) <ℤ (m *ℤ q) → (n *ℤ e) <ℤ (m *ℤ d)
      by (negsuc d) q e d_up q_up e_up first second = absurd (omega (arith, ints))
      by d (negsuc q) e d_up q_up e_up first second = absurd (omega (arith, ints))
      by d q (negsuc e) d_up q_up e_up first second = absurd (omega (arith, ints))
      by (pos zero) q e d_up q_up e_up first second = absurd (omega (arith, ints))
      by (pos (suc d)) (pos q) (pos e) d_up q_up e_up first second =
          let t = difference _ _ first in
          let s = excess _ _ second in
          below_or _ _ (λ r over. (let none = no_turn n p m (suc d) q e t.0 (suc s.0) r t.1 s.1 over in omega arith))
