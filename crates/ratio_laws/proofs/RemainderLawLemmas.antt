-- The laws of remainders, from the values of pairs.
use Rattle.std.specs.Prelude.{◌≡◌, ◌≢◌, ◌*◌, ◌<◌, ◌≤ℤ◌, ◌<ℤ◌, ◌+ℤ◌, ◌-ℤ◌, ◌*ℤ◌, ℕ, ℤ, Bool, true, false, zero, suc, pos, negsuc, unsigned_abs, int_div, int_rem}
use Rattle.std.proofs.Common.{sym, ap, arith, ◌∙◌}
use Rattle.std.proofs.Math.Nat.{lt_of_mul-lt-mul_right, mul-lt-mul_of_pos_right}
use Rattle.std.proofs.lemmas.Int.{ints, quot-rem, rem_below, unsigned_abs-mul}
use lib.IntN.{*ℤ_comm, zero-*ℤ}
use Rattle.ratio_integer.specs.Fraction.{SameValue}
use Rattle.ratio_integer.proofs.DivisionLemmas.{abs_pos, multiple-rem}
use Rattle.ratio_integer.proofs.Whole.{add-mul, mul_assoc, mul_nonzero, mul_positive, positive_nonzero, sub-mul, unsigned_abs-products}
use Rattle.ratio_core.specs.Conditions.{RemainderCondition}
use Rattle.ratio_core.proofs.ProductOrder.{times_le}
use Rattle.ratio_core.proofs.RemainderLemmas.{rest_is}
use Rattle.ratio_core.proofs.RoundingLawLemmas.{side_down, side_up}
use Rattle.num_rational.specs.declared.reduced.Reduced.{Reduced}
use Rattle.num_rational.specs.Ratio.{denominator, numerator}
use Rattle.num_rational.proofs.ValueLemmas.{factors_turned}
use Rattle.ratio_laws.specs.RemainderLaws.{HasRestOnItsSide, HasSmallerRest, IsQuotientAndRest}

-- ---- the remainder of whole numbers

rest_up : (z w : ℤ) → pos 0 ≤ℤ z → pos 0 ≤ℤ int_rem z w
rest_up (pos a) w h = omega (arith, ints)
rest_up (negsuc a) w h = absurd (omega (arith, ints))

rest_down : (z w : ℤ) → z ≤ℤ pos 0 → int_rem z w ≤ℤ pos 0
rest_down (pos zero) w h = let none : int_rem (pos 0) w ≡ pos 0 = (multiple-rem (pos 0) w).0 (pos 0, sym (zero-*ℤ w)) in omega (arith, ints)
rest_down (pos (suc a)) w h = absurd (omega (arith, ints))
rest_down (negsuc a) w h = omega (arith, ints)

-- ---- a/b by c/d leaves p/q

divisor_nonzero : (exact : Bool) (lo hi a b c d : ℤ) → RemainderCondition exact lo hi a b c d → c ≢ pos 0
divisor_nonzero true lo hi a b c d can = can.0
divisor_nonzero false lo hi a b c d can = can.divisor

smaller : (u q m b d c : ℕ) → 0 < q → u < b * c → u * q ≡ m * (b * d) → m * d < c * q
smaller u q m b d c up less same =
    let more : u * q < (b * c) * q = mul-lt-mul_of_pos_right less up in
    let most : (m * d) * b < (c * q) * b = omega arith in
    lt_of_mul-lt-mul_right b most

module _ (a b c d p q : ℤ) (b_up : pos 0 <ℤ b) (d_up : pos 0 <ℤ d) (q_up : pos 0 <ℤ q) (same : SameValue (a *ℤ d -ℤ int_div (a *ℤ d) (b *ℤ c) *ℤ (c *ℤ b)) (b *ℤ d) p q) where
  rest : a *ℤ d -ℤ int_div (a *ℤ d) (b *ℤ c) *ℤ (c *ℤ b) ≡ int_rem (a *ℤ d) (b *ℤ c)
  rest =
      ap (λ (t : ℤ). a *ℤ d -ℤ int_div (a *ℤ d) (b *ℤ c) *ℤ t) (*ℤ_comm c b)
      ∙ sym (rest_is (a *ℤ d) (b *ℤ c) (int_div (a *ℤ d) (b *ℤ c)) (int_rem (a *ℤ d) (b *ℤ c)) (quot-rem (a *ℤ d) (b *ℤ c)))

  pub times_plus : SameValue ((int_div (a *ℤ d) (b *ℤ c) *ℤ c) *ℤ q +ℤ p *ℤ d) (d *ℤ q) a b
  times_plus =
      let t = int_div (a *ℤ d) (b *ℤ c) in
      let first = add-mul ((t *ℤ c) *ℤ q) (p *ℤ d) b in
      let second = factors_turned t c q b in
      let third : (p *ℤ d) *ℤ b ≡ p *ℤ (b *ℤ d) = mul_assoc p d b ∙ ap (λ (z : ℤ). p *ℤ z) (*ℤ_comm d b) in
      let fourth = sub-mul (a *ℤ d) (t *ℤ (c *ℤ b)) q in
      let fifth = mul_assoc a d q in
      omega (arith, ints, same)

  pub small : c ≢ pos 0 → unsigned_abs p * unsigned_abs d < unsigned_abs c * unsigned_abs q
  small nonzero =
      smaller (unsigned_abs (a *ℤ d -ℤ int_div (a *ℤ d) (b *ℤ c) *ℤ (c *ℤ b))) (unsigned_abs q) (unsigned_abs p) (unsigned_abs b) (unsigned_abs d) (unsigned_abs c)
      (abs_pos q (positive_nonzero q q_up))
      (rw (rest, ← unsigned_abs-mul b c) (rem_below (a *ℤ d) (b *ℤ c) (abs_pos (b *ℤ c) (mul_nonzero b c (positive_nonzero b b_up) nonzero))))
      (unsigned_abs-products (a *ℤ d -ℤ int_div (a *ℤ d) (b *ℤ c) *ℤ (c *ℤ b)) q p (b *ℤ d) same ∙ ap (λ k. unsigned_abs p * k) (unsigned_abs-mul b d))

  pub on_its_side : (pos 0 ≤ℤ a → pos 0 ≤ℤ p) × (a ≤ℤ pos 0 → p ≤ℤ pos 0)
  on_its_side = (
    (λ h. side_up _ (b *ℤ d) p q (mul_positive b d b_up d_up) q_up same (rw rest (rest_up (a *ℤ d) (b *ℤ c) (let t = times_le (pos 0) a d h (omega (arith, ints)) in omega (arith, ints, zero-*ℤ d))))),
    (λ h. side_down _ (b *ℤ d) p q (mul_positive b d b_up d_up) q_up same (rw rest (rest_down (a *ℤ d) (b *ℤ c) (let t = times_le a (pos 0) d h (omega (arith, ints)) in omega (arith, ints, zero-*ℤ d))))),
  )

-- ---- the laws

module _ {T : _} {i : _} {o : _} {e : _} {p : _} {h : _} (x y : Reduced T i o e p h) where
  pub is_quotient_and_rest : IsQuotientAndRest x y
  is_quotient_and_rest r told =
      times_plus (numerator x.ratio) (denominator x.ratio) (numerator y.ratio) (denominator y.ratio) (numerator r.ratio) (denominator r.ratio)
      x.lowest.positive y.lowest.positive r.lowest.positive told.1.terms.same

  pub has_smaller_rest : HasSmallerRest x y
  has_smaller_rest r told =
      small (numerator x.ratio) (denominator x.ratio) (numerator y.ratio) (denominator y.ratio) (numerator r.ratio) (denominator r.ratio)
      x.lowest.positive y.lowest.positive r.lowest.positive told.1.terms.same
      (divisor_nonzero i.EXACT_REMAINDERS i.lo i.hi (numerator x.ratio) (denominator x.ratio) (numerator y.ratio) (denominator y.ratio) told.0)

  pub has_rest_on_its_side : HasRestOnItsSide x y
  has_rest_on_its_side r told =
      on_its_side (numerator x.ratio) (denominator x.ratio) (numerator y.ratio) (denominator y.ratio) (numerator r.ratio) (denominator r.ratio)
      x.lowest.positive y.lowest.positive r.lowest.positive told.1.terms.same
