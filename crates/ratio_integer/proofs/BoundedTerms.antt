-- Lowest terms by a greatest common divisor of magnitudes, and how a bound on it shows that they do not fit.
use Rattle.std.specs.Prelude.{◌≡◌, ◌≢◌, ◌+◌, ◌*◌, ◌-◌, ◌/◌, ◌^◌, ◌<◌, ◌≤◌, ◌≤ℤ◌, ◌<ℤ◌, ◌*ℤ◌, ℕ, ℤ, zero, suc, pos, negsuc, unsigned_abs, int_div}
use Rattle.std.specs.Int.{IsGcd, Width}
use Rattle.std.proofs.Common.{refl, sym, ap, arith, inl, inr, ◌∙◌}
use Rattle.std.proofs.Math.Nat.{le_of_dvd}
use Rattle.std.proofs.lemmas.Bool.{cases_lt}
use Rattle.std.proofs.lemmas.Int.{ints, quot_fits, to_z-of_z, to_z_pos, unsigned_abs-mul}
use Rattle.std.proofs.lemmas.Nat.{div-add-mod', mul-le, pow_pos}
use mir.Val.{SFits, hbits, of_z, to_z}
use Rattle.ratio_integer.specs.Division.{IsGcdOf}
use Rattle.ratio_integer.specs.Fraction.{Fits, IsCancelledOf, IsLowestTermsOf}
use Rattle.ratio_integer.proofs.CommonDivisors.{gcd_exists}
use Rattle.ratio_integer.proofs.Halving.{times_more}
use Rattle.ratio_integer.proofs.LcmLemmas.{divisor_nonzero, exact_quotient}
use Rattle.ratio_integer.proofs.LowestTerms.{cancelled_quotients, denom_out, lowest_cancelled}
use Rattle.ratio_integer.proofs.Whole.{positive_nonzero}

-- if a * g fits the width and g is positive, then a fits it
factor_fits : (w : Width) (a g z : ℤ) → pos 0 ≤ℤ g → g ≢ pos 0 → a *ℤ g ≡ z → SFits w z → SFits w a
factor_fits w a g z sign nonzero e fits = by_divisor a g sign nonzero (rw (sym e) at fits)
  where
    grown : (x g : ℕ) → x ≤ x * suc g
    grown x g = omega arith

    by_divisor : (a g : ℤ) → pos 0 ≤ℤ g → g ≢ pos 0 → SFits w (a *ℤ g) → SFits w a
    by_divisor a (pos zero) sign nonzero fits = absurd (nonzero refl)
    by_divisor (pos x) (pos (suc g)) sign nonzero fits = let small = fits.sfits in let more = grown x g in record { sfits = omega arith }
    by_divisor (negsuc x) (pos (suc g)) sign nonzero fits =
        let product : negsuc x *ℤ pos (suc g) ≡ negsuc (x * suc g + g) = omega (arith, ints) in
        let held : SFits w (negsuc (x * suc g + g)) = rw product at fits in
        let small = held.sfits in
        let more = grown x g in
        record { sfits = omega arith }
    by_divisor a (negsuc g) sign nonzero fits = absurd (omega (arith, ints))

size_fits : (w : Width) (d : ℤ) → pos 0 <ℤ d → SFits w d → unsigned_abs d < 2 ^ hbits w
size_fits w (pos m) positive fits = let small = fits.sfits in omega arith
size_fits w (negsuc m) positive fits = absurd (omega (arith, ints))

module _ (w : Width) (n d : ℤ) (n_fits : SFits w n) (d_fits : SFits w d) (positive : pos 0 <ℤ d) where
  -- the greatest common divisor of the magnitudes fits the signed type, and is that of the numbers
  module _ (a b g : ℕ) (a-is : a ≡ unsigned_abs (to_z w (of_z w n))) (b-is : b ≡ unsigned_abs (to_z w (of_z w d))) (is : IsGcd a b g) where
    pub greatest_small : g < 2 ^ hbits w
    greatest_small =
        let size : b ≡ unsigned_abs d = b-is ∙ ap unsigned_abs (to_z-of_z w d d_fits) in
        let small = size_fits w d positive d_fits in
        let above : 0 < b = omega (arith, ints) in
        let most = le_of_dvd above is.1 in
        omega arith

    pub greatest_is : IsGcdOf (to_z w (of_z w n)) (to_z w (of_z w d)) (pos g)
    greatest_is = record { sign = omega (arith, ints); divisor = rw (sym a-is, sym b-is) is }

    -- both numbers divided by it, as the machine divides
    pub machine_quotients : IsCancelledOf (to_z w (of_z w n)) (to_z w (of_z w d)) (int_div (to_z w (of_z w n)) (to_z w g)) (int_div (to_z w (of_z w d)) (to_z w g))
    machine_quotients = cancelled_quotients _ _ (to_z w g) _ _ (rw (to_z_pos w g greatest_small) greatest_is) refl refl

    pub greatest_above : 0 < g
    greatest_above =
        let nonzero = divisor_nonzero n d (pos g) (positive_nonzero d positive) (rw (to_z-of_z w n n_fits, to_z-of_z w d d_fits) at greatest_is) in
        omega (arith, ints)

    pub numer_quotient_fits : SFits w (int_div (to_z w (of_z w n)) (to_z w g))
    numer_quotient_fits = rw (to_z-of_z w n n_fits, to_z_pos w g greatest_small) (let above = greatest_above in quot_fits w n (pos g) n_fits (omega (arith, ints)))

    pub denom_quotient_fits : SFits w (int_div (to_z w (of_z w d)) (to_z w g))
    denom_quotient_fits = rw (to_z-of_z w d d_fits, to_z_pos w g greatest_small) (let above = greatest_above in quot_fits w d (pos g) d_fits (omega (arith, ints)))

  -- if the greatest common divisor is at most the denominator over hi + 1, the lowest terms are out of range
  pub bound_refuses : (lo hi : ℤ) (k a b : ℕ) → hi ≡ pos (2 ^ k - 1) → a ≡ unsigned_abs (to_z w (of_z w n)) → b ≡ unsigned_abs (to_z w (of_z w d)) → ((g : ℕ) → IsGcd a b g → g ≤ b / 2 ^ k) → ¬ (Fits lo hi n d)
  bound_refuses lo hi k a b top a-is b-is small =
      let found : (g : ℤ) × IsGcdOf n d g = gcd_exists n d in
      let g : ℕ = unsigned_abs found.0 in
      let left : a ≡ unsigned_abs n = a-is ∙ ap unsigned_abs (to_z-of_z w n n_fits) in
      let right : b ≡ unsigned_abs d = b-is ∙ ap unsigned_abs (to_z-of_z w d d_fits) in
      let bound : g ≤ b / 2 ^ k = small g (rw (left, right) found.1.divisor) in
      let s : ℤ = int_div d found.0 in
      let cancelled : IsCancelledOf n d (int_div n found.0) s = cancelled_quotients n d found.0 (int_div n found.0) s found.1 refl refl in
      let low = lowest_cancelled n d (int_div n found.0) s positive cancelled in
      let whole : unsigned_abs s * g ≡ b = sym (unsigned_abs-mul s found.0) ∙ ap unsigned_abs (exact_quotient d found.0 found.1.divisor.1) ∙ sym right in
      let size : 2 ^ k ≤ unsigned_abs s = at_least (unsigned_abs s) g b (2 ^ k) (pow_pos k) (omega (arith, ints)) whole bound in
      let above : pos 0 <ℤ s = low.lowest.positive in
      let room : 0 < 2 ^ k = pow_pos k in
      denom_out lo hi n d (int_div n found.0) s low (λ held. let below = held.below in omega (arith, ints))
    where
      divisor_above : (s g b : ℕ) → 0 < b → s * g ≡ b → 0 < g
      divisor_above s zero b above whole = absurd (omega arith)
      divisor_above s (suc g) b above whole = omega arith

      at_least : (s g b m : ℕ) → 0 < m → 0 < b → s * g ≡ b → g ≤ b / m → m ≤ s
      at_least s g b m room above whole bound =
          let up : g * m ≤ b = (let times = mul-le g m (b / m) m bound (omega arith) in let split = div-add-mod' b m in omega arith) in
          elim (cases_lt s m) [
            | inl less ↦ absurd (let more = times_more m s g less in let some = divisor_above s g b above whole in omega arith)
            | inr fine ↦ fine
          ]

  module _ (p q : ℤ) (is : IsCancelledOf (to_z w (of_z w n)) (to_z w (of_z w d)) p q) where
    plain : IsCancelledOf n d p q
    plain = rw (to_z-of_z w n n_fits, to_z-of_z w d d_fits) at is

    pub plain_lowest : IsLowestTermsOf n d p q
    plain_lowest = lowest_cancelled n d p q positive plain

    pub numer_fits : SFits w p
    numer_fits = factor_fits w p plain.divisor n plain.greatest.sign (divisor_nonzero n d plain.divisor (positive_nonzero d positive) plain.greatest) plain.numer n_fits

    pub denom_fits : SFits w q
    denom_fits = factor_fits w q plain.divisor d plain.greatest.sign (divisor_nonzero n d plain.divisor (positive_nonzero d positive) plain.greatest) plain.denom d_fits

    pub plain_numer : to_z w (of_z w p) ≡ p
    plain_numer = to_z-of_z w p numer_fits

    pub plain_denom : to_z w (of_z w q) ≡ q
    plain_denom = to_z-of_z w q denom_fits
