-- The laws of 0 and 1, from the values of pairs.
use Rattle.std.specs.Prelude.{◌≡◌, ◌≢◌, ◌*ℤ◌, ℤ, pos}
use Rattle.std.specs.Int.{int_pow}
use Rattle.std.proofs.Common.{ap, arith, ◌∙◌}
use Rattle.std.proofs.lemmas.Int.{ints}
use Rattle.ratio_integer.specs.Range.{IsHeld, IsRange}
use Rattle.ratio_integer.proofs.LcmLemmas.{zero_held}
use Rattle.ratio_integer.proofs.Whole.{mul_nonzero}
use Rattle.ratio_core.proofs.CancellingLemmas.{one_held}
use Rattle.ratio_core.proofs.PowerLemmas.{int_pow-suc, int_pow-zero, pow_nonzero}
use Rattle.num_rational.specs.declared.reduced.Reduced.{Reduced}
use Rattle.num_rational.specs.Ratio.{denominator, numerator}
use Rattle.num_rational.proofs.ValueLemmas.{one_times, plus_zero, same_numbers, times_one, times_zero, zero_plus}
use Rattle.ratio_laws.specs.NeutralLaws.{HasFirstPowers, IsKeptByOne, IsKeptByZero, IsZeroTimesZero}
use Rattle.ratio_laws.proofs.ResultLemmas.{denominator_nonzero, one_value, product_nonzero}

pub one_nonzero : pos 1 ≢ pos 0
one_nonzero same = omega (arith, ints)

pub first_power : (z : ℤ) → int_pow z 1 ≡ z
first_power z = int_pow-suc z 0 ∙ ap (λ (t : ℤ). t *ℤ z) (int_pow-zero z) ∙ omega (arith, ints)

-- the numbers of x are in range
module _ {T : _} {i : _} {o : _} {e : _} {p : _} {h : _} (x : Reduced T i o e p h) (range : IsRange i.lo i.hi) (numer : IsHeld i.lo i.hi (numerator x.ratio)) (denom : IsHeld i.lo i.hi (denominator x.ratio)) where
  pub is_kept_by_zero : IsKeptByZero x
  is_kept_by_zero zero right left none told other = (
    one_value _ _ x right (product_nonzero x zero) (rw (none.0, none.1) (plus_zero (numerator x.ratio) (denominator x.ratio))) numer denom told,
    one_value _ _ x left (product_nonzero zero x) (rw (none.0, none.1) (zero_plus (numerator x.ratio) (denominator x.ratio))) numer denom other,
  )

  pub is_kept_by_one : IsKeptByOne x
  is_kept_by_one one right left quotient whole told other divided = (
    one_value _ _ x right (product_nonzero x one) (rw (whole.0, whole.1) (times_one (numerator x.ratio) (denominator x.ratio))) numer denom told,
    one_value _ _ x left (product_nonzero one x) (rw (whole.0, whole.1) (one_times (numerator x.ratio) (denominator x.ratio))) numer denom other,
    one_value _ _ x quotient (mul_nonzero _ _ (denominator_nonzero x) (rw whole.0 one_nonzero)) (rw (whole.0, whole.1) (times_one (numerator x.ratio) (denominator x.ratio))) numer denom divided,
  )

  pub is_zero_times_zero : IsZeroTimesZero x
  is_zero_times_zero zero product none told =
      one_value _ _ zero product (product_nonzero x zero)
      (rw (none.0, none.1) (times_zero (numerator x.ratio) (denominator x.ratio)))
      (zero_held i.lo i.hi (numerator zero.ratio) range none.0) (one_held i.lo i.hi (denominator zero.ratio) range none.1) told

  pub has_first_powers : HasFirstPowers x
  has_first_powers one first zeroth whole told other = (
    one_value _ _ x first (pow_nonzero (denominator x.ratio) 1 (denominator_nonzero x))
        (same_numbers _ _ _ _ (first_power (numerator x.ratio)) (first_power (denominator x.ratio))) numer denom told,
    one_value _ _ one zeroth (pow_nonzero (denominator x.ratio) 0 (denominator_nonzero x))
        (rw (whole.0, whole.1) (same_numbers _ _ _ _ (int_pow-zero (numerator x.ratio)) (int_pow-zero (denominator x.ratio))))
        (one_held i.lo i.hi (numerator one.ratio) range whole.0) (one_held i.lo i.hi (denominator one.ratio) range whole.1) other,
  )
