-- The laws of powers, from the values of pairs.
use Rattle.std.specs.Prelude.{◌≡◌, ◌*ℤ◌, ℤ, pos, negsuc, neg_ℤ, None, Some}
use Rattle.std.proofs.Common.{refl, sym, arith}
use Rattle.std.proofs.lemmas.Int.{ints}
use Rattle.ratio_integer.specs.Fraction.{IsLowestTerms}
use Rattle.ratio_integer.proofs.LowestTerms.{over_one, same_value_chained, same_value_products}
use Rattle.ratio_integer.proofs.Whole.{mul_nonzero, positive_nonzero}
use Rattle.ratio_core.specs.Laws.{IsProduct}
use Rattle.ratio_core.specs.Power.{power_of}
use Rattle.ratio_core.proofs.PowerLawLemmas.{pairs_add}
use Rattle.ratio_core.proofs.PowerLemmas.{int_pow-zero, zero_pow}
use Rattle.num_rational.proofs.ValueLemmas.{same_numbers, same_value_flipped}
use Rattle.ratio_laws.proofs.NeutralLemmas.{first_power}
use Rattle.ratio_laws.proofs.PowerLawLemmas.{of_one_pair, power_of_power, power_of_product, same_value_powers, turned_power}
use Rattle.ratio_laws.specs.BigPowerLaws.{HasSmallPowers, IsRefusedByNoPower, SplitsExponentProduct, SplitsExponentSum, SplitsPower, TurnsPower}
use Rattle.ratio_laws.proofs.BigFieldLawLemmas.{once, one_terms, own_terms}

module _ (x : ℤ × ℤ) (lowest : IsLowestTerms x.0 x.1) where
  pub has_small_powers : HasSmallPowers x
  has_small_powers first zeroth is other = (
    own_terms _ _ x first lowest (same_numbers _ _ _ _ (first_power x.0) (first_power x.1)) is,
    own_terms _ _ (pos 1, pos 1) zeroth (over_one (pos 1) (pos 1) refl) (same_numbers _ _ _ _ (int_pow-zero x.0) (int_pow-zero x.1)) other,
  )

  pub splits_exponent_sum : SplitsExponentSum x
  splits_exponent_sum e f whole left right product is first second times =
      let a = power_of x.0 x.1 e in
      let b = power_of x.0 x.1 f in
      sym (one_terms _ _ _ _ product whole
      (same_value_chained _ _ (a.0 *ℤ b.0) (a.1 *ℤ b.1) _ _ (mul_nonzero a.1 b.1 first.fraction second.fraction)
      (same_value_products left.0 left.1 right.0 right.1 a.0 a.1 b.0 b.1 (sym first.same) (sym second.same))
      (pairs_add x.0 x.1 e f (positive_nonzero x.1 lowest.positive) first.fraction second.fraction).same) times is)

  pub is_refused_by_no_power : IsRefusedByNoPower x
  is_refused_by_no_power exponent None none = (λ _. none, λ _. refl)
  is_refused_by_no_power (pos m) (Some power) is = (
    (λ same. let never : Some power ≡ None = same in cc),
    (λ none. absurd (let below = none.below in omega (arith, ints))),
  )
  is_refused_by_no_power (negsuc k) (Some power) is = (
    (λ same. let never : Some power ≡ None = same in cc),
    (λ none. absurd (is.fraction (zero_pow x.0 k none.zero))),
  )

pub splits_exponent_product : (x : ℤ × ℤ) → SplitsExponentProduct x
splits_exponent_product x e f once power twice is first second =
    let w = power_of x.0 x.1 e in
    let one = power_of_power x.0 x.1 e f in
    one_terms _ _ _ _ once twice
    (of_one_pair (power_of x.0 x.1 (e *ℤ f)) (power_of w.0 w.1 f) (power_of power.0 power.1 f) (sym one.0, sym one.1) (same_value_powers w.0 w.1 power.0 power.1 f first.same)) is second

pub splits_power : (x y : ℤ × ℤ) → SplitsPower IsProduct x y
splits_power x y exponent product power left right other is first second third times =
    let u = power_of x.0 x.1 exponent in
    let v = power_of y.0 y.1 exponent in
    let one = power_of_product x.0 x.1 y.0 y.1 exponent in
    sym (one_terms _ _ _ _ other power
    (same_value_chained _ _ (u.0 *ℤ v.0) (u.1 *ℤ v.1) _ _ (mul_nonzero u.1 v.1 second.fraction third.fraction)
    (same_value_products left.0 left.1 right.0 right.1 u.0 u.1 v.0 v.1 (sym second.same) (sym third.same))
    (of_one_pair (u.0 *ℤ v.0, u.1 *ℤ v.1) (power_of (x.0 *ℤ y.0) (x.1 *ℤ y.1) exponent) (power_of product.0 product.1 exponent) (sym one.0, sym one.1)
    (same_value_powers (x.0 *ℤ y.0) (x.1 *ℤ y.1) product.0 product.1 exponent is.same))) times first)

pub turns_power : (x : ℤ × ℤ) → TurnsPower x
turns_power x exponent power reciprocal negative is turned other =
    let w = power_of x.0 x.1 exponent in
    let n = power_of x.0 x.1 (neg_ℤ exponent) in
    let flipped = of_one_pair n (w.1, w.0) (power.1, power.0) (turned_power x.0 x.1 exponent) (same_value_flipped w.0 w.1 power.0 power.1 is.same) in
    one_terms n.0 n.1 (pos 1 *ℤ power.1) (pos 1 *ℤ power.0) negative reciprocal (rw (once power.1, once power.0) flipped) other turned
