-- The laws of floors, ceilings and remainders, from the values of pairs.
use Rattle.std.specs.Prelude.{◌≡◌, ◌*◌, ◌<◌, ◌<ℤ◌, ◌+ℤ◌, ◌*ℤ◌, ℤ, pos, negsuc, neg_ℤ, unsigned_abs}
use Rattle.std.specs.declared.cmp.Ordering.TheVariants.{Less}
use Rattle.std.proofs.Common.{arith, ◌∙◌}
use Rattle.std.proofs.lemmas.Int.{ints}
use Rattle.ratio_integer.specs.Fraction.{IsLowestTerms}
use Rattle.ratio_integer.proofs.Whole.{mul_positive}
use Rattle.ratio_core.specs.Order.{cross_cmp}
use Rattle.ratio_core.specs.Rounding.{IsCeiling, IsFloor}
use Rattle.ratio_core.proofs.CrossOrder.{cmp-less}
use Rattle.ratio_core.proofs.LawLemmas.{sum_by_left}
use Rattle.ratio_core.proofs.RoundingLawLemmas.{one_ceiling, one_floor, same_ceiling, same_floor}
use Rattle.num_rational.proofs.ValueLemmas.{cross_positive}
use Rattle.ratio_laws.proofs.RemainderLawLemmas.{on_its_side, small, times_plus}
use Rattle.ratio_laws.proofs.WholeNumberLemmas.{more_ceiling, more_floor, turned_floor}
use Rattle.ratio_laws.specs.BigWholeLaws.{HasCeilingOfNegative, HasRestBelow, HasRestOfSign, IsMultipleAndRest, MovesByWhole, whole_quotient}
use Rattle.ratio_laws.proofs.BigFieldLawLemmas.{once, own_terms}

-- the order of two fractions that are not below 0
below_by : (n d m e : ℤ) → pos 0 <ℤ d → pos 0 <ℤ e → unsigned_abs n * unsigned_abs e < unsigned_abs m * unsigned_abs d → cross_cmp (pos (unsigned_abs n)) d (pos (unsigned_abs m)) e ≡ Less
below_by n (pos d) m (pos e) up above less = cross_positive _ (pos d) _ (pos e) up above ∙ cmp-less (pos (unsigned_abs n * e)) (pos (unsigned_abs m * d)) (omega (arith, ints))
below_by n (negsuc d) m e up above less = absurd (omega (arith, ints))
below_by n (pos d) m (negsuc e) up above less = absurd (omega (arith, ints))

module _ (x y : ℤ × ℤ) (x_low : IsLowestTerms x.0 x.1) (y_low : IsLowestTerms y.0 y.1) where
  pub moves_floor : MovesByWhole IsFloor x y
  moves_floor sum near other whole is by by_sum =
      one_floor sum.0 sum.1 other (near +ℤ y.0) is.lowest.positive by_sum
      (same_floor (x.0 *ℤ y.1 +ℤ y.0 *ℤ x.1) (x.1 *ℤ y.1) sum.0 sum.1 (near +ℤ y.0) (mul_positive x.1 y.1 x_low.positive y_low.positive) is.lowest.positive is.same
      (more_floor x.0 x.1 y.0 y.1 near whole by))

  pub moves_ceiling : MovesByWhole IsCeiling x y
  moves_ceiling sum near other whole is by by_sum =
      one_ceiling sum.0 sum.1 other (near +ℤ y.0) is.lowest.positive by_sum
      (same_ceiling (x.0 *ℤ y.1 +ℤ y.0 *ℤ x.1) (x.1 *ℤ y.1) sum.0 sum.1 (near +ℤ y.0) (mul_positive x.1 y.1 x_low.positive y_low.positive) is.lowest.positive is.same
      (more_ceiling x.0 x.1 y.0 y.1 near whole by))

  pub is_multiple_and_rest : IsMultipleAndRest x y
  is_multiple_and_rest rest product sum is times plus =
      let q = whole_quotient x y in
      own_terms ((q.0 *ℤ y.0) *ℤ rest.1 +ℤ rest.0 *ℤ (pos 1 *ℤ y.1)) ((pos 1 *ℤ y.1) *ℤ rest.1) x sum x_low
      (rw (once y.1) (times_plus x.0 x.1 y.0 y.1 rest.0 rest.1 x_low.positive y_low.positive is.1.lowest.positive is.1.same))
      (sum_by_left (q.0 *ℤ y.0) (pos 1 *ℤ y.1) product rest sum times plus)

  pub has_rest_below : HasRestBelow x y y
  has_rest_below rest is =
      below_by rest.0 rest.1 y.0 y.1 is.1.lowest.positive y_low.positive (small x.0 x.1 y.0 y.1 rest.0 rest.1 x_low.positive y_low.positive is.1.lowest.positive is.1.same is.0)

  pub has_rest_of_sign : HasRestOfSign x y x
  has_rest_of_sign rest is = on_its_side x.0 x.1 y.0 y.1 rest.0 rest.1 x_low.positive y_low.positive is.1.lowest.positive is.1.same

pub has_ceiling_of_negative : (x : ℤ × ℤ) → pos 0 <ℤ x.1 → HasCeilingOfNegative x
has_ceiling_of_negative x up floor ceiling by by_ceiling = one_ceiling x.0 x.1 ceiling (neg_ℤ floor) up by_ceiling (turned_floor x.0 x.1 floor by)
