-- Results of `Reduced` from values: calls whose unreduced results have one value return one result.
use Rattle.std.specs.Prelude.{◌≢◌, ◌*ℤ◌, ℤ, pos, Option, None, Some}
use Rattle.ratio_integer.specs.Fraction.{SameValue}
use Rattle.ratio_integer.specs.Range.{IsHeld}
use Rattle.ratio_integer.specs.SignedBits.{greatest64, least64}
use Rattle.ratio_integer.specs.contracts.signed_types.I64Integer.TheImpl.{ghosts}
use Rattle.ratio_integer.proofs.LowestTerms.{checks_lowest_moved, lowest_unique}
use Rattle.ratio_integer.proofs.Whole.{mul_nonzero, positive_nonzero}
use Rattle.ratio_core.proofs.NumbersExist.{fits_decided}
use Rattle.num_rational.specs.declared.reduced.Reduced.{Reduced}
use Rattle.num_rational.specs.Ratio.{ChecksRatio, denominator, numerator}
use Rattle.num_rational.specs.Reduced.{ratio_in}
use Rattle.ratio_laws.specs.ReducedLaws.{AnswersSum, AreOneAnswer}

pub denominator_nonzero : {T : _} {i : _} {o : _} {e : _} {p : _} {h : _} → (x : Reduced T i o e p h) → denominator x.ratio ≢ pos 0
denominator_nonzero x = positive_nonzero (denominator x.ratio) x.lowest.positive

pub product_nonzero : {T : _} {i : _} {o : _} {e : _} {p : _} {h : _} → (x y : Reduced T i o e p h) → denominator x.ratio *ℤ denominator y.ratio ≢ pos 0
product_nonzero x y = mul_nonzero (denominator x.ratio) (denominator y.ratio) (denominator_nonzero x) (denominator_nonzero y)

-- two results for the lowest terms of one pair are one result
pub same_answers : {T : _} {i : _} {o : _} {e : _} {p : _} {h : _} → (n d : ℤ) (first second : Option (Reduced T i o e p h))
    → ChecksRatio (n, d) (ratio_in first) → ChecksRatio (n, d) (ratio_in second) → AreOneAnswer first second
same_answers n d None None out other = tt
same_answers n d (Some a) (Some b) told other = lowest_unique n d _ _ _ _ told.terms other.terms
same_answers n d None (Some b) out told = out (record { numer = numerator b.ratio; denom = denominator b.ratio; low = told })
same_answers n d (Some a) None told out = out (record { numer = numerator a.ratio; denom = denominator a.ratio; low = told })

-- so are two results for pairs of one value
pub one_result : {T : _} {i : _} {o : _} {e : _} {p : _} {h : _} → (n d m b : ℤ) (first second : Option (Reduced T i o e p h))
    → d ≢ pos 0 → b ≢ pos 0 → SameValue m b n d → ChecksRatio (n, d) (ratio_in first) → ChecksRatio (m, b) (ratio_in second) → AreOneAnswer first second
one_result {i = i} n d m b first second d_nonzero b_nonzero same told other =
    same_answers m b first second (checks_lowest_moved numerator denominator i.lo i.hi n d m b (ratio_in first) d_nonzero b_nonzero same told) other

-- so are they if one denominator is 0 exactly if the other is
pub one_result_if_any : {T : _} {i : _} {o : _} {e : _} {p : _} {h : _} → (n d m b : ℤ) (first second : Option (Reduced T i o e p h))
    → (d ≢ pos 0 → b ≢ pos 0) → (b ≢ pos 0 → d ≢ pos 0) → SameValue m b n d → ChecksRatio (n, d) (ratio_in first) → ChecksRatio (m, b) (ratio_in second) → AreOneAnswer first second
one_result_if_any n d m b None None there back same told other = tt
one_result_if_any n d m b (Some a) second there back same told other = one_result n d m b (Some a) second told.terms.fraction (there told.terms.fraction) same told other
one_result_if_any n d m b None (Some c) there back same told other = one_result n d m b None (Some c) (back other.terms.fraction) other.terms.fraction same told other

-- if a pair has the value of z, whose numbers are in range, its result is `Some` of z
pub one_value : {T : _} {i : _} {o : _} {e : _} {p : _} {h : _} → (n d : ℤ) (z : Reduced T i o e p h) (answer : Option (Reduced T i o e p h))
    → d ≢ pos 0 → SameValue n d (numerator z.ratio) (denominator z.ratio)
    → IsHeld i.lo i.hi (numerator z.ratio) → IsHeld i.lo i.hi (denominator z.ratio) → ChecksRatio (n, d) (ratio_in answer) → AreOneAnswer answer (Some z)
one_value n d z answer nonzero same numer denom told =
    same_answers n d answer (Some z) told (record { terms = record { fraction = nonzero; same = same; lowest = z.lowest }; numer_held = numer; denom_held = denom })

-- if x + y over `i64` returns nothing but z, it returns z: a sum that fits is a fraction of the type
pub sum_known : {o : _} {e : _} {p : _} {h : _} (x y z : Reduced ℤ ghosts o e p h) → ((r : Option (Reduced ℤ ghosts o e p h)) → AnswersSum x y r → AreOneAnswer r (Some z)) → AnswersSum x y (Some z)
sum_known x y z law =
    elim (fits_decided least64 greatest64 _ _) [
      | no out ↦ absurd (law None out)
      | yes fits ↦ let same = law (Some (record { ratio = record { numer = fits.numer; denom = fits.denom; nonzero = positive_nonzero _ fits.low.terms.lowest.positive }; lowest = fits.low.terms.lowest })) fits.low in
          rw (← same.0, ← same.1) fits.low
    ]
