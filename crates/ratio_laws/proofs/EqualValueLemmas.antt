-- Equal fractions have equal results.
use Rattle.std.specs.Prelude.{◌≡◌, ◌≢◌, ◌*ℤ◌, ℤ, pos, Bool, true, Option, None, Some}
use Rattle.std.proofs.Common.{sym, ap, subst, arith, ◌∙◌}
use Rattle.std.proofs.lemmas.Int.{ints}
use Rattle.ratio_integer.specs.Arithmetic.{difference_of, sum_of}
use Rattle.ratio_integer.specs.Fraction.{AnswersLowest, Fits, SameValue}
use Rattle.ratio_integer.proofs.LowestTerms.{checks_lowest_moved, lowest_unique, same_value_products}
use Rattle.ratio_integer.proofs.Whole.{mul_nonzero}
use Rattle.ratio_core.specs.Conditions.{DifferenceCondition, SumCondition}
use Rattle.ratio_core.proofs.LawLemmas.{same_value_sums}
use Rattle.ratio_approximation.proofs.NearestLawLemmas.{nearest_moved, nearest_unique}
use Rattle.num_rational.specs.declared.ratio.Ratio.{Ratio}
use Rattle.num_rational.specs.Operators.{ChecksDifference, ChecksSum, numbers}
use Rattle.num_rational.specs.Ratio.{ChecksRatio, denominator, numerator}
use Rattle.num_rational.proofs.ValueLemmas.{numer_nonzero, same_value_differences, same_value_quotients}
use Rattle.ratio_laws.specs.ValueLaws.{AddsByValue, AreOneResult, DividesByValue, IsNearestByValue, MultipliesByValue, SubtractsByValue}

-- ---- one result

same_results : {T : _} {i : _} {o : _} {e : _} {p : _} {h : _} → (n d : ℤ) (first second : Option (Ratio T i o e p h)) → ChecksRatio (n, d) first → ChecksRatio (n, d) second → AreOneResult first second
same_results n d None None out other = tt
same_results n d (Some a) (Some b) told other = lowest_unique n d _ _ _ _ told.terms other.terms
same_results n d None (Some b) out told = out (record { numer = numerator b; denom = denominator b; low = told })
same_results n d (Some a) None told out = out (record { numer = numerator a; denom = denominator a; low = told })

-- two results for pairs of one value are one
equal_results : {T : _} {i : _} {o : _} {e : _} {p : _} {h : _} → (n d m b : ℤ) (first second : Option (Ratio T i o e p h))
    → d ≢ pos 0 → b ≢ pos 0 → SameValue m b n d → ChecksRatio (n, d) first → ChecksRatio (m, b) second → AreOneResult first second
equal_results {i = i} n d m b first second d_nonzero b_nonzero same told other =
    same_results m b first second (checks_lowest_moved numerator denominator i.lo i.hi n d m b first d_nonzero b_nonzero same told) other

-- so are they if one denominator is 0 exactly if the other is
equal_results_if_any : {T : _} {i : _} {o : _} {e : _} {p : _} {h : _} → (n d m b : ℤ) (first second : Option (Ratio T i o e p h))
    → (d ≢ pos 0 → b ≢ pos 0) → (b ≢ pos 0 → d ≢ pos 0) → SameValue m b n d → ChecksRatio (n, d) first → ChecksRatio (m, b) second → AreOneResult first second
equal_results_if_any n d m b None None there back same told other = tt
equal_results_if_any n d m b (Some a) second there back same told other = equal_results n d m b (Some a) second told.terms.fraction (there told.terms.fraction) same told other
equal_results_if_any n d m b None (Some c) there back same told other = equal_results n d m b None (Some c) (back other.terms.fraction) other.terms.fraction same told other

-- over a type of exact sums, a sum is the lowest terms exactly if these fit
when_fits : {T : _} {i : _} {o : _} {e : _} {p : _} {h : _} → (x : ℤ × ℤ) (r : Option (Ratio T i o e p h)) → AnswersLowest numerator denominator i.lo i.hi (Fits i.lo i.hi x.0 x.1) x r → ChecksRatio x r
when_fits x None out = out
when_fits x (Some r) told = told.1

sum_when_fits : {T : _} {i : _} {o : _} {e : _} {p : _} {h : _} → (x y : ℤ × ℤ) (r : Option (Ratio T i o e p h)) → i.EXACT_SUMS ≡ true → ChecksSum x y r → ChecksRatio (sum_of x.0 x.1 y.0 y.1) r
sum_when_fits {i = i} x y r exact told =
    when_fits (sum_of x.0 x.1 y.0 y.1) r (subst (λ (b : Bool). AnswersLowest numerator denominator i.lo i.hi (SumCondition b i.lo i.hi x.0 x.1 y.0 y.1) (sum_of x.0 x.1 y.0 y.1) r) exact told)

difference_when_fits : {T : _} {i : _} {o : _} {e : _} {p : _} {h : _} → (x y : ℤ × ℤ) (r : Option (Ratio T i o e p h)) → i.EXACT_SUMS ≡ true → ChecksDifference x y r → ChecksRatio (difference_of x.0 x.1 y.0 y.1) r
difference_when_fits {i = i} x y r exact told =
    when_fits (difference_of x.0 x.1 y.0 y.1) r (subst (λ (b : Bool). AnswersLowest numerator denominator i.lo i.hi (DifferenceCondition b i.lo i.hi x.0 x.1 y.0 y.1) (difference_of x.0 x.1 y.0 y.1) r) exact told)

pub right_nonzero : (b d : ℤ) → b *ℤ d ≢ pos 0 → d ≢ pos 0
right_nonzero b d nonzero e = nonzero (ap (λ (t : ℤ). b *ℤ t) e ∙ omega (arith, ints))

-- ---- the laws

module _ {T : _} {i : _} {o : _} {e : _} {p : _} {h : _} (x y u v : Ratio T i o e p h) where
  both_nonzero : denominator u *ℤ denominator v ≢ pos 0
  both_nonzero = mul_nonzero (denominator u) (denominator v) u.nonzero v.nonzero

  own_nonzero : denominator x *ℤ denominator y ≢ pos 0
  own_nonzero = mul_nonzero (denominator x) (denominator y) x.nonzero y.nonzero

  pub multiplies_by_value : MultipliesByValue x y u v
  multiplies_by_value first second left right told other =
      equal_results _ _ _ _ first second own_nonzero both_nonzero
      (same_value_products (numerator u) (denominator u) (numerator v) (denominator v) (numerator x) (denominator x) (numerator y) (denominator y) (sym left) (sym right))
      told other

  pub divides_by_value : DividesByValue x y u v
  divides_by_value first second left right told other =
      equal_results_if_any _ _ _ _ first second
      (λ exists. mul_nonzero (denominator u) (numerator v) u.nonzero (numer_nonzero (numerator y) (denominator y) (numerator v) (denominator v) v.nonzero right (right_nonzero (denominator x) (numerator y) exists)))
      (λ exists. mul_nonzero (denominator x) (numerator y) x.nonzero (numer_nonzero (numerator v) (denominator v) (numerator y) (denominator y) y.nonzero (sym right) (right_nonzero (denominator u) (numerator v) exists)))
      (same_value_quotients (numerator u) (denominator u) (numerator v) (denominator v) (numerator x) (denominator x) (numerator y) (denominator y) (sym left) (sym right))
      told other

  pub adds_by_value : AddsByValue x y u v
  adds_by_value first second exact left right told other =
      equal_results _ _ _ _ first second own_nonzero both_nonzero
      (same_value_sums (numerator u) (denominator u) (numerator v) (denominator v) (numerator x) (denominator x) (numerator y) (denominator y) (sym left) (sym right))
      (sum_when_fits (numbers x) (numbers y) first exact told) (sum_when_fits (numbers u) (numbers v) second exact other)

  pub subtracts_by_value : SubtractsByValue x y u v
  subtracts_by_value first second exact left right told other =
      equal_results _ _ _ _ first second own_nonzero both_nonzero
      (same_value_differences (numerator u) (denominator u) (numerator v) (denominator v) (numerator x) (denominator x) (numerator y) (denominator y) (sym left) (sym right))
      (difference_when_fits (numbers x) (numbers y) first exact told) (difference_when_fits (numbers u) (numbers v) second exact other)

pub is_nearest_by_value : {T : _} {i : _} {o : _} {e : _} {p : _} {h : _} → (x u : Ratio T i o e p h) → IsNearestByValue x u
is_nearest_by_value x u most first second up above same told other =
    nearest_unique (numerator u) (denominator u) most (numerator first) (denominator first) (numerator second) (denominator second)
    (nearest_moved (numerator x) (denominator x) (numerator u) (denominator u) most (numerator first) (denominator first) up above same told) other
