-- The greatest common divisor and the least common multiple of two fractions depend only on their values.
use Rattle.std.specs.Prelude.{◌≢◌, ◌*ℤ◌, ℤ, pos, Option, None, Some}
use Rattle.std.proofs.Common.{ap, sym, ◌∙◌}
use Rattle.ratio_integer.specs.Fraction.{IsLowestTermsOf, SameValue}
use Rattle.ratio_integer.proofs.LowestTerms.{same_value_chained}
use Rattle.ratio_integer.proofs.Whole.{mul_assoc, positive_nonzero}
use Rattle.ratio_core.specs.Divisors.{ChecksPair, DividesFraction, IsGcdOfFractions, IsLcmOfFractions}

-- what divides p/q divides a/b of the same value
divides_moved : (u v a b p q : ℤ) → q ≢ pos 0 → SameValue a b p q → DividesFraction u v p q → DividesFraction u v a b
divides_moved u v a b p q fraction same divides = (divides.0, same_value_chained a b p q (divides.0 *ℤ u) v fraction same divides.1)

-- what p/q divides, a/b of the same value divides
divided_moved : (u v a b p q : ℤ) → q ≢ pos 0 → SameValue a b p q → DividesFraction p q u v → DividesFraction a b u v
divided_moved u v a b p q fraction same divides =
    let k = divides.0 in
    let times : SameValue (k *ℤ p) q (k *ℤ a) b = mul_assoc k p b ∙ ap (λ (z : ℤ). k *ℤ z) (sym same) ∙ sym (mul_assoc k a q) in
    (k, same_value_chained u v (k *ℤ p) q (k *ℤ a) b fraction divides.1 times)

-- p/q and s/t have the values of a/b and c/d
module _ (a b c d p q s t : ℤ) (b_some : b ≢ pos 0) (d_some : d ≢ pos 0) (q_some : q ≢ pos 0) (t_some : t ≢ pos 0) (left : SameValue a b p q) (right : SameValue c d s t) where
  pub gcd_moved : (g h : ℤ) → IsGcdOfFractions p q s t g h → IsGcdOfFractions a b c d g h
  gcd_moved g h is = record {
    lowest = is.lowest;
    sign = is.sign;
    first = divides_moved g h a b p q q_some left is.first;
    second = divides_moved g h c d s t t_some right is.second;
    greatest = λ u v some first second. is.greatest u v some (divides_moved u v p q a b b_some (sym left) first) (divides_moved u v s t c d d_some (sym right) second);
  }

  pub lcm_moved : (l m : ℤ) → IsLcmOfFractions p q s t l m → IsLcmOfFractions a b c d l m
  lcm_moved l m is = record {
    lowest = is.lowest;
    sign = is.sign;
    first = divided_moved l m a b p q q_some left is.first;
    second = divided_moved l m c d s t t_some right is.second;
    least = λ u v some first second. is.least u v some (divided_moved u v p q a b b_some (sym left) first) (divided_moved u v s t c d d_some (sym right) second);
  }

-- two properties that hold of the same pairs
checks_pair_moved : {R : Type 0} (first second : R → ℤ) (lo hi : ℤ) (P Q : ℤ → ℤ → Type 0) (r : Option R) → ((n m : ℤ) → P n m → Q n m) → ((n m : ℤ) → Q n m → P n m)
    → ChecksPair first second lo hi P r → ChecksPair first second lo hi Q r
checks_pair_moved first second lo hi P Q None to back out = λ has. out (record {
  first = has.first;
  second = has.second;
  held = record { pair = back has.first has.second has.held.pair; first_held = has.held.first_held; second_held = has.held.second_held };
})
checks_pair_moved first second lo hi P Q (Some x) to back is =
    record { pair = to (first x) (second x) is.pair; first_held = is.first_held; second_held = is.second_held }

-- p/q and s/t are the lowest terms of a/b and c/d
module _ {R : Type 0} (first second : R → ℤ) (lo hi a b c d p q s t : ℤ) (r : Option R) (left : IsLowestTermsOf a b p q) (right : IsLowestTermsOf c d s t) where
  q_some : q ≢ pos 0
  q_some = positive_nonzero q left.lowest.positive

  t_some : t ≢ pos 0
  t_some = positive_nonzero t right.lowest.positive

  pub gcd_checked : ChecksPair first second lo hi (IsGcdOfFractions p q s t) r → ChecksPair first second lo hi (IsGcdOfFractions a b c d) r
  gcd_checked = checks_pair_moved first second lo hi _ _ r
      (gcd_moved a b c d p q s t left.fraction right.fraction q_some t_some left.same right.same)
      (gcd_moved p q s t a b c d q_some t_some left.fraction right.fraction (sym left.same) (sym right.same))

  pub lcm_checked : ChecksPair first second lo hi (IsLcmOfFractions p q s t) r → ChecksPair first second lo hi (IsLcmOfFractions a b c d) r
  lcm_checked = checks_pair_moved first second lo hi _ _ r
      (lcm_moved a b c d p q s t left.fraction right.fraction q_some t_some left.same right.same)
      (lcm_moved p q s t a b c d q_some t_some left.fraction right.fraction (sym left.same) (sym right.same))
