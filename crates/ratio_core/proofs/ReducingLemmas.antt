-- Sums and differences of fractions are those of their lowest terms.
use Rattle.std.specs.Prelude.{◌<ℤ◌, ◌+ℤ◌, ◌-ℤ◌, ◌*ℤ◌, ℤ, pos, neg_ℤ, Option}
use Rattle.std.proofs.Common.{sym, ap, ◌∙◌}
use Rattle.ratio_integer.specs.Arithmetic.{difference_of, sum_of}
use Rattle.ratio_integer.specs.Fraction.{ChecksLowest, IsHeldLowest, SameValue}
use Rattle.ratio_integer.proofs.LowestTerms.{checks_lowest_moved}
use Rattle.ratio_integer.proofs.Whole.{mul_nonzero, neg-mul, positive_nonzero}
use Rattle.ratio_core.proofs.LawLemmas.{same_value_sums}
use Rattle.ratio_core.proofs.MixedLemmas.{difference_turned}

same_value_differences : (a b c d p q s t : ℤ) → SameValue a b p q → SameValue c d s t → SameValue (a *ℤ d -ℤ c *ℤ b) (b *ℤ d) (p *ℤ t -ℤ s *ℤ q) (q *ℤ t)
same_value_differences a b c d p q s t left right =
    let turned : SameValue (neg_ℤ c) d (neg_ℤ s) t = neg-mul c t ∙ ap neg_ℤ right ∙ sym (neg-mul s d) in
    let summed = same_value_sums a b (neg_ℤ c) d p q (neg_ℤ s) t left turned in
    rw (difference_turned a b c d, difference_turned p q s t) at summed

module _ {R : Type 0} (numer denom : R → ℤ) (lo hi a b c d n m p q : ℤ) (r : Option R)
    (left_positive : pos 0 <ℤ b) (right_positive : pos 0 <ℤ d) (left : IsHeldLowest lo hi a b n m) (right : IsHeldLowest lo hi c d p q) where
  pub sum_of_lowest : ChecksLowest numer denom lo hi (sum_of n m p q) r → ChecksLowest numer denom lo hi (sum_of a b c d) r
  sum_of_lowest = checks_lowest_moved numer denom lo hi (n *ℤ q +ℤ p *ℤ m) (m *ℤ q) (a *ℤ d +ℤ c *ℤ b) (b *ℤ d) r
      (mul_nonzero m q (positive_nonzero m left.terms.lowest.positive) (positive_nonzero q right.terms.lowest.positive))
      (mul_nonzero b d (positive_nonzero b left_positive) (positive_nonzero d right_positive))
      (same_value_sums a b c d n m p q left.terms.same right.terms.same)

  pub difference_of_lowest : ChecksLowest numer denom lo hi (difference_of n m p q) r → ChecksLowest numer denom lo hi (difference_of a b c d) r
  difference_of_lowest = checks_lowest_moved numer denom lo hi (n *ℤ q -ℤ p *ℤ m) (m *ℤ q) (a *ℤ d -ℤ c *ℤ b) (b *ℤ d) r
      (mul_nonzero m q (positive_nonzero m left.terms.lowest.positive) (positive_nonzero q right.terms.lowest.positive))
      (mul_nonzero b d (positive_nonzero b left_positive) (positive_nonzero d right_positive))
      (same_value_differences a b c d n m p q left.terms.same right.terms.same)
