-- Fractions that are as simple as others: the lowest terms of a fraction, and the first of two fractions.
use Rattle.std.specs.Prelude.{◌≡◌, ◌⊎◌, ◌≤ℤ◌, ◌<ℤ◌, ◌*ℤ◌, ℤ, pos, Option, Some, None}
use Rattle.std.proofs.Common.{refl, sym, ap, subst, arith, inl, inr, ◌∙◌}
use Rattle.std.proofs.lemmas.Int.{ints}
use Rattle.ratio_integer.specs.Fraction.{IsHeldLowest, SameValue}
use Rattle.ratio_integer.proofs.LowestTerms.{same_value_chained}
use Rattle.ratio_integer.proofs.Whole.{mul_cancel, positive_nonzero}
use Rattle.ratio_approximation.specs.EndChoice.{IsAsSimple, IsFirstOfTwo}
use Rattle.ratio_approximation.proofs.NearestLawLemmas.{least_denom}
use Rattle.ratio_approximation.proofs.WithinLemmas.{at_most_or_above}

-- ---- fractions of the value of an end

-- the lowest terms of a fraction are as simple as each fraction of its value
pub lowest_first : (lo hi n d p q a b : ℤ) → IsHeldLowest lo hi n d p q → pos 0 <ℤ b → SameValue n d a b → IsAsSimple p q a b
lowest_first lo hi n d p q a b low b_up same =
    let own : SameValue p q a b = same_value_chained p q n d a b low.terms.fraction (sym low.terms.same) same in
    by own (least_denom a b p q b_up low.terms.lowest (sym own)) (at_most_or_above b q)
  where
    by : SameValue p q a b → q ≤ℤ b → (b ≤ℤ q) ⊎ (q <ℤ b) → IsAsSimple p q a b
    by own most (inr less) = inl less
    by own most (inl least) =
        let equal : q ≡ b = omega (arith, ints) in
        let numer : p ≡ a = mul_cancel p a b (positive_nonzero b b_up) (own ∙ ap (λ (t : ℤ). a *ℤ t) equal) in
        inr (equal, rw numer (omega arith))

pub as_simple_chained : (p q a b r s : ℤ) → IsAsSimple p q a b → IsAsSimple a b r s → IsAsSimple p q r s
as_simple_chained p q a b r s (inl first) (inl second) = inl (omega (arith, ints))
as_simple_chained p q a b r s (inl first) (inr second) = (let e = second.0 in inl (omega (arith, ints)))
as_simple_chained p q a b r s (inr first) (inl second) = (let e = first.0 in inl (omega (arith, ints)))
as_simple_chained p q a b r s (inr first) (inr second) = inr (first.0 ∙ second.0, (let one = first.1 in let two = second.1 in omega arith))

pub itself_as_simple : (p q : ℤ) → IsAsSimple p q p q
itself_as_simple p q = inr (refl, omega arith)

-- ---- the first of two

module _ {T : Type 0} (value : T → ℤ) (lo hi n d p q : ℤ) (found : Option (T × T)) (low : IsHeldLowest lo hi n d p q) where
  pub only_end : found ≡ None → IsFirstOfTwo value lo hi found n d p q
  only_end none = subst (λ f. IsFirstOfTwo value lo hi f n d p q) (sym none) (record {
    chosen = inr low;
    before_found = λ a b never. absurd never;
    before_end = λ a b b_up same. lowest_first lo hi n d p q a b low b_up same;
  })

  pub end_first : (r : T × T) → found ≡ Some r → IsAsSimple p q (value r.0) (value r.1) → IsFirstOfTwo value lo hi found n d p q
  end_first r is simple = subst (λ f. IsFirstOfTwo value lo hi f n d p q) (sym is) (record {
    chosen = inr low;
    before_found = λ a b same. rw (sym same.0, sym same.1) simple;
    before_end = λ a b b_up same. lowest_first lo hi n d p q a b low b_up same;
  })

  pub found_first : (r : T × T) → found ≡ Some r → IsAsSimple (value r.0) (value r.1) p q → IsFirstOfTwo value lo hi found n d (value r.0) (value r.1)
  found_first r is simple = subst (λ f. IsFirstOfTwo value lo hi f n d (value r.0) (value r.1)) (sym is) (record {
    chosen = inl (refl, refl);
    before_found = λ a b same. rw (sym same.0, sym same.1) (itself_as_simple (value r.0) (value r.1));
    before_end = λ a b b_up same. as_simple_chained (value r.0) (value r.1) p q a b simple (lowest_first lo hi n d p q a b low b_up same);
  })
