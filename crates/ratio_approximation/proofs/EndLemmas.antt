-- Both ends of a range of fractions, and what each adds to the fractions strictly between.
use Rattle.std.specs.Prelude.{◌≡◌, ◌⊎◌, ◌≤◌, ◌≤ℤ◌, ◌<ℤ◌, ◌*ℤ◌, ℤ, pos, unsigned_abs, Bool, true, false, Option, Some, None}
use Rattle.std.proofs.Common.{refl, sym, subst, arith, inl, inr, ◌∙◌}
use Rattle.std.proofs.lemmas.Int.{ints}
use Rattle.std.proofs.lemmas.Cmp.{int_ranked}
use Rattle.std.specs.Ordering.{MatchOrdering}
use Rattle.std.specs.declared.cmp.Ordering.{Ordering}
use Rattle.std.specs.declared.ops.Bound.{Bound}
use Rattle.std.specs.declared.ops.Bound.TheVariants.{Included, Excluded}
use Rattle.ratio_integer.specs.Fraction.{IsHeldLowest, SameValue}
use Rattle.ratio_integer.specs.Range.{IsHeld}
use Rattle.ratio_integer.proofs.Whole.{positive_nonzero}
use Rattle.ratio_approximation.specs.Bounds.{HasPositiveDenominator, IsWithinLow, IsWithinHigh, IsWithin}
use Rattle.ratio_approximation.specs.EndChoice.{ChecksFirstHeld, ChecksWithEnd, IsAsSimple, IsFirstHeld, IsFirstOfTwo, IsFound, end_bound}
use Rattle.ratio_core.specs.Order.{HaveUnlikeSigns, cross_cmp}
use Rattle.ratio_approximation.specs.Simplest.{ChecksSimplest, IsBetween}
use Rattle.ratio_approximation.specs.SimplestWithin.{HoldsNoneWithin}
use Rattle.ratio_core.proofs.CrossOrder.{cross-along}
use Rattle.ratio_approximation.proofs.FractionOrder.{at_most_chained, below_then, then_below}
use Rattle.ratio_approximation.proofs.WithinLemmas.{at_most_or_above, from_kept, up_to_kept}
use Rattle.ratio_approximation.proofs.AsSimple.{as_simple_chained, lowest_first}

-- ---- the order of both ends

not_unlike : (d e : ℤ) → pos 0 <ℤ d → pos 0 <ℤ e → ¬ (HaveUnlikeSigns d e)
not_unlike d e d_up e_up (inl unlike) = (let below = unlike.0 in omega (arith, ints))
not_unlike d e d_up e_up (inr unlike) = (let below = unlike.1 in omega (arith, ints))

pub order_told : (n d m e : ℤ) (o : Ordering) → pos 0 <ℤ d → pos 0 <ℤ e → o ≡ cross_cmp n d m e → MatchOrdering o ((n *ℤ e) <ℤ (m *ℤ d)) (n *ℤ e ≡ m *ℤ d) ((m *ℤ d) <ℤ (n *ℤ e))
order_told n d m e o d_up e_up is = int_ranked _ _ o (is ∙ cross-along n d m e (positive_nonzero d d_up) (positive_nonzero e e_up) (not_unlike d e d_up e_up))

-- ---- no fraction, or only the two ends

at_low : (included : Bool) (n d a b : ℤ) → IsWithinLow (end_bound included n d) a b → (n *ℤ b) ≤ℤ (a *ℤ d)
at_low true n d a b is = is
at_low false n d a b is = omega (arith, ints)

at_high : (included : Bool) (m e a b : ℤ) → IsWithinHigh (end_bound included m e) a b → (a *ℤ e) ≤ℤ (m *ℤ b)
at_high true m e a b is = is
at_high false m e a b is = omega (arith, ints)

positive_bound : (included : Bool) (n d : ℤ) → pos 0 <ℤ d → HasPositiveDenominator (end_bound included n d)
positive_bound true n d up = up
positive_bound false n d up = up

module _ (lo hi : ℤ) (left right : Bool) (n d m e : ℤ) (d_up : pos 0 <ℤ d) (e_up : pos 0 <ℤ e) where
  ends_ordered : (a b : ℤ) → IsWithin (end_bound left n d) (end_bound right m e) a b → (n *ℤ e) ≤ℤ (m *ℤ d)
  ends_ordered a b is = at_most_chained n d a b m e d_up is.positive e_up (at_low left n d a b is.above) (at_high right m e a b is.below)

  pub none_turned : (m *ℤ d) <ℤ (n *ℤ e) → HoldsNoneWithin lo hi (end_bound left n d) (end_bound right m e)
  none_turned less = record { each = λ a b a_held b_held is. (let ordered = ends_ordered a b is in omega (arith, ints)) }

  low_excluded : left ≡ false → n *ℤ e ≡ m *ℤ d → HoldsNoneWithin lo hi (end_bound left n d) (end_bound right m e)
  low_excluded out same = record {
    each = λ a b a_held b_held is. (
        let above : (n *ℤ b) <ℤ (a *ℤ d) = subst (λ x. IsWithinLow (end_bound x n d) a b) out is.above in
        let less = below_then n d a b m e d_up is.positive e_up above (at_high right m e a b is.below) in
        omega (arith, ints));
  }

  high_excluded : right ≡ false → n *ℤ e ≡ m *ℤ d → HoldsNoneWithin lo hi (end_bound left n d) (end_bound right m e)
  high_excluded out same = record {
    each = λ a b a_held b_held is. (
        let below : (a *ℤ e) <ℤ (m *ℤ b) = subst (λ x. IsWithinHigh (end_bound x m e) a b) out is.below in
        let less = then_below n d a b m e d_up is.positive e_up (at_low left n d a b is.above) below in
        omega (arith, ints));
  }

  pub none_at_end : (left ≡ false) ⊎ (right ≡ false) → n *ℤ e ≡ m *ℤ d → HoldsNoneWithin lo hi (end_bound left n d) (end_bound right m e)
  none_at_end (inl out) same = low_excluded out same
  none_at_end (inr out) same = high_excluded out same

pub end_alone : (lo hi n d m e p q : ℤ) (left right : Bool) → pos 0 <ℤ d → pos 0 <ℤ e → left ≡ true → right ≡ true → n *ℤ e ≡ m *ℤ d → IsHeldLowest lo hi n d p q → IsFirstHeld lo hi (end_bound left n d) (end_bound right m e) p q
end_alone lo hi n d m e p q left right d_up e_up low_in high_in same low = rw (low_in, high_in) (record {
  within = record {
    positive = low.terms.lowest.positive;
    above = omega (arith, ints, low.terms.same);
    below = at_most_chained p q n d m e low.terms.lowest.positive d_up e_up (omega (arith, ints, low.terms.same)) (omega (arith, ints));
  };
  first = λ a b a_held b_held is. (
      let over = at_most_chained a b m e n d is.positive e_up d_up is.below (omega (arith, ints)) in
      lowest_first lo hi n d p q a b low is.positive (let under = is.above in omega (arith, ints)));
})

-- ---- one more end

-- the bounds widen by the fractions of the value of n/d
module _ {T : Type 0} (value : T → ℤ) (lo hi n d : ℤ) (low high low' high' : Bound (ℤ × ℤ))
    (grown : (a b : ℤ) → IsWithin low high a b → IsWithin low' high' a b)
    (end_in : (a b : ℤ) → pos 0 <ℤ b → SameValue n d a b → IsWithin low' high' a b)
    (parted : (a b : ℤ) → IsWithin low' high' a b → IsWithin low high a b ⊎ SameValue n d a b) where
  first_widened : (found : Option (T × T)) (p q : ℤ) → ChecksFirstHeld value lo hi low high found → IsFirstOfTwo value lo hi found n d p q → IsFirstHeld lo hi low' high' p q
  first_widened None p q none is = record {
    within = by is.chosen;
    first = λ a b a_held b_held other. earlier a b a_held b_held other (parted a b other);
  }
    where
      by : IsFound value None p q ⊎ IsHeldLowest lo hi n d p q → IsWithin low' high' p q
      by (inl found) = absurd found
      by (inr low) = end_in p q low.terms.lowest.positive low.terms.same

      earlier : (a b : ℤ) → IsHeld lo hi a → IsHeld lo hi b → IsWithin low' high' a b → IsWithin low high a b ⊎ SameValue n d a b → IsAsSimple p q a b
      earlier a b a_held b_held other (inl inner) = absurd (none.each a b a_held b_held inner)
      earlier a b a_held b_held other (inr same) = is.before_end a b other.positive same
  first_widened (Some r) p q first is = record {
    within = by is.chosen;
    first = λ a b a_held b_held other. earlier a b a_held b_held other (parted a b other);
  }
    where
      by : IsFound value (Some r) p q ⊎ IsHeldLowest lo hi n d p q → IsWithin low' high' p q
      by (inl found) = rw (sym found.0, sym found.1) (grown _ _ first.within)
      by (inr low) = end_in p q low.terms.lowest.positive low.terms.same

      earlier : (a b : ℤ) → IsHeld lo hi a → IsHeld lo hi b → IsWithin low' high' a b → IsWithin low high a b ⊎ SameValue n d a b → IsAsSimple p q a b
      earlier a b a_held b_held other (inl inner) = as_simple_chained p q (value r.0) (value r.1) a b (is.before_found _ _ (refl, refl)) (first.first a b a_held b_held inner)
      earlier a b a_held b_held other (inr same) = is.before_end a b other.positive same

module _ {T : Type 0} (value : T → ℤ) (lo hi n d : ℤ) (bound : Bound (ℤ × ℤ)) (d_up : pos 0 <ℤ d) (bound_up : HasPositiveDenominator bound) where
  low_parted : (a b : ℤ) → IsWithin (Included (n, d)) bound a b → IsWithin (Excluded (n, d)) bound a b ⊎ SameValue n d a b
  low_parted a b is = by (at_most_or_above (a *ℤ d) (n *ℤ b))
    where
      by : ((a *ℤ d) ≤ℤ (n *ℤ b)) ⊎ ((n *ℤ b) <ℤ (a *ℤ d)) → IsWithin (Excluded (n, d)) bound a b ⊎ SameValue n d a b
      by (inl most) = inr (let least = is.above in omega (arith, ints))
      by (inr above) = inl (record { positive = is.positive; above = above; below = is.below })

  -- the low end n/d, which is within the high bound
  pub with_low : (included : Bool) (found result : Option (T × T)) → IsWithinHigh bound n d → ChecksFirstHeld value lo hi (Excluded (n, d)) bound found → ChecksWithEnd value lo hi included found n d result → ChecksFirstHeld value lo hi (end_bound included n d) bound result
  with_low false found result end_is first same = subst (λ r. ChecksFirstHeld value lo hi (Excluded (n, d)) bound r) (sym same) first
  with_low true found None end_is first never = absurd never
  with_low true found (Some r) end_is first two = first_widened value lo hi n d (Excluded (n, d)) bound (Included (n, d)) bound
      (λ a b is. record { positive = is.positive; above = (let above = is.above in omega (arith, ints)); below = is.below })
      (λ a b b_up same. record { positive = b_up; above = omega (arith, ints); below = up_to_kept bound n d a b bound_up d_up b_up end_is (omega (arith, ints)) })
      low_parted
      found _ _ first two

  high_parted : (a b : ℤ) → IsWithin bound (Included (n, d)) a b → IsWithin bound (Excluded (n, d)) a b ⊎ SameValue n d a b
  high_parted a b is = by (at_most_or_above (n *ℤ b) (a *ℤ d))
    where
      by : ((n *ℤ b) ≤ℤ (a *ℤ d)) ⊎ ((a *ℤ d) <ℤ (n *ℤ b)) → IsWithin bound (Excluded (n, d)) a b ⊎ SameValue n d a b
      by (inl least) = inr (let most = is.below in omega (arith, ints))
      by (inr below) = inl (record { positive = is.positive; above = is.above; below = below })

  -- the high end n/d, which is within the low bound
  pub with_high : (included : Bool) (found result : Option (T × T)) → IsWithinLow bound n d → ChecksFirstHeld value lo hi bound (Excluded (n, d)) found → ChecksWithEnd value lo hi included found n d result → ChecksFirstHeld value lo hi bound (end_bound included n d) result
  with_high false found result end_is first same = subst (λ r. ChecksFirstHeld value lo hi bound (Excluded (n, d)) r) (sym same) first
  with_high true found None end_is first never = absurd never
  with_high true found (Some r) end_is first two = first_widened value lo hi n d bound (Excluded (n, d)) bound (Included (n, d))
      (λ a b is. record { positive = is.positive; above = is.above; below = (let below = is.below in omega (arith, ints)) })
      (λ a b b_up same. record { positive = b_up; above = from_kept bound n d a b bound_up d_up b_up end_is (omega (arith, ints)); below = omega (arith, ints) })
      high_parted
      found _ _ first two

-- ---- the fractions strictly between, and then both ends

between_first : {T : Type 0} (value : T → ℤ) (lo hi n d m e : ℤ) (found : Option (T × T)) → ChecksSimplest value lo hi n d m e found → ChecksFirstHeld value lo hi (Excluded (n, d)) (Excluded (m, e)) found
between_first value lo hi n d m e None none = record {
  each = λ a b a_held b_held is. none.each a b a_held b_held (record { positive = is.positive; above = is.above; below = is.below });
}
between_first value lo hi n d m e (Some r) is = record {
  within = record { positive = is.between.positive; above = is.between.above; below = is.between.below };
  first = λ a b a_held b_held other. (
      let between : IsBetween n d m e a b = record { positive = other.positive; above = other.above; below = other.below } in
      by a b (is.denom a b between) (is.numer a b between) (at_most_or_above b (value r.1)));
}
  where
    by : (a b : ℤ) → value r.1 ≤ℤ b → unsigned_abs (value r.0) ≤ unsigned_abs a → (b ≤ℤ value r.1) ⊎ (value r.1 <ℤ b) → IsAsSimple (value r.0) (value r.1) a b
    by a b denom numer (inl least) = inr (omega (arith, ints), numer)
    by a b denom numer (inr less) = inl less

from_end : (included : Bool) (n d m e : ℤ) → (n *ℤ e) <ℤ (m *ℤ d) → IsWithinLow (end_bound included n d) m e
from_end true n d m e less = omega (arith, ints)
from_end false n d m e less = less

pub with_both_ends : {T : Type 0} (value : T → ℤ) (lo hi n d m e : ℤ) (left right : Bool) (between from_low result : Option (T × T)) → pos 0 <ℤ d → pos 0 <ℤ e → (n *ℤ e) <ℤ (m *ℤ d) → ChecksSimplest value lo hi n d m e between → ChecksWithEnd value lo hi left between n d from_low → ChecksWithEnd value lo hi right from_low m e result → ChecksFirstHeld value lo hi (end_bound left n d) (end_bound right m e) result
with_both_ends value lo hi n d m e left right between from_low result d_up e_up less strict first second =
    let inner = between_first value lo hi n d m e between strict in
    let lower = with_low value lo hi n d (Excluded (m, e)) d_up e_up left between from_low less inner first in
    with_high value lo hi m e (end_bound left n d) e_up (positive_bound left n d d_up) right from_low result (from_end left n d m e less) lower second
