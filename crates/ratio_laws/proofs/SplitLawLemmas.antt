-- Parts whose shares are equal: each is less than 1 away from the same number, so they are less than 2 apart. And marks, by which a split is the only one.
use Rattle.std.specs.Prelude.{◌≡◌, ◌+◌, ◌<◌, ◌≤◌, ◌≤ℤ◌, ◌<ℤ◌, ◌+ℤ◌, ◌-ℤ◌, ◌*ℤ◌, ℕ, zero, suc, ℤ, pos, All, List, [], ◌∷◌, fold, length, slice_index_or, take}
use Rattle.std.proofs.Common.{add-one, ap, arith, refl, sym, ◌∙◌}
use Rattle.std.proofs.lemmas.Int.{ints}
use Rattle.std.proofs.lemmas.List.{get_or_default}
use lib.IntN.{*ℤ_comm}
use Rattle.ratio_integer.specs.Arithmetic.{sum_of}
use Rattle.ratio_integer.specs.Fraction.{SameValue}
use Rattle.ratio_integer.specs.Range.{IsHeld, IsRange}
use Rattle.ratio_integer.proofs.Whole.{add-mul, mul_assoc, mul_positive, mul-swap_last, sub-mul}
use Rattle.ratio_core.proofs.ProductOrder.{less-times, more-times, times_le, whole_at_most}
use Rattle.ratio_core.proofs.RoundingLawLemmas.{one_rounded}
use Rattle.num_rational.specs.Split.{IsNearItsShare, IsSplitBy, SharesOverPositive, total_of, total_of_shares}
use Rattle.num_rational.specs.Weights.{share_of}
use Rattle.num_rational.proofs.CommonLemmas.{first_shares_one, first_shares_up, mark_below}
use Rattle.num_rational.proofs.WeightLemmas.{weights_next}
use Rattle.ratio_laws.specs.SplitLaws.{EqualSharesAreNear, EqualWeightsAreNear, MarksOfOneFit, SplitsAgree}

module _ (a : ℤ) (x y : ℤ × ℤ) (p q : ℤ) (same : SameValue x.0 x.1 y.0 y.1) (first : IsNearItsShare a x p) (second : IsNearItsShare a y q) where
  x_up : pos 0 <ℤ x.1
  x_up = let low = first.above in let high = first.below in omega (arith, ints)

  y_up : pos 0 <ℤ y.1
  y_up = let low = second.above in let high = second.below in omega (arith, ints)

  crossed : (a *ℤ x.0) *ℤ y.1 ≡ (a *ℤ y.0) *ℤ x.1
  crossed = mul_assoc a x.0 y.1 ∙ ap (λ (z : ℤ). a *ℤ z) same ∙ sym (mul_assoc a y.0 x.1)

  most : (p *ℤ (y.1 *ℤ x.1)) ≤ℤ (((a *ℤ x.0) *ℤ y.1 +ℤ x.1 *ℤ y.1) -ℤ y.1)
  most =
      let below = first.below in
      let times : ((p *ℤ x.1) *ℤ y.1) ≤ℤ (((a *ℤ x.0 +ℤ x.1) -ℤ pos 1) *ℤ y.1) = times_le (p *ℤ x.1) ((a *ℤ x.0 +ℤ x.1) -ℤ pos 1) y.1 (omega (arith, ints)) (let up = y_up in omega (arith, ints)) in
      rw (mul-swap_last p x.1 y.1, less-times (a *ℤ x.0 +ℤ x.1) y.1, add-mul (a *ℤ x.0) x.1 y.1) at times

  least : (((a *ℤ y.0) *ℤ x.1 -ℤ y.1 *ℤ x.1) +ℤ x.1) ≤ℤ (q *ℤ (y.1 *ℤ x.1))
  least =
      let above = second.above in
      let times : (((a *ℤ y.0 -ℤ y.1) +ℤ pos 1) *ℤ x.1) ≤ℤ ((q *ℤ y.1) *ℤ x.1) = times_le ((a *ℤ y.0 -ℤ y.1) +ℤ pos 1) (q *ℤ y.1) x.1 (omega (arith, ints)) (let up = x_up in omega (arith, ints)) in
      rw (mul_assoc q y.1 x.1, more-times (a *ℤ y.0 -ℤ y.1) x.1, sub-mul (a *ℤ y.0) y.1 x.1) at times

  pub equal_near : p ≤ℤ (q +ℤ pos 1)
  equal_near =
      let above = least in
      let below = most in
      whole_at_most p (q +ℤ pos 1) (y.1 *ℤ x.1) (mul_positive y.1 x.1 y_up x_up) (omega (arith, ints, crossed, x_up, y_up, more-times q (y.1 *ℤ x.1), *ℤ_comm x.1 y.1))

module _ {A P : Type 0} (value : P → ℤ) (amount : ℤ) where
  pub equal_shares : (view : A → ℤ × ℤ) (shares : List A) (parts : List P) → IsSplitBy view value amount shares parts → EqualSharesAreNear view value shares parts
  equal_shares view shares parts is j k share part first second same =
      equal_near amount (view (slice_index_or shares j share)) (view (slice_index_or shares k share)) (value (slice_index_or parts j part)) (value (slice_index_or parts k part)) same (is.near j first share part) (is.near k second share part)

  pub equal_weights : (weight : A → ℤ) (weights : List A) (parts : List P) → IsSplitBy (share_of weight weights) value amount weights parts → EqualWeightsAreNear weight value weights parts
  equal_weights weight weights parts is j k other part first second equal =
      equal_shares (share_of weight weights) weights parts is j k other part first second (ap (λ (z : ℤ). z *ℤ total_of weight weights) equal)

-- ---- marks

pub marks_of_one : {A : Type 0} (view : A → ℤ × ℤ) (lo hi amount : ℤ) (shares : List A) → IsRange lo hi → IsHeld lo hi amount → SharesOverPositive view shares → MarksOfOneFit view lo hi amount shares
marks_of_one view lo hi amount shares range held positive none one = (
  λ all k below. (all k below).sum,
  λ fits k below. let up = first_shares_up view (k + 1) shares positive none in
      mark_below lo hi amount (total_of_shares view (take (k + 1) shares)) range held up.0 up.1 (first_shares_one view (k + 1) shares positive none (omega (arith, ints, one))) (fits k below),
)

-- the sum of the first shares has a positive denominator
first_over : {A : Type 0} (view : A → ℤ × ℤ) (x : ℤ × ℤ) (k : ℕ) (xs : List A) → pos 0 <ℤ x.1 → SharesOverPositive view xs → pos 0 <ℤ (fold (λ total share. sum_of total.0 total.1 (view share).0 (view share).1) x (take k xs)).1
first_over view x zero xs up positive = up
first_over view x (suc k) [] up positive = up
first_over view x (suc k) (y ∷ ys) up positive =
    first_over view (sum_of x.0 x.1 (view y).0 (view y).1) k ys (mul_positive x.1 (view y).1 up (positive 0 y (omega arith))) (λ j d below. positive (suc j) d (omega arith))

module _ {A P : Type 0} (view : A → ℤ × ℤ) (value : P → ℤ) (amount : ℤ) (shares : List A) (positive : SharesOverPositive view shares) where
  pub one_split : (parts others : List P) → SplitsAgree view value amount shares parts others
  one_split parts others long other_long first second k part below =
      let x = slice_index_or parts k part in
      let y = slice_index_or others k part in
      let left : total_of value (take (k + 1) parts) ≡ total_of value (take k parts) +ℤ value x = weights_next value parts k x (omega (arith, below, long)) (get_or_default parts k part x (omega (arith, below, long))) in
      let right : total_of value (take (k + 1) others) ≡ total_of value (take k others) +ℤ value y = weights_next value others k y (omega (arith, below, other_long)) (get_or_default others k part y (omega (arith, below, other_long))) in
      omega (arith, ints, left, right, marks (k + 1) (omega (arith, below)), marks k (omega (arith, below)))
    where
      next : (j : ℕ) → j < length shares → total_of value (take (j + 1) parts) ≡ total_of value (take (j + 1) others)
      next j less =
          let sum = total_of_shares view (take (j + 1) shares) in
          one_rounded (amount *ℤ sum.0) sum.1 (total_of value (take (j + 1) parts)) (total_of value (take (j + 1) others)) (first_over view (pos 0, pos 1) (j + 1) shares (omega (arith, ints)) positive) (first.rounded j less) (second.rounded j less)

      marks : (j : ℕ) → j ≤ length shares → total_of value (take j parts) ≡ total_of value (take j others)
      marks zero most = refl
      marks (suc j) most =
          ap (λ (n : ℕ). total_of value (take n parts)) (sym (add-one j)) ∙ next j (omega (arith, most)) ∙ ap (λ (n : ℕ). total_of value (take n others)) (add-one j)
