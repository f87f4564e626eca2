-- Rounded running sums. The difference of two neighbours is less than 1 away from the exact share, and the last sum is the amount.
use Rattle.std.specs.Prelude.{◌≡◌, ◌≢◌, ◌⊎◌, ◌↔◌, ◌+◌, ◌<◌, ◌≤◌, ◌≤ℤ◌, ◌<ℤ◌, ◌+ℤ◌, ◌-ℤ◌, ◌*ℤ◌, ℕ, ℤ, pos, neg_ℤ, unsigned_abs, List, [], ◌∷◌, ◌++◌, fold, length, slice_index_or, take, IsSome, None, Option, Some}
use Rattle.std.proofs.Common.{refl, sym, ap, subst, ◌∙◌, arith, inl, inr, add-one, get_or}
use Rattle.std.proofs.Math.Seq.{take-length, take-suc}
use Rattle.std.proofs.Math.ListN.{set}
use Rattle.std.proofs.lemmas.Int.{ints}
use Rattle.std.proofs.lemmas.List.{get_or_default, get_or-set_other, get_or-set_same, take-set-le, take_more_set}
use Rattle.std.proofs.lemmas.List.Sums.{fold-append}
use borrow.Author.Count.{below_more}
use lib.IntN.{one, *ℤ_comm, *ℤ-one, *ℤ-zero, zero-*ℤ}
use Rattle.ratio_integer.specs.Arithmetic.{sum_of}
use Rattle.ratio_integer.specs.Fraction.{Fits, IsLowestTermsOf, SameValue}
use Rattle.ratio_integer.specs.Range.{IsHeld, IsRange}
use Rattle.ratio_integer.proofs.DivisionLemmas.{low_below}
use Rattle.ratio_integer.proofs.LowestTerms.{held_lowest_moved, lowest_moved}
use Rattle.ratio_integer.proofs.Whole.{add-mul, mul-add, mul_assoc, mul_cancel, mul_positive, mul-swap_last, positive_nonzero, sub-mul}
use Rattle.ratio_core.specs.Rounding.{IsRounded, IsWithinHalf}
use Rattle.ratio_core.proofs.LawLemmas.{same_value_sums}
use Rattle.ratio_core.proofs.ProductOrder.{less-times, more-times, times_le}
use Rattle.ratio_core.proofs.RoundingLawLemmas.{same_rounded}
use Rattle.ratio_decimal.specs.declared.rounding_rule.Rounding.TheVariants.{HalfAway}
use Rattle.ratio_decimal.proofs.RoundingRuleLaws.{one_by}
use Rattle.num_rational.specs.declared.reduced.Reduced.{Reduced}
use Rattle.num_rational.specs.Split.{SharesMakeOne, ChecksNextMark, IsNextMark, IsRoundedShare, IsNearItsShare, IsSplitBy, MarkFits, total_of, total_of_shares}

pub times-one : (a : ℤ) → a *ℤ pos 1 ≡ a
unfolding one
times-one a = *ℤ-one a

less_or_not : (x y : ℤ) → (x <ℤ y) ⊎ (y ≤ℤ x)
less_or_not x y = grind (arith, ints)

pub cancel_less : (x y d : ℤ) → pos 0 <ℤ d → (x *ℤ d) <ℤ (y *ℤ d) → x <ℤ y
cancel_less x y d up less = cases (less_or_not x y)
  where
    cases : (x <ℤ y) ⊎ (y ≤ℤ x) → x <ℤ y
    cases (inl h) = h
    cases (inr h) = let sign : pos 0 ≤ℤ d = omega (arith, ints) in absurd (let k = times_le y x d h sign in omega (arith, ints))

-- ---- what rounding leaves, for a half that goes up and one that goes down

module _ (n d r : ℤ) (up : pos 0 <ℤ d) (is : IsRounded n d r) where
  -- for a number that is not below 0, a half goes up
  pub rest_below : pos 0 ≤ℤ n → (pos 2 *ℤ n -ℤ pos 2 *ℤ (r *ℤ d)) <ℤ d
  rest_below sign = cases (less_or_not (pos 2 *ℤ n -ℤ pos 2 *ℤ (r *ℤ d)) d)
    where
      cases : ((pos 2 *ℤ n -ℤ pos 2 *ℤ (r *ℤ d)) <ℤ d) ⊎ (d ≤ℤ (pos 2 *ℤ n -ℤ pos 2 *ℤ (r *ℤ d))) → (pos 2 *ℤ n -ℤ pos 2 *ℤ (r *ℤ d)) <ℤ d
      cases (inl h) = h
      cases (inr h) =
          let below = is.near.below in
          let more = more-times r d in
          let next : IsWithinHalf n d (r +ℤ pos 1) = record { above = omega (arith, ints); below = omega (arith, ints) } in
          let size : unsigned_abs (r +ℤ pos 1) ≤ unsigned_abs r = is.furthest (r +ℤ pos 1) next in
          let negative : (r +ℤ pos 1) ≤ℤ pos 0 = omega (arith, ints) in
          let nonneg : pos 0 ≤ℤ d = omega (arith, ints) in
          let times = times_le (r +ℤ pos 1) (pos 0) d negative nonneg in
          absurd (omega (arith, ints))

  -- for a number that is not above 0, a half goes down
  pub rest_above : n ≤ℤ pos 0 → neg_ℤ d <ℤ (pos 2 *ℤ n -ℤ pos 2 *ℤ (r *ℤ d))
  rest_above sign = cases (less_or_not (neg_ℤ d) (pos 2 *ℤ n -ℤ pos 2 *ℤ (r *ℤ d)))
    where
      cases : (neg_ℤ d <ℤ (pos 2 *ℤ n -ℤ pos 2 *ℤ (r *ℤ d))) ⊎ ((pos 2 *ℤ n -ℤ pos 2 *ℤ (r *ℤ d)) ≤ℤ neg_ℤ d) → neg_ℤ d <ℤ (pos 2 *ℤ n -ℤ pos 2 *ℤ (r *ℤ d))
      cases (inl h) = h
      cases (inr h) =
          let above = is.near.above in
          let less = less-times r d in
          let next : IsWithinHalf n d (r -ℤ pos 1) = record { above = omega (arith, ints); below = omega (arith, ints) } in
          let size : unsigned_abs (r -ℤ pos 1) ≤ unsigned_abs r = is.furthest (r -ℤ pos 1) next in
          let positive : pos 0 ≤ℤ (r -ℤ pos 1) = omega (arith, ints) in
          let nonneg : pos 0 ≤ℤ d = omega (arith, ints) in
          let times = times_le (pos 0) (r -ℤ pos 1) d positive nonneg in
          absurd (omega (arith, ints))

both_up : (x y : ℤ) → pos 0 ≤ℤ x → pos 0 ≤ℤ y → pos 0 ≤ℤ (x +ℤ y)
both_up x y h k = omega (arith, ints)

not_below : (x : ℤ) → pos 0 <ℤ x → pos 0 ≤ℤ x
not_below x h = omega (arith, ints)

-- ---- neighbours

-- rounding is the same if both numbers are multiplied by a factor above 0
module _ (x d t r : ℤ) (d_up : pos 0 <ℤ d) (t_up : pos 0 <ℤ t) where
  widened : IsRounded x d r → IsRounded (x *ℤ t) (d *ℤ t) r
  widened is = same_rounded x d (x *ℤ t) (d *ℤ t) r d_up (mul_positive d t d_up t_up) (sym (mul-swap_last x t d)) is

-- the amount times the sum of two fractions
spread : (a n d s t : ℤ) → a *ℤ (n *ℤ t +ℤ s *ℤ d) ≡ (a *ℤ n) *ℤ t +ℤ (a *ℤ s) *ℤ d
spread a n d s t =
    mul-add a (n *ℤ t) (s *ℤ d) ∙ ap (λ (z : ℤ). z +ℤ a *ℤ (s *ℤ d)) (sym (mul_assoc a n t)) ∙ ap (λ (z : ℤ). (a *ℤ n) *ℤ t +ℤ z) (sym (mul_assoc a s d))

module _ (x y w u v : ℤ) where
  between_up : neg_ℤ w ≤ℤ (pos 2 *ℤ x -ℤ pos 2 *ℤ u) → (pos 2 *ℤ x -ℤ pos 2 *ℤ u) <ℤ w → neg_ℤ w ≤ℤ (pos 2 *ℤ (x +ℤ y) -ℤ pos 2 *ℤ v) → (pos 2 *ℤ (x +ℤ y) -ℤ pos 2 *ℤ v) <ℤ w → ((y -ℤ w) <ℤ (v -ℤ u)) × ((v -ℤ u) <ℤ (y +ℤ w))
  between_up a b c d = (omega (arith, ints), omega (arith, ints))

  between_down : neg_ℤ w <ℤ (pos 2 *ℤ x -ℤ pos 2 *ℤ u) → (pos 2 *ℤ x -ℤ pos 2 *ℤ u) ≤ℤ w → neg_ℤ w <ℤ (pos 2 *ℤ (x +ℤ y) -ℤ pos 2 *ℤ v) → (pos 2 *ℤ (x +ℤ y) -ℤ pos 2 *ℤ v) ≤ℤ w → ((y -ℤ w) <ℤ (v -ℤ u)) × ((v -ℤ u) <ℤ (y +ℤ w))
  between_down a b c d = (omega (arith, ints), omega (arith, ints))

pub sign_up : (a n : ℤ) → pos 0 ≤ℤ a → pos 0 ≤ℤ n → pos 0 ≤ℤ (a *ℤ n)
sign_up a n a_up n_up = let times = times_le (pos 0) a n a_up n_up in omega (arith, ints)

pub sign_down : (a n : ℤ) → a ≤ℤ pos 0 → pos 0 ≤ℤ n → (a *ℤ n) ≤ℤ pos 0
sign_down a n a_down n_up = let times = times_le a (pos 0) n a_down n_up in omega (arith, ints)

-- r is the amount a times n/d rounded, and q is a times n/d + s/t rounded
module _ (a n d s t r q : ℤ) (d_up : pos 0 <ℤ d) (t_up : pos 0 <ℤ t) (n_up : pos 0 ≤ℤ n) (s_up : pos 0 ≤ℤ s) (first : IsRounded (a *ℤ n) d r) (second : IsRounded (a *ℤ (n *ℤ t +ℤ s *ℤ d)) (d *ℤ t) q) where
  w_up : pos 0 <ℤ (d *ℤ t)
  w_up = mul_positive d t d_up t_up

  before : IsRounded ((a *ℤ n) *ℤ t) (d *ℤ t) r
  before = widened (a *ℤ n) d t r d_up t_up first

  after : IsRounded ((a *ℤ n) *ℤ t +ℤ (a *ℤ s) *ℤ d) (d *ℤ t) q
  after = subst (λ z. IsRounded z (d *ℤ t) q) (spread a n d s t) second

  abbrev apart : Type 0
  apart = (((a *ℤ s) *ℤ d -ℤ d *ℤ t) <ℤ (q *ℤ (d *ℤ t) -ℤ r *ℤ (d *ℤ t))) × ((q *ℤ (d *ℤ t) -ℤ r *ℤ (d *ℤ t)) <ℤ ((a *ℤ s) *ℤ d +ℤ d *ℤ t))

  times_up : pos 0 ≤ℤ a → pos 0 ≤ℤ ((a *ℤ n) *ℤ t)
  times_up a_up = sign_up (a *ℤ n) t (sign_up a n a_up n_up) (let z : pos 0 ≤ℤ t = omega (arith, ints) in z)

  times_down : a ≤ℤ pos 0 → ((a *ℤ n) *ℤ t) ≤ℤ pos 0
  times_down a_down = sign_down (a *ℤ n) t (sign_down a n a_down n_up) (let z : pos 0 ≤ℤ t = omega (arith, ints) in z)

  share_up : pos 0 ≤ℤ a → pos 0 ≤ℤ ((a *ℤ s) *ℤ d)
  share_up a_up = sign_up (a *ℤ s) d (sign_up a s a_up s_up) (let z : pos 0 ≤ℤ d = omega (arith, ints) in z)

  share_down : a ≤ℤ pos 0 → ((a *ℤ s) *ℤ d) ≤ℤ pos 0
  share_down a_down = sign_down (a *ℤ s) d (sign_down a s a_down s_up) (let z : pos 0 ≤ℤ d = omega (arith, ints) in z)

  sum_down : (x y : ℤ) → x ≤ℤ pos 0 → y ≤ℤ pos 0 → (x +ℤ y) ≤ℤ pos 0
  sum_down x y h k = omega (arith, ints)

  either_sign : (a : ℤ) → (pos 0 ≤ℤ a) ⊎ (a ≤ℤ pos 0)
  either_sign a = grind (arith, ints)

  far : (pos 0 ≤ℤ a) ⊎ (a ≤ℤ pos 0) → apart
  far (inl a_up) = between_up ((a *ℤ n) *ℤ t) ((a *ℤ s) *ℤ d) (d *ℤ t) (r *ℤ (d *ℤ t)) (q *ℤ (d *ℤ t))
      before.near.above (rest_below _ _ r w_up before (times_up a_up))
      after.near.above (rest_below _ _ q w_up after (both_up _ _ (times_up a_up) (share_up a_up)))
  far (inr a_down) = between_down ((a *ℤ n) *ℤ t) ((a *ℤ s) *ℤ d) (d *ℤ t) (r *ℤ (d *ℤ t)) (q *ℤ (d *ℤ t))
      (rest_above _ _ r w_up before (times_down a_down)) before.near.below
      (rest_above _ _ q w_up after (sum_down _ _ (times_down a_down) (share_down a_down))) after.near.below

  part_wide : ((q -ℤ r) *ℤ t) *ℤ d ≡ q *ℤ (d *ℤ t) -ℤ r *ℤ (d *ℤ t)
  part_wide = mul-swap_last (q -ℤ r) t d ∙ sub-mul q r (d *ℤ t)

  pub near_share : IsNearItsShare a (s, t) (q -ℤ r)
  near_share =
      let apart = far (either_sign a) in
      record {
        above = cancel_less (a *ℤ s -ℤ t) ((q -ℤ r) *ℤ t) d d_up (rw (part_wide, sub-mul (a *ℤ s) t d, *ℤ_comm t d) apart.0);
        below = cancel_less ((q -ℤ r) *ℤ t) (a *ℤ s +ℤ t) d d_up (rw (part_wide, add-mul (a *ℤ s) t d, *ℤ_comm t d) apart.1);
      }

  above_zero : (x y d : ℤ) → pos 0 <ℤ d → y ≡ x *ℤ d → pos 0 <ℤ (y +ℤ d) → pos 0 ≤ℤ x
  above_zero x y d up is more =
      let zero : pos 0 *ℤ d ≡ pos 0 = zero-*ℤ d in
      let next : pos 0 <ℤ (x +ℤ pos 1) = cancel_less (pos 0) (x +ℤ pos 1) d up (rw (zero, more-times x d) (omega (arith, ints))) in
      omega (arith, ints)

  below_zero : (x y d : ℤ) → pos 0 <ℤ d → y ≡ x *ℤ d → (y -ℤ d) <ℤ pos 0 → x ≤ℤ pos 0
  below_zero x y d up is less =
      let zero : pos 0 *ℤ d ≡ pos 0 = zero-*ℤ d in
      let next : (x -ℤ pos 1) <ℤ pos 0 = cancel_less (x -ℤ pos 1) (pos 0) d up (rw (zero, less-times x d) (omega (arith, ints))) in
      omega (arith, ints)

  -- the part lies between 0 and the rounded sum
  pub part_between : ((pos 0 ≤ℤ (q -ℤ r)) × ((q -ℤ r) ≤ℤ q)) ⊎ ((q ≤ℤ (q -ℤ r)) × ((q -ℤ r) ≤ℤ pos 0))
  part_between = by (either_sign a)
    where
      part_up : pos 0 ≤ℤ a → pos 0 ≤ℤ (q -ℤ r)
      part_up a_up = let near = near_share.above in let sign = sign_up a s a_up s_up in above_zero (q -ℤ r) ((q -ℤ r) *ℤ t) t t_up refl (omega (arith, ints))

      mark_up : pos 0 ≤ℤ a → pos 0 ≤ℤ r
      mark_up a_up = let near = rest_below (a *ℤ n) d r d_up first (sign_up a n a_up n_up) in let sign = sign_up a n a_up n_up in above_zero r (r *ℤ d) d d_up refl (omega (arith, ints))

      part_down : a ≤ℤ pos 0 → (q -ℤ r) ≤ℤ pos 0
      part_down a_down = let near = near_share.below in let sign = sign_down a s a_down s_up in below_zero (q -ℤ r) ((q -ℤ r) *ℤ t) t t_up refl (omega (arith, ints))

      mark_down : a ≤ℤ pos 0 → r ≤ℤ pos 0
      mark_down a_down = let near = rest_above (a *ℤ n) d r d_up first (sign_down a n a_down n_up) in let sign = sign_down a n a_down n_up in below_zero r (r *ℤ d) d d_up refl (omega (arith, ints))

      by : (pos 0 ≤ℤ a) ⊎ (a ≤ℤ pos 0) → ((pos 0 ≤ℤ (q -ℤ r)) × ((q -ℤ r) ≤ℤ q)) ⊎ ((q ≤ℤ (q -ℤ r)) × ((q -ℤ r) ≤ℤ pos 0))
      by (inl a_up) = let part = part_up a_up in let mark = mark_up a_up in inl (part, omega (arith, ints))
      by (inr a_down) = let part = part_down a_down in let mark = mark_down a_down in inr (omega (arith, ints), part)

-- ---- the first and the last

pub first_mark : (a : ℤ) → IsRounded (a *ℤ pos 0) (pos 1) (pos 0)
first_mark a = rw (*ℤ-zero a) (record { near = record { above = omega (arith, ints); below = omega (arith, ints) }; furthest = λ s near. no_more s near })
  where
    no_more : (s : ℤ) → IsWithinHalf (pos 0) (pos 1) s → unsigned_abs s ≤ unsigned_abs (pos 0)
    no_more s near = let above = near.above in let below = near.below in let same = times-one s in omega (arith, ints)

pub last_mark : (a d r : ℤ) → pos 0 <ℤ d → IsRounded (a *ℤ d) d r → r ≡ a
last_mark a d r up is = same (less_or_not a r) (less_or_not r a)
  where
    same : (a <ℤ r) ⊎ (r ≤ℤ a) → (r <ℤ a) ⊎ (a ≤ℤ r) → r ≡ a
    same (inr h) (inr k) = omega (arith, ints)
    same (inl h) u = absurd (
        let next : (a +ℤ pos 1) ≤ℤ r = omega (arith, ints) in
        let sign : pos 0 ≤ℤ d = omega (arith, ints) in
        let times = times_le (a +ℤ pos 1) r d next sign in
        let more = more-times a d in
        let near = is.near.above in
        omega (arith, ints))
    same (inr h) (inl k) = absurd (
        let next : (r +ℤ pos 1) ≤ℤ a = omega (arith, ints) in
        let sign : pos 0 ≤ℤ d = omega (arith, ints) in
        let times = times_le (r +ℤ pos 1) a d next sign in
        let more = more-times r d in
        let near = is.near.below in
        omega (arith, ints))

-- ---- a mark depends only on the value of the sum

pub fits_moved : (lo hi : ℤ) (x y : ℤ × ℤ) → y.1 ≢ pos 0 → SameValue y.0 y.1 x.0 x.1 → Fits lo hi x.0 x.1 → Fits lo hi y.0 y.1
fits_moved lo hi x y fraction same fits = record { numer = fits.numer; denom = fits.denom; low = held_lowest_moved lo hi x.0 x.1 y.0 y.1 fits.numer fits.denom fraction same fits.low }

times_same : (a : ℤ) (x y : ℤ × ℤ) → SameValue y.0 y.1 x.0 x.1 → SameValue (a *ℤ y.0) y.1 (a *ℤ x.0) x.1
times_same a x y same = mul_assoc a y.0 x.1 ∙ ap (λ (z : ℤ). a *ℤ z) same ∙ sym (mul_assoc a x.0 y.1)

module _ (a : ℤ) (x y : ℤ × ℤ) (x_up : pos 0 <ℤ x.1) (y_up : pos 0 <ℤ y.1) (same : SameValue y.0 y.1 x.0 x.1) where
  pub rounded_moved : (mark : ℤ) → IsRoundedShare a x mark → IsRoundedShare a y mark
  rounded_moved mark is = same_rounded (a *ℤ x.0) x.1 (a *ℤ y.0) y.1 mark x_up y_up (sym (times_same a x y same)) is

module _ (lo hi a : ℤ) (x y : ℤ × ℤ) (x_up : pos 0 <ℤ x.1) (y_up : pos 0 <ℤ y.1) (same : SameValue y.0 y.1 x.0 x.1) where
  pub mark_moved : (sum : ℤ × ℤ) (mark : ℤ) → IsNextMark lo hi a x sum mark → IsNextMark lo hi a y sum mark
  mark_moved sum mark is = record {
    value = lowest_moved x.0 x.1 y.0 y.1 sum.0 sum.1 (positive_nonzero y.1 y_up) same is.value;
    fits = fits_moved lo hi x y (positive_nonzero y.1 y_up) same is.fits;
    held = is.held;
    rounded = rounded_moved a x y x_up y_up same mark is.rounded;
  }

  pub mark_fits_moved : MarkFits lo hi a x → MarkFits lo hi a y
  mark_fits_moved fits = record {
    sum = fits_moved lo hi x y (positive_nonzero y.1 y_up) same fits.sum;
    mark = fits.mark;
    is = rounded_moved a x y x_up y_up same fits.mark fits.is;
    held = fits.held;
  }

pub mark_fits : (lo hi a : ℤ) (x sum : ℤ × ℤ) (mark : ℤ) → IsNextMark lo hi a x sum mark → MarkFits lo hi a x
mark_fits lo hi a x sum mark is = record { sum = is.fits; mark = mark; is = is.rounded; held = is.held }

-- the amount times a sum, as it is computed from the sum's lowest terms
module _ (lo hi a : ℤ) (x s : ℤ × ℤ) (x_up : pos 0 <ℤ x.1) (low : IsLowestTermsOf x.0 x.1 s.0 s.1) where
  computed_same : SameValue (s.0 *ℤ a) (s.1 *ℤ pos 1) (a *ℤ x.0) x.1
  computed_same =
      ap (λ (z : ℤ). z *ℤ x.1) (*ℤ_comm s.0 a) ∙ mul_assoc a s.0 x.1 ∙ ap (λ (z : ℤ). a *ℤ z) (sym low.same) ∙ sym (mul_assoc a x.0 s.1)
      ∙ ap (λ (z : ℤ). (a *ℤ x.0) *ℤ z) (sym (times-one s.1))

  denom_up : pos 0 <ℤ (s.1 *ℤ pos 1)
  denom_up = rw (times-one s.1) low.lowest.positive

  computed : (z : ℤ) → IsRounded (s.0 *ℤ a) (s.1 *ℤ pos 1) z → IsRoundedShare a x z
  computed z is = same_rounded (s.0 *ℤ a) (s.1 *ℤ pos 1) (a *ℤ x.0) x.1 z denom_up x_up computed_same is

  pub mark_out : (z : ℤ) → IsRounded (s.0 *ℤ a) (s.1 *ℤ pos 1) z → ¬ (IsHeld lo hi z) → ¬ (MarkFits lo hi a x)
  mark_out z is out fits = out (subst (IsHeld lo hi) (one_by HalfAway (a *ℤ x.0) x.1 fits.mark z x_up fits.is (computed z is)) fits.held)

  pub mark_is : (z mark : ℤ) → Fits lo hi x.0 x.1 → IsRounded (s.0 *ℤ a) (s.1 *ℤ pos 1) z → IsHeld lo hi z × (mark ≡ z) → IsNextMark lo hi a x s mark
  mark_is z mark fits is checks = record {
    value = low;
    fits = fits;
    held = subst (IsHeld lo hi) (sym checks.1) checks.0;
    rounded = subst (IsRoundedShare a x) (sym checks.1) (computed z is);
  }

-- ---- the sums of a list of shares

pub fold_next : {A B : Type 0} (f : B → A → B) (z : B) (xs : List A) (k : ℕ) (x : A) → k < length xs → x ≡ get_or xs k x → fold f z (take (k + 1) xs) ≡ f (fold f z (take k xs)) x
fold_next f z xs k x below is =
    ap (λ n. fold f z (take n xs)) (add-one k)
    ∙ ap (fold f z) (take-suc xs k x below ∙ ap (λ y. take k xs ++ y ∷ []) (sym is))
    ∙ fold-append f z (take k xs) (x ∷ [])

pub total_next : {A : Type 0} (view : A → ℤ × ℤ) (xs : List A) (k : ℕ) (x : A) → k < length xs → x ≡ get_or xs k x → total_of_shares view (take (k + 1) xs) ≡ sum_of (total_of_shares view (take k xs)).0 (total_of_shares view (take k xs)).1 (view x).0 (view x).1
total_next view xs k x below is = fold_next _ (pos 0, pos 1) xs k x below is

-- with one more share, the values are still the same
pub next_same : (t s y : ℤ × ℤ) → SameValue t.0 t.1 s.0 s.1 → SameValue (sum_of t.0 t.1 y.0 y.1).0 (sum_of t.0 t.1 y.0 y.1).1 (sum_of s.0 s.1 y.0 y.1).0 (sum_of s.0 s.1 y.0 y.1).1
next_same t s y same = same_value_sums t.0 t.1 y.0 y.1 s.0 s.1 y.0 y.1 same refl

-- a sum is 1 exactly if its lowest terms are
pub one_told : (x s : ℤ × ℤ) → IsLowestTermsOf x.0 x.1 s.0 s.1 → (x.0 ≡ x.1) ↔ (s.0 ≡ s.1)
one_told x s low = (
  λ e. mul_cancel s.0 s.1 x.1 low.fraction (sym low.same ∙ ap (λ (z : ℤ). z *ℤ s.1) e ∙ *ℤ_comm x.1 s.1),
  λ e. mul_cancel x.0 x.1 s.1 (positive_nonzero s.1 low.lowest.positive) (low.same ∙ ap (λ (z : ℤ). z *ℤ x.1) e ∙ *ℤ_comm s.1 x.1),
)

-- The parts of the first k shares are written. Their sum is the mark: the amount times the sum of these shares, rounded.
pub record IsSplitSoFar {A P : Type 0} (view : A → ℤ × ℤ) (value_of : P → ℤ) (amount : ℤ) (shares : List A) (parts : List P) (k : ℕ) (sum : ℤ × ℤ) (mark : ℤ) : Type 0 where
  pub same : SameValue (total_of_shares view (take k shares)).0 (total_of_shares view (take k shares)).1 sum.0 sum.1
  pub above : pos 0 ≤ℤ (total_of_shares view (take k shares)).0
  pub up : pos 0 <ℤ (total_of_shares view (take k shares)).1
  pub rounded : IsRoundedShare amount (total_of_shares view (take k shares)) mark
  pub total : total_of value_of (take k parts) ≡ mark
  pub marks : (j : ℕ) → j < k → IsRoundedShare amount (total_of_shares view (take (j + 1) shares)) (total_of value_of (take (j + 1) parts))
  pub near : (j : ℕ) → j < k → (share : A) (part : P) → IsNearItsShare amount (view (slice_index_or shares j share)) (value_of (slice_index_or parts j part))

-- what fits has a result
pub mark_answered : {T : _} {i : _} {o : _} {e : _} {p : _} {h : _} (a : ℤ) (x : ℤ × ℤ) (r : Option (Reduced T i o e p h × T)) → MarkFits i.lo i.hi a x → ChecksNextMark a x r → IsSome r
mark_answered a x None fits out = absurd (out fits)
mark_answered a x (Some r) fits is = refl

-- a part fits if the mark does
pub part_held : (lo hi p q : ℤ) → IsRange lo hi → ((pos 0 ≤ℤ p) × (p ≤ℤ q)) ⊎ ((q ≤ℤ p) × (p ≤ℤ pos 0)) → IsHeld lo hi q → IsHeld lo hi p
part_held lo hi p q range (inl h) held = let low = low_below lo hi range in let b = held.below in let x = h.0 in let y = h.1 in record { above = omega (arith, ints); below = omega (arith, ints) }
part_held lo hi p q range (inr h) held = let high = range.high in let b = held.above in let x = h.0 in let y = h.1 in record { above = omega (arith, ints); below = omega (arith, ints) }

module _ {A P : Type 0} (view : A → ℤ × ℤ) (value_of : P → ℤ) (amount : ℤ) (shares : List A) where
  pub split_none : (parts : List P) (sum : ℤ × ℤ) (mark : ℤ) → sum.0 ≡ pos 0 → mark ≡ pos 0 → IsSplitSoFar view value_of amount shares parts 0 sum mark
  split_none parts sum mark numer none = rw none (record {
    same = zero-*ℤ sum.1 ∙ sym (times-one (pos 0)) ∙ ap (λ (z : ℤ). z *ℤ pos 1) (sym numer);
    above = omega (arith, ints);
    up = omega (arith, ints);
    rounded = first_mark amount;
    total = refl;
    marks = λ j below. absurd (omega arith);
    near = λ j below. absurd (omega arith);
  })

  module _ (parts : List P) (k : ℕ) (sum : ℤ × ℤ) (mark : ℤ) (share : A) (after : ℤ × ℤ) (next_mark : ℤ) (written : P) (below : k < length shares) (room : k < length parts) (is : share ≡ get_or shares k share) (so_far : IsSplitSoFar view value_of amount shares parts k sum mark) (share_up : pos 0 <ℤ (view share).1) (share_above : pos 0 ≤ℤ (view share).0)
      (same : SameValue (sum_of (total_of_shares view (take k shares)).0 (total_of_shares view (take k shares)).1 (view share).0 (view share).1).0 (sum_of (total_of_shares view (take k shares)).0 (total_of_shares view (take k shares)).1 (view share).0 (view share).1).1 after.0 after.1)
      (rounded : IsRoundedShare amount (sum_of (total_of_shares view (take k shares)).0 (total_of_shares view (take k shares)).1 (view share).0 (view share).1) next_mark) where
    next : total_of_shares view (take (k + 1) shares) ≡ sum_of (total_of_shares view (take k shares)).0 (total_of_shares view (take k shares)).1 (view share).0 (view share).1
    next = total_next view shares k share below is

    next_near : IsNearItsShare amount (view share) (next_mark -ℤ mark)
    next_near = near_share amount _ _ (view share).0 (view share).1 mark next_mark so_far.up share_up so_far.above share_above so_far.rounded rounded

    pub next_part_held : (lo hi : ℤ) → IsRange lo hi → IsHeld lo hi next_mark → IsHeld lo hi (next_mark -ℤ mark)
    next_part_held lo hi range held = part_held lo hi _ _ range (part_between amount _ _ (view share).0 (view share).1 mark next_mark so_far.up share_up so_far.above share_above so_far.rounded rounded) held

    module _ (part_is : value_of written ≡ next_mark -ℤ mark) where
      total : total_of value_of (take (k + 1) (set parts k written)) ≡ next_mark
      total =
          ap (total_of value_of) (take_more_set parts k written room)
          ∙ fold-append _ (pos 0) (take k parts) (written ∷ [])
          ∙ ap (λ (z : ℤ). z +ℤ value_of written) so_far.total
          ∙ ap (λ (z : ℤ). mark +ℤ z) part_is
          ∙ omega (arith, ints)

      kept : (j : ℕ) → j < k → (other : A) (part : P) → IsNearItsShare amount (view (slice_index_or shares j other)) (value_of (slice_index_or (set parts k written) j part))
      kept j less other part = let apart : j ≢ k = omega arith in rw get_or-set_other (so_far.near j less other part)

      here : (other : A) (part : P) → IsNearItsShare amount (view (slice_index_or shares k other)) (value_of (slice_index_or (set parts k written) k part))
      here other part = rw get_or-set_same (subst (λ x. IsNearItsShare amount (view x) (value_of written)) (is ∙ get_or_default shares k share other below) (subst (IsNearItsShare amount (view share)) (sym part_is) next_near))

      next_rounded : IsRoundedShare amount (total_of_shares view (take (k + 1) shares)) next_mark
      next_rounded = subst (λ x. IsRoundedShare amount x next_mark) (sym next) rounded

      mark_kept : (j : ℕ) → j < k → IsRoundedShare amount (total_of_shares view (take (j + 1) shares)) (total_of value_of (take (j + 1) (set parts k written)))
      mark_kept j less = subst (λ ps. IsRoundedShare amount (total_of_shares view (take (j + 1) shares)) (total_of value_of ps)) (sym (take-set-le (j + 1) parts k written (omega arith))) (so_far.marks j less)

      mark_here : IsRoundedShare amount (total_of_shares view (take (k + 1) shares)) (total_of value_of (take (k + 1) (set parts k written)))
      mark_here = subst (IsRoundedShare amount (total_of_shares view (take (k + 1) shares))) (sym total) next_rounded

      pub split_more : IsSplitSoFar view value_of amount shares (set parts k written) (k + 1) after next_mark
      split_more = record {
        same = subst (λ x. SameValue x.0 x.1 after.0 after.1) (sym next) same;
        above = subst (λ x. pos 0 ≤ℤ x.0) (sym next) (both_up _ _ (sign_up _ _ so_far.above (not_below _ share_up)) (sign_up _ _ share_above (not_below _ so_far.up)));
        up = subst (λ x. pos 0 <ℤ x.1) (sym next) (mul_positive _ _ so_far.up share_up);
        rounded = next_rounded;
        total = total;
        marks = below_more _ _ mark_kept mark_here;
        near = below_more _ _ kept here;
      }

  pub split_whole : (parts : List P) (k : ℕ) (sum : ℤ × ℤ) (mark : ℤ) → k ≡ length shares → length parts ≡ length shares → SharesMakeOne view shares → IsSplitSoFar view value_of amount shares parts k sum mark → IsSplitBy view value_of amount shares parts
  split_whole parts k sum mark whole alike one so_far =
      let all : take k shares ≡ shares = ap (λ n. take n shares) whole ∙ take-length shares in
      let every : take k parts ≡ parts = ap (λ n. take n parts) (whole ∙ sym alike) ∙ take-length parts in
      let up = subst (λ xs. pos 0 <ℤ (total_of_shares view xs).1) all so_far.up in
      let rounded = subst (λ xs. IsRounded (amount *ℤ (total_of_shares view xs).0) (total_of_shares view xs).1 mark) all so_far.rounded in
      let last : mark ≡ amount = last_mark amount (total_of_shares view shares).1 mark up (subst (λ z. IsRounded (amount *ℤ z) (total_of_shares view shares).1 mark) one rounded) in
      record {
        total = ap (total_of value_of) (sym every) ∙ so_far.total ∙ last;
        rounded = λ j less. so_far.marks j (omega arith);
        near = λ j less. so_far.near j (omega arith);
      }
