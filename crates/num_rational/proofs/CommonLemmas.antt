-- Shares over a common denominator. If they add up to at most 1, so do the first ones, and a mark lies between 0 and the amount.
use Rattle.std.specs.Prelude.{◌≡◌, ◌+◌, ◌<◌, ◌≤ℤ◌, ◌<ℤ◌, ◌+ℤ◌, ◌-ℤ◌, ◌*ℤ◌, ℕ, ℤ, zero, suc, pos, int_div, int_rem, All, List, [], ◌∷◌, fold, length, slice_index_or, take}
use Rattle.std.proofs.Common.{refl, sym, ap, subst, ◌∙◌, arith, inl, get_or}
use Rattle.std.proofs.Math.ListN.{set}
use Rattle.std.proofs.Math.Seq.{take-length}
use Rattle.std.proofs.lemmas.Int.{ints, quot-rem}
use Rattle.std.proofs.lemmas.List.{get_or_default}
use borrow.Author.Count.{below_more}
use lib.IntN.{*ℤ_comm, +ℤ_idr, zero-*ℤ}
use Rattle.ratio_integer.specs.Arithmetic.{sum_of}
use Rattle.ratio_integer.specs.Division.{IsGcdOf, IsMultiple}
use Rattle.ratio_integer.specs.Fraction.{Fits, IsLowestTermsOf, SameValue}
use Rattle.ratio_integer.specs.Range.{IsHeld, IsRange}
use Rattle.ratio_integer.proofs.CommonDivisors.{divides_multiple, gcd_exists, multiple_divides}
use Rattle.ratio_integer.proofs.CrossCancelling.{denom_divides}
use Rattle.ratio_integer.proofs.LcmLemmas.{exact_quotient}
use Rattle.ratio_integer.proofs.LowestTerms.{gcd_held_positive, held_lowest_quotients, lowest_moved, same_value_chained}
use Rattle.ratio_integer.proofs.Whole.{add-mul, mul_assoc, mul_cancel, mul_positive, mul-swap_inner, mul-swap_last, positive_factor, positive_nonzero}
use Rattle.ratio_core.specs.Rounding.{IsRounded}
use Rattle.ratio_core.proofs.Floored.{one-mul}
use Rattle.ratio_core.proofs.LawLemmas.{same_value_sums}
use Rattle.ratio_core.proofs.ProductOrder.{times_le, whole_at_most}
use Rattle.ratio_core.proofs.RoundingLawLemmas.{each_rounded}
use Rattle.num_rational.specs.Common.{AreSharesOver, IsPartOver, IsSumOver, IsTotalOver, IsWholeOver}
use Rattle.num_rational.specs.Split.{CanBeSplit, IsRoundedShare, MarkFits, MarksFit, NoShareIsBelowZero, SharesMakeOne, SharesOverPositive, total_of_shares}
use Rattle.num_rational.proofs.SplitLemmas.{IsSplitSoFar, fits_moved, next_part_held, next_same, part_held, rounded_moved, sign_up, split_more, total_next}
use Rattle.num_rational.proofs.WeightLemmas.{mark_held, share_more}

-- a product is at most another with the same positive factor only if the other factors are
pub at_most : (x y d : ℤ) → pos 0 <ℤ d → (x *ℤ d) ≤ℤ (y *ℤ d) → x ≤ℤ y
at_most x y d up below = whole_at_most x y d up (omega (arith, ints))

above_zero : (z : ℤ) → pos 0 <ℤ z → pos 0 ≤ℤ z
above_zero z up = omega (arith, ints)

both_above : (x y : ℤ) → pos 0 ≤ℤ x → pos 0 ≤ℤ y → pos 0 ≤ℤ (x +ℤ y)
both_above x y h k = omega (arith, ints)

-- ---- fractions of at most 1

-- what has the value of a fraction of at most 1 is at most 1
pub one_moved : (x y : ℤ × ℤ) → pos 0 <ℤ x.1 → pos 0 <ℤ y.1 → SameValue x.0 x.1 y.0 y.1 → x.0 ≤ℤ x.1 → y.0 ≤ℤ y.1
one_moved x y x_up y_up same below =
    let times = times_le x.0 x.1 y.1 below (above_zero y.1 y_up) in
    at_most y.0 y.1 x.1 x_up (rw (sym same, *ℤ_comm y.1 x.1) times)

-- what has the value of a fraction that is not below 0 is not below 0
pub above_moved : (x y : ℤ × ℤ) → pos 0 <ℤ x.1 → pos 0 <ℤ y.1 → SameValue x.0 x.1 y.0 y.1 → pos 0 ≤ℤ x.0 → pos 0 ≤ℤ y.0
above_moved x y x_up y_up same above =
    let some = sign_up x.0 y.1 above (above_zero y.1 y_up) in
    at_most (pos 0) y.0 x.1 x_up (rw (zero-*ℤ x.1, sym same) some)

-- a fraction is at most 1 if it is with another one that is not below 0
less_is_one : (x y : ℤ × ℤ) → pos 0 <ℤ x.1 → pos 0 <ℤ y.1 → pos 0 ≤ℤ y.0 → (sum_of x.0 x.1 y.0 y.1).0 ≤ℤ (sum_of x.0 x.1 y.0 y.1).1 → x.0 ≤ℤ x.1
less_is_one x y x_up y_up above below =
    let more = sign_up y.0 x.1 above (above_zero x.1 x_up) in
    at_most x.0 x.1 y.1 y_up (omega (arith, ints))

second_is_one : (x y : ℤ × ℤ) → pos 0 <ℤ x.1 → pos 0 <ℤ y.1 → pos 0 ≤ℤ x.0 → (sum_of x.0 x.1 y.0 y.1).0 ≤ℤ (sum_of x.0 x.1 y.0 y.1).1 → y.0 ≤ℤ y.1
second_is_one x y x_up y_up above below =
    let more = sign_up x.0 y.1 above (above_zero y.1 y_up) in
    at_most y.0 y.1 x.1 x_up (rw (*ℤ_comm y.1 x.1) (omega (arith, ints)))

module _ {A : Type 0} (view : A → ℤ × ℤ) where
  abbrev more : ℤ × ℤ → A → ℤ × ℤ
  more x share = sum_of x.0 x.1 (view share).0 (view share).1

  first_share : (P : ℤ × ℤ → Type 0) (y : A) (ys : List A) → All (λ share. P (view share)) (y ∷ ys) → P (view y)
  first_share P y ys all = all 0 y (omega arith)

  rest_shares : (P : ℤ × ℤ → Type 0) (y : A) (ys : List A) → All (λ share. P (view share)) (y ∷ ys) → All (λ share. P (view share)) ys
  rest_shares P y ys all k d below = all (suc k) d (omega arith)

  abbrev Up : ℤ × ℤ → Type 0
  Up x = pos 0 <ℤ x.1

  abbrev Above : ℤ × ℤ → Type 0
  Above x = pos 0 ≤ℤ x.0

  grown_one : (x : ℤ × ℤ) (xs : List A) → pos 0 <ℤ x.1 → SharesOverPositive view xs → NoShareIsBelowZero view xs → (fold more x xs).0 ≤ℤ (fold more x xs).1 → x.0 ≤ℤ x.1
  grown_one x [] up positive none below = below
  grown_one x (y ∷ ys) up positive none below =
      let y_up = first_share Up y ys positive in
      less_is_one x (view y) up y_up (first_share Above y ys none)
      (grown_one (more x y) ys (mul_positive x.1 (view y).1 up y_up) (rest_shares Up y ys positive) (rest_shares Above y ys none) below)

  begun_one : (x : ℤ × ℤ) (k : ℕ) (xs : List A) → pos 0 <ℤ x.1 → SharesOverPositive view xs → NoShareIsBelowZero view xs → (fold more x xs).0 ≤ℤ (fold more x xs).1 → (fold more x (take k xs)).0 ≤ℤ (fold more x (take k xs)).1
  begun_one x zero xs up positive none below = grown_one x xs up positive none below
  begun_one x (suc k) [] up positive none below = below
  begun_one x (suc k) (y ∷ ys) up positive none below =
      begun_one (more x y) k ys (mul_positive x.1 (view y).1 up (first_share Up y ys positive)) (rest_shares Up y ys positive) (rest_shares Above y ys none) below

  begun_up : (x : ℤ × ℤ) (k : ℕ) (xs : List A) → pos 0 ≤ℤ x.0 → pos 0 <ℤ x.1 → SharesOverPositive view xs → NoShareIsBelowZero view xs → (pos 0 ≤ℤ (fold more x (take k xs)).0) × (pos 0 <ℤ (fold more x (take k xs)).1)
  begun_up x zero xs above up positive none = (above, up)
  begun_up x (suc k) [] above up positive none = (above, up)
  begun_up x (suc k) (y ∷ ys) above up positive none =
      let y_up = first_share Up y ys positive in
      let y_above = first_share Above y ys none in
      begun_up (more x y) k ys
      (both_above _ _ (sign_up x.0 (view y).1 above (above_zero _ y_up)) (sign_up (view y).0 x.1 y_above (above_zero _ up)))
      (mul_positive x.1 (view y).1 up y_up) (rest_shares Up y ys positive) (rest_shares Above y ys none)

  -- if shares add up to at most 1, so do the first of them
  pub first_shares_one : (k : ℕ) (xs : List A) → SharesOverPositive view xs → NoShareIsBelowZero view xs → (total_of_shares view xs).0 ≤ℤ (total_of_shares view xs).1 → (total_of_shares view (take k xs)).0 ≤ℤ (total_of_shares view (take k xs)).1
  first_shares_one k xs positive none below = begun_one (pos 0, pos 1) k xs (omega (arith, ints)) positive none below

  pub first_shares_up : (k : ℕ) (xs : List A) → SharesOverPositive view xs → NoShareIsBelowZero view xs → (pos 0 ≤ℤ (total_of_shares view (take k xs)).0) × (pos 0 <ℤ (total_of_shares view (take k xs)).1)
  first_shares_up k xs positive none = begun_up (pos 0, pos 1) k xs (omega (arith, ints)) (omega (arith, ints)) positive none

-- ---- what fits

-- a fraction fits if it has the value of one whose numbers do
pub fits_over : (lo hi s c : ℤ) (x : ℤ × ℤ) → IsRange lo hi → IsHeld lo hi s → IsHeld lo hi c → pos 0 <ℤ c → pos 0 <ℤ x.1 → SameValue x.0 x.1 s c → Fits lo hi x.0 x.1
fits_over lo hi s c x range s_held c_held up x_up same =
    let found : (g : ℤ) × IsGcdOf s c g = gcd_exists s c in
    let held = (gcd_held_positive lo hi s c range c_held up).each found.0 found.1 in
    fits_moved lo hi (s, c) x (positive_nonzero x.1 x_up) same
    (record { numer = int_div s found.0; denom = int_div c found.0; low = held_lowest_quotients lo hi s c found.0 _ _ range s_held c_held held up found.1 refl refl })

-- a mark fits if the amount does, and the fraction lies from 0 to 1
pub mark_below : (lo hi a : ℤ) (x : ℤ × ℤ) → IsRange lo hi → IsHeld lo hi a → pos 0 ≤ℤ x.0 → pos 0 <ℤ x.1 → x.0 ≤ℤ x.1 → Fits lo hi x.0 x.1 → MarkFits lo hi a x
mark_below lo hi a x range held above up below fits =
    let some = each_rounded (a *ℤ x.0) x.1 up in
    record { sum = fits; mark = some.0; is = some.1; held = mark_held a x.0 x.1 some.0 up above below some.1 lo hi range held }

-- all shares add up to 1 if s is c, and only then
module _ {A : Type 0} {view : A → ℤ × ℤ} {lo hi a : ℤ} {xs : List A} {n : ℕ} {s c : ℤ} (total : IsTotalOver view lo hi a xs n s c) (all : n ≡ length xs) (positive : SharesOverPositive view xs) (none : NoShareIsBelowZero view xs) where
  all_shares : take n xs ≡ xs
  all_shares = ap (λ k. take k xs) all ∙ take-length xs

  whole_up : pos 0 <ℤ (total_of_shares view xs).1
  whole_up = subst (λ ys. pos 0 <ℤ (total_of_shares view ys).1) all_shares (first_shares_up view n xs positive none).1

  same_all : SameValue (total_of_shares view xs).0 (total_of_shares view xs).1 s c
  same_all = subst (λ ys. SameValue (total_of_shares view ys).0 (total_of_shares view ys).1 s c) all_shares total.same

  shares_one : s ≡ c → SharesMakeOne view xs
  shares_one same =
      let e : (total_of_shares view xs).0 *ℤ c ≡ (total_of_shares view xs).1 *ℤ c = same_all ∙ ap (λ (z : ℤ). z *ℤ (total_of_shares view xs).1) same ∙ *ℤ_comm c (total_of_shares view xs).1 in
      mul_cancel (total_of_shares view xs).0 (total_of_shares view xs).1 c (positive_nonzero c total.up) e

  pub one_shares : SharesMakeOne view xs → s ≡ c
  one_shares one =
      mul_cancel s c (total_of_shares view xs).1 (positive_nonzero _ whole_up) (sym same_all ∙ ap (λ (z : ℤ). z *ℤ c) one ∙ *ℤ_comm (total_of_shares view xs).1 c)

  pub all_fit : MarksFit view lo hi a xs
  all_fit k below = total.fit k (omega (arith, all, below))

  pub can_split : (parts : ℕ) → parts ≡ length xs → s ≡ c → CanBeSplit view lo hi a xs parts
  can_split parts many same = record { as_many = many; none_below = none; fit = all_fit; one = shares_one same }

  pub shares_over : s ≡ c → AreSharesOver view c xs
  shares_over same = record { common = total.up; positive = positive; none_below = none; one = shares_one same; whole = λ k x below. total.whole k (omega (arith, all, below)) x }

-- ---- whole numbers over a denominator

-- the denominator of the lowest terms of w/c divides c
pub multiple_of_low : (c : ℤ) (x low : ℤ × ℤ) → pos 0 <ℤ c → IsWholeOver c x → IsLowestTermsOf x.0 x.1 low.0 low.1 → IsMultiple c low.1
multiple_of_low c x low up whole is =
    divides_multiple c low.1 (denom_divides whole.number c low.0 low.1 (lowest_moved x.0 x.1 whole.number c low.0 low.1 (positive_nonzero c up) (sym whole.same) is))

-- a fraction over b is a whole number over a multiple of b
whole_by_multiple : (c : ℤ) (y : ℤ × ℤ) → IsMultiple c y.1 → IsWholeOver c y
whole_by_multiple c y (q, e) = record { number = y.0 *ℤ q; same = ap (λ (z : ℤ). y.0 *ℤ z) e ∙ sym (mul_assoc y.0 q y.1) }

whole_moved : (c : ℤ) (x low : ℤ × ℤ) → IsLowestTermsOf x.0 x.1 low.0 low.1 → IsWholeOver c low → IsWholeOver c x
whole_moved c x low is whole = record {
  number = whole.number;
  same = same_value_chained x.0 x.1 low.0 low.1 whole.number c (positive_nonzero low.1 is.lowest.positive) is.same whole.same;
}

pub whole_grown : (c d : ℤ) (x : ℤ × ℤ) → IsMultiple d c → IsWholeOver c x → IsWholeOver d x
whole_grown c d x (q, e) whole = record {
  number = whole.number *ℤ q;
  same = ap (λ (z : ℤ). x.0 *ℤ z) (e ∙ *ℤ_comm q c) ∙ sym (mul_assoc x.0 c q) ∙ ap (λ (z : ℤ). z *ℤ q) whole.same ∙ mul-swap_last whole.number x.1 q ∙ sym (mul_assoc whole.number q x.1);
}

-- ---- one more share

-- c is t times d: s/c + n/d is (s + n·t)/c
pub joined_same : (s c n d t : ℤ) → t *ℤ d ≡ c → SameValue (s *ℤ d +ℤ n *ℤ c) (c *ℤ d) (s +ℤ n *ℤ t) c
joined_same s c n d t c_is =
    let right : n *ℤ c ≡ (n *ℤ t) *ℤ d = ap (λ (z : ℤ). n *ℤ z) (sym c_is) ∙ sym (mul_assoc n t d) in
    let both : s *ℤ d +ℤ n *ℤ c ≡ (s +ℤ n *ℤ t) *ℤ d = ap (λ (z : ℤ). s *ℤ d +ℤ z) right ∙ sym (add-mul s (n *ℤ t) d) in
    ap (λ (z : ℤ). z *ℤ c) both ∙ mul-swap_last (s +ℤ n *ℤ t) d c

-- u/v is c/d: s/c + n/d is (s·v + n·u)/(c·v)
pub joined_apart : (s c n d u v : ℤ) → SameValue c d u v → SameValue (s *ℤ d +ℤ n *ℤ c) (c *ℤ d) (s *ℤ v +ℤ n *ℤ u) (c *ℤ v)
joined_apart s c n d u v same =
    let left : (s *ℤ d) *ℤ (c *ℤ v) ≡ (s *ℤ v) *ℤ (c *ℤ d) = ap (λ (z : ℤ). (s *ℤ d) *ℤ z) (*ℤ_comm c v) ∙ mul-swap_inner s d v c ∙ ap (λ (z : ℤ). (s *ℤ v) *ℤ z) (*ℤ_comm d c) in
    let right : (n *ℤ c) *ℤ (c *ℤ v) ≡ (n *ℤ u) *ℤ (c *ℤ d) = ap (λ (z : ℤ). (n *ℤ c) *ℤ z) same ∙ mul-swap_inner n c u d in
    add-mul (s *ℤ d) (n *ℤ c) (c *ℤ v)
    ∙ ap (λ (z : ℤ). z +ℤ (n *ℤ c) *ℤ (c *ℤ v)) left
    ∙ ap (λ (z : ℤ). (s *ℤ v) *ℤ (c *ℤ d) +ℤ z) right
    ∙ sym (add-mul (s *ℤ v) (n *ℤ u) (c *ℤ d))

own_multiple : (c : ℤ) → IsMultiple c c
own_multiple c = (pos 1, sym (one-mul c))

pub sum_over_same : (s c n d t m : ℤ) → pos 0 <ℤ c → t *ℤ d ≡ c → m ≡ s +ℤ n *ℤ t → IsSumOver (s, c) (n, d) m c
sum_over_same s c n d t m up c_is m_is = record { up = up; same = rw m_is (joined_same s c n d t c_is); first = own_multiple c; second = whole_by_multiple c (n, d) (t, sym c_is) }

pub sum_over_apart : (s c n d u v l r m w : ℤ) → pos 0 <ℤ c → IsLowestTermsOf c d u v → l ≡ s *ℤ v → r ≡ n *ℤ u → m ≡ l +ℤ r → w ≡ c *ℤ v → IsSumOver (s, c) (n, d) m w
sum_over_apart s c n d u v l r m w up low l_is r_is m_is w_is = record {
  up = rw w_is (mul_positive c v up low.lowest.positive);
  same = rw (m_is, l_is, r_is, w_is) (joined_apart s c n d u v low.same);
  first = (v, w_is ∙ *ℤ_comm c v);
  second = whole_by_multiple w (n, d) (u, w_is ∙ low.same);
}

-- the numerator of 0
pub numer_none : (c m : ℤ) (y : ℤ × ℤ) → y.0 ≡ pos 0 → m ≡ pos 0 → SameValue y.0 y.1 m c
numer_none c m y nought m_is = ap (λ (z : ℤ). z *ℤ c) nought ∙ zero-*ℤ c ∙ sym (zero-*ℤ y.1) ∙ ap (λ (z : ℤ). z *ℤ y.1) (sym m_is)

-- a share of 0 changes nothing
none_same : (s c : ℤ) (y : ℤ × ℤ) → y.0 ≡ pos 0 → SameValue (sum_of s c y.0 y.1).0 (sum_of s c y.0 y.1).1 s c
none_same s c y nought =
    let nothing : y.0 *ℤ c ≡ pos 0 = ap (λ (z : ℤ). z *ℤ c) nought ∙ zero-*ℤ c in
    ap (λ (z : ℤ). (s *ℤ y.1 +ℤ z) *ℤ c) nothing ∙ ap (λ (z : ℤ). z *ℤ c) (+ℤ_idr (s *ℤ y.1)) ∙ mul_assoc s y.1 c ∙ ap (λ (z : ℤ). s *ℤ z) (*ℤ_comm y.1 c)

pub sum_over_none : (s c : ℤ) (y : ℤ × ℤ) → pos 0 <ℤ c → y.0 ≡ pos 0 → IsSumOver (s, c) y s c
sum_over_none s c y up nought = record {
  up = up;
  same = none_same s c y nought;
  first = own_multiple c;
  second = record { number = pos 0; same = numer_none c (pos 0) y nought refl };
}

-- a share in other terms
sums_moved : (s c : ℤ) (y low : ℤ × ℤ) → IsLowestTermsOf y.0 y.1 low.0 low.1 → SameValue (sum_of s c y.0 y.1).0 (sum_of s c y.0 y.1).1 (sum_of s c low.0 low.1).0 (sum_of s c low.0 low.1).1
sums_moved s c y low is = same_value_sums s c y.0 y.1 s c low.0 low.1 refl is.same

same_moved : (s c m w : ℤ) (y low : ℤ × ℤ) → pos 0 <ℤ c → IsLowestTermsOf y.0 y.1 low.0 low.1 → SameValue (sum_of s c low.0 low.1).0 (sum_of s c low.0 low.1).1 m w → SameValue (sum_of s c y.0 y.1).0 (sum_of s c y.0 y.1).1 m w
same_moved s c m w y low up is same =
    same_value_chained _ _ (sum_of s c low.0 low.1).0 (sum_of s c low.0 low.1).1 m w (positive_nonzero _ (mul_positive c low.1 up is.lowest.positive)) (sums_moved s c y low is) same

pub sum_over_moved : (s c m w : ℤ) (y low : ℤ × ℤ) → pos 0 <ℤ c → IsLowestTermsOf y.0 y.1 low.0 low.1 → IsSumOver (s, c) low m w → IsSumOver (s, c) y m w
sum_over_moved s c m w y low up is sum = record {
  up = sum.up;
  same = same_moved s c m w y low up is sum.same;
  first = sum.first;
  second = whole_moved w y low is sum.second;
}

-- what an exact division gives
pub exact_by : (c d t : ℤ) → IsMultiple c d → t ≡ int_div c d → t *ℤ d ≡ c
exact_by c d t multiple t_is = ap (λ (z : ℤ). z *ℤ d) t_is ∙ exact_quotient c d (multiple_divides c d multiple)

-- a division that leaves no rest is exact
pub no_rest : (c d t r : ℤ) → t ≡ int_div c d → r ≡ int_rem c d → r ≡ pos 0 → t *ℤ d ≡ c
no_rest c d t r t_is r_is none = ap (λ (z : ℤ). z *ℤ d) t_is ∙ sym (+ℤ_idr (int_div c d *ℤ d)) ∙ ap (λ (z : ℤ). int_div c d *ℤ d +ℤ z) (sym none ∙ r_is) ∙ quot-rem c d

-- the numerator over c of a fraction that lies from 0 to 1, by its lowest terms, whose denominator times t is c
module _ (c : ℤ) (y low : ℤ × ℤ) (t : ℤ) (up : pos 0 <ℤ c) (part : IsPartOver c y) (is : IsLowestTermsOf y.0 y.1 low.0 low.1) (c_is : t *ℤ low.1 ≡ c) where
  times_up : pos 0 ≤ℤ t
  times_up = above_zero t (positive_factor t low.1 is.lowest.positive (rw c_is up))

  numer_below : (low.0 *ℤ t) ≤ℤ c
  numer_below = subst (λ (z : ℤ). (low.0 *ℤ t) ≤ℤ z) (*ℤ_comm low.1 t ∙ c_is) (times_le low.0 low.1 t (one_moved y low part.up is.lowest.positive is.same part.below) times_up)

  pub numer_held : (lo hi : ℤ) → IsRange lo hi → IsHeld lo hi c → IsHeld lo hi (low.0 *ℤ t)
  numer_held lo hi range held = part_held lo hi (low.0 *ℤ t) c range (inl (sign_up low.0 t (above_moved y low part.up is.lowest.positive is.same part.above) times_up, numer_below)) held

  pub numer_is : (m : ℤ) → m ≡ low.0 *ℤ t → SameValue y.0 y.1 m c
  numer_is m m_is =
      same_value_chained y.0 y.1 low.0 low.1 m c (positive_nonzero low.1 is.lowest.positive) is.same
      (ap (λ (z : ℤ). low.0 *ℤ z) (sym c_is) ∙ sym (mul_assoc low.0 t low.1) ∙ ap (λ (z : ℤ). z *ℤ low.1) (sym m_is))

-- ---- the sum of the first shares

module _ {A : Type 0} (view : A → ℤ × ℤ) (lo hi a : ℤ) (shares : List A) where
  pub total_none : (s c : ℤ) → s ≡ pos 0 → c ≡ pos 1 → IsTotalOver view lo hi a shares 0 s c
  total_none s c none one = rw (none, one) (record {
    up = omega (arith, ints);
    at_most = omega (arith, ints);
    same = refl;
    whole = λ j below. absurd (omega arith);
    fit = λ j below. absurd (omega arith);
  })

  -- with one more share
  module _ (k : ℕ) (s c : ℤ) (x : A) (n d : ℤ) (positive : SharesOverPositive view shares) (none : NoShareIsBelowZero view shares) (below : k < length shares) (is : x ≡ get_or shares k x) (so_far : IsTotalOver view lo hi a shares k s c) (sum : IsSumOver (s, c) (view x) n d) (most : n ≤ℤ d) where
    abbrev before : ℤ × ℤ
    before = total_of_shares view (take k shares)

    abbrev after : ℤ × ℤ
    after = total_of_shares view (take (k + 1) shares)

    x_up : pos 0 <ℤ (view x).1
    x_up = subst (λ y. pos 0 <ℤ (view y).1) (sym is) (positive k x below)

    next : after ≡ sum_of before.0 before.1 (view x).0 (view x).1
    next = total_next view shares k x below is

    after_up : (pos 0 ≤ℤ after.0) × (pos 0 <ℤ after.1)
    after_up = first_shares_up view (k + 1) shares positive none

    after_same : SameValue after.0 after.1 n d
    after_same = subst (λ y. SameValue y.0 y.1 n d) (sym next)
        (same_value_chained _ _ (sum_of s c (view x).0 (view x).1).0 (sum_of s c (view x).0 (view x).1).1 n d
        (positive_nonzero _ (mul_positive c (view x).1 so_far.up x_up))
        (next_same before (s, c) (view x) so_far.same)
        sum.same)

    kept : (j : ℕ) → j < k → (other : A) → IsWholeOver d (view (slice_index_or shares j other))
    kept j less other = whole_grown c d _ sum.first (so_far.whole j less other)

    here : (other : A) → IsWholeOver d (view (slice_index_or shares k other))
    here other = subst (λ y. IsWholeOver d (view y)) (is ∙ get_or_default shares k x other below) sum.second

    pub total_more : IsRange lo hi → IsHeld lo hi a → IsHeld lo hi n → IsHeld lo hi d → IsTotalOver view lo hi a shares (k + 1) n d
    total_more range held n_held d_held = record {
      up = sum.up;
      at_most = most;
      same = after_same;
      whole = below_more _ _ kept here;
      fit = below_more _ _ so_far.fit (mark_below lo hi a after range held after_up.0 after_up.1 (one_moved (n, d) after sum.up after_up.1 (sym after_same) most) (fits_over lo hi n d after range n_held d_held sum.up after_up.1 after_same));
    }

-- the sum in lowest terms
pub total_lowest : {A : Type 0} {view : A → ℤ × ℤ} {lo hi a : ℤ} {shares : List A} {n : ℕ} {s c : ℤ} → IsTotalOver view lo hi a shares n s c → SharesOverPositive view shares → NoShareIsBelowZero view shares → (low : ℤ × ℤ)
    → IsLowestTermsOf s c low.0 low.1 → IsLowestTermsOf (total_of_shares view (take n shares)).0 (total_of_shares view (take n shares)).1 low.0 low.1
total_lowest {view = view} {shares = shares} {n = n} {s = s} {c = c} total positive none low is =
    lowest_moved s c _ _ low.0 low.1 (positive_nonzero _ (first_shares_up view n shares positive none).1) total.same is

-- ---- a part by the sums over the denominator

module _ {A P : Type 0} {view : A → ℤ × ℤ} {value_of : P → ℤ} {amount c s mark : ℤ} {shares : List A} {parts : List P} {k : ℕ} {x : A} (over : AreSharesOver view c shares)
    (below : k < length shares) (is : x ≡ get_or shares k x) (so_far : IsSplitSoFar view value_of amount shares parts k (s, c) mark) where
  abbrev begun : ℤ × ℤ
  begun = total_of_shares view (take k shares)

  abbrev grown : ℤ × ℤ
  grown = sum_of begun.0 begun.1 (view x).0 (view x).1

  share_up : pos 0 <ℤ (view x).1
  share_up = subst (λ y. pos 0 <ℤ (view y).1) (sym is) (over.positive k x below)

  share_above : pos 0 ≤ℤ (view x).0
  share_above = subst (λ y. pos 0 ≤ℤ (view y).0) (sym is) (over.none_below k x below)

  grown_up : pos 0 <ℤ grown.1
  grown_up = mul_positive begun.1 (view x).1 so_far.up share_up

  grown_above : pos 0 ≤ℤ grown.0
  grown_above = both_above _ _ (sign_up begun.0 (view x).1 so_far.above (above_zero _ share_up)) (sign_up (view x).0 begun.1 share_above (above_zero _ so_far.up))

  grown_below : grown.0 ≤ℤ grown.1
  grown_below =
      let one : (total_of_shares view shares).0 ≡ (total_of_shares view shares).1 = over.one in
      subst (λ y. y.0 ≤ℤ y.1) (total_next view shares k x below is) (first_shares_one view (k + 1) shares over.positive over.none_below (omega (arith, ints)))

  pub share_part : IsPartOver c (view x)
  share_part = record {
    up = share_up;
    above = share_above;
    below = second_is_one begun (view x) so_far.up share_up so_far.above grown_below;
    whole = subst (λ y. IsWholeOver c (view y)) (sym is) (over.whole k x below);
  }

  -- the mark of the sum over the denominator
  pub mark_so_far : IsRounded (amount *ℤ s) c mark
  mark_so_far = rounded_moved amount begun (s, c) so_far.up over.common (sym so_far.same) mark so_far.rounded

  -- m is the numerator of the next share, and n the next sum
  module _ (m : ℤ) {n : ℤ} (m_is : SameValue (view x).0 (view x).1 m c) (n_is : n ≡ s +ℤ m) where
    same_over : SameValue grown.0 grown.1 n c
    same_over = rw n_is (
        same_value_chained _ _ (sum_of begun.0 begun.1 m c).0 (sum_of begun.0 begun.1 m c).1 (s +ℤ m) c (positive_nonzero _ (mul_positive begun.1 c so_far.up over.common))
        (same_value_sums begun.0 begun.1 (view x).0 (view x).1 begun.0 begun.1 m c refl m_is)
        (share_more begun s c m so_far.same))

    pub next_above : pos 0 ≤ℤ n
    next_above = above_moved grown (n, c) grown_up over.common same_over grown_above

    pub next_below : n ≤ℤ c
    next_below = one_moved grown (n, c) grown_up over.common same_over grown_below

    pub next_held : {lo hi : ℤ} → IsRange lo hi → IsHeld lo hi c → IsHeld lo hi n
    next_held {lo} {hi} range held = part_held lo hi n c range (inl (next_above, next_below)) held

    module _ {z : ℤ} (rounded : IsRounded (amount *ℤ n) c z) (written : P) (room : k < length parts) where
      share_rounded : IsRoundedShare amount grown z
      share_rounded = rounded_moved amount (n, c) grown over.common grown_up same_over z rounded

      pub part_fits_over : {lo hi : ℤ} → IsRange lo hi → IsHeld lo hi amount → IsHeld lo hi (z -ℤ mark)
      part_fits_over {lo} {hi} range held =
          next_part_held view value_of amount shares parts k (s, c) mark x (n, c) z written below room is so_far share_up share_above same_over share_rounded lo hi range
          (mark_held amount n c z over.common next_above next_below rounded lo hi range held)

      pub split_more_over : value_of written ≡ z -ℤ mark → IsSplitSoFar view value_of amount shares (set parts k written) (k + 1) (n, c) z
      split_more_over part_is = split_more view value_of amount shares parts k (s, c) mark x (n, c) z written below room is so_far share_up share_above same_over share_rounded part_is
