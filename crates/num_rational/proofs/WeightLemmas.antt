-- Shares by weights: the sum of the first weights lies between 0 and the sum of all, so a mark lies between 0 and the amount, and fits.
use Rattle.std.specs.Prelude.{◌≡◌, ◌≢◌, ◌⊎◌, ◌+◌, ◌<◌, ◌≤ℤ◌, ◌<ℤ◌, ◌+ℤ◌, ◌-ℤ◌, ◌*ℤ◌, ℕ, zero, suc, ℤ, pos, All, List, [], ◌∷◌, fold, length, slice_index_or, take}
use Rattle.std.proofs.Common.{refl, sym, ap, subst, ◌∙◌, arith, inl, inr}
use Rattle.std.proofs.lemmas.Int.{ints}
use lib.IntN.{*ℤ_comm, *ℤ-zero, zero-*ℤ}
use Rattle.ratio_integer.specs.Arithmetic.{sum_of}
use Rattle.ratio_integer.specs.Fraction.{SameValue}
use Rattle.ratio_integer.specs.Range.{IsHeld, IsRange}
use Rattle.ratio_integer.proofs.Whole.{add-mul, mul_assoc, mul-sub, mul_cancel, positive_nonzero}
use Rattle.ratio_core.specs.Rounding.{IsRounded}
use Rattle.ratio_core.proofs.Floored.{one-mul}
use Rattle.ratio_core.proofs.ProductOrder.{times_le}
use Rattle.ratio_core.proofs.RoundingLawLemmas.{each_rounded}
use Rattle.ratio_decimal.specs.declared.rounding_rule.Rounding.TheVariants.{HalfAway}
use Rattle.ratio_decimal.proofs.RoundingRuleLaws.{rounded_monotone}
use Rattle.num_rational.specs.Common.{AreSharesOver}
use Rattle.num_rational.specs.Split.{total_of, total_of_shares}
use Rattle.num_rational.specs.Weights.{NoWeightIsBelowZero}
use Rattle.num_rational.proofs.SplitLemmas.{first_mark, fold_next, last_mark, part_held, sign_down, sign_up, times-one}

-- ---- the sum of the first weights

module _ {A : Type 0} (value : A → ℤ) where
  abbrev more : ℤ → A → ℤ
  more sum number = sum +ℤ value number

  abbrev NoneBelow : List A → Type 0
  NoneBelow xs = All (λ x. pos 0 ≤ℤ value x) xs

  first_up : (x : A) (xs : List A) → NoneBelow (x ∷ xs) → pos 0 ≤ℤ value x
  first_up x xs none = none 0 x (omega arith)

  rest_up : (x : A) (xs : List A) → NoneBelow (x ∷ xs) → NoneBelow xs
  rest_up x xs none k d below = none (suc k) d (omega arith)

  grown : (z : ℤ) (xs : List A) → NoneBelow xs → z ≤ℤ fold more z xs
  grown z [] none = omega (arith, ints)
  grown z (x ∷ xs) none = let first = first_up x xs none in let rest = grown (z +ℤ value x) xs (rest_up x xs none) in omega (arith, ints)

  begun : (z : ℤ) (k : ℕ) (xs : List A) → NoneBelow xs → (z ≤ℤ fold more z (take k xs)) × (fold more z (take k xs) ≤ℤ fold more z xs)
  begun z zero xs none = (omega (arith, ints), grown z xs none)
  begun z (suc k) [] none = (omega (arith, ints), omega (arith, ints))
  begun z (suc k) (x ∷ xs) none =
      let first = first_up x xs none in
      let rest = begun (z +ℤ value x) k xs (rest_up x xs none) in
      let above = rest.0 in
      (omega (arith, ints), rest.1)

  pub first_weights : (k : ℕ) (xs : List A) → NoWeightIsBelowZero value xs → (pos 0 ≤ℤ total_of value (take k xs)) × (total_of value (take k xs) ≤ℤ total_of value xs)
  first_weights k xs none = begun (pos 0) k xs none

  pub weights_next : (xs : List A) (k : ℕ) (x : A) → k < length xs → x ≡ slice_index_or xs k x → total_of value (take (k + 1) xs) ≡ total_of value (take k xs) +ℤ value x
  weights_next xs k x below is = fold_next more (pos 0) xs k x below is

  pub total_up : (xs : List A) → NoWeightIsBelowZero value xs → total_of value xs ≢ pos 0 → pos 0 <ℤ total_of value xs
  total_up xs none some = positive _ (grown (pos 0) xs none) some
    where
      positive : (z : ℤ) → pos 0 ≤ℤ z → z ≢ pos 0 → pos 0 <ℤ z
      positive z up other = grind (arith, ints)

  -- each sum of the first weights fits if the sum of all does
  pub first_held : (lo hi : ℤ) (xs : List A) (k : ℕ) → IsRange lo hi → NoWeightIsBelowZero value xs → IsHeld lo hi (total_of value xs) → IsHeld lo hi (total_of value (take k xs))
  first_held lo hi xs k range none held = part_held lo hi _ _ range (inl (first_weights k xs none)) held

  -- the type has no room for the sum of all if it has none for that of the first
  pub total_out : (lo hi : ℤ) (xs : List A) (k : ℕ) (x : A) → IsRange lo hi → k < length xs → x ≡ slice_index_or xs k x → NoWeightIsBelowZero value xs → ¬ (IsHeld lo hi (total_of value (take k xs) +ℤ value x)) → ¬ (IsHeld lo hi (total_of value xs))
  total_out lo hi xs k x range below is none out held =
      let next = weights_next xs k x below is in
      out (subst (IsHeld lo hi) next (first_held lo hi xs (k + 1) range none held))

-- ---- the shares of the weights

-- with one more weight w, where t is the sum of all: x + w/t is (s + w)/t if x is s/t
pub share_more : (x : ℤ × ℤ) (s t w : ℤ) → SameValue x.0 x.1 s t → SameValue (sum_of x.0 x.1 w t).0 (sum_of x.0 x.1 w t).1 (s +ℤ w) t
share_more x s t w same =
    ap (λ (z : ℤ). (z +ℤ w *ℤ x.1) *ℤ t) same ∙ ap (λ (z : ℤ). z *ℤ t) (sym (add-mul s w x.1)) ∙ mul_assoc (s +ℤ w) x.1 t

-- the shares add up to 1
shares_make_one : (x : ℤ × ℤ) (t : ℤ) → pos 0 <ℤ t → SameValue x.0 x.1 t t → x.0 ≡ x.1
shares_make_one x t up same = mul_cancel x.0 x.1 t (positive_nonzero t up) (same ∙ *ℤ_comm t x.1)

module _ {A : Type 0} (value : A → ℤ) (t : ℤ) where
  abbrev over : A → ℤ × ℤ
  over weight = (value weight, t)

  shares_same : (x : ℤ × ℤ) (s : ℤ) (xs : List A) → SameValue x.0 x.1 s t
      → SameValue (fold (λ sum weight. sum_of sum.0 sum.1 (over weight).0 (over weight).1) x xs).0 (fold (λ sum weight. sum_of sum.0 sum.1 (over weight).0 (over weight).1) x xs).1 (fold (λ sum weight. sum +ℤ value weight) s xs) t
  shares_same x s [] same = same
  shares_same x s (y ∷ ys) same = shares_same (sum_of x.0 x.1 (value y) t) (s +ℤ value y) ys (share_more x s t (value y) same)

  -- weights over their sum are shares over it
  pub weights_over : (xs : List A) → NoWeightIsBelowZero value xs → total_of value xs ≢ pos 0 → t ≡ total_of value xs → AreSharesOver over t xs
  weights_over xs none some is =
      let up : pos 0 <ℤ t = subst (λ (z : ℤ). pos 0 <ℤ z) (sym is) (total_up value xs none some) in
      record {
        common = up;
        positive = λ k x below. up;
        none_below = none;
        one = shares_make_one (total_of_shares over xs) t up (subst (λ (z : ℤ). SameValue (total_of_shares over xs).0 (total_of_shares over xs).1 z t) (sym is) (shares_same (pos 0, pos 1) (pos 0) xs (zero-*ℤ t ∙ sym (zero-*ℤ (pos 1)))));
        whole = λ k x below. record { number = value (slice_index_or xs k x); same = refl };
      }

-- ---- a mark lies between 0 and the amount

-- the amount itself is the mark of 1
pub whole_rounded : (a t : ℤ) → pos 0 <ℤ t → IsRounded (a *ℤ t) t a
whole_rounded a t up = let some = each_rounded (a *ℤ t) t up in subst (IsRounded (a *ℤ t) t) (last_mark a t some.0 up some.1) some.1

module _ (a s t z : ℤ) (t_up : pos 0 <ℤ t) (s_up : pos 0 ≤ℤ s) (s_below : s ≤ℤ t) (is : IsRounded (a *ℤ s) t z) where
  one_up : pos 0 <ℤ pos 1
  one_up = omega (arith, ints)

  either : (a : ℤ) → (pos 0 ≤ℤ a) ⊎ (a ≤ℤ pos 0)
  either a = grind (arith, ints)

  none : (a *ℤ pos 0) *ℤ t ≡ pos 0
  none = ap (λ (n : ℤ). n *ℤ t) (*ℤ-zero a) ∙ zero-*ℤ t

  whole : IsRounded (a *ℤ t) t a
  whole = whole_rounded a t t_up

  pub mark_between : ((pos 0 ≤ℤ z) × (z ≤ℤ a)) ⊎ ((a ≤ℤ z) × (z ≤ℤ pos 0))
  mark_between = by (either a)
    where
      t_above : pos 0 ≤ℤ t
      t_above = omega (arith, ints)

      apart : a *ℤ (t -ℤ s) ≡ a *ℤ t -ℤ a *ℤ s
      apart = mul-sub a t s

      by : (pos 0 ≤ℤ a) ⊎ (a ≤ℤ pos 0) → ((pos 0 ≤ℤ z) × (z ≤ℤ a)) ⊎ ((a ≤ℤ z) × (z ≤ℤ pos 0))
      by (inl up) =
          let more = subst (λ (n : ℤ). pos 0 ≤ℤ n) apart (sign_up a (t -ℤ s) up (omega (arith, ints))) in
          inl (
            rounded_monotone HalfAway (a *ℤ pos 0) (pos 1) (a *ℤ s) t (pos 0) z one_up t_up (rw (none, times-one (a *ℤ s)) (sign_up a s up s_up)) (first_mark a) is,
            rounded_monotone HalfAway (a *ℤ s) t (a *ℤ t) t z a t_up t_up (times_le (a *ℤ s) (a *ℤ t) t (omega (arith, ints)) t_above) is whole,
          )
      by (inr down) =
          let less = subst (λ (n : ℤ). n ≤ℤ pos 0) apart (sign_down a (t -ℤ s) down (omega (arith, ints))) in
          inr (
            rounded_monotone HalfAway (a *ℤ t) t (a *ℤ s) t a z t_up t_up (times_le (a *ℤ t) (a *ℤ s) t (omega (arith, ints)) t_above) whole is,
            rounded_monotone HalfAway (a *ℤ s) t (a *ℤ pos 0) (pos 1) z (pos 0) t_up one_up (rw (none, times-one (a *ℤ s)) (sign_down a s down s_up)) is (first_mark a),
          )

  -- the mark fits if the amount does
  pub mark_held : (lo hi : ℤ) → IsRange lo hi → IsHeld lo hi a → IsHeld lo hi z
  mark_held lo hi range held = part_held lo hi z a range mark_between held

-- the mark as it is computed: s times the amount, over 1 times t
pub mark_computed : (a s o t w u z : ℤ) → s ≡ w → o ≡ pos 1 → t ≡ u → IsRounded (a *ℤ s) (o *ℤ t) z → IsRounded (a *ℤ w) u z
mark_computed a s o t w u z s_is one t_is is =
    subst (λ (n : ℤ). IsRounded (a *ℤ n) u z) s_is (subst (λ (d : ℤ). IsRounded (a *ℤ s) d z) (ap (λ (n : ℤ). n *ℤ t) one ∙ one-mul t ∙ t_is) is)
