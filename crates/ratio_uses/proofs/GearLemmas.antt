-- The nearest wheels: the best first wheel for each second one, and then the best of these pairs.
use Rattle.std.specs.Prelude.{◌≡◌, ◌⊎◌, ◌+◌, ◌*◌, ◌-◌, ◌^◌, ◌<◌, ◌≤◌, ◌<ℤ◌, ℕ, ℤ, min, pos, unsigned_abs, false, Option}
use Rattle.std.proofs.Common.{refl, sym, subst, arith, inl, inr}
use Rattle.std.proofs.Math.Nat.{mul-le-mul_left, mul-le-mul_right, mul-lt-mul_of_pos_right}
use Rattle.std.proofs.lemmas.Int.{ints}
use Rattle.std.proofs.lemmas.Nat.{mul-lt}
use lib.Signed.{lt_z}
use Rattle.ratio_approximation.specs.Nearest.{ComesFirst, gap}
use Rattle.ratio_approximation.proofs.NearestPreference.{first_chained, itself_first}
use Rattle.ratio_integer.specs.Division.{IsGcdOf}
use Rattle.ratio_integer.specs.Fraction.{SameValue}
use Rattle.ratio_integer.specs.Range.{IsRange}
use Rattle.ratio_integer.specs.SignedBits.{Fits64, IsHeld64, greatest64, least64}
use Rattle.ratio_integer.proofs.CommonDivisors.{gcd_exists}
use Rattle.ratio_integer.proofs.LowestTerms.{checks_lowest_moved, gcd_held_positive, held_lowest_quotients}
use Rattle.ratio_integer.proofs.Whole.{mul_positive, positive_nonzero}
use Rattle.ratio_core.proofs.SumLemmas.{fits_by}
use Rattle.num_rational.specs.Operators.{ChecksExactDifference}
use Rattle.num_rational.specs.Ratio.{denominator, numerator}
use Rattle.num_rational.specs.declared.ratio.Ratio.{Ratio}
use Rattle.num_rational.proofs.ValueLemmas.{same_value_differences}
use Rattle.ratio_uses.specs.Gears.{AreNearestWheels, IsBestFirst, IsQuotient, IsRoundedDown, IsWheel, PairComesFirst}

pub gap_is : (n d p q : ℕ) → gap (pos n) (pos d) (pos p) (pos q) ≡ (n * q - p * d) + (p * d - n * q)
gap_is n d p q = omega (arith, ints)

less_or_not : (x y : ℕ) → (x < y) ⊎ (y ≤ x)
less_or_not x y = grind arith

same_or_less : (x y : ℕ) → x ≤ y → (x ≡ y) ⊎ (x < y)
same_or_less x y within = grind arith

-- ---- one second wheel

pub nearer_first : (g h f m s : ℕ) → g ≤ h → f ≤ m → ComesFirst g (pos f) (pos s) h (pos m) (pos s)
nearer_first g h f m s near less = cases (same_or_less (g * s) (h * s) (mul-le-mul_right s near))
  where
    cases : (g * s ≡ h * s) ⊎ (g * s < h * s) → ComesFirst g (pos f) (pos s) h (pos m) (pos s)
    cases (inl same) = inr (same, inr (refl, omega (arith, ints)))
    cases (inr nearer) = inl nearer

module _ (n d s r : ℕ) (d_up : 0 < d) (s_up : 0 < s) (is : IsRoundedDown (n * s) d r) where
  -- above the rounded number, less comes first
  from_above : (f m : ℕ) → r ≤ f → f ≤ m → PairComesFirst (pos n, pos d) f s m s
  from_above f m over more = cases (same_or_less f m more)
    where
      cases : (f ≡ m) ⊎ (f < m) → PairComesFirst (pos n, pos d) f s m s
      cases (inl e) = subst (λ k. PairComesFirst (pos n, pos d) f s k s) e (itself_first _ (pos f) (pos s))
      cases (inr up) =
          let high = is.above in
          let low = is.below in
          let first : r * d ≤ f * d = mul-le-mul_right d over in
          let second : (f + 1) * d ≤ m * d = mul-le-mul_right d (omega arith) in
          nearer_first _ _ f m s (omega (arith, gap_is n d f s, gap_is n d m s)) more

  -- below the rounded number, more comes first
  from_below : (f m : ℕ) → f ≤ r → m ≤ f → PairComesFirst (pos n, pos d) f s m s
  from_below f m under less = cases (same_or_less m f less)
    where
      cases : (m ≡ f) ⊎ (m < f) → PairComesFirst (pos n, pos d) f s m s
      cases (inl e) = subst (λ k. PairComesFirst (pos n, pos d) f s k s) (sym e) (itself_first _ (pos f) (pos s))
      cases (inr down) =
          let high = is.above in
          let low = is.below in
          let first : f * d ≤ r * d = mul-le-mul_right d under in
          let second : (m + 1) * d ≤ f * d = mul-le-mul_right d (omega arith) in
          let nearer : gap (pos n) (pos d) (pos f) (pos s) < gap (pos n) (pos d) (pos m) (pos s) = omega (arith, gap_is n d f s, gap_is n d m s) in
          inl (mul-lt-mul_of_pos_right nearer s_up)

  either_way : (f m : ℕ) → f ≡ r → PairComesFirst (pos n, pos d) f s m s
  either_way f m e = cases (less_or_not f m)
    where
      cases : (f < m) ⊎ (m ≤ f) → PairComesFirst (pos n, pos d) f s m s
      cases (inl up) = from_above f m (omega arith) (omega arith)
      cases (inr down) = from_below f m (omega arith) down

  pub best_rounded : (least most f : ℕ) → f ≡ r → least ≤ r → r ≤ most → IsBestFirst (pos n, pos d) least most f s
  best_rounded least most f e low high = record {
    wheel = record { at_least = omega arith; at_most = omega arith };
    best = λ m wheel. either_way f m e;
  }

  pub best_least : (least most : ℕ) → least ≤ most → r < least → IsBestFirst (pos n, pos d) least most least s
  best_least least most range low = record {
    wheel = record { at_least = omega arith; at_most = omega arith };
    best = λ m wheel. from_above least m (omega arith) wheel.at_least;
  }

  pub best_most : (least most : ℕ) → least ≤ most → most < r → IsBestFirst (pos n, pos d) least most most s
  best_most least most range high = record {
    wheel = record { at_least = omega arith; at_most = omega arith };
    best = λ m wheel. from_below most m (omega arith) wheel.at_most;
  }

-- ---- one second wheel after the other

up_to_or_more : (x w : ℕ) → (x ≤ w) ⊎ (w < x)
up_to_or_more x w = grind arith

-- each whole number is at least as far from the best first wheel as the nearest one
pub nearest_whole : (n d s w r x : ℕ) → IsQuotient (n * s) d w r → min r (d - r) ≤ gap (pos n) (pos d) (pos x) (pos s)
nearest_whole n d s w r x is = cases (up_to_or_more x w)
  where
    cases : (x ≤ w) ⊎ (w < x) → min r (d - r) ≤ gap (pos n) (pos d) (pos x) (pos s)
    cases (inl less) = let below : x * d ≤ w * d = mul-le-mul_right d less in let same = is.same in omega (arith, gap_is n d x s)
    cases (inr more) = let above : (w + 1) * d ≤ x * d = mul-le-mul_right d (omega arith) in let same = is.same in omega (arith, gap_is n d x s)

pub quotient_small : (x d w r : ℕ) → 0 < d → x < 2 ^ 100 → IsQuotient x d w r → w < 2 ^ 100
quotient_small x d w r up small is = let part : w * 1 ≤ w * d = mul-le-mul_left w up in let same = is.same in omega arith

pub scaled_small : (n s : ℕ) → n < 2 ^ 64 → s < 2 ^ 36 → n * s < 2 ^ 100
scaled_small n s n_small s_small = let part : n * s < 2 ^ 64 * 2 ^ 36 = mul-lt n s (2 ^ 64) (2 ^ 36) n_small s_small in omega arith

-- the best first wheel with the next second one
pub best_next : (n d s w r step part more rest : ℕ) → IsQuotient (n * s) d w r → IsQuotient n d step part → IsQuotient (w * d + r + (step * d + part)) d more rest → IsQuotient (n * (s + 1)) d more rest
best_next n d s w r step part more rest is step_is sum_is = record {
  same = let one = is.same in let other = step_is.same in let sum = sum_is.same in omega arith;
  less = sum_is.less;
}

-- of all pairs whose second wheel has from `least` to `top` teeth, this one comes first
pub record AreNearestUpTo (wanted : ℤ × ℤ) (least most top first second : ℕ) : Type 0 where
  pub first_wheel : IsWheel least most first
  pub second_wheel : IsWheel least top second
  pub nearest : (m e : ℕ) → IsWheel least most m → IsWheel least top e → PairComesFirst wanted first second m e

pub nearest_begins : (wanted : ℤ × ℤ) (least most first : ℕ) → IsBestFirst wanted least most first least → AreNearestUpTo wanted least most least first least
nearest_begins wanted least most first is = record {
  first_wheel = is.wheel;
  second_wheel = record { at_least = omega arith; at_most = omega arith };
  nearest = λ m e first_in second_in.
      let same : least ≡ e = omega arith in
      subst (λ k. PairComesFirst wanted first least m k) same (is.best m first_in);
}

-- where all wheels have the same number of teeth there is one pair
pub one_pair : (wanted : ℤ × ℤ) (least most : ℕ) → least ≡ most → AreNearestWheels wanted least most least least
one_pair wanted least most same = record {
  first_wheel = record { at_least = omega arith; at_most = omega arith };
  second_wheel = record { at_least = omega arith; at_most = omega arith };
  nearest = λ m e m_in e_in. first m e (only m m_in) (only e e_in);
}
  where
    only : (x : ℕ) → IsWheel least most x → least ≡ x
    only x is = let low = is.at_least in let high = is.at_most in omega arith

    first : (m e : ℕ) → least ≡ m → least ≡ e → PairComesFirst wanted least least m e
    first m e one other = subst (λ t. PairComesFirst wanted least least t e) one (subst (λ t. PairComesFirst wanted least least least t) other (itself_first _ (pos least) (pos least)))

last_or_before : (top e : ℕ) → e ≤ top + 1 → (e ≤ top) ⊎ (top + 1 ≡ e)
last_or_before top e within = grind arith

module _ (wanted : ℤ × ℤ) (least most top first second other next : ℕ) (least_up : 0 < least) (so_far : AreNearestUpTo wanted least most top first second) (is_next : next ≡ top + 1) (best : IsBestFirst wanted least most other next) where
  chained : (a b c d e f : ℕ) → 0 < b → 0 < d → 0 < f → PairComesFirst wanted a b c d → PairComesFirst wanted c d e f → PairComesFirst wanted a b e f
  chained a b c d e f b_up d_up f_up = first_chained _ (pos a) (pos b) _ (pos c) (pos d) _ (pos e) (pos f) (omega (arith, ints)) (omega (arith, ints)) (omega (arith, ints))

  second_up : 0 < second
  second_up = let low = so_far.second_wheel.at_least in omega arith

  at_top : (e : ℕ) → IsWheel least next e → (e ≤ top) ⊎ (next ≡ e)
  at_top e wheel = let high = wheel.at_most in grind (arith, last_or_before top e)

  -- the new pair is nearer
  pub nearest_taken : gap wanted.0 wanted.1 (pos other) (pos next) * second < gap wanted.0 wanted.1 (pos first) (pos second) * next → AreNearestUpTo wanted least most next other next
  nearest_taken nearer = record {
    first_wheel = best.wheel;
    second_wheel = record { at_least = let low = so_far.second_wheel.at_least in let high = so_far.second_wheel.at_most in omega arith; at_most = omega arith };
    nearest = λ m e first_in second_in. cases m e first_in second_in (at_top e second_in);
  }
    where
      cases : (m e : ℕ) → IsWheel least most m → IsWheel least next e → (e ≤ top) ⊎ (next ≡ e) → PairComesFirst wanted other next m e
      cases m e first_in second_in (inl before) =
          chained other next first second m e (omega arith) second_up (let low = second_in.at_least in omega arith) (inl nearer)
          (so_far.nearest m e first_in (record { at_least = second_in.at_least; at_most = before }))
      cases m e first_in second_in (inr same) = subst (λ k. PairComesFirst wanted other next m k) same (best.best m first_in)

  -- the new pair is not nearer, and its second wheel is larger
  pub nearest_kept : gap wanted.0 wanted.1 (pos first) (pos second) * next ≤ gap wanted.0 wanted.1 (pos other) (pos next) * second → AreNearestUpTo wanted least most next first second
  nearest_kept not_nearer = record {
    first_wheel = so_far.first_wheel;
    second_wheel = record { at_least = so_far.second_wheel.at_least; at_most = let high = so_far.second_wheel.at_most in omega arith };
    nearest = λ m e first_in second_in. cases m e first_in second_in (at_top e second_in);
  }
    where
      before_new : PairComesFirst wanted first second other next
      before_new = even (same_or_less _ _ not_nearer)
        where
          even : (gap wanted.0 wanted.1 (pos first) (pos second) * next ≡ gap wanted.0 wanted.1 (pos other) (pos next) * second) ⊎ (gap wanted.0 wanted.1 (pos first) (pos second) * next < gap wanted.0 wanted.1 (pos other) (pos next) * second) → PairComesFirst wanted first second other next
          even (inl same) = inr (same, inl (let high = so_far.second_wheel.at_most in omega (arith, ints)))
          even (inr less) = inl less

      cases : (m e : ℕ) → IsWheel least most m → IsWheel least next e → (e ≤ top) ⊎ (next ≡ e) → PairComesFirst wanted first second m e
      cases m e first_in second_in (inl before) = so_far.nearest m e first_in (record { at_least = second_in.at_least; at_most = before })
      cases m e first_in second_in (inr same) =
          chained first second other next m e second_up (omega arith) (let low = second_in.at_least in omega arith) before_new
          (subst (λ k. PairComesFirst wanted other next m k) same (best.best m first_in))

-- no pair with the next second wheel is nearer, and that wheel is larger
pub nearest_too_far : (wanted : ℤ × ℤ) (least most top first second near : ℕ) → AreNearestUpTo wanted least most top first second → ((m : ℕ) → near ≤ gap wanted.0 wanted.1 (pos m) (pos (top + 1)))
    → gap wanted.0 wanted.1 (pos first) (pos second) * (top + 1) ≤ near * second → AreNearestUpTo wanted least most (top + 1) first second
nearest_too_far wanted least most top first second near so_far each not_nearer = record {
  first_wheel = so_far.first_wheel;
  second_wheel = record { at_least = so_far.second_wheel.at_least; at_most = let high = so_far.second_wheel.at_most in omega arith };
  nearest = λ m e first_in second_in. cases m e first_in second_in (last_or_before top e second_in.at_most);
}
  where
    before_new : (m : ℕ) → PairComesFirst wanted first second m (top + 1)
    before_new m = even (same_or_less _ _ (let part : near * second ≤ gap wanted.0 wanted.1 (pos m) (pos (top + 1)) * second = mul-le-mul_right second (each m) in omega arith))
      where
        even : (gap wanted.0 wanted.1 (pos first) (pos second) * (top + 1) ≡ gap wanted.0 wanted.1 (pos m) (pos (top + 1)) * second) ⊎ (gap wanted.0 wanted.1 (pos first) (pos second) * (top + 1) < gap wanted.0 wanted.1 (pos m) (pos (top + 1)) * second) → PairComesFirst wanted first second m (top + 1)
        even (inl same) = inr (same, inl (let high = so_far.second_wheel.at_most in omega (arith, ints)))
        even (inr less) = inl less

    cases : (m e : ℕ) → IsWheel least most m → IsWheel least (top + 1) e → (e ≤ top) ⊎ (top + 1 ≡ e) → PairComesFirst wanted first second m e
    cases m e first_in second_in (inl before) = so_far.nearest m e first_in (record { at_least = second_in.at_least; at_most = before })
    cases m e first_in second_in (inr same) = subst (λ k. PairComesFirst wanted first second m k) same (before_new m)

-- ---- how far the wheels are from the wanted ratio

pub above_zero : (z : ℤ) → lt_z z (pos 1) ≡ false → pos 0 <ℤ z
above_zero z is = grind (arith, ints)

pub as_whole : (z : ℤ) (m : ℕ) → pos 0 <ℤ z → m ≡ unsigned_abs z → pos m ≡ z
as_whole z m up is = omega (arith, ints)

-- the teeth of two wheels fit in 64 bits, so their lowest terms do
pub teeth_fit : (p q : ℕ) → p < 2 ^ 32 → q < 2 ^ 32 → 0 < q → Fits64 (pos p, pos q)
teeth_fit p q p_small q_small up = go (gcd_exists (pos p) (pos q))
  where
    held : (k : ℕ) → k < 2 ^ 32 → IsHeld64 (pos k)
    held k small = record { above = omega (arith, ints); below = omega (arith, ints) }

    range : IsRange least64 greatest64
    range = record { high = omega (arith, ints); low = inr (inr refl) }

    go : (g : ℤ) × IsGcdOf (pos p) (pos q) g → Fits64 (pos p, pos q)
    go (g, is) =
        let q_up : pos 0 <ℤ pos q = omega (arith, ints) in
        let g_held = (gcd_held_positive least64 greatest64 (pos p) (pos q) range (held q q_small) q_up).each g is in
        fits_by least64 greatest64 (pos p) (pos q) _ _ (held_lowest_quotients least64 greatest64 (pos p) (pos q) g _ _ range (held p p_small) (held q q_small) g_held q_up is refl refl)

pub difference_moved : {T : _} {i : _} {o : _} {e : _} {p : _} {h : _} (w x y : ℤ × ℤ) (r : Option (Ratio T i o e p h)) → pos 0 <ℤ w.1 → pos 0 <ℤ x.1 → pos 0 <ℤ y.1 → SameValue y.0 y.1 x.0 x.1 → ChecksExactDifference w x r → ChecksExactDifference w y r
difference_moved {i = i} w x y r w_up x_up y_up same told =
    checks_lowest_moved numerator denominator i.lo i.hi _ _ _ _ r (positive_nonzero _ (mul_positive w.1 x.1 w_up x_up)) (positive_nonzero _ (mul_positive w.1 y.1 w_up y_up))
    (same_value_differences w.0 w.1 y.0 y.1 w.0 w.1 x.0 x.1 refl same) told
