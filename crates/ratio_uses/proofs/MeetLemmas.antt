-- The first time at which all voices have a beat, as the least common multiple of their periods.
use Rattle.std.specs.Prelude.{◌≡◌, ◌⊎◌, ◌≢◌, ◌+◌, ◌*◌, ◌<◌, ◌≤◌, ◌≤ℤ◌, ◌<ℤ◌, ◌*ℤ◌, ℕ, ℤ, pos, negsuc, int_div, unsigned_abs, All, HoldsAt, List, length, slice_index_or}
use Rattle.std.specs.Int.{◌∣◌}
use Rattle.std.proofs.Common.{refl, sym, ap, subst, ◌∙◌, arith, inl, inr}
use Rattle.std.proofs.lemmas.Int.{ints, unsigned_abs-mul}
use Rattle.std.proofs.lemmas.List.Elements.{at_read}
use Rattle.std.proofs.lemmas.Nat.Gcd.{le_of_dvd}
use borrow.Author.Count.{below_more}
use lib.IntN.{*ℤ_comm, zero-*ℤ}
use Rattle.ratio_integer.specs.Division.{IsGcdOf, IsLcmOf}
use Rattle.ratio_integer.specs.Fraction.{Fits, IsHeldLowest, IsLowestTerms, SameValue}
use Rattle.ratio_integer.specs.Range.{IsHeld}
use Rattle.ratio_integer.proofs.CommonDivisors.{coprime_gcd, gcd_exists, multiple_divides}
use Rattle.ratio_integer.proofs.DivisionLemmas.{abs_pos}
use Rattle.ratio_integer.proofs.GcdLemmas.{coprime-dvd}
use Rattle.ratio_integer.proofs.LcmLemmas.{lcm_by_gcd}
use Rattle.ratio_integer.proofs.LowestTerms.{same_value_chained}
use Rattle.ratio_integer.proofs.Whole.{mul_assoc, mul_positive, mul-swap_last, positive_factor, positive_nonzero}
use Rattle.ratio_core.specs.Divisors.{DividesFraction, HasHeldPair, IsLcmOfFractions}
use Rattle.ratio_core.proofs.DivisorLemmas.{lcm_of_fractions}
use Rattle.ratio_core.proofs.ProductOrder.{times_le}
use Rattle.ratio_uses.proofs.BeatLemmas.{less_or_not}
use Rattle.ratio_uses.specs.Beats.{HasBeatAt, IsMeeting, IsUpTo, period_of}
use Rattle.ratio_uses.specs.declared.beats.Voice.{Voice}

-- ---- a beat at a time

beat_divides : (time p : ℤ × ℤ) → HasBeatAt time p → DividesFraction p.0 p.1 time.0 time.1
beat_divides time p (k, up, same) = (k, same)

-- a period that divides a time has a beat then
divides_beat : (time p : ℤ × ℤ) → pos 0 <ℤ time.0 → pos 0 <ℤ time.1 → pos 0 <ℤ p.0 → pos 0 <ℤ p.1 → DividesFraction p.0 p.1 time.0 time.1 → HasBeatAt time p
divides_beat time p above time_up p_above p_up (k, same) =
    let left = mul_positive time.0 p.1 above p_up in
    let some : pos 0 <ℤ (k *ℤ p.0) = positive_factor (k *ℤ p.0) time.1 time_up (subst (λ z. pos 0 <ℤ z) same left) in
    (k, positive_factor k p.0 p_above some, same)

-- a voice with a beat at a time above 0 has a period above 0
no_beat : (time p : ℤ × ℤ) → pos 0 <ℤ time.0 → pos 0 <ℤ time.1 → pos 0 <ℤ p.1 → p.0 ≤ℤ pos 0 → ¬ (HasBeatAt time p)
no_beat time p above time_up p_up low (k, up, same) =
    let left = mul_positive time.0 p.1 above p_up in
    let some : pos 0 <ℤ (k *ℤ p.0) = positive_factor (k *ℤ p.0) time.1 time_up (subst (λ z. pos 0 <ℤ z) same left) in
    let turned : pos 0 <ℤ (p.0 *ℤ k) = subst (λ z. pos 0 <ℤ z) (*ℤ_comm k p.0) some in
    let positive = positive_factor p.0 k up turned in
    omega (arith, ints)

chained : (a b t u x y : ℤ) → u ≢ pos 0 → DividesFraction a b t u → DividesFraction t u x y → DividesFraction a b x y
chained a b t u x y nonzero (k, first) (j, second) =
    let times : SameValue (j *ℤ t) u (j *ℤ (k *ℤ a)) b = mul_assoc j t b ∙ ap (λ (z : ℤ). j *ℤ z) first ∙ sym (mul_assoc j (k *ℤ a) u) in
    (j *ℤ k, subst (λ z. SameValue x y z b) (sym (mul_assoc j k a)) (same_value_chained x y (j *ℤ t) u (j *ℤ (k *ℤ a)) b nonzero second times))

-- a time above 0 is not before one that divides it
not_before : (t x : ℤ × ℤ) → pos 0 <ℤ t.0 → pos 0 <ℤ t.1 → pos 0 <ℤ x.0 → pos 0 <ℤ x.1 → DividesFraction t.0 t.1 x.0 x.1 → IsUpTo t x
not_before t x t_above t_up x_above x_up divides = go (divides_beat x t x_above x_up t_above t_up divides)
  where
    go : HasBeatAt x t → IsUpTo t x
    go (k, up, same) =
        let some : pos 0 <ℤ (t.0 *ℤ x.1) = mul_positive t.0 x.1 t_above x_up in
        let more : (pos 1 *ℤ (t.0 *ℤ x.1)) ≤ℤ (k *ℤ (t.0 *ℤ x.1)) = times_le (pos 1) k (t.0 *ℤ x.1) (omega (arith, ints)) (omega (arith, ints)) in
        omega (arith, ints, mul_assoc k t.0 x.1)

-- ---- the least common multiple of two periods above 0

module _ (a b c d : ℤ) (a_up : pos 0 <ℤ a) (b_up : pos 0 <ℤ b) (c_up : pos 0 <ℤ c) (d_up : pos 0 <ℤ d) where
  multiple_positive : (l m : ℤ) → IsLcmOfFractions a b c d l m → pos 0 <ℤ l
  multiple_positive l m is = go (is.least (a *ℤ c) (pos 1) (omega (arith, ints)) left right)
    where
      one : (z : ℤ) → z ≡ z *ℤ pos 1
      one z = omega (arith, ints)

      left : DividesFraction a b (a *ℤ c) (pos 1)
      left = (c *ℤ b, mul_assoc a c b ∙ *ℤ_comm a (c *ℤ b) ∙ one ((c *ℤ b) *ℤ a))

      right : DividesFraction c d (a *ℤ c) (pos 1)
      right = (a *ℤ d, mul-swap_last a c d ∙ sym (mul_assoc a d c) ∙ one ((a *ℤ d) *ℤ c))

      go : DividesFraction l m (a *ℤ c) (pos 1) → pos 0 <ℤ l
      go (k, same) =
          let some = mul_positive (a *ℤ c) m (mul_positive a c a_up c_up) is.lowest.positive in
          let sign = is.sign in
          let not_zero : l ≢ pos 0 = λ zero. nothing k (same ∙ ap (λ (z : ℤ). (k *ℤ z) *ℤ pos 1) zero) some in
          grind (arith, ints)
        where
          nothing : (k : ℤ) → (a *ℤ c) *ℤ m ≡ (k *ℤ pos 0) *ℤ pos 1 → pos 0 <ℤ ((a *ℤ c) *ℤ m) → ⊥
          nothing k e up = let none : k *ℤ pos 0 ≡ pos 0 = *ℤ_comm k (pos 0) ∙ zero-*ℤ k in omega (arith, ints)

-- if it divides a fraction that fits, it fits
module _ (hi : ℕ) (lo a b c d : ℤ) (left : IsLowestTerms a b) (right : IsLowestTerms c d) (a_up : pos 0 <ℤ a) (c_up : pos 0 <ℤ c) (low : lo ≤ℤ pos 0) (d_held : IsHeld lo (pos hi) d) where
  numer_divides : (l m x y k : ℤ) → IsLowestTerms l m → SameValue x y (k *ℤ l) m → unsigned_abs l ∣ unsigned_abs x
  numer_divides l m x y k lowest same =
      let numer : unsigned_abs l ∣ unsigned_abs x * unsigned_abs m = rw unsigned_abs-mul at (multiple_divides (x *ℤ m) l (k *ℤ y, same ∙ mul-swap_last k l y ∙ sym (mul_assoc k y l))) in
      coprime-dvd _ _ _ (coprime_gcd _ _ lowest.only_one) numer

  at_most_held : (z x : ℤ) → pos 0 <ℤ z → pos 0 <ℤ x → unsigned_abs z ∣ unsigned_abs x → IsHeld lo (pos hi) x → IsHeld lo (pos hi) z
  at_most_held z x z_up x_up divides held =
      let less : unsigned_abs z ≤ unsigned_abs x = le_of_dvd (abs_pos x (positive_nonzero x x_up)) divides in
      let below = held.below in
      record { above = omega (arith, ints); below = omega (arith, ints) }

  lcm_held : (x y : ℤ) → y ≢ pos 0 → pos 0 <ℤ x → pos 0 <ℤ y → DividesFraction a b x y → DividesFraction c d x y → Fits lo (pos hi) x y → HasHeldPair lo (pos hi) (IsLcmOfFractions a b c d)
  lcm_held x y nonzero x_up y_up first second fits = go (gcd_exists a c) (gcd_exists b d)
    where
      go : (g : ℤ) × IsGcdOf a c g → (m : ℤ) × IsGcdOf b d m → HasHeldPair lo (pos hi) (IsLcmOfFractions a b c d)
      go (g, is_gcd) (m, denom) =
          let l = pos (unsigned_abs (int_div a g *ℤ c)) in
          let numer : IsLcmOf a c l = lcm_by_gcd a c g (int_div a g) (positive_nonzero c c_up) is_gcd refl in
          let is : IsLcmOfFractions a b c d l m = lcm_of_fractions a b c d left right l m numer denom in
          let l_up : pos 0 <ℤ l = multiple_positive a b c d a_up left.positive c_up right.positive l m is in
          let low = fits.low.terms in
          let p = fits.numer in
          let q = fits.denom in
          let p_up : pos 0 <ℤ p = positive_factor p y y_up (subst (λ z. pos 0 <ℤ z) low.same (mul_positive x q x_up low.lowest.positive)) in
          let of_time = is.least x y nonzero first second in
          let same : SameValue p q (of_time.0 *ℤ l) m = same_value_chained p q x y (of_time.0 *ℤ l) m nonzero (sym low.same) of_time.1 in
          record {
            first = l;
            second = m;
            held = record {
              pair = is;
              first_held = at_most_held l p l_up p_up (numer_divides l m p q of_time.0 is.lowest same) fits.low.numer_held;
              second_held = at_most_held m d is.lowest.positive right.positive denom.divisor.1 d_held;
            };
          }

-- ---- one voice after the other

-- the first i voices have a beat at this time above 0, and it divides each time at which all have one
pub record MeetSoFar (voices : List Voice) (i : ℕ) (time : ℤ × ℤ) : Type 0 where
  pub positive : pos 0 <ℤ time.0
  pub beat : (k : ℕ) → k < i → HoldsAt (λ voice. HasBeatAt time (period_of voice)) voices k
  pub least : (other : ℤ × ℤ) → pos 0 <ℤ other.0 → pos 0 <ℤ other.1 → All (λ voice. HasBeatAt other (period_of voice)) voices → DividesFraction time.0 time.1 other.0 other.1

module _ (voices : List Voice) (i : ℕ) (voice : Voice) (within : i < length voices) (is : voice ≡ slice_index_or voices i voice) where
  its_beat : (other : ℤ × ℤ) → All (λ voice. HasBeatAt other (period_of voice)) voices → HasBeatAt other (period_of voice)
  its_beat other all = subst (λ v. HasBeatAt other (period_of v)) (sym is) (all i voice within)

  pub meet_begins : pos 0 <ℤ (period_of voice).0 → MeetSoFar voices 0 (period_of voice)
  meet_begins above = record {
    positive = above;
    beat = λ k below. absurd (omega arith);
    least = λ other other_above other_up all. beat_divides other (period_of voice) (its_beat other all);
  }

  -- a voice without a period above 0 has no beat above 0
  pub never_meet : pos 0 <ℤ (period_of voice).1 → (period_of voice).0 ≤ℤ pos 0 → (time : ℤ × ℤ) → pos 0 <ℤ time.1 → ¬ (IsMeeting voices time)
  never_meet up low time time_up meeting = no_beat time (period_of voice) meeting.positive time_up up low (its_beat time meeting.all)

  module _ (time : ℤ × ℤ) (so_far : MeetSoFar voices i time) (time_low : IsLowestTerms time.0 time.1) (low : IsLowestTerms (period_of voice).0 (period_of voice).1) (above : pos 0 <ℤ (period_of voice).0) where
    pub meet_more : (next : ℤ × ℤ) → IsLcmOfFractions time.0 time.1 (period_of voice).0 (period_of voice).1 next.0 next.1 → ((voice : Voice) → pos 0 <ℤ (period_of voice).1) → MeetSoFar voices (i + 1) next
    meet_more next lcm ups = record {
      positive = next_above;
      beat = below_more (λ k. HoldsAt (λ voice. HasBeatAt next (period_of voice)) voices k) i
          (λ k below voice. moved (period_of (slice_index_or voices k voice)) (ups (slice_index_or voices k voice)) (so_far.beat k below voice))
          (at_read voices (λ voice. HasBeatAt next (period_of voice)) i voice within is (divides_beat next (period_of voice) next_above lcm.lowest.positive above low.positive lcm.second));
      least = λ other other_above other_up all.
          lcm.least other.0 other.1 (positive_nonzero other.1 other_up) (so_far.least other other_above other_up all) (beat_divides other (period_of voice) (its_beat other all));
    }
      where
        next_above : pos 0 <ℤ next.0
        next_above = multiple_positive time.0 time.1 (period_of voice).0 (period_of voice).1 so_far.positive time_low.positive above low.positive next.0 next.1 lcm

        -- what divides the time so far divides the next
        moved : (p : ℤ × ℤ) → pos 0 <ℤ p.1 → HasBeatAt time p → HasBeatAt next p
        moved p p_up beat = go (above_zero beat)
          where
            above_zero : HasBeatAt time p → pos 0 <ℤ p.0
            above_zero beat = cases (less_or_not (pos 0) p.0)
              where
                cases : (pos 0 <ℤ p.0) ⊎ (p.0 ≤ℤ pos 0) → pos 0 <ℤ p.0
                cases (inl is) = is
                cases (inr not) = absurd (no_beat time p so_far.positive time_low.positive p_up not beat)

            go : pos 0 <ℤ p.0 → HasBeatAt next p
            go p_above = divides_beat next p next_above lcm.lowest.positive p_above p_up
                (chained p.0 p.1 time.0 time.1 next.0 next.1 (positive_nonzero time.1 time_low.positive) (beat_divides time p beat) lcm.first)

    pub meet_out : (hi : ℕ) (lo : ℤ) → lo ≤ℤ pos 0 → IsHeld lo (pos hi) (period_of voice).1 → ¬ (HasHeldPair lo (pos hi) (IsLcmOfFractions time.0 time.1 (period_of voice).0 (period_of voice).1))
        → (other : ℤ × ℤ) → pos 0 <ℤ other.1 → IsMeeting voices other → ¬ (Fits lo (pos hi) other.0 other.1)
    meet_out hi lo lo_low period_held out other other_up meeting fits =
        out (lcm_held hi lo time.0 time.1 (period_of voice).0 (period_of voice).1 time_low low so_far.positive above lo_low period_held other.0 other.1
        (positive_nonzero other.1 other_up) meeting.positive other_up (so_far.least other meeting.positive other_up meeting.all) (beat_divides other (period_of voice) (its_beat other meeting.all)) fits)

pub meet_ends : (voices : List Voice) (i : ℕ) (time : ℤ × ℤ) → length voices ≤ i → pos 0 <ℤ time.1 → MeetSoFar voices i time → IsMeeting voices time
meet_ends voices i time ends time_up so_far = record {
  positive = so_far.positive;
  all = λ k voice within. so_far.beat k (omega arith) voice;
  first = λ other other_above other_up all. not_before time other so_far.positive time_up other_above other_up (so_far.least other other_above other_up all);
}

-- without a voice there is no first time
pub no_voices : (voices : List Voice) → length voices ≡ 0 → (time : ℤ × ℤ) → pos 0 <ℤ time.1 → ¬ (IsMeeting voices time)
no_voices voices none time time_up meeting =
    let half = meeting.first (time.0, time.1 *ℤ pos 2) meeting.positive (mul_positive time.1 (pos 2) time_up (omega (arith, ints))) (λ k voice within. absurd (omega arith)) in
    let some = mul_positive time.0 time.1 meeting.positive time_up in
    omega (arith, ints, mul_assoc time.0 time.1 (pos 2))
