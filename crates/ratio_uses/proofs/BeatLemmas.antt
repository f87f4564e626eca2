-- How times are ordered, and what one more beat does.
use Rattle.std.specs.Prelude.{◌≡◌, ◌⊎◌, ◌+◌, ◌^◌, ◌<◌, ◌≤◌, ◌≤ℤ◌, ◌<ℤ◌, ◌+ℤ◌, ◌*ℤ◌, ℕ, ℤ, pos, negsuc, Any, Bool, HoldsAt, IsSome, IsTrue, ◌↔◌, List, length, slice_index_or, unsigned_abs, true, false, Option, Some, None, Result, Ok, Err}
use Rattle.std.proofs.Math.ListN.{set}
use Rattle.std.specs.Option.{is_some}
use Rattle.std.specs.Result.{OkIff, result_ok}
use Rattle.std.proofs.Common.{refl, sym, ap, subst, ◌∙◌, arith, inl, inr, rules}
use Rattle.std.proofs.lemmas.Int.{fits_signed_mul, ints}
use Rattle.std.proofs.lemmas.List.{get_or-set_other, get_or-set_same, length-set}
use Rattle.std.proofs.lemmas.List.Elements.{at_read}
use borrow.Author.Count.{below_more}
use mir.Syntax.{w128, w64}
use mir.Val.{SFits}
use lib.IntN.{one, *ℤ_comm, *ℤ-one}
use Rattle.ratio_integer.specs.Division.{IsGcdOf}
use Rattle.ratio_integer.specs.Fraction.{Fits, IsHeldLowest, IsLowestTermsOf, SameValue}
use Rattle.ratio_integer.specs.Range.{IsRange}
use Rattle.ratio_integer.specs.SignedBits.{Fits64, IsHeld64, greatest64, least64}
use Rattle.ratio_integer.proofs.CommonDivisors.{gcd_exists}
use Rattle.ratio_integer.proofs.LowestTerms.{gcd_held_positive, held_lowest_quotients, same_value_chained}
use Rattle.ratio_integer.proofs.Whole.{add-mul, mul_assoc, mul_positive, mul-swap_last, positive_nonzero}
use Rattle.ratio_core.specs.Rounding.{IsFloor}
use Rattle.ratio_core.proofs.ProductOrder.{more-times, times_le, whole_at_most}
use Rattle.ratio_core.proofs.SumLemmas.{fits_by}
use Rattle.num_rational.specs.Ratio.{ChecksRatio}
use Rattle.num_rational.specs.Reduced.{lowest_numbers, ratio_in}
use Rattle.num_rational.specs.declared.reduced.Reduced.{Reduced}
use Rattle.ratio_uses.specs.Beats.{AllAreHeld, AllHaveHad, BeatIsHeld, ChecksBeatNumbers, ChecksCount, ChecksEarliest, CountIsHeld, CountsBeat, CountsEach, HasHad, IsBefore, IsEarliest, IsNextBeat, IsUpTo, StartsEach, next_time, period_of, periods}
use Rattle.ratio_uses.specs.declared.beats.Voice.{Voice}
use Rattle.num_rational.proofs.SplitLemmas.{cancel_less}
use Rattle.ratio_uses.proofs.OctaveLemmas.{less_times}

times-one : (a : ℤ) → a *ℤ pos 1 ≡ a
unfolding one
times-one a = *ℤ-one a

swapped : (a b c : ℤ) → (a *ℤ b) *ℤ c ≡ (a *ℤ c) *ℤ b
swapped a b c = mul-swap_last a b c ∙ sym (mul_assoc a c b)

pub less_or_not : (x y : ℤ) → (x <ℤ y) ⊎ (y ≤ℤ x)
less_or_not x y = grind (arith, ints)

cancel_at_most : (x y d : ℤ) → pos 0 <ℤ d → (x *ℤ d) ≤ℤ (y *ℤ d) → x ≤ℤ y
cancel_at_most x y d up most = cases (less_or_not y x)
  where
    cases : (y <ℤ x) ⊎ (x ≤ℤ y) → x ≤ℤ y
    cases (inl less) = absurd (let times = less_times y x d less up in omega (arith, ints))
    cases (inr is) = is

-- ---- the order of three times

module _ (x y z : ℤ × ℤ) (x_up : pos 0 <ℤ x.1) (y_up : pos 0 <ℤ y.1) (z_up : pos 0 <ℤ z.1) where
  -- both sides over the three denominators
  left : (x.0 *ℤ z.1) *ℤ y.1 ≡ (x.0 *ℤ y.1) *ℤ z.1
  left = swapped x.0 z.1 y.1

  middle : (y.0 *ℤ z.1) *ℤ x.1 ≡ (y.0 *ℤ x.1) *ℤ z.1
  middle = swapped y.0 z.1 x.1

  right : (z.0 *ℤ x.1) *ℤ y.1 ≡ (z.0 *ℤ y.1) *ℤ x.1
  right = swapped z.0 x.1 y.1

  pub up_to_chained : IsUpTo x y → IsUpTo y z → IsUpTo x z
  up_to_chained first second =
      let a : ((x.0 *ℤ y.1) *ℤ z.1) ≤ℤ ((y.0 *ℤ x.1) *ℤ z.1) = times_le _ _ z.1 first (omega (arith, ints)) in
      let b : ((y.0 *ℤ z.1) *ℤ x.1) ≤ℤ ((z.0 *ℤ y.1) *ℤ x.1) = times_le _ _ x.1 second (omega (arith, ints)) in
      cancel_at_most (x.0 *ℤ z.1) (z.0 *ℤ x.1) y.1 y_up (rw (left, right) (omega (arith, ints, middle)))

  pub before_then : IsBefore x y → IsUpTo y z → IsBefore x z
  before_then first second =
      let a : ((x.0 *ℤ y.1) *ℤ z.1) <ℤ ((y.0 *ℤ x.1) *ℤ z.1) = less_times _ _ z.1 first z_up in
      let b : ((y.0 *ℤ z.1) *ℤ x.1) ≤ℤ ((z.0 *ℤ y.1) *ℤ x.1) = times_le _ _ x.1 second (omega (arith, ints)) in
      cancel_less (x.0 *ℤ z.1) (z.0 *ℤ x.1) y.1 y_up (rw (left, right) (omega (arith, ints, middle)))

  pub then_before : IsUpTo x y → IsBefore y z → IsBefore x z
  then_before first second =
      let a : ((x.0 *ℤ y.1) *ℤ z.1) ≤ℤ ((y.0 *ℤ x.1) *ℤ z.1) = times_le _ _ z.1 first (omega (arith, ints)) in
      let b : ((y.0 *ℤ z.1) *ℤ x.1) <ℤ ((z.0 *ℤ y.1) *ℤ x.1) = less_times _ _ x.1 second x_up in
      cancel_less (x.0 *ℤ z.1) (z.0 *ℤ x.1) y.1 y_up (rw (left, right) (omega (arith, ints, middle)))

before_is_up_to : (x y : ℤ × ℤ) → IsBefore x y → IsUpTo x y
before_is_up_to x y less = omega (arith, ints)

same_is_up_to : (x y : ℤ × ℤ) → SameValue x.0 x.1 y.0 y.1 → IsUpTo x y
same_is_up_to x y same = omega (arith, ints)

same_is_from : (x y : ℤ × ℤ) → SameValue x.0 x.1 y.0 y.1 → IsUpTo y x
same_is_from x y same = omega (arith, ints)

-- ---- one more beat of a voice

one_more : (p : ℤ × ℤ) (k e : ℤ) → ((k +ℤ pos 1) *ℤ p.0) *ℤ e ≡ (k *ℤ p.0) *ℤ e +ℤ p.0 *ℤ e
one_more p k e = ap (λ (z : ℤ). z *ℤ e) (more-times k p.0) ∙ add-mul (k *ℤ p.0) p.0 e

next_later : (p : ℤ × ℤ) (k : ℤ) → pos 0 <ℤ p.0 → pos 0 <ℤ p.1 → IsBefore (periods k p) (periods (k +ℤ pos 1) p)
next_later p k above up =
    let step = mul_positive p.0 p.1 above up in
    rw (one_more p k p.1) (omega (arith, ints))

-- a voice that has had a number of beats has a period above 0
period_above : (t p : ℤ × ℤ) (k : ℤ) → pos 0 <ℤ t.1 → pos 0 <ℤ p.1 → HasHad t p k → pos 0 <ℤ p.0
period_above t p k t_up p_up had =
    let less : IsBefore (periods k p) (periods (k +ℤ pos 1) p) = then_before (periods k p) t (periods (k +ℤ pos 1) p) p_up t_up p_up had.come had.ahead in
    let step : pos 0 <ℤ (p.0 *ℤ p.1) = omega (arith, ints, one_more p k p.1) in
    cancel_less (pos 0) p.0 p.1 p_up (omega (arith, ints))

-- a voice that has its beat at this time
had_it : (p t : ℤ × ℤ) (k : ℤ) → pos 0 <ℤ p.0 → pos 0 <ℤ p.1 → pos 0 <ℤ t.1 → SameValue (periods k p).0 (periods k p).1 t.0 t.1 → HasHad t p k
had_it p t k above up t_up same = record {
  come = same_is_up_to (periods k p) t same;
  ahead = then_before t (periods k p) (periods (k +ℤ pos 1) p) t_up up up (same_is_from (periods k p) t same) (next_later p k above up);
}

-- ---- the next beat of all voices

-- a voice that had its counted beats at an earlier time has them at the time of a beat
module _ (s t : ℤ × ℤ) (s_up : pos 0 <ℤ s.1) (t_up : pos 0 <ℤ t.1) (less : IsBefore s t) where
  still_had : (p : ℤ × ℤ) (k m : ℤ) → pos 0 <ℤ p.1 → HasHad s p k
      → (SameValue (periods (k +ℤ pos 1) p).0 (periods (k +ℤ pos 1) p).1 t.0 t.1 × (m ≡ k +ℤ pos 1)) ⊎ (IsBefore t (periods (k +ℤ pos 1) p) × (m ≡ k))
      → HasHad t p m
  still_had p k m p_up had (inl at) = rw at.1 (had_it p t (k +ℤ pos 1) (period_above s p k s_up p_up had) p_up t_up at.0)
  still_had p k m p_up had (inr after) = rw after.1 (record {
    come = up_to_chained (periods k p) s t p_up s_up t_up had.come (before_is_up_to s t less);
    ahead = after.0;
  })

before_of_one : (before time : ℤ × ℤ) (voices : List Voice) → pos 0 <ℤ before.1 → pos 0 <ℤ time.1 → ((voice : Voice) → pos 0 <ℤ (period_of voice).1)
    → Any (λ voice. SameValue (next_time voice).0 (next_time voice).1 time.0 time.1) voices → AllHaveHad before voices → IsBefore before time
before_of_one before time voices before_up time_up ups (i, voice, within, is, same) had =
    let one : HasHad before (period_of voice) voice.count = subst (λ v. HasHad before (period_of v) v.count) is (had i voice within) in
    before_then before (next_time voice) time before_up (ups voice) time_up one.ahead (same_is_up_to (next_time voice) time same)

pub is_next_beat : (old new : List Voice) (time : ℤ × ℤ) → pos 0 <ℤ time.1 → ((voice : Voice) → pos 0 <ℤ (period_of voice).1)
    → IsEarliest old time → CountsEach time old new → IsNextBeat old new time
is_next_beat old new time time_up ups earliest counts = record {
  of_one = earliest.of_one;
  each = counts;
  none_skipped = λ before before_up had.
      let less = before_of_one before time old before_up time_up ups earliest.of_one had in
      (less, λ i voice within. each before before_up had less i voice (let same = counts.as_many in omega arith));
}
  where
    each : (before : ℤ × ℤ) → pos 0 <ℤ before.1 → AllHaveHad before old → IsBefore before time → (i : ℕ) (voice : Voice) → i < length old
        → HasHad time (period_of (slice_index_or new i voice)) (slice_index_or new i voice).count
    each before before_up had less i voice within =
        let is = counts.same_periods i voice within in
        let o = slice_index_or old i voice in
        let n = slice_index_or new i voice in
        let still : HasHad time (period_of o) n.count = still_had before time before_up time_up less (period_of o) o.count n.count (ups o) (had i voice within) (counts.counted i voice within) in
        rw is still

-- ---- the earliest next beat, one voice after the other

-- the first i voices have next beats that fit, none before this time, and one voice has it then
pub record EarliestSoFar (voices : List Voice) (i : ℕ) (time : ℤ × ℤ) : Type 0 where
  pub held : (k : ℕ) → k < i → HoldsAt (λ voice. BeatIsHeld (period_of voice) voice.count) voices k
  pub of_one : Any (λ voice. SameValue (next_time voice).0 (next_time voice).1 time.0 time.1) voices
  pub each : (k : ℕ) → k < i → HoldsAt (λ voice. IsUpTo time (next_time voice)) voices k

module _ (voices : List Voice) (i : ℕ) (voice : Voice) (within : i < length voices) (is : voice ≡ slice_index_or voices i voice) (next : ℤ × ℤ) (same : SameValue (next_time voice).0 (next_time voice).1 next.0 next.1) where
  beat_of_it : Any (λ voice. SameValue (next_time voice).0 (next_time voice).1 next.0 next.1) voices
  beat_of_it = (i, voice, within, sym is, same)

  pub earliest_begins : EarliestSoFar voices 0 next
  earliest_begins = record { held = λ k below. absurd (omega arith); of_one = beat_of_it; each = λ k below. absurd (omega arith) }

  module _ (time : ℤ × ℤ) (so_far : EarliestSoFar voices i time) (held : BeatIsHeld (period_of voice) voice.count) where
    all_held : (k : ℕ) → k < i + 1 → HoldsAt (λ voice. BeatIsHeld (period_of voice) voice.count) voices k
    all_held = below_more (λ k. HoldsAt (λ voice. BeatIsHeld (period_of voice) voice.count) voices k) i so_far.held (at_read voices (λ voice. BeatIsHeld (period_of voice) voice.count) i voice within is held)

    pub earliest_kept : pos 0 <ℤ time.1 → pos 0 <ℤ next.1 → pos 0 <ℤ (period_of voice).1 → IsUpTo time next → EarliestSoFar voices (i + 1) time
    earliest_kept time_up next_up up before = record {
      held = all_held;
      of_one = so_far.of_one;
      each = below_more (λ k. HoldsAt (λ voice. IsUpTo time (next_time voice)) voices k) i so_far.each
          (at_read voices (λ voice. IsUpTo time (next_time voice)) i voice within is (up_to_chained time next (next_time voice) time_up next_up up before (same_is_from (next_time voice) next same)));
    }

    pub earliest_moved : pos 0 <ℤ time.1 → pos 0 <ℤ next.1 → ((voice : Voice) → pos 0 <ℤ (period_of voice).1) → IsBefore next time → EarliestSoFar voices (i + 1) next
    earliest_moved time_up next_up ups less = record {
      held = all_held;
      of_one = beat_of_it;
      each = below_more (λ k. HoldsAt (λ voice. IsUpTo next (next_time voice)) voices k) i
          (λ k below voice. up_to_chained next time (next_time (slice_index_or voices k voice)) next_up time_up (ups (slice_index_or voices k voice)) (before_is_up_to next time less) (so_far.each k below voice))
          (at_read voices (λ voice. IsUpTo next (next_time voice)) i voice within is (same_is_from (next_time voice) next same));
    }

pub earliest_ends : (voices : List Voice) (i : ℕ) (time : ℤ × ℤ) → length voices ≤ i → EarliestSoFar voices i time → AllAreHeld voices × IsEarliest voices time
earliest_ends voices i time ends so_far = (λ k voice within. so_far.held k (omega arith) voice, record { of_one = so_far.of_one; each = λ k voice within. so_far.each k (omega arith) voice })

-- the same time in lowest terms
earliest_same : (voices : List Voice) (s t : ℤ × ℤ) → pos 0 <ℤ s.1 → pos 0 <ℤ t.1 → ((voice : Voice) → pos 0 <ℤ (period_of voice).1) → SameValue s.0 s.1 t.0 t.1 → IsEarliest voices s → IsEarliest voices t
earliest_same voices s t s_up t_up ups same earliest = record {
  of_one = one earliest.of_one;
  each = λ i voice within. each i voice (earliest.each i voice within);
}
  where
    one : Any (λ voice. SameValue (next_time voice).0 (next_time voice).1 s.0 s.1) voices → Any (λ voice. SameValue (next_time voice).0 (next_time voice).1 t.0 t.1) voices
    one (i, voice, within, is, at) = (i, voice, within, is, same_value_chained (next_time voice).0 (next_time voice).1 s.0 s.1 t.0 t.1 (positive_nonzero s.1 s_up) at same)

    each : (i : ℕ) (voice : Voice) → IsUpTo s (next_time (slice_index_or voices i voice)) → IsUpTo t (next_time (slice_index_or voices i voice))
    each i voice up_to = up_to_chained t s (next_time (slice_index_or voices i voice)) t_up s_up (ups (slice_index_or voices i voice)) (same_is_from s t same) up_to

pub earliest_told : {T : _} {i : _} {o : _} {e : _} {p : _} {h : _} (voices : List Voice) (time : ℤ × ℤ) (r : Option (Reduced T i o e p h)) → Fits i.lo i.hi time.0 time.1 → pos 0 <ℤ time.1 → ((voice : Voice) → pos 0 <ℤ (period_of voice).1)
    → AllAreHeld voices × IsEarliest voices time → ChecksRatio time (ratio_in r) → ChecksEarliest voices r
earliest_told voices time None fits up ups is out = absurd (out fits)
earliest_told voices time (Some r) fits up ups is told = (is.0, earliest_same voices time (lowest_numbers r) up told.terms.lowest.positive ups told.terms.same is.1)

pub up_to_itself : (x : ℤ × ℤ) → IsUpTo x x
up_to_itself x = same_is_up_to x x refl

-- a time that is not before another is from it on
pub not_before : (x y : ℤ × ℤ) (b : Bool) → IsTrue b ↔ IsBefore x y → b ≡ false → IsUpTo y x
not_before x y b told is = cases (less_or_not (x.0 *ℤ y.1) (y.0 *ℤ x.1))
  where
    cases : (x.0 *ℤ y.1) <ℤ (y.0 *ℤ x.1) ⊎ (y.0 *ℤ x.1) ≤ℤ (x.0 *ℤ y.1) → IsUpTo y x
    cases (inl less) = absurd (let yes = told.1 less in let no : true ≡ false = sym yes ∙ is in cc)
    cases (inr up_to) = up_to

pub voice_out : (voices : List Voice) (i : ℕ) (voice : Voice) → i < length voices → voice ≡ slice_index_or voices i voice → ¬ (BeatIsHeld (period_of voice) voice.count) → ¬ (AllAreHeld voices)
voice_out voices i voice within is out held = out (subst (λ v. BeatIsHeld (period_of v) v.count) (sym is) (held i voice within))

-- ---- voices changed one after the other

-- the first i voices are changed as R says, and the others are as they were
pub record ChangedSoFar (R : Voice → Voice → Type 0) (old now : List Voice) (i : ℕ) : Type 0 where
  pub as_many : length now ≡ length old
  pub changed : (k : ℕ) (voice : Voice) → k < i → R (slice_index_or old k voice) (slice_index_or now k voice)
  pub rest : (k : ℕ) (voice : Voice) → i ≤ k → slice_index_or now k voice ≡ slice_index_or old k voice

module _ (R : Voice → Voice → Type 0) where
  pub changed_begins : (voices : List Voice) → ChangedSoFar R voices voices 0
  changed_begins voices = record { as_many = refl; changed = λ k voice below. absurd (omega arith); rest = λ k voice up. refl }

  -- the voice at i, which is not changed yet
  pub unchanged_at : (old now : List Voice) (i : ℕ) (voice : Voice) → ChangedSoFar R old now i → voice ≡ slice_index_or now i voice → voice ≡ slice_index_or old i voice
  unchanged_at old now i voice so_far is = is ∙ so_far.rest i voice (omega arith)

  pub changed_more : (old now : List Voice) (i : ℕ) (voice next : Voice) → i < length now → ChangedSoFar R old now i → voice ≡ slice_index_or now i voice → R voice next → ChangedSoFar R old (set now i next) (i + 1)
  changed_more old now i voice next within so_far is by = record {
    as_many = length-set now i next ∙ so_far.as_many;
    changed = λ k other below. cases k other (last_or_below k i below);
    rest = λ k other up. get_or-set_other now i k next other (omega arith) ∙ so_far.rest k other (omega arith);
  }
    where
      last_or_below : (k i : ℕ) → k < i + 1 → (k < i) ⊎ (i ≡ k)
      last_or_below k i below = grind arith

      at_it : (other : Voice) → R (slice_index_or old i other) (slice_index_or (set now i next) i other)
      at_it other =
          let here : slice_index_or (set now i next) i other ≡ next = get_or-set_same now i next other within in
          let before : voice ≡ slice_index_or old i other = at_read now (λ v. voice ≡ v) i voice within is refl other ∙ so_far.rest i other (omega arith) in
          subst (λ v. R (slice_index_or old i other) v) (sym here) (subst (λ v. R v next) before by)

      cases : (k : ℕ) (other : Voice) → (k < i) ⊎ (i ≡ k) → R (slice_index_or old k other) (slice_index_or (set now i next) k other)
      cases k other (inl below) =
          let same : slice_index_or (set now i next) k other ≡ slice_index_or now k other = get_or-set_other now i k next other (omega arith) in
          subst (λ v. R (slice_index_or old k other) v) (sym same) (so_far.changed k other below)
      cases k other (inr e) = subst (λ j. R (slice_index_or old j other) (slice_index_or (set now i next) j other)) e (at_it other)

-- a voice before and after it starts at a time
abbrev pub IsStarted : ℤ × ℤ → Voice → Voice → Type 0
IsStarted time old new = (new.period ≡ old.period) × HasHad time (period_of new) new.count

-- a voice before and after a beat at a time
abbrev pub IsCounted : ℤ × ℤ → Voice → Voice → Type 0
IsCounted time old new = (new.period ≡ old.period) × CountsBeat time old new.count

pub counts_each : (time : ℤ × ℤ) (old now : List Voice) (i : ℕ) → length now ≤ i → ChangedSoFar (IsCounted time) old now i → CountsEach time old now
counts_each time old now i ends so_far = record {
  as_many = so_far.as_many;
  same_periods = λ k voice within. (so_far.changed k voice (let same = so_far.as_many in omega arith)).0;
  counted = λ k voice within. (so_far.changed k voice (let same = so_far.as_many in omega arith)).1;
}

pub starts_each : (time : ℤ × ℤ) (old now : List Voice) (i : ℕ) → length now ≤ i → ChangedSoFar (IsStarted time) old now i → StartsEach time old now
starts_each time old now i ends so_far = record {
  as_many = so_far.as_many;
  same_periods = λ k voice within. (so_far.changed k voice (let same = so_far.as_many in omega arith)).0;
  had = λ k voice within. (so_far.changed k voice (omega arith)).1;
}

-- ---- the count at a time

module _ (t p : ℤ × ℤ) where
  scaled : (k : ℤ) → (k *ℤ p.0) *ℤ t.1 ≡ k *ℤ (t.1 *ℤ p.0)
  scaled k = mul_assoc k p.0 t.1 ∙ ap (λ (z : ℤ). k *ℤ z) (*ℤ_comm p.0 t.1)

  next_scaled : (k : ℤ) → ((k +ℤ pos 1) *ℤ p.0) *ℤ t.1 ≡ k *ℤ (t.1 *ℤ p.0) +ℤ t.1 *ℤ p.0
  next_scaled k = scaled (k +ℤ pos 1) ∙ more-times k (t.1 *ℤ p.0)

  pub floor_had : (f : ℤ) → IsFloor (t.0 *ℤ p.1) (t.1 *ℤ p.0) f → HasHad t p f
  floor_had f is = record { come = rw (scaled f) is.at_most; ahead = rw (next_scaled f) is.next_above }

  not_more : (f g : ℤ) → pos 0 <ℤ (t.1 *ℤ p.0) → HasHad t p f → HasHad t p g → f ≤ℤ g
  not_more f g up left right =
      let low = left.come in
      let high = right.ahead in
      whole_at_most f g (t.1 *ℤ p.0) up (omega (arith, ints, scaled f, next_scaled g))

  pub count_not_held : (f : ℤ) → pos 0 <ℤ (t.1 *ℤ p.0) → HasHad t p f → ¬ (IsHeld64 f) → ¬ (CountIsHeld t p)
  count_not_held f up had out is =
      let first = not_more f is.count up had is.had in
      let second = not_more is.count f up is.had had in
      let same : is.count ≡ f = omega (arith, ints) in
      out (subst (λ k. IsHeld64 k) same is.held)

  pub no_period : p.0 ≤ℤ pos 0 → pos 0 <ℤ t.1 → pos 0 <ℤ p.1 → ¬ (CountIsHeld t p)
  no_period low t_up p_up is = let above = period_above t p is.count t_up p_up is.had in omega (arith, ints)

-- ---- what calls return

pub count_told : (time period : ℤ × ℤ) (r : Option ℤ) → ChecksCount time period r → IsTrue (is_some r) ↔ CountIsHeld time period
count_told time period None out = (λ told. absurd (let no : false ≡ true = told in cc), λ held. absurd (out held))
count_told time period (Some k) is = (λ told. record { count = k; had = is.0; held = is.1 }, λ held. search rules)

pub count_some : (time period : ℤ × ℤ) (r : Option ℤ) → ChecksCount time period r → CountIsHeld time period → IsSome r
count_some time period None out held = absurd (out held)
count_some time period (Some k) is held = search rules

-- ---- what fits

pub number_held : (z : ℤ) → SFits w64 z → IsHeld64 z
number_held (pos n) fits = let small = fits.sfits in record { above = omega (arith, ints); below = omega (arith, ints) }
number_held (negsuc n) fits = let small = fits.sfits in record { above = omega (arith, ints); below = omega (arith, ints) }

number_fits : (z : ℤ) → IsHeld64 z → SFits w64 z
number_fits (pos n) held = let below = held.below in record { sfits = omega (arith, ints) }
number_fits (negsuc n) held = let above = held.above in record { sfits = omega (arith, ints) }

pub count_out : (period : ℤ × ℤ) (k : ℤ) → ¬ (SFits w64 (k +ℤ pos 1)) → ¬ (BeatIsHeld period k)
count_out period k out held = out (number_fits (k +ℤ pos 1) held.count)

turned_pair : (period : ℤ × ℤ) (m k : ℤ) → m ≡ k +ℤ pos 1 → (period.0 *ℤ m ≡ (k +ℤ pos 1) *ℤ period.0) × (period.1 *ℤ pos 1 ≡ period.1)
turned_pair period m k is = (ap (λ (z : ℤ). period.0 *ℤ z) is ∙ *ℤ_comm period.0 (k +ℤ pos 1), times-one period.1)

pub time_out : (period : ℤ × ℤ) (m k : ℤ) → m ≡ k +ℤ pos 1 → ¬ (Fits64 (period.0 *ℤ m, period.1 *ℤ pos 1)) → ¬ (BeatIsHeld period k)
time_out period m k is out held =
    let e = turned_pair period m k is in
    out (subst (λ n. Fits64 (n, period.1 *ℤ pos 1)) (sym e.0) (subst (λ d. Fits64 ((k +ℤ pos 1) *ℤ period.0, d)) (sym e.1) held.time))

pub beat_is : (period : ℤ × ℤ) (m k : ℤ) (time : ℤ × ℤ) → SFits w64 (k +ℤ pos 1) → m ≡ k +ℤ pos 1 → IsHeldLowest least64 greatest64 (period.0 *ℤ m) (period.1 *ℤ pos 1) time.0 time.1 → BeatIsHeld period k × IsLowestTermsOf ((k +ℤ pos 1) *ℤ period.0) period.1 time.0 time.1
beat_is period m k time fits is held =
    let e = turned_pair period m k is in
    let moved = rw (e.0, e.1) at held in
    (record { count = number_held (k +ℤ pos 1) fits; time = fits_by _ _ _ _ time.0 time.1 moved }, moved.terms)

-- a fraction of numbers that fit
pub numbers_fit : (x y : ℤ) → SFits w64 x → SFits w64 y → pos 0 <ℤ y → Fits64 (x, y)
numbers_fit x y x_fits y_fits up = go (gcd_exists x y)
  where
    range : IsRange least64 greatest64
    range = record { high = omega (arith, ints); low = inr (inr refl) }

    go : (g : ℤ) × IsGcdOf x y g → Fits64 (x, y)
    go (g, is) =
        let g_held = (gcd_held_positive least64 greatest64 x y range (number_held y y_fits) up).each g is in
        fits_by least64 greatest64 x y _ _ (held_lowest_quotients least64 greatest64 x y g _ _ range (number_held x x_fits) (number_held y y_fits) g_held up is refl refl)

-- the product of the period's numerator and the beat's number fits
pub quick_beat : (period : ℤ × ℤ) (m k product : ℤ) → SFits w64 (k +ℤ pos 1) → m ≡ k +ℤ pos 1 → SFits w64 product → product ≡ period.0 *ℤ m → SFits w64 period.1 → pos 0 <ℤ period.1
    → BeatIsHeld period k × (pos 0 <ℤ period.1) × SameValue (periods (k +ℤ pos 1) period).0 (periods (k +ℤ pos 1) period).1 product period.1
quick_beat period m k product fits is product_fits product_is denom_fits up =
    let same = product_is ∙ (turned_pair period m k is).0 in
    (record { count = number_held (k +ℤ pos 1) fits; time = subst (λ n. Fits64 (n, period.1)) same (numbers_fit product period.1 product_fits denom_fits up) }, up, ap (λ (z : ℤ). z *ℤ period.1) (sym same))

pub beat_numbers_some : (period : ℤ × ℤ) (k : ℤ) (r : Option (ℤ × (ℤ × ℤ))) → ChecksBeatNumbers period k r → BeatIsHeld period k → IsSome r
beat_numbers_some period k None out held = absurd (out held)
beat_numbers_some period k (Some r) is held = search rules

-- ---- the beat at a time

pub fits_next : (m k : ℤ) → SFits w64 (k +ℤ pos 1) → m ≡ k +ℤ pos 1 → SFits w64 m
fits_next m k fits is = rw is fits

-- s has the value of the next beat
module _ (next s t : ℤ × ℤ) (next_up : pos 0 <ℤ next.1) (s_up : pos 0 <ℤ s.1) (t_up : pos 0 <ℤ t.1) (same : SameValue next.0 next.1 s.0 s.1) where
  pub comes_then : SameValue s.0 s.1 t.0 t.1 → SameValue next.0 next.1 t.0 t.1
  comes_then at = same_value_chained next.0 next.1 s.0 s.1 t.0 t.1 (positive_nonzero s.1 s_up) same at

  -- a next beat that is not before a time, and not at it, comes after it
  pub comes_after : (b : Bool) → IsTrue b ↔ SameValue s.0 s.1 t.0 t.1 → b ≡ false → IsUpTo t next → IsBefore t next
  comes_after b told is up_to = cases (less_or_same up_to)
    where
      less_or_same : IsUpTo t next → IsBefore t next ⊎ SameValue next.0 next.1 t.0 t.1
      less_or_same up = grind (arith, ints)

      cases : IsBefore t next ⊎ SameValue next.0 next.1 t.0 t.1 → IsBefore t next
      cases (inl less) = less
      cases (inr at) = absurd (let yes = told.1 (same_value_chained s.0 s.1 next.0 next.1 t.0 t.1 (positive_nonzero next.1 next_up) (sym same) at) in let no : true ≡ false = sym yes ∙ is in cc)

-- the floor that is cast to 64 bits
pub count_answers : {E : Type 0} (t p : ℤ × ℤ) (f : ℤ) (r : Result ℤ E) → pos 0 <ℤ (t.1 *ℤ p.0) → HasHad t p f → OkIff r (SFits w64 f) f → ChecksCount t p (result_ok r)
count_answers t p f (Ok x) up had is = rw is.1 (had, number_held f is.0)
count_answers t p f (Err e) up had is = count_not_held t p f up had (λ held. is (number_fits f held))

pub wide_fits : (z : ℤ) → SFits w64 z → SFits w128 z
wide_fits (pos n) fits = let small = fits.sfits in record { sfits = omega (arith, ints) }
wide_fits (negsuc n) fits = let small = fits.sfits in record { sfits = omega (arith, ints) }

pub product_fits : (x y : ℤ) → SFits w64 x → SFits w64 y → SFits w128 (x *ℤ y)
product_fits x y left right = fits_signed_mul w128 x y (2 ^ 63) (2 ^ 63) (size x left) (size y right) (omega arith)
  where
    size : (z : ℤ) → SFits w64 z → unsigned_abs z ≤ 2 ^ 63
    size (pos n) fits = let small = fits.sfits in omega (arith, ints)
    size (negsuc n) fits = let small = fits.sfits in omega (arith, ints)
