-- Voices of a polyrhythm and their beats. A time and a period are pairs of whole numbers here.
use Rattle.std.specs.Prelude.{◌≡◌, ◌⊎◌, ◌<◌, ◌≤ℤ◌, ◌<ℤ◌, ◌+ℤ◌, ◌*ℤ◌, ℕ, ℤ, pos, All, Any, Bool, List, length, slice_index_or, true, false, Option, Some, None}
use Rattle.ratio_integer.specs.SignedBits.{Fits64, IsHeld64}
use Rattle.ratio_integer.specs.{Fraction.SameValue, Range.IsHeld}
use Rattle.num_rational.specs.declared.reduced.Reduced.{Reduced}
use Rattle.num_rational.specs.In64Bits.{HasValue}
use Rattle.num_rational.specs.Reduced.{lowest_numbers}
use Rattle.ratio_uses.specs.declared.beats.Voice.{Voice}

-- k times a period
-- Example: 3 of 1/2: 3/2
abbrev pub periods : ℤ → ℤ × ℤ → ℤ × ℤ
periods k period = (k *ℤ period.0, period.1)

-- one time is before another
abbrev pub IsBefore : ℤ × ℤ → ℤ × ℤ → Type 0
IsBefore x y = (x.0 *ℤ y.1) <ℤ (y.0 *ℤ x.1)

-- one time is before another, or the same
abbrev pub IsUpTo : ℤ × ℤ → ℤ × ℤ → Type 0
IsUpTo x y = (x.0 *ℤ y.1) ≤ℤ (y.0 *ℤ x.1)

-- up to this time, and at it, a voice has had k beats: k·period ≤ time < (k+1)·period. Before the time 0 these are less than 0
-- Example: with the period 1/2 at 7/4: 3
pub record HasHad (time period : ℤ × ℤ) (k : ℤ) : Type 0 where
  pub come : IsUpTo (periods k period) time
  pub ahead : IsBefore time (periods (k +ℤ pos 1) period)

-- the two numbers of a voice's period
abbrev pub period_of : Voice → ℤ × ℤ
period_of voice = lowest_numbers voice.period

-- the time of a voice's next beat: beat k comes at exactly k periods
-- Example: after 2 beats with the period 1/3: 3/3
abbrev pub next_time : Voice → ℤ × ℤ
next_time voice = periods (voice.count +ℤ pos 1) (period_of voice)

-- each voice has had exactly its counted beats up to this time, and at it
abbrev pub AllHaveHad : ℤ × ℤ → List Voice → Type 0
AllHaveHad time voices = All (λ voice. HasHad time (period_of voice) voice.count) voices

-- the number of the beat after k beats fits in 64 bits, and so does its time
-- Example: not after 2^63-1 beats
pub record BeatIsHeld (period : ℤ × ℤ) (k : ℤ) : Type 0 where
  pub count : IsHeld64 (k +ℤ pos 1)
  pub time : Fits64 (periods (k +ℤ pos 1) period)

-- the next beat of each voice fits in 64 bits
abbrev pub AllAreHeld : List Voice → Type 0
AllAreHeld voices = All (λ voice. BeatIsHeld (period_of voice) voice.count) voices

-- the count of a voice after a beat at this time: one more if its next beat is at this time, and the same if that is later
-- Example: at 1/3, the period 1/3 after 0 beats: 1
abbrev pub CountsBeat : ℤ × ℤ → Voice → ℤ → Type 0
CountsBeat time voice count =
    (SameValue (next_time voice).0 (next_time voice).1 time.0 time.1 × (count ≡ voice.count +ℤ pos 1))
    ⊎ (IsBefore time (next_time voice) × (count ≡ voice.count))

-- just the voices whose next beat is at this time count one more (`CountsBeat`). No voice has its next beat before, and the periods stay
-- Example: at 1/3, 1/2 and 1/3 after no beats: after 0 and 1
pub record CountsEach (time : ℤ × ℤ) (old new : List Voice) : Type 0 where
  pub as_many : length new ≡ length old
  pub same_periods : (i : ℕ) (voice : Voice) → i < length old → (slice_index_or new i voice).period ≡ (slice_index_or old i voice).period
  pub counted : (i : ℕ) (voice : Voice) → i < length old → CountsBeat time (slice_index_or old i voice) (slice_index_or new i voice).count

-- this is the time of the next beat of all voices: one has its next beat then, none before, and just those with this beat count one more
-- (`CountsEach`). If the counts were right at a time before, they are right at this one: no beat is skipped
-- Example: 1/2 and 1/3: 1/3
pub record IsNextBeat (old new : List Voice) (time : ℤ × ℤ) : Type 0 where
  pub of_one : Any (λ voice. SameValue (next_time voice).0 (next_time voice).1 time.0 time.1) old
  pub each : CountsEach time old new
  pub none_skipped : (before : ℤ × ℤ) → pos 0 <ℤ before.1 → AllHaveHad before old → IsBefore before time × AllHaveHad time new

-- the result is the time of the next beat (`IsNextBeat`). It is `None` exactly if there is no voice, or the next beat of a voice does not
-- fit in 64 bits. Then nothing has changed
abbrev pub ChecksNextBeat : {T : _} {i : _} {o : _} {e : _} {p : _} {h : _} → List Voice → List Voice → Option (Reduced T i o e p h) → Type 0
ChecksNextBeat old new None = (new ≡ old) × ((length old ≡ 0) ⊎ ¬ (AllAreHeld old))
ChecksNextBeat old new (Some time) = AllAreHeld old × IsNextBeat old new (lowest_numbers time)

-- the number of beats of a period up to this time, and at it, fits in 64 bits. Only periods above 0 have such a number
-- Example: not the period 0/1
pub record CountIsHeld (time period : ℤ × ℤ) : Type 0 where
  pub count : ℤ
  pub had : HasHad time period count
  pub held : IsHeld64 count

-- each voice has the period that it had, and has had exactly its counted beats up to this time, and at it
-- Example: at 7/4, the period 1/2 after 0 beats: after 3
pub record StartsEach (time : ℤ × ℤ) (old new : List Voice) : Type 0 where
  pub as_many : length new ≡ length old
  pub same_periods : (i : ℕ) (voice : Voice) → i < length old → (slice_index_or new i voice).period ≡ (slice_index_or old i voice).period
  pub had : AllHaveHad time new

-- the result is `true`, and each voice starts at this time (`StartsEach`). It is `false` exactly if a voice has no count of beats that fits
-- in 64 bits (`CountIsHeld`). Then nothing has changed
abbrev pub ChecksStart : ℤ × ℤ → List Voice → List Voice → Bool → Type 0
ChecksStart time old new false = (new ≡ old) × ¬ (All (λ voice. CountIsHeld time (period_of voice)) old)
ChecksStart time old new true = StartsEach time old new

-- a voice with this period has a beat at this time: it is the period times a whole number above 0
-- Example: 1/3 has one at 1
abbrev pub HasBeatAt : ℤ × ℤ → ℤ × ℤ → Type 0
HasBeatAt time period = (k : ℤ) × (pos 0 <ℤ k) × SameValue time.0 time.1 (periods k period).0 (periods k period).1

-- this is the first time above 0 at which all voices have a beat
-- Example: 1/2 and 1/3: 1
pub record IsMeeting (voices : List Voice) (time : ℤ × ℤ) : Type 0 where
  pub positive : pos 0 <ℤ time.0
  pub all : All (λ voice. HasBeatAt time (period_of voice)) voices
  pub first : (other : ℤ × ℤ) → pos 0 <ℤ other.0 → pos 0 <ℤ other.1 → All (λ voice. HasBeatAt other (period_of voice)) voices → IsUpTo time other

-- the result is the first time above 0 at which all voices have a beat (`IsMeeting`), and `None` exactly if none such fits in 64 bits
abbrev pub ChecksMeeting : {T : _} {i : _} {o : _} {e : _} {p : _} {h : _} → List Voice → Option (Reduced T i o e p h) → Type 0
ChecksMeeting voices None = (time : ℤ × ℤ) → pos 0 <ℤ time.1 → IsMeeting voices time → ¬ (Fits64 time)
ChecksMeeting voices (Some time) = IsMeeting voices (lowest_numbers time)

-- Inner: the result is the number of the next beat and its time if both fit, else `None`
abbrev pub ChecksBeat : {T : _} {i : _} {o : _} {e : _} {p : _} {h : _} → ℤ × ℤ → ℤ → Option (ℤ × Reduced T i o e p h) → Type 0
ChecksBeat period k None = ¬ (BeatIsHeld period k)
ChecksBeat period k (Some r) = (r.0 ≡ k +ℤ pos 1) × BeatIsHeld period k × HasValue (periods (k +ℤ pos 1) period) r.1

-- Inner: the result is the number of the next beat and the numbers of its time if both fit, else `None`. They need not be in lowest terms
-- Example: after 1 beat with the period 1/2: 2 and 2/2
abbrev pub ChecksBeatNumbers : ℤ × ℤ → ℤ → Option (ℤ × (ℤ × ℤ)) → Type 0
ChecksBeatNumbers period k None = ¬ (BeatIsHeld period k)
ChecksBeatNumbers period k (Some (next, time)) =
    (next ≡ k +ℤ pos 1) × BeatIsHeld period k × (pos 0 <ℤ time.1) × SameValue (periods (k +ℤ pos 1) period).0 (periods (k +ℤ pos 1) period).1 time.0 time.1

-- Inner: a voice has its next beat at this time, and none has it before
pub record IsEarliest (voices : List Voice) (time : ℤ × ℤ) : Type 0 where
  pub of_one : Any (λ voice. SameValue (next_time voice).0 (next_time voice).1 time.0 time.1) voices
  pub each : All (λ voice. IsUpTo time (next_time voice)) voices

-- Inner: the result is the earliest next beat. It is `None` if there is no voice, or a next beat does not fit in 64 bits
abbrev pub ChecksEarliest : {T : _} {i : _} {o : _} {e : _} {p : _} {h : _} → List Voice → Option (Reduced T i o e p h) → Type 0
ChecksEarliest voices None = (length voices ≡ 0) ⊎ ¬ (AllAreHeld voices)
ChecksEarliest voices (Some time) = AllAreHeld voices × IsEarliest voices (lowest_numbers time)

-- Inner: the result is the number of beats up to this time, and at it, or `None` if there is no such number in 64 bits
abbrev pub ChecksCount : ℤ × ℤ → ℤ × ℤ → Option ℤ → Type 0
ChecksCount time period None = ¬ (CountIsHeld time period)
ChecksCount time period (Some count) = HasHad time period count × IsHeld64 count
