-- Rounded running sums in units. Their differences are the split of the amount's count.
use Rattle.std.specs.Prelude.{◌≡◌, ◌≢◌, ◌⊎◌, ◌+◌, ◌^◌, ◌<◌, ◌≤ℤ◌, ◌<ℤ◌, ◌-ℤ◌, ◌*ℤ◌, ℕ, ℤ, pos, negsuc, List, length, slice_index_or, take, IsSome, None, Option, Some}
use Rattle.std.proofs.Common.{refl, sym, ap, subst, ◌∙◌, arith, inl, inr, get_or}
use Rattle.std.proofs.Math.ListN.{set}
use Rattle.std.proofs.lemmas.Int.{ints}
use Rattle.std.proofs.lemmas.List.{get_or-set_other, get_or-set_same, length-replicate, length-set}
use borrow.Author.Count.{below_more}
use lib.IntN.{*ℤ_comm, zero-*ℤ}
use lib.ListN.{replicate}
use mir.Syntax.{w128, w64}
use mir.Val.{SFits}
use Rattle.ratio_integer.specs.Arithmetic.{sum_of}
use Rattle.ratio_integer.specs.Division.{IsMultiple}
use Rattle.ratio_integer.specs.Fraction.{Fits, IsHeldLowest, IsLowestTerms, IsLowestTermsOf, SameValue}
use Rattle.ratio_integer.specs.Range.{Checks, IsHeld}
use Rattle.ratio_integer.specs.SignedBits.{Fits64, IsHeld128, IsHeld64, greatest128, greatest64, least128, least64}
use Rattle.ratio_integer.proofs.CommonDivisors.{divides_multiple}
use Rattle.ratio_integer.proofs.CrossCancelling.{denom_divides}
use Rattle.ratio_integer.proofs.LowestTerms.{lowest_moved, lowest_unique}
use Rattle.ratio_integer.proofs.Whole.{mul_assoc, mul_positive, positive_factor, positive_nonzero}
use Rattle.ratio_core.specs.Rounding.{IsRounded}
use Rattle.ratio_core.proofs.ProductOrder.{down_times, times_le, up_times}
use Rattle.ratio_core.proofs.RoundingLawLemmas.{one_rounded}
use Rattle.ratio_core.proofs.SumLemmas.{fits_by}
use Rattle.ratio_decimal.specs.Products.{ChecksRoundedWhole}
use Rattle.ratio_decimal.specs.declared.rounding_rule.Rounding.TheVariants.{HalfAway}
use Rattle.num_rational.specs.declared.reduced.Reduced.{Reduced}
use Rattle.num_rational.specs.Ratio.{ChecksRatio, denominator, numerator}
use Rattle.num_rational.specs.Reduced.{ChecksCast, ratio_in}
use Rattle.num_rational.specs.Split.{IsRoundedShare, NoShareIsBelowZero, RefusesShares, SharesMakeOne, SumsRefuse, total_of_shares}
use Rattle.num_rational.specs.declared.splitting.SplitRefusal.{SplitRefusal}
use Rattle.num_rational.specs.declared.splitting.SplitRefusal.TheVariants.{BelowZero, Length, NotHeld, NotOne}
use Rattle.num_rational.proofs.SplitLemmas.{IsSplitSoFar, first_mark, fits_moved, last_mark, next_same, rounded_moved, split_more, split_none, split_whole, times-one, total_next}
use Rattle.num_rational.proofs.WeightLemmas.{mark_computed}
use Rattle.ratio_uses.specs.Cents.{ChecksCount, ChecksNextPart, IsCount, IsCountSplit, IsStep, PartFits}
use Rattle.ratio_uses.proofs.BeatLemmas.{number_held}

-- ---- the count of an amount

-- a/b in lowest terms is a multiple of 1/u exactly if b divides u
pub multiple_told : (u : ℤ) (a : ℤ × ℤ) → pos 0 <ℤ u → IsLowestTerms a.0 a.1 → ((count : ℤ) × IsCount u a count) → IsMultiple u a.1
multiple_told u a u_up low (count, same) = divides_multiple u a.1 (denom_divides count u a.0 a.1 (record { fraction = positive_nonzero u u_up; same = same; lowest = low }))

pub multiple_counted : (u q : ℤ) (a : ℤ × ℤ) → u ≡ q *ℤ a.1 → IsCount u a (a.0 *ℤ q)
multiple_counted u q a e = mul_assoc a.0 q a.1 ∙ ap (λ (z : ℤ). a.0 *ℤ z) (sym e)

-- ---- products of numbers of 64 bits fit in 128

either_sign : (a : ℤ) → (pos 0 ≤ℤ a) ⊎ (a ≤ℤ pos 0)
either_sign a = grind (arith, ints)

pub wide_product : (a u : ℤ) → IsHeld64 a → pos 0 ≤ℤ u → u ≤ℤ greatest64 → IsHeld128 (a *ℤ u)
wide_product a u held u_up u_below =
    let low = times_le least64 a u held.above u_up in
    let high = times_le a greatest64 u held.below u_up in
    let least = times_le u greatest64 (pos (2 ^ 63)) u_below (omega (arith, ints)) in
    let turned = *ℤ_comm least64 u in
    let other = *ℤ_comm greatest64 u in
    record { above = omega (arith, ints); below = omega (arith, ints) }

pub wide_fits : (z : ℤ) → SFits w64 z → SFits w128 z
wide_fits (pos n) fits = let small = fits.sfits in record { sfits = omega (arith, ints) }
wide_fits (negsuc n) fits = let small = fits.sfits in record { sfits = omega (arith, ints) }

pub held_fits : (z : ℤ) → IsHeld128 z → SFits w128 z
held_fits (pos n) held = let below = held.below in record { sfits = omega (arith, ints) }
held_fits (negsuc n) held = let above = held.above in record { sfits = omega (arith, ints) }

-- the count of a multiple, as it is computed
pub count_told : (u : ℤ) (a : ℤ × ℤ) (r : Option ℤ) → IsMultiple u a.1 → SFits w64 u → IsHeld64 a.0 → pos 0 <ℤ u → pos 0 <ℤ a.1 → ChecksRoundedWhole (λ n. n) least128 greatest128 HalfAway (a.0 *ℤ u, a.1 *ℤ pos 1) r → ChecksCount u a r
count_told u a r (k, e) unit held up positive (z, is, checks) = told r checks
  where
    whole : a.0 *ℤ u ≡ (a.0 *ℤ k) *ℤ a.1
    whole = ap (λ (n : ℤ). a.0 *ℤ n) e ∙ sym (mul_assoc a.0 k a.1)

    z_is : z ≡ a.0 *ℤ k
    z_is = last_mark (a.0 *ℤ k) a.1 z positive (subst (λ (n : ℤ). IsRounded n a.1 z) whole (subst (λ (d : ℤ). IsRounded (a.0 *ℤ u) d z) (times-one a.1) is))

    u_below : u ≤ℤ greatest64
    u_below = (number_held u unit).below

    k_up : pos 0 <ℤ k
    k_up = positive_factor k a.1 positive (subst (λ (n : ℤ). pos 0 <ℤ n) e up)

    k_below : k ≤ℤ u
    k_below = subst (λ (n : ℤ). k ≤ℤ n) (sym e) (up_times k a.1 (let h = k_up in omega (arith, ints)) positive)

    wide : IsHeld128 (a.0 *ℤ k)
    wide = wide_product a.0 k held (let h = k_up in omega (arith, ints)) (let h = k_below in let g = u_below in omega (arith, ints))

    told : (r : Option ℤ) → Checks (λ n. n) least128 greatest128 z r → ChecksCount u a r
    told None out = absurd (out (subst IsHeld128 (sym z_is) wide))
    told (Some y) is = subst (IsCount u a) (sym (is.1 ∙ z_is)) (multiple_counted u k a e)

-- w/u with lowest terms of 64 bits: so w is a number of 128 bits
pub wide_part : (w u : ℤ) → pos 0 <ℤ u → u ≤ℤ greatest64 → Fits64 (w, u) → IsHeld128 w
wide_part w u u_up u_below fits = by (either_sign w)
  where
    product : IsHeld128 (w *ℤ fits.denom)
    product = subst IsHeld128 (sym fits.low.terms.same) (wide_product fits.numer u fits.low.numer_held (omega (arith, ints)) u_below)

    by : (pos 0 ≤ℤ w) ⊎ (w ≤ℤ pos 0) → IsHeld128 w
    by (inl up) = let more = up_times w fits.denom up fits.low.terms.lowest.positive in let below = product.below in record { above = omega (arith, ints); below = omega (arith, ints) }
    by (inr down) = let less = down_times w fits.denom down fits.low.terms.lowest.positive in let above = product.above in record { above = omega (arith, ints); below = omega (arith, ints) }

-- ---- a part of so many units

held_wider : (z : ℤ) → IsHeld64 z → IsHeld128 z
held_wider z held = let low = held.above in let high = held.below in record { above = omega (arith, ints); below = omega (arith, ints) }

pub fits_wider : (x : ℤ × ℤ) → Fits64 x → Fits least128 greatest128 x.0 x.1
fits_wider x fits = record { numer = fits.numer; denom = fits.denom; low = record { terms = fits.low.terms; numer_held = held_wider fits.numer fits.low.numer_held; denom_held = held_wider fits.denom fits.low.denom_held } }

pub cast_told : {T U : _} {i : _} {o : _} {e : _} {p : _} {h : _} {j : _} {o' : _} {e' : _} {p' : _} {h' : _} (x : ℤ × ℤ) (s : Reduced T i o e p h) (r : Option (Reduced U j o' e' p' h')) → IsLowestTermsOf x.0 x.1 (numerator s.ratio) (denominator s.ratio) → ChecksCast s r → ChecksRatio x (ratio_in r)
cast_told x s None low out = λ fits.
    let same = lowest_unique x.0 x.1 fits.numer fits.denom (numerator s.ratio) (denominator s.ratio) fits.low.terms low in
    out (subst (IsHeld _ _) same.0 fits.low.numer_held, subst (IsHeld _ _) same.1 fits.low.denom_held)
cast_told x s (Some r) low is = rw (is.2, is.3) (record { terms = low; numer_held = is.0; denom_held = is.1 })

-- ---- one step

module _ (u c last : ℤ) (x y : ℤ × ℤ) (x_up : pos 0 <ℤ x.1) (y_up : pos 0 <ℤ y.1) (same : SameValue y.0 y.1 x.0 x.1) where
  pub part_moved : PartFits u c last x → PartFits u c last y
  part_moved fits = record {
    sum = fits_moved _ _ x y (positive_nonzero y.1 y_up) same fits.sum;
    mark = fits.mark;
    is = rounded_moved c x y x_up y_up same fits.mark fits.is;
    held = fits.held;
    part = fits.part;
  }

  pub step_moved : (s : ℤ × ℤ) (mark : ℤ) (part : ℤ × ℤ) → IsStep u c last x s mark part → IsStep u c last y s mark part
  step_moved s mark part step = record {
    value = lowest_moved x.0 x.1 y.0 y.1 s.0 s.1 (positive_nonzero y.1 y_up) same step.value;
    fits = fits_moved _ _ x y (positive_nonzero y.1 y_up) same step.fits;
    rounded = rounded_moved c x y x_up y_up same mark step.rounded;
    held = step.held;
    terms = step.terms;
  }

pub part_of_step : (u c last : ℤ) (x s : ℤ × ℤ) (mark : ℤ) (part : ℤ × ℤ) → IsStep u c last x s mark part → PartFits u c last x
part_of_step u c last x s mark part step = record { sum = step.fits; mark = mark; is = step.rounded; held = step.held; part = fits_by _ _ _ _ part.0 part.1 step.terms }

-- the mark of the sum x, as it is computed from the sum's lowest terms s
pub step_rounded : (c : ℤ) (x s : ℤ × ℤ) (z : ℤ) → pos 0 <ℤ x.1 → IsLowestTermsOf x.0 x.1 s.0 s.1 → IsRounded (c *ℤ s.0) (pos 1 *ℤ s.1) z → IsRoundedShare c x z
step_rounded c x s z up low is = rounded_moved c s x low.lowest.positive up low.same z (mark_computed c s.0 (pos 1) s.1 s.0 s.1 z refl refl refl is)

module _ (u c last : ℤ) (x : ℤ × ℤ) (z : ℤ) (up : pos 0 <ℤ x.1) (is : IsRoundedShare c x z) where
  pub mark_out : ¬ (IsHeld128 z) → ¬ (PartFits u c last x)
  mark_out out fits = out (subst IsHeld128 (one_rounded (c *ℤ x.0) x.1 fits.mark z up fits.is is) fits.held)

  pub part_out : ¬ (Fits64 (z -ℤ last, u)) → ¬ (PartFits u c last x)
  part_out out fits = out (subst (λ m. Fits64 (m -ℤ last, u)) (one_rounded (c *ℤ x.0) x.1 fits.mark z up fits.is is) fits.part)

pub step_is : (u c last : ℤ) (x s : ℤ × ℤ) (z mark : ℤ) (part : ℤ × ℤ) → IsHeldLowest least64 greatest64 x.0 x.1 s.0 s.1 → IsRoundedShare c x z → IsHeld128 z × (mark ≡ z) → IsHeldLowest least64 greatest64 (mark -ℤ last) u part.0 part.1 → IsStep u c last x s mark part
step_is u c last x s z mark part low is checks terms = record {
  value = low.terms;
  fits = fits_by _ _ _ _ s.0 s.1 low;
  rounded = subst (IsRoundedShare c x) (sym checks.1) is;
  held = subst IsHeld128 (sym checks.1) checks.0;
  terms = terms;
}

-- what fits has a result
pub step_answered : {T : _} {i : _} {o : _} {e : _} {p : _} {h : _} (u c last : ℤ) (x : ℤ × ℤ) (r : Option (Reduced T i o e p h × ℤ × Reduced T i o e p h)) → PartFits u c last x → ChecksNextPart u c last x r → IsSome r
step_answered u c last x None fits out = absurd (out fits)
step_answered u c last x (Some r) fits is = refl

-- ---- the sums of a list of shares

-- The sum of the first k shares, and its mark
pub record IsMarkedSoFar {A : Type 0} (view : A → ℤ × ℤ) (c : ℤ) (shares : List A) (k : ℕ) (sum : ℤ × ℤ) (mark : ℤ) : Type 0 where
  pub same : SameValue (total_of_shares view (take k shares)).0 (total_of_shares view (take k shares)).1 sum.0 sum.1
  pub up : pos 0 <ℤ (total_of_shares view (take k shares)).1
  pub rounded : IsRoundedShare c (total_of_shares view (take k shares)) mark

-- The parts of the first k shares are written. They are the split of the count so far, in units
pub record IsCentsSoFar {A : Type 0} (view : A → ℤ × ℤ) (u c : ℤ) (shares parts : List A) (k : ℕ) (sum : ℤ × ℤ) (mark : ℤ) : Type 0 where
  pub counts : List ℤ
  pub split : IsSplitSoFar view (λ n. n) c shares counts k sum mark
  pub as_many : length counts ≡ length parts
  pub each : (j : ℕ) → j < k → (n : ℤ) (part : A) →
      IsLowestTermsOf (slice_index_or counts j n) u (view (slice_index_or parts j part)).0 (view (slice_index_or parts j part)).1

module _ {A : Type 0} (view : A → ℤ × ℤ) (u c : ℤ) (shares : List A) where
  pub marked_none : (sum : ℤ × ℤ) → sum.0 ≡ pos 0 → IsMarkedSoFar view c shares 0 sum (pos 0)
  marked_none sum numer = record {
    same = zero-*ℤ sum.1 ∙ sym (times-one (pos 0)) ∙ ap (λ (z : ℤ). z *ℤ pos 1) (sym numer);
    up = omega (arith, ints);
    rounded = first_mark c;
  }

  pub cents_none : (parts : List A) (sum : ℤ × ℤ) → sum.0 ≡ pos 0 → IsCentsSoFar view u c shares parts 0 sum (pos 0)
  cents_none parts sum numer = record {
    counts = replicate (length parts) (pos 0);
    split = split_none view (λ n. n) c shares (replicate (length parts) (pos 0)) sum (pos 0) numer refl;
    as_many = length-replicate (length parts) (pos 0);
    each = λ j below. absurd (omega arith);
  }

  abbrev pub marked : (parts : List A) (k : ℕ) (sum : ℤ × ℤ) (mark : ℤ) → IsCentsSoFar view u c shares parts k sum mark → IsMarkedSoFar view c shares k sum mark
  marked parts k sum mark is = record { same = is.split.same; up = is.split.up; rounded = is.split.rounded }

  module _ (k : ℕ) (sum : ℤ × ℤ) (last : ℤ) (share : A) (below : k < length shares) (share_is : share ≡ get_or shares k share) (sum_up : pos 0 <ℤ sum.1) (share_up : pos 0 <ℤ (view share).1) where
    abbrev before : ℤ × ℤ
    before = total_of_shares view (take k shares)

    abbrev x : ℤ × ℤ
    x = sum_of sum.0 sum.1 (view share).0 (view share).1

    abbrev after : ℤ × ℤ
    after = sum_of before.0 before.1 (view share).0 (view share).1

    next : total_of_shares view (take (k + 1) shares) ≡ after
    next = total_next view shares k share below share_is

    x_up : pos 0 <ℤ x.1
    x_up = mul_positive _ _ sum_up share_up

    module _ (so_far : IsMarkedSoFar view c shares k sum last) where
      after_up : pos 0 <ℤ after.1
      after_up = mul_positive _ _ so_far.up share_up

      same : SameValue after.0 after.1 x.0 x.1
      same = next_same before sum (view share) so_far.same

      pub step_fits : ((l : ℤ) → IsRoundedShare c before l → PartFits u c l (total_of_shares view (take (k + 1) shares))) → PartFits u c last x
      step_fits fits = part_moved u c last after x after_up x_up (sym same) (subst (PartFits u c last) next (fits last so_far.rounded))

      module _ (s : ℤ × ℤ) (mark : ℤ) (part : ℤ × ℤ) (step : IsStep u c last x s mark part) where
        moved : IsStep u c last after s mark part
        moved = step_moved u c last x after x_up after_up same s mark part step

        pub part_fits : (l : ℤ) → IsRoundedShare c before l → PartFits u c l (total_of_shares view (take (k + 1) shares))
        part_fits l is =
            subst (λ m. PartFits u c m (total_of_shares view (take (k + 1) shares))) (one_rounded (c *ℤ before.0) before.1 last l so_far.up so_far.rounded is)
            (subst (PartFits u c last) (sym next) (part_of_step u c last after s mark part moved))

        pub marked_more : IsMarkedSoFar view c shares (k + 1) s mark
        marked_more = record {
          same = subst (λ t. SameValue t.0 t.1 s.0 s.1) (sym next) moved.value.same;
          up = subst (λ t. pos 0 <ℤ t.1) (sym next) after_up;
          rounded = subst (λ t. IsRoundedShare c t mark) (sym next) moved.rounded;
        }

    module _ (parts : List A) (room : k < length parts) (so_far : IsCentsSoFar view u c shares parts k sum last) (share_above : pos 0 ≤ℤ (view share).0) (s : ℤ × ℤ) (mark : ℤ) (part : A) (step : IsStep u c last x s mark (view part)) where
      here_moved : IsStep u c last after s mark (view part)
      here_moved = moved (marked parts k sum last so_far) s mark (view part) step

      kept : (j : ℕ) → j < k → (n : ℤ) (other : A) →
          IsLowestTermsOf (slice_index_or (set so_far.counts k (mark -ℤ last)) j n) u (view (slice_index_or (set parts k part) j other)).0 (view (slice_index_or (set parts k part) j other)).1
      kept j less n other = let apart : j ≢ k = omega arith in rw get_or-set_other (rw get_or-set_other (so_far.each j less n other))

      here : (n : ℤ) (other : A) →
          IsLowestTermsOf (slice_index_or (set so_far.counts k (mark -ℤ last)) k n) u (view (slice_index_or (set parts k part) k other)).0 (view (slice_index_or (set parts k part) k other)).1
      here n other = let room_too : k < length so_far.counts = rw so_far.as_many room in rw get_or-set_same (rw get_or-set_same step.terms.terms)

      pub cents_more : IsCentsSoFar view u c shares (set parts k part) (k + 1) s mark
      cents_more = record {
        counts = set so_far.counts k (mark -ℤ last);
        split = split_more view (λ n. n) c shares so_far.counts k sum last share s mark (mark -ℤ last) below (rw so_far.as_many room) share_is so_far.split share_up share_above here_moved.value.same here_moved.rounded refl;
        as_many = length-set so_far.counts k (mark -ℤ last) ∙ so_far.as_many ∙ sym (length-set parts k part);
        each = below_more _ _ kept here;
      }

  pub cents_whole : (parts : List A) (k : ℕ) (sum : ℤ × ℤ) (mark : ℤ) → k ≡ length shares → length parts ≡ length shares → SharesMakeOne view shares → IsCentsSoFar view u c shares parts k sum mark → IsCountSplit view u c shares parts
  cents_whole parts k sum mark whole alike one so_far = record {
    counts = so_far.counts;
    as_many = so_far.as_many;
    each = λ j below. so_far.each j (omega arith);
    split = split_whole view (λ n. n) c shares so_far.counts k sum mark whole (so_far.as_many ∙ alike) one so_far.split;
  }

-- ---- refusals

pub sums_refused : {A : Type 0} (view : A → ℤ × ℤ) (Fit : Type 0) (shares : List A) (parts : ℕ) (why : SplitRefusal) → parts ≡ length shares → NoShareIsBelowZero view shares → SumsRefuse Fit (SharesMakeOne view shares) why → RefusesShares view Fit shares parts why
sums_refused view Fit shares parts Length many none out = absurd out
sums_refused view Fit shares parts BelowZero many none out = absurd out
sums_refused view Fit shares parts NotHeld many none out = (many, none, out)
sums_refused view Fit shares parts NotOne many none out = (many, none, out.0, out.1)
