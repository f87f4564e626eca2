-- The float nearest to what was read is the one nearest to the total.
use Rattle.std.specs.Prelude.{◌≡◌, ◌^◌, ◌<◌, ◌≤◌, ◌<ℤ◌, ℕ, ℤ, pos, Bool, List, take, drop}
use Rattle.std.specs.Float.{Float, Format}
use Rattle.std.proofs.Common.{ap, arith, ◌∙◌}
use Rattle.std.proofs.lemmas.Int.{ints}
use Rattle.std.proofs.Math.Nat.{pow-le-pow_right}
use Rattle.ratio_natural.specs.Number.{base, natural_of}
use Rattle.ratio_decimal.specs.RoundingRules.{signed}
use Rattle.ratio_decimal.specs.Floats.{nearest_float}
use Rattle.ratio_decimal.proofs.FloatLawLemmas.{value_only}
use Rattle.ratio_slots.specs.Common.{IsOverCommon, most_common, most_digits, whole_number}
use Rattle.ratio_slots.specs.Joined.{pair_left}
use Rattle.ratio_slots.specs.ShortSum.{IsShortSum}
use Rattle.ratio_slots.specs.SumOrder.{HasShortCommon}
use Rattle.ratio_slots.specs.Sums.{SameSum, sum_of_slots}
use Rattle.ratio_slots.specs.declared.reading.OverCommon.{OverCommon}
use Rattle.ratio_slots.specs.declared.slots.Slot.{Slot}
use Rattle.ratio_slots.proofs.DecimalLemmas.{signed_whole}
use Rattle.ratio_slots.proofs.MergeSums.{sum_positive}

pub float_by_value : (slots : List Slot) (f : Format) (n : ℤ) (d : ℕ) → 0 < d → SameSum (n, d) (sum_of_slots slots) → nearest_float f n (pos d) ≡ nearest_float f (sum_of_slots slots).0 (pos (sum_of_slots slots).1)
float_by_value slots f n d some same =
    let above : pos 0 <ℤ pos d = omega (arith, ints, some) in
    let sum_above : pos 0 <ℤ pos (sum_of_slots slots).1 = omega (arith, ints, sum_positive slots) in
    value_only f n (pos d) _ _ above sum_above same

pub float_read : (slots : List Slot) (f : Format) (negative : Bool) (n d : ℕ) (x : Float) → IsOverCommon slots negative n d → x ≡ nearest_float f (whole_number negative n) (pos d)
    → x ≡ nearest_float f (sum_of_slots slots).0 (pos (sum_of_slots slots).1)
float_read slots f negative n d x is near = near ∙ float_by_value slots f (whole_number negative n) d is.common.positive is.value

-- the two numbers are parts of the room
pub float_left : (f : Format) (read : OverCommon) (room numer denom : List ℕ) (x : Float) → numer ≡ take read.numer_digits room → denom ≡ take read.denom_digits (drop read.numer_digits room)
    → x ≡ nearest_float f (signed read.negative (natural_of numer)) (pos (natural_of denom)) → x ≡ nearest_float f (pair_left read room).0 (pos (pair_left read room).1)
float_left f read room numer denom x numer_is denom_is near =
    near ∙ ap (λ z. nearest_float f z (pos (natural_of denom))) (signed_whole read.negative (natural_of numer) ∙ ap (λ xs. whole_number read.negative (natural_of xs)) numer_is)
    ∙ ap (λ xs. nearest_float f (pair_left read room).0 (pos (natural_of xs))) denom_is

-- the same of a short sum
pub float_short : (slots : List Slot) (f : Format) (n : ℤ) (d : ℕ) (x : Float) → IsShortSum slots n d → x ≡ nearest_float f n (pos d) → x ≡ nearest_float f (sum_of_slots slots).0 (pos (sum_of_slots slots).1)
float_short slots f n d x is near = near ∙ float_by_value slots f n d is.common.positive is.value

two_digits : base ^ 2 ≤ most_common
unfolding most_digits
two_digits = pow-le-pow_right {n = base} (omega arith) {i = 2} {j = most_digits} (omega arith)

pub short_common : (slots : List Slot) (n : ℤ) (d : ℕ) → IsShortSum slots n d → HasShortCommon slots most_common
short_common slots n d is = record { common = d; is = is.common; short = omega (arith, two_digits, is.below) }
