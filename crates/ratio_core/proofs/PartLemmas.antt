-- Parts of 1, quotients and rests: how great a quotient is, and multiples by doubling.
use Rattle.std.specs.Prelude.{◌≡◌, ◌≢◌, ◌<◌, ◌≤ℤ◌, ◌<ℤ◌, ◌+ℤ◌, ◌-ℤ◌, ◌*ℤ◌, ℤ, Bool, true, false, pos, negsuc, unsigned_abs, int_div, int_rem}
use Rattle.std.proofs.Common.{sym, ap, arith, ◌∙◌, inr}
use Rattle.std.proofs.lemmas.Int.{ints}
use lib.IntN.{*ℤ_comm, *ℤ-one, one, zero-*ℤ}
use Rattle.ratio_integer.specs.Division.{IsAboveMax, IsFloored}
use Rattle.ratio_integer.specs.Range.{IsHeld, IsRange}
use Rattle.ratio_integer.proofs.DivisionLemmas.{floored_same, low_below}
use Rattle.ratio_integer.proofs.Whole.{add-mul, mul-add, mul_assoc, positive_nonzero}
use Rattle.ratio_core.specs.Parts.{IsDivided, IsPart, IsTaken, carried}
use Rattle.ratio_core.proofs.Around.{up_product}
use Rattle.ratio_core.proofs.Floored.{one-mul}
use Rattle.ratio_core.proofs.ProductOrder.{more-times, times_le, whole_at_most}

-- ---- a division by a positive number

pub never_above_max : (hi n d : ℤ) → pos 0 <ℤ d → ¬ (IsAboveMax hi n d)
never_above_max hi n d positive is = let e = is.denom in omega (arith, ints)

pub from_positive : (d : ℤ) → pos 0 <ℤ d → pos 0 ≤ℤ d
from_positive d positive = omega (arith, ints)

pub from_itself : (z : ℤ) → z ≤ℤ z
from_itself z = omega (arith, ints)

pub from_floored : (n d q r : ℤ) → pos 0 <ℤ d → IsFloored n d q r → IsDivided n d q r
from_floored n d q r positive is = let rest = is.rest in record { sum = is.sum; rest = record { above = grind (arith, ints); below = grind (arith, ints) } }

rest_above : (n d : ℤ) → pos 0 ≤ℤ n → pos 0 ≤ℤ int_rem n d
rest_above (pos n) d some = omega (arith, ints)
rest_above (negsuc n) d some = absurd (omega (arith, ints))

pub divided_by : (n d q r : ℤ) → pos 0 ≤ℤ n → pos 0 <ℤ d → q ≡ int_div n d → r ≡ int_rem n d → IsDivided n d q r
divided_by n d q r some positive q-is r-is =
    rw (q-is, r-is) (from_floored n d _ _ positive (floored_same n d (positive_nonzero d positive) (inr (rest_above n d some, omega (arith, ints)))))

-- ---- how great a quotient is

pub part_positive : (r d : ℤ) → IsPart r d → pos 0 <ℤ d
part_positive r d is = let a = is.above in let b = is.below in omega (arith, ints)

pub part_at_most : (r d : ℤ) → IsPart r d → r ≤ℤ d
part_at_most r d is = let b = is.below in omega (arith, ints)

pub part_above_zero : (r d : ℤ) → IsPart r d → r ≢ pos 0 → pos 0 <ℤ r
part_above_zero r d is nonzero = let a = is.above in nonzero_above r a nonzero
  where
    nonzero_above : (z : ℤ) → pos 0 ≤ℤ z → z ≢ pos 0 → pos 0 <ℤ z
    nonzero_above z some nonzero = grind (arith, ints)

-- a number from 0 to below m times d has a quotient from 0 to below m
pub quotient_part : (n d q r m : ℤ) → IsDivided n d q r → pos 0 ≤ℤ n → n <ℤ (m *ℤ d) → IsPart q m
quotient_part n d q r m is some less =
    let sum = is.sum in
    let a = is.rest.above in
    let b = is.rest.below in
    let positive : pos 0 <ℤ d = omega (arith, ints) in
    let next : (q +ℤ pos 1) ≤ℤ m = whole_at_most (q +ℤ pos 1) m d positive (omega (arith, ints, more-times q d)) in
    record { above = whole_at_most (pos 0) q d positive (omega (arith, ints, zero-*ℤ d)); below = omega (arith, ints) }

pub quotient_above : (n d q r : ℤ) → IsDivided n d q r → pos 0 ≤ℤ n → pos 0 ≤ℤ q
quotient_above n d q r is some =
    let sum = is.sum in
    let a = is.rest.above in
    let b = is.rest.below in
    whole_at_most (pos 0) q d (omega (arith, ints)) (omega (arith, ints, zero-*ℤ d))

-- a number whose quotient is from 0 to below m is from 0 to below m times d
pub whole_above : (q d r : ℤ) → pos 0 ≤ℤ q → IsPart r d → pos 0 ≤ℤ (q *ℤ d +ℤ r)
whole_above q d r some rest =
    let a = rest.above in
    let b = rest.below in
    let up : pos 0 ≤ℤ (q *ℤ d) = up_product q d some (omega (arith, ints)) in
    omega (arith, ints)

pub whole_below : (q d r m : ℤ) → q <ℤ m → IsPart r d → (q *ℤ d +ℤ r) <ℤ (m *ℤ d)
whole_below q d r m less rest =
    let a = rest.above in
    let b = rest.below in
    let up : ((q +ℤ pos 1) *ℤ d) ≤ℤ (m *ℤ d) = times_le (q +ℤ pos 1) m d (omega (arith, ints)) (omega (arith, ints)) in
    omega (arith, ints, more-times q d)

-- ---- a sum over d

pub missing_held : (lo hi y d : ℤ) → IsRange lo hi → IsHeld lo hi d → pos 0 ≤ℤ y → y ≤ℤ d → IsHeld lo hi (d -ℤ y)
missing_held lo hi y d range held some most =
    let low = low_below lo hi range in
    let b = held.below in
    record { above = omega (arith, ints); below = omega (arith, ints) }

pub from_zero_held : (lo hi z top : ℤ) → IsRange lo hi → IsHeld lo hi top → pos 0 ≤ℤ z → z ≤ℤ top → IsHeld lo hi z
from_zero_held lo hi z top range held some most =
    let low = low_below lo hi range in
    let b = held.below in
    record { above = omega (arith, ints); below = omega (arith, ints) }

pub part_room_held : (lo hi z : ℤ) → IsRange lo hi → IsPart z hi → IsHeld lo hi z
part_room_held lo hi z range is =
    let low = low_below lo hi range in
    let a = is.above in
    let b = is.below in
    record { above = omega (arith, ints); below = omega (arith, ints) }

-- a quotient and a carry below a number in range are in range
pub carried_held : (lo hi z top : ℤ) (k : Bool) → IsRange lo hi → IsPart z top → top ≤ℤ hi → IsHeld lo hi (z +ℤ carried k)
carried_held lo hi z top true range is most =
    let low = low_below lo hi range in
    let a = is.above in
    let b = is.below in
    record { above = omega (arith, ints); below = omega (arith, ints) }
carried_held lo hi z top false range is most =
    let low = low_below lo hi range in
    let a = is.above in
    let b = is.below in
    record { above = omega (arith, ints); below = omega (arith, ints) }

pub sum_below : (x y d missing z : ℤ) → IsPart x d → pos 0 ≤ℤ y → missing ≡ d -ℤ y → x <ℤ missing → z ≡ x +ℤ y → IsDivided (x +ℤ y) d (pos 0) z
sum_below x y d missing z is some missing-is less z-is =
    let a = is.above in
    record { sum = omega (arith, ints, zero-*ℤ d); rest = record { above = omega (arith, ints); below = omega (arith, ints) } }

pub sum_reaches : (x y d missing z : ℤ) → IsPart x d → y ≤ℤ d → missing ≡ d -ℤ y → missing ≤ℤ x → z ≡ x -ℤ missing → IsDivided (x +ℤ y) d (pos 1) z
sum_reaches x y d missing z is most missing-is less z-is =
    let a = is.above in
    let b = is.below in
    record { sum = omega (arith, ints, one-mul d); rest = record { above = omega (arith, ints); below = omega (arith, ints) } }

-- ---- a sum of quotients and rests

pub sums_joined : (n m d x r y s q k t : ℤ) → q ≡ n +ℤ k → n ≡ x +ℤ y → IsDivided (r +ℤ s) d k t → m ≡ (x *ℤ d +ℤ r) +ℤ (y *ℤ d +ℤ s) → IsDivided m d q t
sums_joined n m d x r y s q k t q-is n-is rests m-is =
    let e = rests.sum in
    let all : q *ℤ d ≡ (x *ℤ d +ℤ y *ℤ d) +ℤ k *ℤ d = ap (λ (z : ℤ). z *ℤ d) (q-is ∙ ap (λ (z : ℤ). z +ℤ k) n-is) ∙ add-mul (x +ℤ y) k d ∙ ap (λ (z : ℤ). z +ℤ k *ℤ d) (add-mul x y d) in
    record { sum = omega (arith, ints); rest = rests.rest }

-- ---- multiples by doubling

pub taken_once : (x power factor d more q r : ℤ) → IsPart r d → power ≤ℤ factor → more ≡ factor -ℤ power → more <ℤ power → x ≡ q *ℤ d +ℤ r → IsTaken x power factor d more q r
unfolding one
taken_once x power factor d more q r rest most more-is less x-is = record {
  count = pos 1;
  taken = record { sum = omega (arith, ints, one-mul power); rest = record { above = omega (arith, ints); below = omega (arith, ints) } };
  multiple = record { sum = *ℤ-one x ∙ x-is; rest = rest };
}

doubled_count : (count power twice : ℤ) → twice ≡ power +ℤ power → count *ℤ twice ≡ (count +ℤ count) *ℤ power
doubled_count count power twice is = ap (λ (t : ℤ). count *ℤ t) is ∙ mul-add count power power ∙ sym (add-mul count count power)

counted_double : (x two count : ℤ) → two ≡ x +ℤ x → two *ℤ count ≡ x *ℤ (count +ℤ count)
counted_double x two count is = ap (λ (t : ℤ). t *ℤ count) is ∙ add-mul x x count ∙ sym (mul-add x count count)

pub taken_twice : (x two power twice factor d left q r : ℤ) → two ≡ x +ℤ x → twice ≡ power +ℤ power → left <ℤ power → IsTaken two twice factor d left q r → IsTaken x power factor d left q r
taken_twice x two power twice factor d left q r two-is twice-is less is =
    let e = is.taken.sum in
    let n = is.count in
    record {
      count = n +ℤ n;
      taken = record { sum = omega (arith, ints, doubled_count n power twice twice-is); rest = record { above = is.taken.rest.above; below = less } };
      multiple = record { sum = sym (counted_double x two n two-is) ∙ is.multiple.sum; rest = is.multiple.rest };
    }

pub taken_more : (x two power twice factor d left q r less p s : ℤ) → two ≡ x +ℤ x → twice ≡ power +ℤ power → power ≤ℤ left → less ≡ left -ℤ power
    → IsTaken two twice factor d left q r → IsDivided ((q *ℤ d +ℤ r) +ℤ x) d p s → IsTaken x power factor d less p s
taken_more x two power twice factor d left q r less p s two-is twice-is most less-is is more =
    let e = is.taken.sum in
    let b = is.taken.rest.below in
    let f = is.multiple.sum in
    let g = more.sum in
    let n = is.count in
    let once : x *ℤ ((n +ℤ n) +ℤ pos 1) ≡ x *ℤ (n +ℤ n) +ℤ x = *ℤ_comm x ((n +ℤ n) +ℤ pos 1) ∙ more-times (n +ℤ n) x ∙ ap (λ (t : ℤ). t +ℤ x) (*ℤ_comm (n +ℤ n) x) in
    record {
      count = (n +ℤ n) +ℤ pos 1;
      taken = record { sum = omega (arith, ints, doubled_count n power twice twice-is, more-times (n +ℤ n) power); rest = record { above = omega (arith, ints); below = omega (arith, ints) } };
      multiple = record { sum = omega (arith, ints, counted_double x two n two-is); rest = more.rest };
    }

pub power_left_held : (lo hi power factor : ℤ) → IsRange lo hi → IsHeld lo hi factor → pos 0 <ℤ power → power ≤ℤ factor → IsHeld lo hi (factor -ℤ power)
power_left_held lo hi power factor range held positive most =
    let low = low_below lo hi range in
    let b = held.below in
    record { above = omega (arith, ints); below = omega (arith, ints) }

pub power_twice_held : (lo hi power factor more : ℤ) → IsRange lo hi → IsHeld lo hi factor → pos 0 <ℤ power → more ≡ factor -ℤ power → power ≤ℤ more → IsHeld lo hi (power +ℤ power)
power_twice_held lo hi power factor more range held positive more-is most =
    let low = low_below lo hi range in
    let b = held.below in
    record { above = omega (arith, ints); below = omega (arith, ints) }

pub doubled_room : (hi o power factor more : ℤ) → IsPart o power → factor ≤ℤ hi → more ≡ factor -ℤ power → power ≤ℤ more → IsPart (o +ℤ o) hi
doubled_room hi o power factor more once high more-is most =
    let a = once.above in
    let b = once.below in
    record { above = omega (arith, ints); below = omega (arith, ints) }

-- the double of a number below power times d is below twice power times d
pub double_above : (x : ℤ) → pos 0 ≤ℤ x → pos 0 ≤ℤ (x +ℤ x)
double_above x some = omega (arith, ints)

pub double_below : (x power twice d : ℤ) → twice ≡ power +ℤ power → x <ℤ (power *ℤ d) → (x +ℤ x) <ℤ (twice *ℤ d)
double_below x power twice d twice-is less =
    let e : twice *ℤ d ≡ power *ℤ d +ℤ power *ℤ d = ap (λ (t : ℤ). t *ℤ d) twice-is ∙ add-mul power power d in
    omega (arith, ints)

pub less_left : (power twice factor : ℤ) → twice ≡ power +ℤ power → pos 0 <ℤ power → twice ≤ℤ factor → unsigned_abs (factor -ℤ twice) < unsigned_abs (factor -ℤ power)
less_left power twice factor twice-is positive most = omega (arith, ints)

-- the sum of the quotient so far and the quotient of one more is below the greatest number
pub taken_room : (hi two power twice factor d left q r o : ℤ) → factor ≤ℤ hi → pos 0 ≤ℤ two → two <ℤ (twice *ℤ d) → twice ≡ power +ℤ power → power ≤ℤ left → pos 0 <ℤ factor → IsPart o power
    → IsTaken two twice factor d left q r → IsPart (q +ℤ o) hi
taken_room hi two power twice factor d left q r o high some below twice-is most positive once is =
    let n = is.count in
    let e = is.taken.sum in
    let a = is.taken.rest.above in
    let b = is.taken.rest.below in
    let f = is.multiple.sum in
    let ra = is.multiple.rest.above in
    let rb = is.multiple.rest.below in
    let oa = once.above in
    let ob = once.below in
    let count_above : pos 0 ≤ℤ n = whole_at_most (pos 0) n twice (omega (arith, ints)) (omega (arith, ints, zero-*ℤ twice)) in
    let up : pos 0 ≤ℤ (two *ℤ n) = up_product two n some count_above in
    let q_above : pos 0 ≤ℤ q = whole_at_most (pos 0) q d (omega (arith, ints)) (omega (arith, ints, zero-*ℤ d)) in
    let down : (two *ℤ n) ≤ℤ ((twice *ℤ d) *ℤ n) = times_le two (twice *ℤ d) n (omega (arith, ints)) count_above in
    let turned : (twice *ℤ d) *ℤ n ≡ (n *ℤ twice) *ℤ d = *ℤ_comm (twice *ℤ d) n ∙ sym (mul_assoc n twice d) in
    let q_most : q ≤ℤ (n *ℤ twice) = whole_at_most q (n *ℤ twice) d (omega (arith, ints)) (omega (arith, ints)) in
    record { above = omega (arith, ints); below = omega (arith, ints) }

-- if the power is 1, nothing is left of the factor
pub taken_all : (part factor d zero single left q r : ℤ) → zero ≡ pos 0 → single ≡ pos 1 → IsTaken (zero *ℤ d +ℤ part) single factor d left q r → IsDivided (part *ℤ factor) d q r
unfolding one
taken_all part factor d zero single left q r zero-is single-is is =
    let a = is.taken.rest.above in
    let b = is.taken.rest.below in
    let e : factor ≡ is.count *ℤ single +ℤ left = is.taken.sum in
    let f : is.count *ℤ single ≡ is.count = ap (λ (t : ℤ). is.count *ℤ t) single-is ∙ *ℤ-one is.count in
    let count-is : factor ≡ is.count = omega (arith, ints) in
    let g : zero *ℤ d ≡ pos 0 = ap (λ (t : ℤ). t *ℤ d) zero-is ∙ zero-*ℤ d in
    let once : zero *ℤ d +ℤ part ≡ part = omega (arith, ints) in
    record { sum = ap (λ (t : ℤ). part *ℤ t) count-is ∙ ap (λ (t : ℤ). t *ℤ is.count) (sym once) ∙ is.multiple.sum; rest = is.multiple.rest }
