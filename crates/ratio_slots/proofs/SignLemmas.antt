-- The sign of a sum.
use Rattle.std.specs.Prelude.{◌≡◌, ◌<◌, ◌*ℤ◌, Bool, ℕ, ℤ, pos, List}
use Rattle.std.specs.Ordering.{int_cmp}
use Rattle.std.specs.declared.cmp.Ordering.{Ordering}
use Rattle.std.proofs.Common.{ap, arith, sym, ◌∙◌}
use Rattle.std.proofs.lemmas.Int.{ints}
use Rattle.ratio_core.proofs.OrderLaws.{scaled_cmp}
use Rattle.ratio_slots.proofs.MergeSums.{sum_positive}
use Rattle.ratio_slots.specs.Common.{IsOverCommon, whole_number}
use Rattle.ratio_slots.specs.SumOrder.{sign_of_slots}
use Rattle.ratio_slots.specs.Sums.{sum_of_slots}
use Rattle.ratio_slots.specs.declared.slots.Slot.{Slot}

zero_times : (k : ℕ) → pos 0 *ℤ pos k ≡ pos 0
zero_times k = omega (arith, ints)

scaled_sign : (a : ℤ) (k : ℕ) → 0 < k → int_cmp (a *ℤ pos k) (pos 0) ≡ int_cmp a (pos 0)
scaled_sign a k some = ap (λ (t : ℤ). int_cmp (a *ℤ pos k) t) (sym (zero_times k)) ∙ scaled_cmp a (pos 0) k some

pub same_sign : (a x : ℤ) (b y : ℕ) → 0 < b → 0 < y → a *ℤ pos y ≡ x *ℤ pos b → int_cmp a (pos 0) ≡ int_cmp x (pos 0)
same_sign a x b y b_some y_some same =
    sym (scaled_sign a y y_some) ∙ ap (λ (t : ℤ). int_cmp t (pos 0)) same ∙ scaled_sign x b b_some

pub sign_read : (slots : List Slot) (negative : Bool) (n d : ℕ) (order : Ordering) → IsOverCommon slots negative n d → order ≡ int_cmp (whole_number negative n) (pos 0) → order ≡ sign_of_slots slots
sign_read slots negative n d order read is =
    is ∙ same_sign (whole_number negative n) (sum_of_slots slots).0 d (sum_of_slots slots).1 read.common.positive (sum_positive slots) read.value
