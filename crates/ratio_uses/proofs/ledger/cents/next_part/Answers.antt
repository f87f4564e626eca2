use Rattle.std.proofs.Common.{rules}
use Rattle.std.proofs.lemmas.Int.{to_z-of_z}
use mir.Syntax.{w128, w64}
use mir.Val.{SFits}
use Rattle.std.specs.Prelude.{◌-ℤ◌}
use Rattle.std.proofs.Common.{subst, sym}
use Rattle.ratio_integer.specs.Arithmetic.{sum_of}
use Rattle.ratio_integer.specs.SignedBits.{IsHeld128}
use Rattle.ratio_integer.proofs.Whole.{mul_positive}
use Rattle.num_rational.specs.Reduced.{lowest_numbers}
use Rattle.num_rational.specs.Split.{IsRoundedShare}
use Rattle.ratio_uses.proofs.BeatLemmas.{number_held}
use Rattle.ratio_uses.proofs.CentLemmas.{held_fits, mark_out, part_out, step_is, step_rounded, wide_fits, wide_part}
use Rattle.ratio_uses.proofs.ledger.cents.next_part.Goals as goal

pub returns-in_err-mark : goal.returns-in_err-mark
returns-in_err-mark c =
    let unit_fits : SFits w64 c.args.unit_parts = c.ranges.unit_parts in
    let unit_wide : SFits w128 c.args.unit_parts = wide_fits c.args.unit_parts unit_fits in
    let count_fits : SFits w128 c.args.count = c.ranges.count in
    let last_fits : SFits w128 c.args.last = c.ranges.last in
    let numer_fits : SFits w64 c.numer.result.now = search rules in
    let numer_wide : SFits w128 c.numer.result.now = wide_fits c.numer.result.now numer_fits in
    let denom_fits : SFits w64 c.denom.result.now = search rules in
    let denom_wide : SFits w128 c.denom.result.now = wide_fits c.denom.result.now denom_fits in
    let sum = lowest_numbers c.args.sum.now in
    let share = lowest_numbers c.args.share.now in
    let x = sum_of sum.0 sum.1 share.0 share.1 in
    let up = mul_positive sum.1 share.1 c.args.sum.now.lowest.positive c.args.share.now.lowest.positive in
    let low = c.in_ok-sum.ensures in
    let product = rw (c.numer.ensures.value, c.denom.ensures.value) at (simp to_z-of_z at c.in_err-mark.ensures) in
    rw c.from_residual-in_err-mark.ensures (mark_out c.args.unit_parts c.args.count c.args.last x product.0 up (step_rounded c.args.count x (lowest_numbers c.in_ok-sum.sum) product.0 up low.terms product.1) product.2)

pub returns-in_err-more : goal.returns-in_err-more
returns-in_err-more c =
    let unit_fits : SFits w64 c.args.unit_parts = c.ranges.unit_parts in
    let unit_wide : SFits w128 c.args.unit_parts = wide_fits c.args.unit_parts unit_fits in
    let count_fits : SFits w128 c.args.count = c.ranges.count in
    let last_fits : SFits w128 c.args.last = c.ranges.last in
    let numer_fits : SFits w64 c.numer.result.now = search rules in
    let numer_wide : SFits w128 c.numer.result.now = wide_fits c.numer.result.now numer_fits in
    let denom_fits : SFits w64 c.denom.result.now = search rules in
    let denom_wide : SFits w128 c.denom.result.now = wide_fits c.denom.result.now denom_fits in
    let sum = lowest_numbers c.args.sum.now in
    let share = lowest_numbers c.args.share.now in
    let x = sum_of sum.0 sum.1 share.0 share.1 in
    let up = mul_positive sum.1 share.1 c.args.sum.now.lowest.positive c.args.share.now.lowest.positive in
    let low = c.in_ok-sum.ensures in
    let product = rw (c.numer.ensures.value, c.denom.ensures.value) at (simp to_z-of_z at c.in_ok-mark.ensures) in
    let marked = step_rounded c.args.count x (lowest_numbers c.in_ok-sum.sum) product.0 up low.terms product.1 in
    let mark_fits : SFits w128 c.in_ok-mark.mark = held_fits c.in_ok-mark.mark (subst IsHeld128 (sym product.2.1) product.2.0) in
    let rounded : IsRoundedShare c.args.count x c.in_ok-mark.mark = subst (IsRoundedShare c.args.count x) (sym product.2.1) marked in
    let out = simp to_z-of_z at c.in_err-more.ensures in
    rw c.from_residual-in_err-more.ensures (part_out c.args.unit_parts c.args.count c.args.last x c.in_ok-mark.mark up rounded
    (λ fits. out (wide_part (c.in_ok-mark.mark -ℤ c.args.last) c.args.unit_parts c.requires.some (number_held c.args.unit_parts unit_fits).below fits)))

pub returns-in_err-part : goal.returns-in_err-part
returns-in_err-part c =
    let unit_fits : SFits w64 c.args.unit_parts = c.ranges.unit_parts in
    let unit_wide : SFits w128 c.args.unit_parts = wide_fits c.args.unit_parts unit_fits in
    let count_fits : SFits w128 c.args.count = c.ranges.count in
    let last_fits : SFits w128 c.args.last = c.ranges.last in
    let numer_fits : SFits w64 c.numer.result.now = search rules in
    let numer_wide : SFits w128 c.numer.result.now = wide_fits c.numer.result.now numer_fits in
    let denom_fits : SFits w64 c.denom.result.now = search rules in
    let denom_wide : SFits w128 c.denom.result.now = wide_fits c.denom.result.now denom_fits in
    let sum = lowest_numbers c.args.sum.now in
    let share = lowest_numbers c.args.share.now in
    let x = sum_of sum.0 sum.1 share.0 share.1 in
    let up = mul_positive sum.1 share.1 c.args.sum.now.lowest.positive c.args.share.now.lowest.positive in
    let low = c.in_ok-sum.ensures in
    let product = rw (c.numer.ensures.value, c.denom.ensures.value) at (simp to_z-of_z at c.in_ok-mark.ensures) in
    let marked = step_rounded c.args.count x (lowest_numbers c.in_ok-sum.sum) product.0 up low.terms product.1 in
    let mark_fits : SFits w128 c.in_ok-mark.mark = held_fits c.in_ok-mark.mark (subst IsHeld128 (sym product.2.1) product.2.0) in
    let rounded : IsRoundedShare c.args.count x c.in_ok-mark.mark = subst (IsRoundedShare c.args.count x) (sym product.2.1) marked in
    let more = simp to_z-of_z at c.in_ok-more.ensures in
    let more_fits : SFits w128 c.in_ok-more.more = held_fits c.in_ok-more.more (subst IsHeld128 (sym more.1) more.0) in
    let out = rw more.1 at (simp to_z-of_z at c.in_err-part.ensures) in
    rw c.from_residual-in_err-part.ensures (part_out c.args.unit_parts c.args.count c.args.last x c.in_ok-mark.mark up rounded out)

pub returns : goal.returns
returns c =
    let unit_fits : SFits w64 c.args.unit_parts = c.ranges.unit_parts in
    let unit_wide : SFits w128 c.args.unit_parts = wide_fits c.args.unit_parts unit_fits in
    let count_fits : SFits w128 c.args.count = c.ranges.count in
    let last_fits : SFits w128 c.args.last = c.ranges.last in
    let numer_fits : SFits w64 c.numer.result.now = search rules in
    let numer_wide : SFits w128 c.numer.result.now = wide_fits c.numer.result.now numer_fits in
    let denom_fits : SFits w64 c.denom.result.now = search rules in
    let denom_wide : SFits w128 c.denom.result.now = wide_fits c.denom.result.now denom_fits in
    let sum = lowest_numbers c.args.sum.now in
    let share = lowest_numbers c.args.share.now in
    let x = sum_of sum.0 sum.1 share.0 share.1 in
    let up = mul_positive sum.1 share.1 c.args.sum.now.lowest.positive c.args.share.now.lowest.positive in
    let low = c.in_ok-sum.ensures in
    let product = rw (c.numer.ensures.value, c.denom.ensures.value) at (simp to_z-of_z at c.in_ok-mark.ensures) in
    let marked = step_rounded c.args.count x (lowest_numbers c.in_ok-sum.sum) product.0 up low.terms product.1 in
    let mark_fits : SFits w128 c.in_ok-mark.mark = held_fits c.in_ok-mark.mark (subst IsHeld128 (sym product.2.1) product.2.0) in
    let rounded : IsRoundedShare c.args.count x c.in_ok-mark.mark = subst (IsRoundedShare c.args.count x) (sym product.2.1) marked in
    let more = simp to_z-of_z at c.in_ok-more.ensures in
    let more_fits : SFits w128 c.in_ok-more.more = held_fits c.in_ok-more.more (subst IsHeld128 (sym more.1) more.0) in
    let terms = rw more.1 at (simp to_z-of_z at c.in_ok-part.ensures) in
    simp to_z-of_z (step_is c.args.unit_parts c.args.count c.args.last x (lowest_numbers c.in_ok-sum.sum) product.0 c.in_ok-mark.mark (lowest_numbers c.in_ok-part.part) low marked product.2 terms)
