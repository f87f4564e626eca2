use Rattle.std.proofs.Common.{rules}
use Rattle.std.proofs.lemmas.Int.{to_z-of_z}
use mir.Syntax.{w128, w64}
use mir.Val.{SFits}
use Rattle.std.proofs.Common.{◌≡◌, ◌∙◌, ap, arith, length, pos, subst, sym, take}
use Rattle.std.specs.Prelude.{◌<ℤ◌, ◌≤ℤ◌}
use Rattle.std.proofs.Math.Seq.{take-length}
use Rattle.std.proofs.lemmas.Int.{ints}
use borrow.Author.Count.{below_more}
use Rattle.ratio_integer.specs.Arithmetic.{sum_of}
use Rattle.ratio_integer.specs.Fraction.{IsLowestTermsOf, SameValue}
use Rattle.ratio_integer.proofs.Whole.{positive_nonzero}
use Rattle.num_rational.specs.Reduced.{lowest_numbers}
use Rattle.num_rational.specs.Split.{total_of_shares}
use Rattle.num_rational.proofs.SplitLemmas.{one_told}
use Rattle.ratio_uses.proofs.CentLemmas.{cents_more, cents_none, cents_whole, marked, marked_more, part_fits, step_answered, step_fits, wide_fits}
use Rattle.ratio_uses.proofs.ledger.cents.write_parts.Goals as goal

pub loop-i-init : goal.loop-i-init
loop-i-init c =
    let unit_fits : SFits w64 c.args.unit_parts = c.ranges.unit_parts in
    let unit_wide : SFits w128 c.args.unit_parts = wide_fits c.args.unit_parts unit_fits in
    let count_fits : SFits w128 c.args.count = c.ranges.count in
    simp to_z-of_z (cents_none lowest_numbers c.args.unit_parts c.args.count c.args.shares.now c.args.parts.now (lowest_numbers c.zero-sum.result) c.zero-sum.ensures.0)

pub unwrap-next_mark-requires : goal.unwrap-next_mark-requires
unwrap-next_mark-requires c =
    let unit_fits : SFits w64 c.args.unit_parts = c.ranges.unit_parts in
    let unit_wide : SFits w128 c.args.unit_parts = wide_fits c.args.unit_parts unit_fits in
    let count_fits : SFits w128 c.args.count = c.ranges.count in
    let mark_fits : SFits w128 c.loop-i.mark = search rules in
    let so_far = rw c.loop-i.mark-is at (simp to_z-of_z at c.loop-i.invariant) in
    let sum = lowest_numbers c.loop-i.sum in
    let share = lowest_numbers c.index-shares-i.result in
    step_answered c.args.unit_parts c.args.count c.loop-i.mark (sum_of sum.0 sum.1 share.0 share.1) c.next_part.result
    (step_fits lowest_numbers c.args.unit_parts c.args.count c.args.shares.now
    c.loop-i.i (lowest_numbers c.loop-i.sum) c.loop-i.mark c.index-shares-i.result c.loop-i-test.true c.index-shares-i.is
    c.loop-i.sum.lowest.positive c.index-shares-i.result.lowest.positive (marked lowest_numbers c.args.unit_parts c.args.count c.args.shares.now c.loop-i.parts c.loop-i.i (lowest_numbers c.loop-i.sum) c.loop-i.mark so_far) (c.requires.can.fit c.loop-i.i c.loop-i-test.true))
    (rw c.loop-i.mark-is at (simp to_z-of_z at c.next_part.ensures))

pub loop-i-preserved : goal.loop-i-preserved
loop-i-preserved c =
    let unit_fits : SFits w64 c.args.unit_parts = c.ranges.unit_parts in
    let unit_wide : SFits w128 c.args.unit_parts = wide_fits c.args.unit_parts unit_fits in
    let count_fits : SFits w128 c.args.count = c.ranges.count in
    let mark_fits : SFits w128 c.loop-i.mark = search rules in
    let so_far = rw c.loop-i.mark-is at (simp to_z-of_z at c.loop-i.invariant) in
    let next_fits : SFits w128 c.unwrap-next_mark.result.1 = search rules in
    let above : pos 0 ≤ℤ (lowest_numbers c.index-shares-i.result).0 = subst (λ x. pos 0 ≤ℤ (lowest_numbers x).0) (sym c.index-shares-i.is) (c.requires.can.none_below c.loop-i.i c.index-shares-i.result c.loop-i-test.true) in
    let step = rw c.loop-i.mark-is at (simp to_z-of_z at (rw c.unwrap-next_mark.ensures at c.next_part.ensures)) in
    simp to_z-of_z (cents_more lowest_numbers c.args.unit_parts c.args.count c.args.shares.now
    c.loop-i.i (lowest_numbers c.loop-i.sum) c.loop-i.mark c.index-shares-i.result c.loop-i-test.true c.index-shares-i.is
    c.loop-i.sum.lowest.positive c.index-shares-i.result.lowest.positive
    c.loop-i.parts (omega arith) so_far above (lowest_numbers c.unwrap-next_mark.result.0) c.unwrap-next_mark.result.1 c.unwrap-next_mark.result.2 step)

pub returns : goal.returns
returns c =
    let unit_fits : SFits w64 c.args.unit_parts = c.ranges.unit_parts in
    let unit_wide : SFits w128 c.args.unit_parts = wide_fits c.args.unit_parts unit_fits in
    let count_fits : SFits w128 c.args.count = c.ranges.count in
    let mark_fits : SFits w128 c.loop-i.mark = search rules in
    let so_far = rw c.loop-i.mark-is at (simp to_z-of_z at c.loop-i.invariant) in
    cents_whole lowest_numbers c.args.unit_parts c.args.count c.args.shares.now c.loop-i.parts c.loop-i.i (lowest_numbers c.loop-i.sum) c.loop-i.mark (omega arith) (omega arith) c.requires.can.one so_far
