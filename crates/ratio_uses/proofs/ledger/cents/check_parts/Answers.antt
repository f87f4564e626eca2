use Rattle.std.proofs.Common.{rules}
use Rattle.std.proofs.lemmas.Int.{to_z-of_z}
use mir.Syntax.{w128, w64}
use mir.Val.{SFits}
use Rattle.std.proofs.Common.{◌≡◌, ◌∙◌, ap, arith, length, pos, subst, sym, take}
use Rattle.std.specs.Prelude.{◌<ℤ◌, ◌≤ℤ◌}
use Rattle.std.proofs.Math.Seq.{take-length}
use Rattle.std.proofs.lemmas.Int.{ints}
use borrow.Author.Count.{below_more}
use Rattle.ratio_integer.specs.Arithmetic.{sum_of}
use Rattle.ratio_integer.specs.Fraction.{IsLowestTermsOf, SameValue}
use Rattle.ratio_integer.proofs.Whole.{positive_nonzero}
use Rattle.num_rational.specs.Reduced.{lowest_numbers}
use Rattle.num_rational.specs.Split.{total_of_shares}
use Rattle.num_rational.proofs.SplitLemmas.{one_told}
use Rattle.ratio_uses.proofs.CentLemmas.{cents_more, cents_none, cents_whole, marked, marked_more, part_fits, step_answered, step_fits, wide_fits}
use Rattle.ratio_uses.proofs.ledger.cents.check_parts.Goals as goal

pub returns-in-None : goal.returns-in-None
returns-in-None c =
    let unit_fits : SFits w64 c.args.unit_parts = c.ranges.unit_parts in
    let unit_wide : SFits w128 c.args.unit_parts = wide_fits c.args.unit_parts unit_fits in
    let count_fits : SFits w128 c.args.count = c.ranges.count in
    let mark_fits : SFits w128 c.loop-share.mark = search rules in
    let out = rw c.loop-share.mark-is at (simp to_z-of_z at c.in-None.ensures) in
    let marked = rw c.loop-share.mark-is at (simp to_z-of_z at c.loop-share.invariant.marked) in
    λ all. out (step_fits lowest_numbers c.args.unit_parts c.args.count c.args.shares.now
    c.loop-share.share-index (lowest_numbers c.loop-share.sum) c.loop-share.mark c.share-item.result c.loop-share-test.true c.share-item.is
    c.loop-share.sum.lowest.positive c.share-item.result.lowest.positive marked (all c.loop-share.share-index c.loop-share-test.true))

pub loop-share-preserved : goal.loop-share-preserved
loop-share-preserved c =
    let unit_fits : SFits w64 c.args.unit_parts = c.ranges.unit_parts in
    let unit_wide : SFits w128 c.args.unit_parts = wide_fits c.args.unit_parts unit_fits in
    let count_fits : SFits w128 c.args.count = c.ranges.count in
    let mark_fits : SFits w128 c.loop-share.mark = search rules in
    let next_fits : SFits w128 c.in-Some.next_mark = search rules in
    let step = rw c.loop-share.mark-is at (simp to_z-of_z at c.in-Some.ensures) in
    let marked = rw c.loop-share.mark-is at (simp to_z-of_z at c.loop-share.invariant.marked) in
    simp to_z-of_z (record {
      fit = below_more _ _ (simp to_z-of_z at c.loop-share.invariant.fit)
          (part_fits lowest_numbers c.args.unit_parts c.args.count c.args.shares.now
          c.loop-share.share-index (lowest_numbers c.loop-share.sum) c.loop-share.mark c.share-item.result c.loop-share-test.true c.share-item.is
          c.loop-share.sum.lowest.positive c.share-item.result.lowest.positive marked (lowest_numbers c.in-Some.next) c.in-Some.next_mark (lowest_numbers c.in-Some.field-0-2) step);
      marked = marked_more lowest_numbers c.args.unit_parts c.args.count c.args.shares.now
          c.loop-share.share-index (lowest_numbers c.loop-share.sum) c.loop-share.mark c.share-item.result c.loop-share-test.true c.share-item.is
          c.loop-share.sum.lowest.positive c.share-item.result.lowest.positive marked (lowest_numbers c.in-Some.next) c.in-Some.next_mark (lowest_numbers c.in-Some.field-0-2) step;
    })

pub returns-then-numer-denom : goal.returns-then-numer-denom
returns-then-numer-denom c =
    let unit_fits : SFits w64 c.args.unit_parts = c.ranges.unit_parts in
    let unit_wide : SFits w128 c.args.unit_parts = wide_fits c.args.unit_parts unit_fits in
    let count_fits : SFits w128 c.args.count = c.ranges.count in
    let fit = simp to_z-of_z at c.loop-share.invariant.fit in
    let numer_fits : SFits w64 c.numer.result.now = search rules in
    let denom_fits : SFits w64 c.denom.result.now = search rules in
    let whole : take c.loop-share.share-index c.args.shares.now ≡ c.args.shares.now = ap (λ n. take n c.args.shares.now) (let e : c.loop-share.share-index ≡ length c.args.shares.now = omega arith in e) ∙ take-length c.args.shares.now in
    let up = subst (λ xs. pos 0 <ℤ (total_of_shares lowest_numbers xs).1) whole c.loop-share.invariant.marked.up in
    let same = subst (λ xs. SameValue (total_of_shares lowest_numbers xs).0 (total_of_shares lowest_numbers xs).1 (lowest_numbers c.loop-share.sum).0 (lowest_numbers c.loop-share.sum).1) whole c.loop-share.invariant.marked.same in
    let value : IsLowestTermsOf (total_of_shares lowest_numbers c.args.shares.now).0 (total_of_shares lowest_numbers c.args.shares.now).1 (lowest_numbers c.loop-share.sum).0 (lowest_numbers c.loop-share.sum).1 = record { fraction = positive_nonzero _ up; same = same; lowest = c.loop-share.sum.lowest } in
    let test = c.if-numer-denom.true in
    let equal : (lowest_numbers c.loop-share.sum).0 ≡ (lowest_numbers c.loop-share.sum).1 = grind (arith, ints, c.numer.ensures.value, c.denom.ensures.value) in
    (λ k below. fit k (omega arith), (one_told (total_of_shares lowest_numbers c.args.shares.now) (lowest_numbers c.loop-share.sum) value).1 equal)

pub returns-else-numer-denom : goal.returns-else-numer-denom
returns-else-numer-denom c =
    let unit_fits : SFits w64 c.args.unit_parts = c.ranges.unit_parts in
    let unit_wide : SFits w128 c.args.unit_parts = wide_fits c.args.unit_parts unit_fits in
    let count_fits : SFits w128 c.args.count = c.ranges.count in
    let fit = simp to_z-of_z at c.loop-share.invariant.fit in
    let numer_fits : SFits w64 c.numer.result.now = search rules in
    let denom_fits : SFits w64 c.denom.result.now = search rules in
    let whole : take c.loop-share.share-index c.args.shares.now ≡ c.args.shares.now = ap (λ n. take n c.args.shares.now) (let e : c.loop-share.share-index ≡ length c.args.shares.now = omega arith in e) ∙ take-length c.args.shares.now in
    let up = subst (λ xs. pos 0 <ℤ (total_of_shares lowest_numbers xs).1) whole c.loop-share.invariant.marked.up in
    let same = subst (λ xs. SameValue (total_of_shares lowest_numbers xs).0 (total_of_shares lowest_numbers xs).1 (lowest_numbers c.loop-share.sum).0 (lowest_numbers c.loop-share.sum).1) whole c.loop-share.invariant.marked.same in
    let value : IsLowestTermsOf (total_of_shares lowest_numbers c.args.shares.now).0 (total_of_shares lowest_numbers c.args.shares.now).1 (lowest_numbers c.loop-share.sum).0 (lowest_numbers c.loop-share.sum).1 = record { fraction = positive_nonzero _ up; same = same; lowest = c.loop-share.sum.lowest } in
    let test = c.if-numer-denom.false in
    (λ k below. fit k (omega arith), λ one. let equal = (one_told (total_of_shares lowest_numbers c.args.shares.now) (lowest_numbers c.loop-share.sum) value).0 one in grind (arith, ints, c.numer.ensures.value, c.denom.ensures.value))
