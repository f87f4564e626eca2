use Rattle.std.proofs.Common.{rules, arith}
use mir.Facts.{to_z-of_z}
use mir.Syntax.{w128}
use mir.Val.{SFits}
use Rattle.ratio_slots.proofs.ShortSumLemmas.{added_is, added_over}
use Rattle.ratio_slots.proofs.short_sums.add_short.Goals as goal

pub returns-then-common-denom : goal.returns-then-common-denom
returns-then-common-denom c =
    let sum : SFits w128 c.args.sum = search rules in
    let numer : SFits w128 c.args.numer = search rules in
    let new : SFits w128 c.in_ok-try_plus.field-0 = search rules in
    rw (to_z-of_z new)
    (added_over c.args.sum c.args.numer _ c.args.common c.args.denom c.if-common-denom.true (search rules) (rw (to_z-of_z sum, to_z-of_z numer) at c.in_ok-try_plus.ensures.1))

pub returns : goal.returns
returns c =
    let sum : SFits w128 c.args.sum = search rules in
    let numer : SFits w128 c.args.numer = search rules in
    let scale : SFits w128 c.in_ok-from_u128.field-0 = search rules in
    let old : SFits w128 c.in_ok-old.old = search rules in
    let part : SFits w128 c.in_ok-part.part = search rules in
    let new : SFits w128 c.in_ok-try_plus-2.field-0 = search rules in
    record {
      share = c.parts_of-share.result.0;
      more = c.parts_of-share.result.1;
      parts = c.parts_of-share.ensures;
      numer_is = rw (to_z-of_z new)
          (added_is c.args.sum c.args.numer _ _ _ _ c.parts_of-share.result.1 c.parts_of-share.result.0 (rw (to_z-of_z sum) at c.in_ok-old.ensures) c.in_ok-from_u128.ensures.1 (rw (to_z-of_z numer, to_z-of_z scale) at c.in_ok-part.ensures.1)
          (rw (to_z-of_z old, to_z-of_z part) at c.in_ok-try_plus-2.ensures.1));
      denom_is = c.in_ok-next.ensures.1;
      below = omega arith;
    }
