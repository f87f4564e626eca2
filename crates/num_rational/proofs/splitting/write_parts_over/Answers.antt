use Rattle.std.specs.Prelude.{◌≡◌, ◌+ℤ◌, ◌-ℤ◌, pos}
use Rattle.std.proofs.Common.{ap, arith, refl, ◌∙◌}
use Rattle.std.proofs.lemmas.Int.{ints}
use Rattle.num_rational.proofs.CommonLemmas.{mark_so_far, next_above, next_below, next_held, part_fits_over, share_part, split_more_over}
use Rattle.num_rational.proofs.SplitLemmas.{split_none, split_whole}
use Rattle.num_rational.proofs.splitting.write_parts_over.Goals as goal

pub loop-i-init : goal.loop-i-init
loop-i-init g c =
    let T = g.T.Integer in
    split_none _ _ _ _ c.args.parts.now _ _ (ap T.value c.ZERO-sum.ensures ∙ g.met.T.Integer.zero_law) (ap T.value c.ZERO-mark.ensures ∙ g.met.T.Integer.zero_law)

pub numer_over-numer-requires : goal.numer_over-numer-requires
numer_over-numer-requires g c = record { common = c.requires.shares.common; share = share_part c.requires.shares c.loop-i-test.true c.index-shares-i.is c.loop-i.invariant }

pub loop-i-preserved-then-is_zero : goal.loop-i-preserved-then-is_zero
loop-i-preserved-then-is_zero g c =
    let T = g.T.Integer in
    let none : T.value c.numer_over-numer.result ≡ pos 0 = c.is_zero.ensures.0 c.if-is_zero.true in
    let zero : T.value c.ZERO.result ≡ pos 0 = ap T.value c.ZERO.ensures ∙ g.met.T.Integer.zero_law in
    let same : T.value c.loop-i.sum ≡ T.value c.loop-i.sum +ℤ T.value c.numer_over-numer.result = omega (arith, ints) in
    let nothing : T.value c.ZERO.result ≡ T.value c.loop-i.mark -ℤ T.value c.loop-i.mark = omega (arith, ints) in
    split_more_over c.requires.shares c.loop-i-test.true c.index-shares-i.is c.loop-i.invariant _ c.numer_over-numer.ensures same
    (mark_so_far c.requires.shares c.loop-i-test.true c.index-shares-i.is c.loop-i.invariant) c.ZERO.result (omega arith) nothing

pub plus-sum-requires : goal.plus-sum-requires
plus-sum-requires g c = next_held c.requires.shares c.loop-i-test.true c.index-shares-i.is c.loop-i.invariant _ c.numer_over-numer.ensures refl g.met.T.Integer.range_law c.both_held.ensures.second

pub mark_over-next-requires : goal.mark_over-next-requires
mark_over-next-requires g c = record {
  common = c.requires.shares.common;
  above = next_above c.requires.shares c.loop-i-test.true c.index-shares-i.is c.loop-i.invariant _ c.numer_over-numer.ensures c.plus-sum.ensures;
  below = next_below c.requires.shares c.loop-i-test.true c.index-shares-i.is c.loop-i.invariant _ c.numer_over-numer.ensures c.plus-sum.ensures;
}

pub minus-requires : goal.minus-requires
minus-requires g c =
    part_fits_over c.requires.shares c.loop-i-test.true c.index-shares-i.is c.loop-i.invariant _ c.numer_over-numer.ensures c.plus-sum.ensures c.mark_over-next.ensures c.loop-i.mark (omega arith) g.met.T.Integer.range_law c.both_held.ensures.first

pub loop-i-preserved : goal.loop-i-preserved
loop-i-preserved g c =
    split_more_over c.requires.shares c.loop-i-test.true c.index-shares-i.is c.loop-i.invariant _ c.numer_over-numer.ensures c.plus-sum.ensures c.mark_over-next.ensures c.minus.result (omega arith) c.minus.ensures

pub returns : goal.returns
returns g c = split_whole _ _ _ _ _ _ _ _ (omega arith) (omega arith) c.requires.shares.one c.loop-i.invariant
