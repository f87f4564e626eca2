use Rattle.std.specs.Prelude.{◌+◌, ℤ}
use Rattle.std.proofs.Common.{arith, subst, sym}
use Rattle.ratio_slots.specs.Totals.{IsKept}
use Rattle.ratio_slots.proofs.TurnLemmas.{merged_count}
use Rattle.ratio_slots.proofs.changes.merge_slots.Goals as goal

pub returns-clause-count : goal.returns-clause-count
returns-clause-count c =
    merged_count c.args.tally.now.weight c.args.more.weight _ c.args.more.count _ c.args.out c.requires.kept.counted c.requires.other.counted
    (omega (arith, c.if-more-tally.false, c.requires.other.light)) c.turned_count.ensures

pub returns-clause-kept : goal.returns-clause-kept
returns-clause-kept c =
    subst (λ (z : ℤ). IsKept c.pour.new.slots (c.args.tally.now.weight + c.args.more.weight) z)
    (sym (merged_count c.args.tally.now.weight c.args.more.weight _ c.args.more.count _ c.args.out c.requires.kept.counted c.requires.other.counted (omega (arith, c.if-more-tally.false, c.requires.other.light)) c.turned_count.ensures))
    c.pour.ensures.kept
