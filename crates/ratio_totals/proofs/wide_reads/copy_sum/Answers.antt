use Rattle.std.specs.Prelude.{◌<◌}
use Rattle.std.proofs.Common.{subst, sym, arith}
use Rattle.ratio_totals.proofs.WideTotalLemmas.{copied_common, copied_pair}
use Rattle.ratio_totals.proofs.wide_reads.copy_sum.Goals as goal

pub returns-clause-pair : goal.returns-clause-pair
returns-clause-pair c = copied_pair c.args.joined.digits c.copy_from_slice.new.self c.args.room.now _ c.copy_from_slice.ensures.after (omega (arith, c.requires.holds.long))

pub returns-clause-holds : goal.returns-clause-holds
returns-clause-holds c =
    let holds = c.requires.holds in
    let digits = c.args.joined.digits in
    record {
      few = holds.few;
      long = omega (arith, c.requires.needed, c.if-free-needed.false, c.copy_from_slice.ensures.len);
      common = subst (λ n. 0 < n) (sym (copied_common digits c.copy_from_slice.new.self c.args.room.now _ c.copy_from_slice.ensures.after (omega (arith, holds.long)))) holds.small.some;
    }
