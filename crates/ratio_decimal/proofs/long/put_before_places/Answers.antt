use Rattle.std.specs.Prelude.{IsAscii}
use Rattle.std.proofs.Common.{◌∙◌, ap, subst, sym, ◌++◌}
use Rattle.std.specs.Prelude.{decimal}
use Rattle.ratio_decimal.proofs.LongLemmas.{before_ascii, point_last}
use Rattle.ratio_decimal.proofs.long.put_before_places.Goals as goal

pub returns-clause-written : goal.returns-clause-written
returns-clause-written c =
    c.put_digits.ensures.written ∙ ap (λ xs. decimal c.args.n ++ xs) (point_last c.args.buf.now c.requires)

pub returns-clause-ascii : goal.returns-clause-ascii
returns-clause-ascii c = subst IsAscii (sym (returns-clause-written c)) (before_ascii c.args.n c.ranges.n.fits)
