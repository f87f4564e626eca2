use Rattle.std.proofs.Common.{lit≤, sym, ◌∙◌}
use Rattle.ratio_integer.proofs.HalfLemmas.{signed_number}
use Rattle.ratio_odd.proofs.watch8.WatchedInteger.half_base.Goals as goal

pub returns-then-has_halves : goal.returns-then-has_halves
returns-then-has_halves g c = (sym c.has_halves.ensures ∙ c.if-has_halves.true, signed_number 8 (lit≤ tt))
