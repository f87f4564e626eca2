use Rattle.std.specs.Prelude.{◌≡◌, pos}
use Rattle.std.proofs.Common.{◌∙◌, sym, ap}
use Rattle.ratio_integer.specs.Comparison.{yes}
use Rattle.ratio_approximation.proofs.SimplestSteps.{below_zero_nearest}
use Rattle.ratio_approximation.proofs.simplest.whole_between.nearest_zero.Goals as goal

pub returns-then-lt-2 : goal.returns-then-lt-2
returns-then-lt-2 g c =
    let m = g.met.T.Counted in
    let less = yes _ (m.lt_law c.args.last c.ZERO-else-lt.result) (sym c.lt-else-lt.ensures ∙ c.if-lt-2.true) in
    let zero : g.T.Counted.value c.ZERO-else-lt.result ≡ pos 0 = ap g.T.Counted.value c.ZERO-else-lt.ensures ∙ m.zero_law in
    below_zero_nearest _ _ c.requires (rw zero at less)
