use Rattle.std.proofs.Common.{refl}
use Rattle.ratio_big.specs.Fractions.{big_numbers}
use Rattle.ratio_expressions.proofs.LimitLemmas.{short_pair}
use Rattle.ratio_expressions.proofs.limit.pair_fits.Goals as goal

pub returns-then-is_short-2 : goal.returns-then-is_short-2
returns-then-is_short-2 c = (
  λ h. short_pair (big_numbers c.args.x.now) (big_numbers c.args.y.now) (c.is_short.ensures.0 c.if-is_short.true) (c.is_short-then-is_short.ensures.0 c.if-is_short-2.true),
  λ h. refl,
)
