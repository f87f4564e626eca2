use Rattle.ratio_decimal.proofs.FloatRounding.{nearest_zero, moved_further}
use Rattle.ratio_decimal.proofs.float.nearest.nearest_bits.Goals as goal

pub returns-then-n-eq0 : goal.returns-then-n-eq0
returns-then-n-eq0 g c = nearest_zero g.F.FloatType.format c.args.n c.args.d c.requires c.if-n-eq0.true

pub returns : goal.returns
returns g c =
    let is = rw (c.moved_up-high_n.ensures.moved, c.moved_up-high_d.ensures.moved) at c.leading_digits-digits.ensures.quotient in
    c.rounded.ensures c.args.n c.args.d c.requires (rw (moved_further c.args.n c.moved_up-high_n.result.1) at is)
