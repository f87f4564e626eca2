use Rattle.std.proofs.Common.{arith}
use Rattle.ratio_decimal.proofs.ExactLemmas.{short_whole}
use Rattle.ratio_decimal.proofs.exact.put_whole.Goals as goal

pub put_word-requires-clause-room : goal.put_word-requires-clause-room
put_word-requires-clause-room c = let short = short_whole c.args.n c.args.end c.requires.some c.requires.small c.ranges.n.fits in omega arith

pub returns-then-end-lt40-clause-left : goal.returns-then-end-lt40-clause-left
returns-then-end-lt40-clause-left c =
    let short = short_whole c.args.n c.args.end c.requires.some c.requires.small c.ranges.n.fits in
    omega (arith, c.put_word.ensures.start, c.requires.some)
