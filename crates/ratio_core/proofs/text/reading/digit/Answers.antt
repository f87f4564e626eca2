use Rattle.std.proofs.Common.{arith}
use Rattle.ratio_core.proofs.LeadingDigits.{worth}
use Rattle.ratio_core.proofs.text.reading.digit.Goals as goal

pub returns : goal.returns
returns c = worth c.args.byte (omega (arith, c.if-byte-lt48.false)) (omega (arith, c.if-byte-gt122.false))
