use Rattle.ratio_decimal.proofs.ShortDecimals.{moved_left, moved_right}
use Rattle.ratio_decimal.proofs.reading.value.places_behind.Goals as goal

pub returns-else-before-moved-gt19-clause-power : goal.returns-else-before-moved-gt19-clause-power
returns-else-before-moved-gt19-clause-power c = moved_left c.args.places c.args.tens c.args.down c.if-down.true

pub returns-else-moved-before-clause-power : goal.returns-else-moved-before-clause-power
returns-else-moved-before-clause-power c = moved_right c.args.places c.args.tens c.args.down c.if-down.false c.if-moved-before.false
