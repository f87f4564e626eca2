use Rattle.std.proofs.Common.{arith}
use Rattle.ratio_c.proofs.StridedPlaces.{reaches_by_quotient}
use Rattle.ratio_c.proofs.strided.reaches.Goals as goal

pub returns-else-stride-eq0 : goal.returns-else-stride-eq0
returns-else-stride-eq0 c = reaches_by_quotient c.args.words.now c.args.stride c.args.count (omega arith) (omega arith) (omega arith)
