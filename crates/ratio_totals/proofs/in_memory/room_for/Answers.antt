use Rattle.std.proofs.Common.{arith}
use Rattle.ratio_slots.specs.Common.{most_digits}
use Rattle.ratio_totals.proofs.in_memory.room_for.Goals as goal

pub returns : goal.returns
unfolding most_digits
returns c = omega arith
