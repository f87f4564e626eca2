use Rattle.std.proofs.Common.{◌-◌}
use Rattle.std.specs.Prelude.{unsigned_abs}
use Rattle.num_rational.specs.Reduced.{lowest_numbers}
use Rattle.ratio_uses.specs.Units.{IsHalved}
use Rattle.ratio_uses.proofs.units.halved.Given as goal

abbrev pub invariant-loop-pitch : goal.invariant-loop-pitch
invariant-loop-pitch l = IsHalved (lowest_numbers l.interval) (lowest_numbers l.pitch)

abbrev pub decreases-loop-pitch : goal.decreases-loop-pitch
decreases-loop-pitch l = unsigned_abs (lowest_numbers l.pitch).0 - unsigned_abs (lowest_numbers l.pitch).1
