use Rattle.std.proofs.Common.{◌-◌, pos}
use Rattle.std.specs.Prelude.{◌<ℤ◌, unsigned_abs}
use Rattle.num_rational.specs.Reduced.{lowest_numbers}
use Rattle.ratio_uses.specs.Units.{IsDoubled}
use Rattle.ratio_uses.proofs.units.doubled.Given as goal

abbrev pub invariant-loop-pitch : goal.invariant-loop-pitch
invariant-loop-pitch l = record { doubled : IsDoubled (lowest_numbers l.interval) (lowest_numbers l.pitch); above : pos 0 <ℤ (lowest_numbers l.pitch).0 }

abbrev pub decreases-loop-pitch : goal.decreases-loop-pitch
decreases-loop-pitch l = unsigned_abs (lowest_numbers l.pitch).1 - unsigned_abs (lowest_numbers l.pitch).0
