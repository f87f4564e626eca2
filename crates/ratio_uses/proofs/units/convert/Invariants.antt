use Rattle.std.proofs.Common.{ℕ, ◌+◌, ◌<◌, take}
use Rattle.ratio_integer.specs.SignedBits.{Fits64}
use Rattle.num_rational.specs.In64Bits.{HasValue}
use Rattle.num_rational.specs.Reduced.{lowest_numbers}
use Rattle.ratio_uses.specs.Units.{converted}
use Rattle.ratio_uses.proofs.units.convert.Given as goal

abbrev pub invariant-loop-rate : goal.invariant-loop-rate
invariant-loop-rate l = record {
  fits : (k : ℕ) → k < l.rate-index → Fits64 (converted lowest_numbers (lowest_numbers l.amount) (take (k + 1) l.rates));
  value : HasValue (converted lowest_numbers (lowest_numbers l.amount) (take l.rate-index l.rates)) l.total;
}
