use Rattle.std.specs.Prelude.{◌<ℤ◌, pos}
use Rattle.ratio_uses.proofs.BeatLemmas.{EarliestSoFar}
use Rattle.ratio_uses.proofs.beats.earliest.Given as goal

abbrev pub invariant-loop-i : goal.invariant-loop-i
invariant-loop-i l = record { first : EarliestSoFar l.voices l.i l.time; up : pos 0 <ℤ l.time.1 }
