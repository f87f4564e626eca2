use Rattle.num_rational.specs.Reduced.{lowest_numbers}
use Rattle.ratio_uses.proofs.BeatLemmas.{ChangedSoFar, IsStarted}
use Rattle.ratio_uses.proofs.beats.set_counts.Given as goal

abbrev pub invariant-loop-voice : goal.invariant-loop-voice
invariant-loop-voice l = ChangedSoFar (IsStarted (lowest_numbers l.time)) l.initial.voices l.voices l.voice-index
