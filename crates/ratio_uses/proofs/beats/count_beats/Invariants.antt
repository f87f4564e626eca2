use Rattle.num_rational.specs.Reduced.{lowest_numbers}
use Rattle.ratio_uses.proofs.BeatLemmas.{ChangedSoFar, IsCounted}
use Rattle.ratio_uses.proofs.beats.count_beats.Given as goal

abbrev pub invariant-loop-voice : goal.invariant-loop-voice
invariant-loop-voice l = ChangedSoFar (IsCounted (lowest_numbers l.time)) l.initial.voices l.voices l.voice-index
