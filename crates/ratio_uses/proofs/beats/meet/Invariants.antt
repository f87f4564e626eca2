use Rattle.num_rational.specs.Reduced.{lowest_numbers}
use Rattle.ratio_uses.proofs.MeetLemmas.{MeetSoFar}
use Rattle.ratio_uses.proofs.beats.meet.Given as goal

abbrev pub invariant-loop-voice : goal.invariant-loop-voice
invariant-loop-voice l = MeetSoFar l.voices l.voice-index (lowest_numbers l.time)
