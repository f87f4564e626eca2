use Rattle.std.proofs.Common.{map, take}
use Rattle.std.specs.Prelude.{string_bytes}
use Rattle.ratio.specs.Requests.{IsSoFar}
use Rattle.ratio.proofs.request.requested.Given as goal

abbrev pub invariant-loop-word : goal.invariant-loop-word
invariant-loop-word l = IsSoFar (map string_bytes (take l.word-index l.words)) l.so_far
