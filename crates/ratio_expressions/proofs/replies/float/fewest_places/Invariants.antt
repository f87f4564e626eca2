use Rattle.std.proofs.Common.{ℕ, ◌<◌}
use Rattle.ratio_expressions.specs.Floats.{FloatReadsBack}
use Rattle.ratio_expressions.proofs.replies.float.fewest_places.Given as goal

abbrev pub invariant-loop-places : goal.invariant-loop-places
invariant-loop-places l = (k : ℕ) → k < l.places → FloatReadsBack l.float k → ⊥
