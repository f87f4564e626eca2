-- The number of a watched value.
use Rattle.std.specs.Prelude.{ℤ, None}
use Rattle.ratio_odd.specs.declared.watch8.Watched.{Watched}

-- the number of a watched value, which counts its divisions and sums
abbrev pub watched_number : {C : _} → Watched C → ℤ
watched_number w = w.n

-- the watched value of the number z, without counters
abbrev pub unwatched : {C : _} → ℤ → Watched C
unwatched z = record { n = z; counters = None }
