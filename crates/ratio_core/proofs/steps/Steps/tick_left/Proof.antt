-- The body is empty, and the count of the left side rises by 1.
use Rattle.std.proofs.Common.{◌+◌}
use Rattle.ratio_core.specs.contracts.steps.Steps.tick_left as f
use Rattle.ratio_core.proofs.Ticks.{changed}
use Rattle.ratio_core.proofs.steps.Steps.tick_left.Statement.{statement}
use Rattle.ratio_core.proofs.steps.Steps.tick_left.Code as code

pub tick_left_spec : {M : Type 1} → statement M
tick_left_spec 𝓤 𝓛 𝓜 𝓡 wired = changed 𝓛 𝓜 𝓡 (λ steps. record steps { left = steps.left + 1 }) f.Key.name _ _ _ (code.unfolded 𝓤 𝓛.H 𝓜 𝓡 wired)
