use Rattle.std.specs.Prelude.{◌*◌, ◌/◌, ◌%◌, ◌^◌}
use Rattle.std.proofs.Common.{ap}
use Rattle.ratio_slots.specs.Slots.{home_of}
use Rattle.ratio_slots.proofs.slots.home.Goals as goal

pub returns-clause-same : goal.returns-clause-same
unfolding home_of
returns-clause-same c =
    ap (λ factor. (c.args.denom * factor % 2 ^ 64 / 2 ^ 32 * 0x9e37_79b9_7f4a_7c15 % 2 ^ 64) * c.args.length / 2 ^ 64) c.factor.ensures
