-- Steps by the side of a comparison.
use Rattle.std.specs.Prelude.{ℕ}
use Rattle.ratio_core.specs.declared.steps.Side.{Side}
use Rattle.ratio_core.specs.declared.steps.Side.TheVariants.{Left, Right}

-- Inner: how many steps of the left side one step of this side is
abbrev pub on_left : Side → ℕ
on_left Left = 1
on_left Right = 0

-- Inner: how many steps of the right side one step of this side is
abbrev pub on_right : Side → ℕ
on_right Left = 0
on_right Right = 1
