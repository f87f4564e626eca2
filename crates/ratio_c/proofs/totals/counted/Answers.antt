use Rattle.std.specs.Prelude.{◌≡◌, ◌+ℤ◌, ◌-ℤ◌}
use Rattle.std.proofs.Common.{arith}
use Rattle.std.proofs.lemmas.Int.{ints}
use mir.Val.{to_z}
use mir.Syntax.{w128}
use Rattle.ratio_c.proofs.TotalSteps.{checked_count, minus_is_turned}
use Rattle.ratio_c.proofs.totals.counted.Goals as goal
use Rattle.ratio_c.proofs.totals.counted.Goals.{in-In, in-Out}

pub returns : goal.returns
returns c = elim c.match-way.branch [
  | in-In w ↦
      let sum : to_z w128 c.match-way.sum-bits ≡ c.args.count +ℤ c.args.more = omega (arith, ints, w.sum-is) in
      rw w.in-In.is (checked_count _ _ c.from_i128.result sum c.from_i128.ensures)
  | in-Out w ↦
      let sum : to_z w128 c.match-way.sum-bits ≡ c.args.count -ℤ c.args.more = omega (arith, ints, w.sum-is) in
      rw w.in-Out.is (minus_is_turned c.args.count c.args.more c.from_i128.result (checked_count _ _ c.from_i128.result sum c.from_i128.ensures))
]
