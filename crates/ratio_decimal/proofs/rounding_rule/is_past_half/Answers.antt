use Rattle.std.specs.Prelude.{◌≡◌, ◌-ℤ◌}
use Rattle.std.proofs.Common.{arith}
use Rattle.std.proofs.lemmas.Int.{ints}
use Rattle.ratio_core.proofs.TestLemmas.{less_iff}
use Rattle.ratio_decimal.proofs.rounding_rule.is_past_half.Goals as goal

pub returns : goal.returns
returns g c =
    let v = g.T.Integer.value in
    let e : v c.minus.result ≡ v c.args.d -ℤ v c.args.left = c.minus.ensures in
    less_iff _ (v c.minus.result) (v c.args.left) (rw c.lt.ensures (g.met.T.Integer.lt_law c.minus.result c.args.left))
    ((λ l. omega (arith, ints)), (λ l. omega (arith, ints)))
