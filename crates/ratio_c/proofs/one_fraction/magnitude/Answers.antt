use Rattle.std.specs.Prelude.{◌≡◌, ◌≤ℤ◌, ◌<ℤ◌, ℤ, pos}
use Rattle.std.proofs.Common.{ap, subst, ◌∙◌}
use Rattle.ratio_integer.specs.Comparison.{Tells, yes}
use Rattle.ratio_c.proofs.Magnitudes.{magnitude_below}
use Rattle.ratio_c.proofs.one_fraction.magnitude.Goals as goal

pub returns-then-lt : goal.returns-then-lt
returns-then-lt g c =
    let v = g.T.Integer.value in
    let m = g.met.T.Integer in
    let zero : v c.ZERO.result ≡ pos 0 = ap v c.ZERO.ensures ∙ m.zero_law in
    let tells : Tells c.lt.result (v c.args.n <ℤ v c.ZERO.result) (v c.ZERO.result ≤ℤ v c.args.n) = rw c.lt.ensures (m.lt_law c.args.n c.ZERO.result) in
    let below : v c.args.n <ℤ pos 0 = subst (λ (z : ℤ). v c.args.n <ℤ z) zero (yes c.lt.result tells c.if-lt.true) in
    rw (magnitude_below (v c.args.n) below) c.negated.ensures
