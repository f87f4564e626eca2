use Rattle.std.specs.Prelude.{◌≡◌, length, take}
use Rattle.std.proofs.Common.{ap, arith, subst, ◌∙◌}
use Rattle.std.proofs.Math.Seq.{take-length}
use Rattle.ratio_integer.specs.Range.{IsHeld}
use Rattle.num_rational.specs.Split.{total_of}
use Rattle.num_rational.proofs.WeightLemmas.{total_out}
use Rattle.num_rational.proofs.splitting.checked_total.Goals as goal

pub returns-in_err-sum : goal.returns-in_err-sum
returns-in_err-sum g c =
    let T = g.T.Integer in
    rw c.from_residual.ensures (total_out T.value T.lo T.hi c.args.weights.now c.loop-weight.weight-index c.weight-item.result g.met.T.Integer.range_law c.loop-weight-test.true c.weight-item.is c.requires
    (rw c.loop-weight.invariant at c.in_err-sum.ensures))

pub returns : goal.returns
returns g c =
    let T = g.T.Integer in
    let whole : take c.loop-weight.weight-index c.args.weights.now ≡ c.args.weights.now = ap (λ n. take n c.args.weights.now) (let e : c.loop-weight.weight-index ≡ length c.args.weights.now = omega arith in e) ∙ take-length c.args.weights.now in
    let same : T.value c.loop-weight.sum ≡ total_of T.value c.args.weights.now = c.loop-weight.invariant ∙ ap (total_of T.value) whole in
    (subst (IsHeld T.lo T.hi) same c.held.ensures.range, same)
