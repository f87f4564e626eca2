use Rattle.std.specs.Prelude.{◌≡◌, ◌*◌, ◌^◌, ℕ}
use Rattle.std.proofs.Common.{arith, rules, ◌∙◌, ap}
use Rattle.std.proofs.lemmas.Int.{to_z-of_z}
use Rattle.std.specs.Int.RustNames.{FitsSigned}
use mir.Syntax.{w128}
use Rattle.ratio_core.specs.Signs.{with_sign}
use Rattle.ratio_decimal.proofs.FloatParts.{begun_is, begun_out, doubled_is, doubled_out}
use Rattle.ratio_decimal.proofs.float.exact.doubled.Goals as goal

pub returns-in_err-number : goal.returns-in_err-number
returns-in_err-number g c =
    let fits : FitsSigned w128 c.signed.result = search rules in
    rw c.from_residual.ensures (begun_out _ _ _ _ _ _ g.met.T.Integer.range_law (to_z-of_z w128 c.signed.result fits ∙ c.signed.ensures) c.in_err-number.ensures)

pub returns-in_err-number-2 : goal.returns-in_err-number-2
returns-in_err-number-2 g c = rw c.from_residual-in_err-number-2.ensures (doubled_out _ _ _ _ c.loop-done.done _ (g.T.Integer.value c.loop-done.number) g.met.T.Integer.range_law (let test = c.loop-done-test.true in omega arith) c.loop-done.invariant c.in_err-number-2.ensures)

pub loop-done-init : goal.loop-done-init
loop-done-init g c =
    let fits : FitsSigned w128 c.signed.result = search rules in
    c.in_ok-number.ensures.1 ∙ to_z-of_z w128 c.signed.result fits ∙ c.signed.ensures ∙ begun_is c.args.is_negative c.args.size

pub loop-done-preserved : goal.loop-done-preserved
loop-done-preserved g c = doubled_is _ _ c.loop-done.done _ _ c.loop-done.invariant c.in_ok-number-2.ensures.1

pub returns : goal.returns
returns g c =
    let same : c.loop-done.done ≡ c.args.times = (let first = c.loop-done-test.false in let second = c.loop-done.auto.done-end in omega arith) in
    let is : g.T.Integer.value c.loop-done.number ≡ with_sign c.args.is_negative (c.args.size * 2 ^ c.args.times) = c.loop-done.invariant ∙ ap (λ (t : ℕ). with_sign c.args.is_negative (c.args.size * 2 ^ t)) same in
    (rw is at c.held.ensures.range, is)
