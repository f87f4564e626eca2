use Rattle.std.specs.Prelude.{◌≡◌, ◌≢◌, pos, true}
use Rattle.std.proofs.Common.{arith, rules}
use Rattle.ratio_core.proofs.WideRemainders.{exact_remainder, met_by_held}
use Rattle.ratio_core.proofs.remainder.unreduced_remainders.checked_rem.Goals as goal

pub returns-in-Some : goal.returns-in-Some
returns-in-Some g c =
    let answer = c.in-Some.ensures in
    (met_by_held g.T.Integer.EXACT_REMAINDERS _ _ _ _ _ _ _ _ answer.0 answer.1, answer.1)

pub returns : goal.returns
returns g c =
    let t = g.T.Integer in
    let exact : t.EXACT_REMAINDERS ≡ true = search rules in
    let nonzero : t.value c.args.c ≢ pos 0 = grind (arith, c.is_zero.ensures) in
    rw exact (exact_remainder (λ r. t.value r.0) (λ r. t.value r.1) _ _ (t.value c.args.a) (t.value c.args.b) (t.value c.args.c) (t.value c.args.d) c.wide_rem.result nonzero c.wide_rem.ensures)
