use Rattle.std.specs.Prelude.{◌≡◌, ◌≢◌, pos, true}
use Rattle.std.proofs.Common.{arith, rules}
use Rattle.ratio_core.proofs.WideRemainders.{exact_remainder}
use Rattle.ratio_core.proofs.remainder.lowest_remainders.checked_rem.Goals as goal

pub returns-then-EXACT_REMAINDERS : goal.returns-then-EXACT_REMAINDERS
returns-then-EXACT_REMAINDERS g c =
    let t = g.T.Integer in
    let exact : t.EXACT_REMAINDERS ≡ true = search rules in
    let nonzero : t.value c.args.c ≢ pos 0 = grind (arith, c.is_zero.ensures) in
    rw exact (exact_remainder (λ r. t.value r.0) (λ r. t.value r.1) _ _ (t.value c.args.a) (t.value c.args.b) (t.value c.args.c) (t.value c.args.d) c.exact_rem.result nonzero c.exact_rem.ensures)
