use Rattle.std.specs.Prelude.{◌≢◌, pos}
use Rattle.std.proofs.Common.{arith}
use Rattle.ratio_core.proofs.RemainderLemmas.{divisor_scaled, remainder_answer}
use Rattle.ratio_core.proofs.remainder.checked_rem.Goals as goal

pub returns-in_err-left : goal.returns-in_err-left
returns-in_err-left g c = rw c.from_residual.ensures (λ held. c.in_err-left.ensures held.held)

pub truncated_rest-requires : goal.truncated_rest-requires
truncated_rest-requires g c =
    let nonzero : g.T.Integer.value c.args.c ≢ pos 0 = grind (arith, c.is_zero.ensures) in
    let scaled = c.in_ok-left.ensures in
    divisor_scaled _ _ _ _ _ _ _ c.requires.left_positive c.requires.right_positive scaled.scaled nonzero

pub lowest_terms-requires : goal.lowest_terms-requires
lowest_terms-requires g c = let scaled = c.in_ok-left.ensures in scaled.scaled.least.positive

pub returns : goal.returns
returns g c =
    let nonzero : g.T.Integer.value c.args.c ≢ pos 0 = grind (arith, c.is_zero.ensures) in
    remainder_answer _ _ _ _ _ _ _ _ _ _ _ _ c.requires.left_positive c.requires.right_positive nonzero c.in_ok-left.ensures c.truncated_rest.ensures c.lowest_terms.ensures
