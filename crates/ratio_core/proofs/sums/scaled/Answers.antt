use Rattle.std.proofs.Common.{sym}
use Rattle.ratio_core.proofs.ScalingLemmas.{common_out, held_scaled, left_out, right_out, scaled_is, held_equals}
use Rattle.ratio_core.proofs.sums.scaled.Goals as goal

pub returns-then-eq : goal.returns-then-eq
returns-then-eq g c =
    let equal = (g.met.T.Integer.eq_law c.args.b c.args.d).0 (sym c.if-eq.ensures) in
    held_equals _ _ _ _ _ _ equal c.requires.left_positive c.both_held.ensures.first c.both_held.ensures.second c.held.ensures.range

pub returns-in_err-try_times : goal.returns-in_err-try_times
returns-in_err-try_times g c =
    let v = g.T.Integer.value in
    let positive = c.requires in
    let is = scaled_is _ _ _ _ positive.left_positive positive.right_positive c.lowest_terms-for_right.ensures.terms (v c.args.a) (v c.args.c) in
    rw c.from_residual.ensures (left_out _ _ _ _ _ _ _ _ _ positive.left_positive positive.right_positive is c.in_err-try_times.ensures)

pub returns-in_err-try_times-2 : goal.returns-in_err-try_times-2
returns-in_err-try_times-2 g c =
    let v = g.T.Integer.value in
    let positive = c.requires in
    let is = scaled_is _ _ _ _ positive.left_positive positive.right_positive c.lowest_terms-for_right.ensures.terms (v c.args.a) (v c.args.c) in
    rw c.from_residual-in_err-try_times-2.ensures (right_out _ _ _ _ _ _ _ _ _ positive.left_positive positive.right_positive is c.in_err-try_times-2.ensures)

pub returns-in_err-try_times-3 : goal.returns-in_err-try_times-3
returns-in_err-try_times-3 g c =
    let v = g.T.Integer.value in
    let positive = c.requires in
    let is = scaled_is _ _ _ _ positive.left_positive positive.right_positive c.lowest_terms-for_right.ensures.terms (v c.args.a) (v c.args.c) in
    rw c.from_residual-in_err-try_times-3.ensures (common_out _ _ _ _ _ _ _ _ _ positive.left_positive positive.right_positive is c.in_err-try_times-3.ensures)

pub returns : goal.returns
returns g c =
    let v = g.T.Integer.value in
    let positive = c.requires in
    held_scaled _ _ _ _ positive.left_positive positive.right_positive c.lowest_terms-for_right.ensures.terms _ _ (v c.args.a) (v c.args.c) _ _ _ c.in_ok-try_times.ensures c.in_ok-try_times-2.ensures c.in_ok-try_times-3.ensures
