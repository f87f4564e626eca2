use Rattle.std.proofs.Common.{subst}
use Rattle.ratio_big.specs.Decimals.{AnswersBigTyped}
use Rattle.ratio_expressions.proofs.Percentages.{share_read, share_refused}
use Rattle.ratio_expressions.proofs.number.read_share.Goals as goal

pub returns-in_ok-hundredth-in-Ok : goal.returns-in_ok-hundredth-in-Ok
returns-in_ok-hundredth-in-Ok c =
    share_read c.args.mixed.now c.in-Ok.number c.in_ok-hundredth-in-Ok.field-0 (subst (λ r. AnswersBigTyped c.args.mixed.now r) c.in-Ok.is c.in_ok-number.ensures) c.in_ok-hundredth-in-Ok.ensures

pub returns-in-Err : goal.returns-in-Err
returns-in-Err c = share_refused c.args.mixed.now c.in-Err.refusal (subst (λ r. AnswersBigTyped c.args.mixed.now r) c.in-Err.is c.in_ok-number.ensures)
