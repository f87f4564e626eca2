use Rattle.ratio_c.proofs.JoinSteps.{step_joins}
use Rattle.ratio_c.proofs.total_joining.step.Goals as goal

pub returns-in-Ok-clause-joins : goal.returns-in-Ok-clause-joins
returns-in-Ok-clause-joins c =
    step_joins c.args.slots.now c.args.most c.args.from c.in-Some.read c.in-Ok.next c.args.room.now c.begun.new.room c.go_on.new.room
    c.in-Some.ensures c.in-Ok.ensures.done c.in-Ok.ensures.digits c.in-Ok.ensures.joined c.in-Ok.ensures.accepted
