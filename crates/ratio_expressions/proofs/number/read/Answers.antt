use Rattle.std.proofs.Common.{◌≡◌, ℕ, List, subst}
use Rattle.std.specs.Prelude.{IfOk, Option, Some, None}
use Rattle.ratio_expressions.specs.Numbers.{AnswersBigReading, IsSaid, mixed_front}
use Rattle.ratio_expressions.proofs.number.read.Goals as goal

pub returns-in-None : goal.returns-in-None
returns-in-None c =
    let none : None ≡ mixed_front c.args.text.now = c.in-None.ensures in
    subst (λ (m : Option (List ℕ)). IfOk c.read_field.result (AnswersBigReading (IsSaid m c.args.text.now))) none c.read_field.ensures

pub returns-in-Some : goal.returns-in-Some
returns-in-Some c =
    let some : Some c.in-Some.mixed.now ≡ mixed_front c.args.text.now = c.in-Some.ensures in
    subst (λ (m : Option (List ℕ)). IfOk c.read_share.result (AnswersBigReading (IsSaid m c.args.text.now))) some c.read_share.ensures
