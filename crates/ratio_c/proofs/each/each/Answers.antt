use Rattle.ratio_c.proofs.Places.{all_answered}
use Rattle.ratio_c.proofs.each.each.Goals as goal

pub returns : goal.returns
returns g c = all_answered _ _ _ _ c.loop-i.i c.if-asked-answers.false c.loop-i.auto.answers c.loop-i-test.false c.loop-i.invariant
