use Rattle.std.proofs.Common.{refl, sym}
use Rattle.ratio_uses.proofs.GearLemmas.{best_least, best_most, best_rounded}
use Rattle.ratio_uses.proofs.gears.best_first.Goals as goal

pub returns-then-rounded-least : goal.returns-then-rounded-least
returns-then-rounded-least c = λ n s up is. best_least _ _ _ _ c.requires.denom up (rw (sym is.same) at c.rounded_down-rounded.ensures) _ _ c.requires.most c.if-rounded-least.true

pub returns-then-rounded-most : goal.returns-then-rounded-most
returns-then-rounded-most c = λ n s up is. best_most _ _ _ _ c.requires.denom up (rw (sym is.same) at c.rounded_down-rounded.ensures) _ _ c.requires.most c.if-rounded-most.true

pub returns-else-rounded-most : goal.returns-else-rounded-most
returns-else-rounded-most c = λ n s up is. best_rounded _ _ _ _ c.requires.denom up (rw (sym is.same) at c.rounded_down-rounded.ensures) _ _ _ refl c.if-rounded-least.false c.if-rounded-most.false
