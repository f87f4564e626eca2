use Rattle.std.proofs.Common.{◌∙◌, sym}
use Rattle.ratio_core.proofs.Following.{divided_apart, divided_tied}
use Rattle.ratio_core.proofs.order.dividing.follow_right.Goals as goal

pub returns-in-Equal-clause-followed : goal.returns-in-Equal-clause-followed
returns-in-Equal-clause-followed g c =
    divided_tied c.divide_right-other.ensures.floored (sym (c.cmp.ensures ∙ g.met.T.Counted.cmp_law _ _) ∙ c.in-Equal.is)

pub returns-in_default-clause-followed : goal.returns-in_default-clause-followed
returns-in_default-clause-followed g c =
    divided_apart c.divide_right-other.ensures.floored c.divide_right-other.ensures.below (c.cmp.ensures ∙ g.met.T.Counted.cmp_law _ _) c.in_default.not-Equal
