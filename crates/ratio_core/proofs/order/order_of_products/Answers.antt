use Rattle.std.proofs.Common.{◌∙◌, sym}
use Rattle.std.proofs.lemmas.Bool.{iff_false}
use Rattle.ratio_core.proofs.CrossOrder.{cmp-pairs, cross-across, cross-along}
use Rattle.ratio_core.proofs.order.order_of_products.Goals as goal

pub returns-then-have_unlike_signs : goal.returns-then-have_unlike_signs
returns-then-have_unlike_signs g c = (
  c.cmp.ensures ∙ g.met.T.Counted.cmp_law _ _ ∙ cmp-pairs _ _ _ _ c.in_ok-right.ensures.1 c.in_ok-left.ensures.1
      ∙ sym (cross-across _ _ _ _ c.requires.left_nonzero c.requires.right_nonzero (c.have_unlike_signs.ensures.0 c.if-have_unlike_signs.true)),
  record { left = c.in_ok-left.ensures.0; right = c.in_ok-right.ensures.0 },
)

pub returns-else-have_unlike_signs : goal.returns-else-have_unlike_signs
returns-else-have_unlike_signs g c = (
  c.cmp-else-have_unlike_signs.ensures ∙ g.met.T.Counted.cmp_law _ _ ∙ cmp-pairs _ _ _ _ c.in_ok-left.ensures.1 c.in_ok-right.ensures.1
      ∙ sym (cross-along _ _ _ _ c.requires.left_nonzero c.requires.right_nonzero (iff_false c.have_unlike_signs.ensures c.if-have_unlike_signs.false)),
  record { left = c.in_ok-left.ensures.0; right = c.in_ok-right.ensures.0 },
)
