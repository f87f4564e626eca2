use Rattle.std.proofs.Common.{◌∙◌, inl, inr}
use Rattle.std.proofs.lemmas.Bool.{iff_false}
use Rattle.ratio_core.proofs.CrossOrder.{cross_split}
use Rattle.ratio_core.proofs.EqualityLaws.{cross_shared}
use Rattle.ratio_core.proofs.Rounds.{nothing_settles}
use Rattle.ratio_core.proofs.order.order_at_once.Goals as goal

pub returns-then-share_denominator : goal.returns-then-share_denominator
returns-then-share_denominator g c =
    let shared = c.share_denominator.ensures.0 c.if-share_denominator.true in
    (c.cmp.ensures ∙ g.met.T.Counted.cmp_law _ _ ∙ cross_shared _ _ _ _ shared.0 shared.1, inl (shared.1, rw shared.0 at shared.1, inl shared.0))

pub returns-in-Some : goal.returns-in-Some
returns-in-Some g c = (c.in-Some.ensures.0, inr c.in-Some.ensures.1)

pub returns-then-are_split_by_zero : goal.returns-then-are_split_by_zero
returns-then-are_split_by_zero g c =
    let split = c.are_split_by_zero.ensures.0 c.if-are_split_by_zero.true in
    (c.cmp-then-are_split_by_zero.ensures ∙ g.met.T.Counted.cmp_law _ _ ∙ cross_split _ _ _ _ split.0 split.1 split.2, inl (split.0, split.1, inr split.2))

pub returns : goal.returns
returns g c = nothing_settles (iff_false c.share_denominator.ensures c.if-share_denominator.false) (iff_false c.are_split_by_zero.ensures c.if-are_split_by_zero.false) c.in_default.ensures
