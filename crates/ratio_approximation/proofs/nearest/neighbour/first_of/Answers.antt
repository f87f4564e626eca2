use Rattle.std.proofs.Common.{◌∙◌, ◌≡◌, inl, inr, refl, ap}
use Rattle.std.specs.Ordering.{int_cmp, is_le, ordering_then}
use Rattle.ratio_integer.specs.Comparison.{no, yes}
use Rattle.ratio_approximation.proofs.NearestChoice.{told_first}
use Rattle.ratio_approximation.proofs.nearest.neighbour.first_of.Goals as goal

pub returns-then-is_le : goal.returns-then-is_le
returns-then-is_le g c =
    let v = g.T.Counted.value in
    let law = g.met.T.Counted.cmp_law in
    let a : c.cmp.result ≡ int_cmp (v c.times-left_far.result) (v c.times-right_far.result) = c.cmp.ensures ∙ law _ _ in
    let b : c.cmp-2.result ≡ int_cmp (v c.args.left.denom) (v c.args.right.denom) = c.cmp-2.ensures ∙ law _ _ in
    let d : c.cmp-3.result ≡ int_cmp (v c.args.left.numer) (v c.args.right.numer) = c.cmp-3.ensures ∙ law _ _ in
    let order : c.is_le.result ≡ is_le (ordering_then (ordering_then c.cmp.result c.cmp-2.result) c.cmp-3.result) = c.is_le.ensures ∙ ap is_le (c.then-order.ensures ∙ ap (λ t. ordering_then t c.cmp-3.result) c.then.ensures) in
    inl (refl, yes _ (told_first _ _ _ _ _ _ _ _ _ _ c.requires c.times-left_far.ensures c.times-right_far.ensures _ (rw (a, b, d) at order)) c.if-is_le.true)

pub returns-else-is_le : goal.returns-else-is_le
returns-else-is_le g c =
    let v = g.T.Counted.value in
    let law = g.met.T.Counted.cmp_law in
    let a : c.cmp.result ≡ int_cmp (v c.times-left_far.result) (v c.times-right_far.result) = c.cmp.ensures ∙ law _ _ in
    let b : c.cmp-2.result ≡ int_cmp (v c.args.left.denom) (v c.args.right.denom) = c.cmp-2.ensures ∙ law _ _ in
    let d : c.cmp-3.result ≡ int_cmp (v c.args.left.numer) (v c.args.right.numer) = c.cmp-3.ensures ∙ law _ _ in
    let order : c.is_le.result ≡ is_le (ordering_then (ordering_then c.cmp.result c.cmp-2.result) c.cmp-3.result) = c.is_le.ensures ∙ ap is_le (c.then-order.ensures ∙ ap (λ t. ordering_then t c.cmp-3.result) c.then.ensures) in
    inr (refl, no _ (told_first _ _ _ _ _ _ _ _ _ _ c.requires c.times-left_far.ensures c.times-right_far.ensures _ (rw (a, b, d) at order)) c.if-is_le.false)
