use Rattle.std.specs.Prelude.{◌≡◌, ◌≤ℤ◌, ◌<ℤ◌, ◌+ℤ◌, ℤ, pos}
use Rattle.std.proofs.Common.{ap, subst, sym, ◌∙◌}
use Rattle.ratio_integer.specs.Comparison.{no, yes}
use Rattle.ratio_integer.specs.Range.{Checks}
use Rattle.ratio_core.proofs.MixedLemmas.{next_held, next_numer, next_out, product_out}
use Rattle.ratio_core.proofs.PartLemmas.{missing_held}
use Rattle.ratio_core.proofs.sums.mixed.numerator_of.Given.{Over}
use Rattle.ratio_core.proofs.sums.mixed.numerator_of.Goals.{After-plus, Then-lt}
use Rattle.ratio_core.proofs.sums.mixed.numerator_of.Goals as goal

below : (g : Over) (c : Then-lt g) → g.T.Integer.value c.args.whole <ℤ pos 0
below g c =
    let v = g.T.Integer.value in
    let m = g.met.T.Integer in
    subst (λ (z : ℤ). v c.args.whole <ℤ z) (ap v c.ZERO.ensures ∙ m.zero_law) (yes _ (m.lt_law c.args.whole c.ZERO.result) (sym c.lt.ensures ∙ c.if-lt.true))

next : (g : Over) (c : After-plus g) → (let v = g.T.Integer.value in v c.plus.result ≡ v c.args.whole +ℤ pos 1)
next g c = let v = g.T.Integer.value in c.plus.ensures ∙ ap (λ (z : ℤ). v c.args.whole +ℤ z) (ap v c.ONE.ensures ∙ g.met.T.Integer.one_law)

pub plus-requires : goal.plus-requires
plus-requires g c =
    let m = g.met.T.Integer in
    rw (ap g.T.Integer.value c.ONE.ensures ∙ m.one_law) (next_held _ _ _ m.range_law c.held.ensures.range (below g (goal.at.plus-requires g c).Then-lt))

pub returns-in_err-next : goal.returns-in_err-next
returns-in_err-next g c =
    let at = goal.at.returns-in_err-next g c in
    let v = g.T.Integer.value in
    rw c.from_residual.ensures (next_out _ _ _ _ (v c.args.denom) (v c.args.part) g.met.T.Integer.range_law (below g at.Then-lt) c.requires.above c.requires.at_most (next g at.After-plus) c.in_err-next.ensures)

pub minus-requires : goal.minus-requires
minus-requires g c =
    missing_held _ _ _ _ g.met.T.Integer.range_law c.held-2.ensures.range c.requires.above c.requires.at_most

pub returns-then-lt : goal.returns-then-lt
returns-then-lt g c =
    let v = g.T.Integer.value in
    let next = next g (goal.at.returns-then-lt g c).After-plus in
    let e = next_numer (v c.args.whole) (v c.plus.result) (v c.args.denom) (v c.in_ok-next.next) (v c.minus.result) (v c.args.part) next c.in_ok-next.ensures.1 c.minus.ensures in
    subst (λ z. Checks v g.T.Integer.lo g.T.Integer.hi z c.try_minus.result) e c.try_minus.ensures

pub returns-in_err-product : goal.returns-in_err-product
returns-in_err-product g c =
    let v = g.T.Integer.value in
    let m = g.met.T.Integer in
    let zero : v c.ZERO.result ≡ pos 0 = ap v c.ZERO.ensures ∙ m.zero_law in
    let above : pos 0 ≤ℤ v c.args.whole = subst (λ (z : ℤ). z ≤ℤ v c.args.whole) zero (no _ (m.lt_law c.args.whole c.ZERO.result) (sym c.lt.ensures ∙ c.if-lt.false)) in
    rw c.from_residual-in_err-product.ensures (product_out _ _ (v c.args.whole) (v c.args.denom) (v c.args.part) m.range_law above c.requires.above c.requires.at_most c.in_err-product.ensures)
