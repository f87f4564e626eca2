use Rattle.std.specs.Prelude.{◌≡◌, ◌≤ℤ◌, ◌<ℤ◌, pos}
use Rattle.std.proofs.Common.{ap, sym, ◌∙◌}
use Rattle.ratio_integer.specs.Comparison.{no, yes}
use Rattle.ratio_core.proofs.Following.{product_greater, product_less, product_same, unheld_greater, unheld_less}
use Rattle.ratio_core.proofs.order.dividing.follow_by_product.Goals as goal

pub returns-in-None : goal.returns-in-None
returns-in-None g c =
    let v = g.T.Counted.value in
    let m = g.met.T.Counted in
    let zero : v c.ZERO.result ≡ pos 0 = ap v c.ZERO.ensures ∙ m.zero_law in
    let above : v c.ZERO.result <ℤ v c.args.quotient = yes _ (m.lt_law c.ZERO.result c.args.quotient) (sym c.if-lt.ensures) in
    unheld_greater _ _ _ _ m.range_law c.both_held.ensures.first _ _ c.both_held.ensures.second c.requires.positive zero above c.in-None.ensures

pub returns-then-lt-2 : goal.returns-then-lt-2
returns-then-lt-2 g c =
    let v = g.T.Counted.value in
    let m = g.met.T.Counted in
    let below : v c.args.n <ℤ v c.in-Some.product = yes _ (m.lt_law c.args.n c.in-Some.product) (sym c.if-lt-2.ensures) in
    product_greater _ _ _ _ m.range_law c.both_held.ensures.first _ _ c.both_held.ensures.second c.requires.positive c.in-Some.ensures.1 below

pub returns-in-None-try_minus : goal.returns-in-None-try_minus
returns-in-None-try_minus g c =
    let v = g.T.Counted.value in
    let m = g.met.T.Counted in
    let above : v c.in-Some.product ≤ℤ v c.args.n = no _ (m.lt_law c.args.n c.in-Some.product) (sym c.if-lt-2.ensures) in
    unheld_less _ _ _ _ m.range_law c.both_held.ensures.first _ _ c.both_held.ensures.second c.requires.positive c.in-Some.ensures.1 above c.in-None-try_minus.ensures

pub returns-then-lt-3 : goal.returns-then-lt-3
returns-then-lt-3 g c =
    let v = g.T.Counted.value in
    let m = g.met.T.Counted in
    let above : v c.in-Some.product ≤ℤ v c.args.n = no _ (m.lt_law c.args.n c.in-Some.product) (sym c.if-lt-2.ensures) in
    let below : v c.in-Some-try_minus.rest <ℤ v c.args.d = yes _ (m.lt_law c.in-Some-try_minus.rest c.args.d) (sym c.if-lt-3.ensures) in
    product_same _ _ _ _ m.range_law c.both_held.ensures.first _ _ _ c.in-Some.ensures.1 above c.in-Some-try_minus.ensures.1 below

pub returns : goal.returns
returns g c =
    let v = g.T.Counted.value in
    let m = g.met.T.Counted in
    let above : v c.args.d ≤ℤ v c.in-Some-try_minus.rest = no _ (m.lt_law c.in-Some-try_minus.rest c.args.d) (sym c.if-lt-3.ensures) in
    product_less _ _ _ _ m.range_law c.both_held.ensures.first _ _ _ c.both_held.ensures.second c.requires.positive c.in-Some.ensures.1 c.in-Some-try_minus.ensures.1 above
