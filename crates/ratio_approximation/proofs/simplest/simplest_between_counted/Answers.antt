use Rattle.std.specs.Prelude.{◌≡◌, ◌+ℤ◌, ℤ, pos}
use Rattle.std.proofs.Common.{◌∙◌, sym, ap, arith}
use Rattle.std.proofs.lemmas.Int.{ints}
use Rattle.ratio_integer.specs.Comparison.{no, yes}
use Rattle.ratio_approximation.proofs.NearestMoves.{not_above_max}
use Rattle.ratio_approximation.proofs.SimplestBeginning.{both_inside, ends, last_part_held, next_held, next_most, none_below, none_under, part_held, rose_more, rose_once, same_floor, steps_more, steps_once, steps_under, whole_simplest}
use Rattle.ratio_approximation.proofs.simplest.simplest_between_counted.Goals as goal

pub divide_left-low-requires-clause-held : goal.divide_left-low-requires-clause-held
divide_left-low-requires-clause-held g c = not_above_max _ _ _ c.requires.low

pub returns-in_err-last-clause-simplest : goal.returns-in_err-last-clause-simplest
returns-in_err-last-clause-simplest g c = rw c.from_residual.ensures (none_under _ _ _ _ _ _ _ c.requires.low c.requires.high c.divide_left-low.ensures.floored c.in_err-last.ensures.last c.held.ensures.range.above _ _)

pub returns-in_err-last-clause-steps : goal.returns-in_err-last-clause-steps
returns-in_err-last-clause-steps g c = steps_under _ _ _ _ _ _ _ _ (let a = c.divide_left-low.ensures.left in let b = c.last_below.ensures.left in omega arith) (let a = c.divide_left-low.ensures.right in let b = c.last_below.ensures.right in omega arith) _ _ _ c.requires.low c.requires.high c.divide_left-low.ensures.floored c.in_err-last.ensures.last c.held.ensures.range.above

pub returns-in_err-last-clause-left : goal.returns-in_err-last-clause-left
returns-in_err-last-clause-left g c = rose_once _ _ _ _ c.requires.low c.requires.high (let a = c.divide_left-low.ensures.left in let b = c.last_below.ensures.left in omega arith)

pub returns-in_err-last-clause-right : goal.returns-in_err-last-clause-right
returns-in_err-last-clause-right g c = rose_once _ _ _ _ c.requires.low c.requires.high (let a = c.divide_left-low.ensures.right in let b = c.last_below.ensures.right in omega arith)

pub returns-then-lt-clause-simplest : goal.returns-then-lt-clause-simplest
returns-then-lt-clause-simplest g c =
    let m = g.met.T.Counted in
    let is = ends c.requires.low c.requires.high c.divide_left-low.ensures.floored c.in_ok-last.ensures.last in
    let below = yes _ (m.lt_law c.in_ok-last.last c.divide_left-low.result.0) (sym c.lt.ensures ∙ c.if-lt.true) in
    none_below is below _ _

pub returns-then-lt-clause-steps : goal.returns-then-lt-clause-steps
returns-then-lt-clause-steps g c =
    let is = ends c.requires.low c.requires.high c.divide_left-low.ensures.floored c.in_ok-last.ensures.last in
    let below = yes _ (g.met.T.Counted.lt_law c.in_ok-last.last c.divide_left-low.result.0) (sym c.lt.ensures ∙ c.if-lt.true) in
    steps_once _ _ _ _ _ _ _ _ (let a = c.divide_left-low.ensures.left in let b = c.last_below.ensures.left in omega arith) (let a = c.divide_left-low.ensures.right in let b = c.last_below.ensures.right in omega arith) _ _ _ _ is (λ same. omega (arith, ints))

pub returns-then-lt-clause-left : goal.returns-then-lt-clause-left
returns-then-lt-clause-left g c = rose_once _ _ _ _ c.requires.low c.requires.high (let a = c.divide_left-low.ensures.left in let b = c.last_below.ensures.left in omega arith)

pub returns-then-lt-clause-right : goal.returns-then-lt-clause-right
returns-then-lt-clause-right g c = rose_once _ _ _ _ c.requires.low c.requires.high (let a = c.divide_left-low.ensures.right in let b = c.last_below.ensures.right in omega arith)

pub plus-next-requires : goal.plus-next-requires
plus-next-requires g c =
    let v = g.T.Counted.value in
    let m = g.met.T.Counted in
    let is = ends c.requires.low c.requires.high c.divide_left-low.ensures.floored c.in_ok-last.ensures.last in
    let most = no _ (m.lt_law c.in_ok-last.last c.divide_left-low.result.0) (sym c.lt.ensures ∙ c.if-lt.false) in
    let one : v c.ONE.result ≡ pos 1 = ap v c.ONE.ensures ∙ m.one_law in
    rw one (next_held is _ _ m.range_law c.both_held.ensures.first c.both_held.ensures.second c.both_held-2.ensures.first c.both_held-2.ensures.second c.held.ensures.range c.held-2.ensures.range most)

pub nearest_zero-requires : goal.nearest_zero-requires
nearest_zero-requires g c =
    let v = g.T.Counted.value in
    let m = g.met.T.Counted in
    let less = yes _ (m.lt_law c.divide_left-low.result.0 c.in_ok-last.last) (sym c.lt-2.ensures ∙ c.if-lt-2.true) in
    let one : v c.ONE.result ≡ pos 1 = ap v c.ONE.ensures ∙ m.one_law in
    let next : v c.plus-next.result ≡ v c.divide_left-low.result.0 +ℤ pos 1 = c.plus-next.ensures ∙ ap (λ (t : ℤ). v c.divide_left-low.result.0 +ℤ t) one in
    next_most _ _ _ less next

pub returns-then-lt-2-clause-simplest : goal.returns-then-lt-2-clause-simplest
returns-then-lt-2-clause-simplest g c =
    let v = g.T.Counted.value in
    let m = g.met.T.Counted in
    let is = ends c.requires.low c.requires.high c.divide_left-low.ensures.floored c.in_ok-last.ensures.last in
    let one : v c.ONE.result ≡ pos 1 = ap v c.ONE.ensures ∙ m.one_law in
    let last : v c.ONE-then-lt-2.result ≡ pos 1 = ap v c.ONE-then-lt-2.ensures ∙ m.one_law in
    let next : v c.plus-next.result ≡ v c.divide_left-low.result.0 +ℤ pos 1 = c.plus-next.ensures ∙ ap (λ (t : ℤ). v c.divide_left-low.result.0 +ℤ t) one in
    rw last (whole_simplest is _ _ next c.nearest_zero.ensures)

pub returns-then-lt-2-clause-steps : goal.returns-then-lt-2-clause-steps
returns-then-lt-2-clause-steps g c =
    let is = ends c.requires.low c.requires.high c.divide_left-low.ensures.floored c.in_ok-last.ensures.last in
    let less = yes _ (g.met.T.Counted.lt_law c.divide_left-low.result.0 c.in_ok-last.last) (sym c.lt-2.ensures ∙ c.if-lt-2.true) in
    steps_once _ _ _ _ _ _ _ _ (let a = c.divide_left-low.ensures.left in let b = c.last_below.ensures.left in omega arith) (let a = c.divide_left-low.ensures.right in let b = c.last_below.ensures.right in omega arith) _ _ _ _ is (λ same. omega (arith, ints))

pub returns-then-lt-2-clause-left : goal.returns-then-lt-2-clause-left
returns-then-lt-2-clause-left g c = rose_once _ _ _ _ c.requires.low c.requires.high (let a = c.divide_left-low.ensures.left in let b = c.last_below.ensures.left in omega arith)

pub returns-then-lt-2-clause-right : goal.returns-then-lt-2-clause-right
returns-then-lt-2-clause-right g c = rose_once _ _ _ _ c.requires.low c.requires.high (let a = c.divide_left-low.ensures.right in let b = c.last_below.ensures.right in omega arith)

pub minus-requires : goal.minus-requires
minus-requires g c =
    let m = g.met.T.Counted in
    let is = ends c.requires.low c.requires.high c.divide_left-low.ensures.floored c.in_ok-last.ensures.last in
    last_part_held is _ _ m.range_law c.both_held-2.ensures.second

pub minus-requires-2 : goal.minus-requires-2
minus-requires-2 g c =
    let m = g.met.T.Counted in
    let is = ends c.requires.low c.requires.high c.divide_left-low.ensures.floored c.in_ok-last.ensures.last in
    part_held is _ _ m.range_law c.both_held.ensures.second

pub search-requires-clause-enclosed : goal.search-requires-clause-enclosed
search-requires-clause-enclosed g c =
    let v = g.T.Counted.value in
    let m = g.met.T.Counted in
    let is = ends c.requires.low c.requires.high c.divide_left-low.ensures.floored c.in_ok-last.ensures.last in
    let most = no _ (m.lt_law c.in_ok-last.last c.divide_left-low.result.0) (sym c.lt.ensures ∙ c.if-lt.false) in
    let least = no _ (m.lt_law c.divide_left-low.result.0 c.in_ok-last.last) (sym c.lt-2.ensures ∙ c.if-lt-2.false) in
    let one : v c.ONE.result ≡ pos 1 = ap v c.ONE.ensures ∙ m.one_law in
    let one-2 : v c.ONE-2.result ≡ pos 1 = ap v c.ONE-2.ensures ∙ m.one_law in
    let one-3 : v c.ONE-3.result ≡ pos 1 = ap v c.ONE-3.ensures ∙ m.one_law in
    let next : v c.plus-next.result ≡ v c.divide_left-low.result.0 +ℤ pos 1 = c.plus-next.ensures ∙ ap (λ (t : ℤ). v c.divide_left-low.result.0 +ℤ t) one in
    both_inside is (same_floor _ _ most least) _ _ _ _ _ next one-2 one-3 c.minus.ensures c.minus-2.ensures

pub returns-clause-steps : goal.returns-clause-steps
returns-clause-steps g c =
    let m = g.met.T.Counted in
    let is = ends c.requires.low c.requires.high c.divide_left-low.ensures.floored c.in_ok-last.ensures.last in
    let most = no _ (m.lt_law c.in_ok-last.last c.divide_left-low.result.0) (sym c.lt.ensures ∙ c.if-lt.false) in
    let least = no _ (m.lt_law c.divide_left-low.result.0 c.in_ok-last.last) (sym c.lt-2.ensures ∙ c.if-lt-2.false) in
    steps_more _ _ _ _ _ c.last_below.new.steps.left _ c.last_below.new.steps.right (let a = c.divide_left-low.ensures.left in let b = c.last_below.ensures.left in omega arith) (let a = c.divide_left-low.ensures.right in let b = c.last_below.ensures.right in omega arith) _ _ _ _ _ _ _ _ is (same_floor _ _ most least) c.minus.ensures c.minus-2.ensures c.search.ensures.steps

pub returns-clause-left : goal.returns-clause-left
returns-clause-left g c = rose_more _ _ c.last_below.new.steps.left _ (let a = c.divide_left-low.ensures.left in let b = c.last_below.ensures.left in omega arith) c.search.ensures.left

pub returns-clause-right : goal.returns-clause-right
returns-clause-right g c = rose_more _ _ c.last_below.new.steps.right _ (let a = c.divide_left-low.ensures.right in let b = c.last_below.ensures.right in omega arith) c.search.ensures.right
