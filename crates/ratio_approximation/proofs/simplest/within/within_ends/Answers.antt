use Rattle.std.proofs.Common.{inl, inr}
use Rattle.ratio_approximation.proofs.EndLemmas.{end_alone, none_at_end, none_turned, order_told, with_both_ends}
use Rattle.ratio_approximation.proofs.simplest.within.within_ends.Goals as goal
use Rattle.ratio_approximation.proofs.simplest.within.within_ends.Goals.{else-low-via-then-low+else-high, else-low-via-else-low}

pub returns-in-Less : goal.returns-in-Less
returns-in-Less g c =
    let less = order_told _ _ _ _ _ c.requires.low c.requires.high c.in-Less.ensures.order in
    with_both_ends _ _ _ _ _ _ _ _ _ _ _ _ c.requires.low c.requires.high less c.simplest_between-between.ensures c.with_end-from_low.ensures c.with_end.ensures

pub returns-then-high : goal.returns-then-high
returns-then-high g c =
    let same = order_told _ _ _ _ _ c.requires.low c.requires.high c.in-Equal.ensures.order in
    end_alone _ _ _ _ _ _ _ _ _ _ c.requires.low c.requires.high c.if-low.true c.if-high.true same c.lowest_terms.ensures

pub returns-else-low : goal.returns-else-low
returns-else-low g c =
    let same = order_told _ _ _ _ _ c.requires.low c.requires.high c.in-Equal.ensures.order in
    elim c.else-low.branch [
      | else-low-via-then-low+else-high w ↦ none_at_end _ _ _ _ _ _ _ _ c.requires.low c.requires.high (inr w.if-high.false) same
      | else-low-via-else-low w ↦ none_at_end _ _ _ _ _ _ _ _ c.requires.low c.requires.high (inl w.if-low.false) same
    ]

pub returns-in-Greater : goal.returns-in-Greater
returns-in-Greater g c =
    let more = order_told _ _ _ _ _ c.requires.low c.requires.high c.in-Greater.ensures.order in
    none_turned _ _ _ _ _ _ _ _ c.requires.low c.requires.high more
