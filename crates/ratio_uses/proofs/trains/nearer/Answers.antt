use Rattle.ratio_uses.proofs.TrainLemmas.{nearer_at_highest, nearer_at_lowest, nearer_of_two, none_nearer}
use Rattle.ratio_uses.proofs.trains.nearer.Goals as goal

pub returns-then-best-lowest : goal.returns-then-best-lowest
returns-then-best-lowest c =
    let r = c.requires in
    let s = c.args.request in
    nearer_at_lowest _ _ _ _ _ _ _ s.ratio s.teeth s.range r.driven r.nearest_drivers r.nearest_driven r.best_at_most r.best_next _ c.if-best-lowest.true c.first_of.ensures

pub returns-then-best-highest : goal.returns-then-best-highest
returns-then-best-highest c =
    let r = c.requires in
    let s = c.args.request in
    nearer_at_highest _ _ _ _ _ _ _ s.ratio s.teeth s.range r.driven r.nearest_drivers r.nearest_driven r.best_at_most r.best_next _ c.if-best-highest.true c.first_of-then-best-highest.ensures

pub returns-then-comes_first : goal.returns-then-comes_first
returns-then-comes_first c =
    let r = c.requires in
    let s = c.args.request in
    none_nearer _ _ _ _ _ _ _ s.ratio s.teeth s.range r.driven r.nearest_drivers r.nearest_driven r.best_at_most r.best_next c.if-below_later.ensures c.if-comes_first.ensures

pub returns : goal.returns
returns c =
    let r = c.requires in
    let s = c.args.request in
    nearer_of_two _ _ _ _ _ _ _ s.ratio s.teeth s.range r.driven r.nearest_drivers r.nearest_driven r.best_at_most r.best_next _ _ _ _ c.greatest_up_to.ensures c.least_above.ensures c.first_of-other.ensures c.first_of-2.ensures
