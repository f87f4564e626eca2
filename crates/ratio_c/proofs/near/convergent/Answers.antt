use Rattle.std.specs.Prelude.{None, option_map}
use Rattle.std.proofs.Common.{◌∙◌, ap, refl, sym}
use Rattle.std.proofs.lemmas.Iterator.Consumers.{YieldsList-from_first, nth_from_yields_List}
use Rattle.ratio_core.proofs.NumbersExist.{positive_fits}
use Rattle.num_rational.specs.ContinuedFractions.{convergents_left}
use Rattle.num_rational.specs.Operators.{numbers}
use Rattle.num_rational.specs.Reduced.{ratio_of}
use Rattle.ratio_c.proofs.Convergents.{convergent_at}
use Rattle.ratio_c.proofs.near.convergent.Goals as goal

pub returns-in_err-lowest : goal.returns-in_err-lowest
returns-in_err-lowest g c =
    absurd (c.in_err-lowest.ensures (positive_fits g.T.Integer.lo g.T.Integer.hi _ _ g.met.T.Integer.range_law c.both_held.ensures.first c.both_held.ensures.second c.requires))

pub returns-in_err-found : goal.returns-in_err-found
returns-in_err-found g c =
    let list = convergents_left c.convergents.result in
    let found = nth_from_yields_List c.nth.result c.nth.new.self c.args.place c.nth.ensures.ran (YieldsList-from_first (λ x. numbers (ratio_of x)) convergents_left list refl) in
    let none = ap (option_map (λ x. numbers (ratio_of x))) (c.in_err-found.was) in
    rw c.from_residual-in_err-found.ensures
    (convergent_at _ _ _ _ list c.args.place None (c.in_ok-lowest.ensures).terms c.convergents.ensures (sym none ∙ found))

pub returns : goal.returns
returns g c =
    let list = convergents_left c.convergents.result in
    let found = nth_from_yields_List c.nth.result c.nth.new.self c.args.place c.nth.ensures.ran (YieldsList-from_first (λ x. numbers (ratio_of x)) convergents_left list refl) in
    let some = ap (option_map (λ x. numbers (ratio_of x))) (c.in_ok-found.was) in
    rw (c.into_raw.ensures.numer, c.into_raw.ensures.denom)
    (convergent_at _ _ _ _ list c.args.place _ (c.in_ok-lowest.ensures).terms c.convergents.ensures (sym some ∙ found))
