use Rattle.std.specs.Prelude.{◌≡◌, ◌≤ℤ◌, ◌+ℤ◌, ◌*ℤ◌, ℤ}
use Rattle.std.proofs.Common.{ap, sym, ◌∙◌}
use lib.IntN.{*ℤ_comm}
use Rattle.ratio_integer.proofs.LcmLemmas.{divisor_nonzero}
use Rattle.ratio_integer.proofs.Whole.{positive_nonzero}
use Rattle.ratio_core.specs.Parts.{carried}
use Rattle.ratio_core.proofs.Around.{up_product}
use Rattle.ratio_core.proofs.PartLemmas.{from_positive, never_above_max, quotient_part}
use Rattle.ratio_core.proofs.PartsSumLemmas.{AreShares, Shares, are_shares, denominator_out, factor_positive, gcd_positive, is_sum, never_gcd_above_max, numer_held_by, quotient_held_by, rest_part, scaled_below, scaled_room, share_fits, shares, shares_out}
use Rattle.ratio_core.proofs.sums.mixed.parts_sum.Given.{Over}
use Rattle.ratio_core.proofs.sums.mixed.parts_sum.Goals.{After-cancelled-last, After-div_rem-for_left}
use Rattle.ratio_core.proofs.sums.mixed.parts_sum.Goals as goal

numers_joined : (a b m n w : ℤ) → a ≡ m → b ≡ n → m +ℤ n ≡ w → a +ℤ b ≡ w
numers_joined a b m n w first second sum = ap (λ (z : ℤ). z +ℤ b) first ∙ ap (λ (z : ℤ). m +ℤ z) second ∙ sum

shared : (g : Over) (c : After-div_rem-for_left g) → (let v = g.T.Integer.value in Shares (v c.args.b) (v c.args.d) (v c.args.g) (v c.div_rem-for_right.result.0) (v c.div_rem-for_left.result.0))
shared g c = shares _ _ _ _ _ _ _ c.requires.left_lowest c.requires.right_lowest c.requires.gcd c.div_rem-for_right.ensures.quotient c.div_rem-for_left.ensures.quotient

all_shares : (g : Over) (c : After-cancelled-last g) → (let v = g.T.Integer.value in AreShares (v c.args.p) (v c.args.b) (v c.args.r) (v c.args.d) (v c.args.g) (v c.div_rem-for_right.result.0) (v c.div_rem-for_left.result.0)
    (carried c.carried_sum-carry.result.0 *ℤ v c.in_ok-common.common +ℤ v c.carried_sum-carry.result.1) (v c.carried_sum-carry.result.2) c.cancelled-last.ensures.divisor (v c.cancelled-last.result.0) (v c.cancelled-last.result.1))
all_shares g c =
    let sum = numers_joined _ _ _ _ _ c.scaled_over-x.ensures.sum c.scaled_over-y.ensures.sum c.carried_sum-carry.ensures.sum in
    are_shares _ _ _ _ _ _ _ c.requires.left_lowest c.requires.right_lowest c.requires.gcd c.div_rem-for_right.ensures.quotient c.div_rem-for_left.ensures.quotient _ _ _ _ sum c.cancelled-last.ensures

pub div_rem-for_right-requires-clause-nonzero : goal.div_rem-for_right-requires-clause-nonzero
div_rem-for_right-requires-clause-nonzero g c =
    divisor_nonzero _ _ _ (positive_nonzero _ c.requires.right_lowest.positive) c.requires.gcd

pub div_rem-for_right-requires-clause-held : goal.div_rem-for_right-requires-clause-held
div_rem-for_right-requires-clause-held g c =
    never_above_max _ _ _ (gcd_positive _ _ _ c.requires.right_lowest.positive c.requires.gcd)

pub div_rem-for_left-requires-clause-nonzero : goal.div_rem-for_left-requires-clause-nonzero
div_rem-for_left-requires-clause-nonzero g c =
    divisor_nonzero _ _ _ (positive_nonzero _ c.requires.right_lowest.positive) c.requires.gcd

pub div_rem-for_left-requires-clause-held : goal.div_rem-for_left-requires-clause-held
div_rem-for_left-requires-clause-held g c =
    never_above_max _ _ _ (gcd_positive _ _ _ c.requires.right_lowest.positive c.requires.gcd)

pub returns-in_err-common : goal.returns-in_err-common
returns-in_err-common g c =
    rw c.from_residual.ensures (shares_out _ _ _ _ _ _ _ c.requires.left_lowest c.requires.right_lowest c.requires.gcd c.div_rem-for_right.ensures.quotient c.div_rem-for_left.ensures.quotient _ _ g.met.T.Integer.range_law c.in_err-common.ensures)

pub scaled_over-x-requires-clause-number : goal.scaled_over-x-requires-clause-number
scaled_over-x-requires-clause-number g c =
    c.requires.left.above

pub scaled_over-x-requires-clause-factor : goal.scaled_over-x-requires-clause-factor
scaled_over-x-requires-clause-factor g c =
    (shared g (goal.at.scaled_over-x-requires-clause-factor g c).After-div_rem-for_left).right_positive

pub scaled_over-x-requires-clause-divisor : goal.scaled_over-x-requires-clause-divisor
scaled_over-x-requires-clause-divisor g c =
    gcd_positive _ _ _ c.requires.right_lowest.positive c.requires.gcd

pub scaled_over-x-requires-clause-room : goal.scaled_over-x-requires-clause-room
scaled_over-x-requires-clause-room g c =
    let v = g.T.Integer.value in
    let is = shared g (goal.at.scaled_over-x-requires-clause-room g c).After-div_rem-for_left in
    let most : v c.in_ok-common.common ≤ℤ g.T.Integer.hi = rw c.in_ok-common.ensures.1 c.in_ok-common.ensures.0.below in
    scaled_room _ _ _ _ (scaled_below _ _ _ _ _ _ c.requires.left is.right_positive is.left c.in_ok-common.ensures.1) most is.divisor

pub scaled_over-x-requires-clause-multiple : goal.scaled_over-x-requires-clause-multiple
scaled_over-x-requires-clause-multiple g c =
    share_fits _ (g.T.Integer.value c.div_rem-for_left.result.0) _ _ (shared g (goal.at.scaled_over-x-requires-clause-multiple g c).After-div_rem-for_left).right c.both_held.ensures.second.below

pub scaled_over-y-requires-clause-number : goal.scaled_over-y-requires-clause-number
scaled_over-y-requires-clause-number g c =
    c.requires.right.above

pub scaled_over-y-requires-clause-factor : goal.scaled_over-y-requires-clause-factor
scaled_over-y-requires-clause-factor g c =
    (shared g (goal.at.scaled_over-y-requires-clause-factor g c).After-div_rem-for_left).left_positive

pub scaled_over-y-requires-clause-divisor : goal.scaled_over-y-requires-clause-divisor
scaled_over-y-requires-clause-divisor g c =
    gcd_positive _ _ _ c.requires.right_lowest.positive c.requires.gcd

pub scaled_over-y-requires-clause-room : goal.scaled_over-y-requires-clause-room
scaled_over-y-requires-clause-room g c =
    let v = g.T.Integer.value in
    let is = shared g (goal.at.scaled_over-y-requires-clause-room g c).After-div_rem-for_left in
    let most : v c.in_ok-common.common ≤ℤ g.T.Integer.hi = rw c.in_ok-common.ensures.1 c.in_ok-common.ensures.0.below in
    scaled_room _ _ _ _ (scaled_below _ _ _ _ _ _ c.requires.right is.left_positive is.right (c.in_ok-common.ensures.1 ∙ *ℤ_comm (v c.div_rem-for_right.result.0) (v c.div_rem-for_left.result.0))) most is.divisor

pub scaled_over-y-requires-clause-multiple : goal.scaled_over-y-requires-clause-multiple
scaled_over-y-requires-clause-multiple g c =
    share_fits _ (g.T.Integer.value c.div_rem-for_right.result.0) _ _ (shared g (goal.at.scaled_over-y-requires-clause-multiple g c).After-div_rem-for_left).left c.both_held.ensures.first.below

pub carried_sum-carry-requires-clause-left : goal.carried_sum-carry-requires-clause-left
carried_sum-carry-requires-clause-left g c =
    let is = shared g (goal.at.carried_sum-carry-requires-clause-left g c).After-div_rem-for_left in
    quotient_part _ _ _ _ _ c.scaled_over-x.ensures (up_product _ _ c.requires.left.above (from_positive _ is.right_positive)) (scaled_below _ _ _ _ _ _ c.requires.left is.right_positive is.left c.in_ok-common.ensures.1)

pub carried_sum-carry-requires-clause-right : goal.carried_sum-carry-requires-clause-right
carried_sum-carry-requires-clause-right g c =
    let v = g.T.Integer.value in
    let is = shared g (goal.at.carried_sum-carry-requires-clause-right g c).After-div_rem-for_left in
    quotient_part _ _ _ _ _ c.scaled_over-y.ensures (up_product _ _ c.requires.right.above (from_positive _ is.left_positive)) (scaled_below _ _ _ _ _ _ c.requires.right is.left_positive is.right (c.in_ok-common.ensures.1 ∙ *ℤ_comm (v c.div_rem-for_right.result.0) (v c.div_rem-for_left.result.0)))

pub carried_sum-carry-requires-clause-left_rest : goal.carried_sum-carry-requires-clause-left_rest
carried_sum-carry-requires-clause-left_rest g c =
    c.scaled_over-x.ensures.rest

pub carried_sum-carry-requires-clause-right_rest : goal.carried_sum-carry-requires-clause-right_rest
carried_sum-carry-requires-clause-right_rest g c =
    c.scaled_over-y.ensures.rest

pub cancelled-last-requires-clause-fraction : goal.cancelled-last-requires-clause-fraction
cancelled-last-requires-clause-fraction g c =
    divisor_nonzero _ _ _ (positive_nonzero _ c.requires.right_lowest.positive) c.requires.gcd

pub cancelled-last-requires-clause-held : goal.cancelled-last-requires-clause-held
cancelled-last-requires-clause-held g c =
    never_gcd_above_max _ _ _ g.met.T.Integer.range_law.high c.carried_sum-carry.ensures.rest.above (gcd_positive _ _ _ c.requires.right_lowest.positive c.requires.gcd)

pub returns-in_err-denom : goal.returns-in_err-denom
returns-in_err-denom g c =
    let are = all_shares g (goal.at.returns-in_err-denom g c).After-cancelled-last in
    rw c.from_residual-in_err-denom.ensures (denominator_out _ _ _ _ _ _ _ _ _ _ _ _ _ _ g.met.T.Integer.range_law are (rw (sym c.in_ok-common.ensures.1) c.in_err-denom.ensures))

pub times-requires : goal.times-requires
times-requires g c =
    let are = all_shares g (goal.at.times-requires g c).After-cancelled-last in
    quotient_held_by _ _ _ _ _ g.met.T.Integer.range_law c.carried_sum-carry.ensures.quotient (factor_positive _ _ _ _ _ _ _ _ _ _ _ _ are) c.in_ok-denom.ensures.0

pub plus-requires : goal.plus-requires
plus-requires g c =
    let are = all_shares g (goal.at.plus-requires g c).After-cancelled-last in
    let cut = c.cancelled-last.ensures in
    numer_held_by _ _ _ _ _ _ _ g.met.T.Integer.range_law c.carried_sum-carry.ensures.quotient (rest_part _ _ _ _ _ c.carried_sum-carry.ensures.rest are.rest_divisor cut.numer cut.denom) c.times.ensures c.in_ok-denom.ensures.0

pub returns : goal.returns
returns g c =
    let v = g.T.Integer.value in
    let are = all_shares g (goal.at.returns g c).After-cancelled-last in
    is_sum _ _ _ _ _ _ _ _ _ _ _ _ _ (v c.carried_sum-carry.result.1) (v c.in_ok-common.common) (v c.in_ok-denom.denom) _ c.carried_sum-carry.result.0 are c.in_ok-common.ensures.1
    c.carried_sum-carry.ensures.quotient c.carried_sum-carry.ensures.rest c.in_ok-denom.ensures (c.plus.ensures ∙ ap (λ (z : ℤ). z +ℤ v c.cancelled-last.result.0) c.times.ensures)
