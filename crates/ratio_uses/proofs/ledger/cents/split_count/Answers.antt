use Rattle.std.proofs.Common.{rules}
use Rattle.std.proofs.lemmas.Int.{to_z-of_z}
use mir.Syntax.{w128, w64}
use mir.Val.{SFits}
use Rattle.std.specs.Prelude.{◌≡◌, length}
use Rattle.std.proofs.Common.{arith}
use Rattle.num_rational.specs.Reduced.{lowest_numbers}
use Rattle.num_rational.specs.Split.{NoShareIsBelowZero, RefusesShares, SharesMakeOne, SumsRefuse}
use Rattle.num_rational.specs.declared.splitting.SplitRefusal.{SplitRefusal}
use Rattle.ratio_uses.specs.Cents.{PartsFit}
use Rattle.ratio_uses.proofs.CentLemmas.{sums_refused, wide_fits}
use Rattle.ratio_uses.proofs.ledger.cents.split_count.Goals as goal

pub returns-in_err-check_parts-clause-refused : goal.returns-in_err-check_parts-clause-refused
returns-in_err-check_parts-clause-refused c =
    let unit_fits : SFits w64 c.args.unit_parts = c.ranges.unit_parts in
    let unit_wide : SFits w128 c.args.unit_parts = wide_fits c.args.unit_parts unit_fits in
    let count_fits : SFits w128 c.args.count = c.ranges.count in
    let many : length c.args.parts.now ≡ length c.args.shares.now = omega arith in
    let none : NoShareIsBelowZero lowest_numbers c.args.shares.now = search rules in
    let refused : (why : SplitRefusal) → SumsRefuse (PartsFit lowest_numbers c.args.unit_parts c.args.count c.args.shares.now) (SharesMakeOne lowest_numbers c.args.shares.now) why → RefusesShares lowest_numbers (PartsFit lowest_numbers c.args.unit_parts c.args.count c.args.shares.now) c.args.shares.now (length c.args.parts.now) why = λ why out. sums_refused lowest_numbers (PartsFit lowest_numbers c.args.unit_parts c.args.count c.args.shares.now) c.args.shares.now (length c.args.parts.now) why many none out in
    let out = simp to_z-of_z at c.in_err-check_parts.ensures in
    search rules

pub returns-clause-ok : goal.returns-clause-ok
returns-clause-ok c =
    let unit_fits : SFits w64 c.args.unit_parts = c.ranges.unit_parts in
    let unit_wide : SFits w128 c.args.unit_parts = wide_fits c.args.unit_parts unit_fits in
    let count_fits : SFits w128 c.args.count = c.ranges.count in
    let many : length c.args.parts.now ≡ length c.args.shares.now = omega arith in
    let none : NoShareIsBelowZero lowest_numbers c.args.shares.now = search rules in
    let done = simp to_z-of_z at c.write_parts.ensures in
    let checked = simp to_z-of_z at c.in_ok-check_parts.ensures in
    (record { as_many = many; none_below = none; fit = checked.0; one = checked.1 }, done)
