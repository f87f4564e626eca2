use Rattle.std.proofs.Common.{◌^◌, arith, rules}
use Rattle.std.specs.Prelude.{◌<◌, ◌<ℤ◌, pos}
use Rattle.std.proofs.lemmas.Int.{ints, to_z-of_z}
use mir.Syntax.{w64}
use mir.Val.{SFits}
use Rattle.num_rational.specs.Reduced.{lowest_numbers}
use Rattle.ratio_uses.proofs.GearLemmas.{difference_moved, teeth_fit}
use Rattle.ratio_uses.proofs.gears.off_from.Goals as goal

pub returns-in_err-wheels : goal.returns-in_err-wheels
returns-in_err-wheels c =
    let first_fits : SFits w64 c.into.result = search rules in
    let second_fits : SFits w64 c.into-2.result = search rules in
    let out = rw (c.into.ensures, c.into-2.ensures) at (simp to_z-of_z at c.in_err-wheels.ensures) in
    let first_small : c.args.first < 2 ^ 32 = search rules in
    let second_small : c.args.second < 2 ^ 32 = search rules in
    absurd (out (teeth_fit c.args.first c.args.second first_small second_small c.requires.second))

pub returns : goal.returns
returns c =
    let first_fits : SFits w64 c.into.result = search rules in
    let second_fits : SFits w64 c.into-2.result = search rules in
    let some = c.requires.second in
    let up : pos 0 <ℤ pos c.args.second = omega (arith, ints) in
    let held = rw (c.into.ensures, c.into-2.ensures) at (simp to_z-of_z at c.in_ok-wheels.ensures) in
    difference_moved (lowest_numbers c.args.wanted.now) (lowest_numbers c.in_ok-wheels.wheels) (pos c.args.first, pos c.args.second) _ c.args.wanted.now.lowest.positive c.in_ok-wheels.wheels.lowest.positive up held.terms.same c.checked_sub.ensures
