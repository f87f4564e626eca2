use Rattle.std.proofs.Common.{◌≡◌, rules, subst, sym, ℤ}
use Rattle.std.proofs.lemmas.Int.{to_z-of_z}
use mir.Syntax.{w64}
use mir.Val.{SFits, of_z, to_z}
use Rattle.ratio_big.specs.Fractions.{big_numbers}
use Rattle.ratio_expressions.specs.Operators.{HaveSamePowers}
use Rattle.ratio_expressions.proofs.SamePowers.{same_result}
use Rattle.ratio_expressions.proofs.power.power.Goals as goal

pub returns : goal.returns
returns c =
    let e = c.in_ok-exponent.exponent in
    let fits : SFits w64 e = search rules in
    let same = subst (λ (f : ℤ). HaveSamePowers (big_numbers c.args.y.now).0 f) (sym (to_z-of_z w64 e fits)) c.in_ok-exponent.ensures in
    same_result (big_numbers c.args.x.now) (big_numbers c.args.y.now) (to_z w64 (of_z w64 e)) c.whole_power.result (c.in_ok-is_whole.ensures.0 (cc)) same c.whole_power.ensures
