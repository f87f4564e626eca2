use Rattle.std.specs.Prelude.{◌≡◌, true}
use Rattle.std.specs.Int.RustNames.{FitsSigned}
use Rattle.std.proofs.Common.{rules, subst, sym, ◌∙◌}
use Rattle.std.proofs.lemmas.Int.{to_z-of_z}
use mir.Syntax.{w128}
use Rattle.ratio_integer.specs.Range.{Checks, IsHeld}
use Rattle.ratio_totals.proofs.WideNumberLemmas.{negative_number, too_low}
use Rattle.ratio_totals.proofs.numbers.signed.Goals as goal

pub returns-then-size : goal.returns-then-size
returns-then-size g c =
    let m = g.met.T in
    let is : c.args.negative ≡ true = c.if-not-negative.false in
    subst (λ z. IsHeld g.T.Integer.lo g.T.Integer.hi z → ⊥) (sym (negative_number c.args.negative c.args.size is))
    (too_low _ _ g.T.Primitive.BITS m.Primitive.width_law.0 m.Primitive.width_law.1 m.Integer.range_law c.args.size c.if-size.true)

pub returns : goal.returns
returns g c =
    let fits : FitsSigned w128 c.below_zero.result = search rules in
    subst (λ z. Checks g.T.Integer.value g.T.Integer.lo g.T.Integer.hi z c.from_i128.result) (to_z-of_z w128 c.below_zero.result fits ∙ c.below_zero.ensures ∙ sym (negative_number c.args.negative c.args.size c.if-not-negative.false))
    c.from_i128.ensures
