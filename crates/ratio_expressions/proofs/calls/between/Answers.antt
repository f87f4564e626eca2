use Rattle.std.proofs.Common.{◌≡◌, ℤ, Option, None, Some, refl, subst}
use Rattle.ratio_big.specs.Fractions.{big_numbers}
use Rattle.ratio_big.specs.Simplest.{GivesSimplest, IsBelow}
use Rattle.ratio_big.specs.declared.fraction.BigFraction.{BigFraction}
use Rattle.ratio_expressions.proofs.ApproximationLaws.{equal_numbers}
use Rattle.ratio_expressions.proofs.calls.between.Goals as goal

not_below : (x y : ℤ × ℤ) (o : Option BigFraction) → GivesSimplest x y o → ((r : BigFraction) → ¬ (o ≡ Some r)) → ¬ (IsBelow x y)
not_below x y None none missing = none
not_below x y (Some r) simplest missing = absurd (missing r refl)

pub returns-in-None : goal.returns-in-None
returns-in-None c =
    let x = c.args.x.now in
    let y = c.args.y.now in
    equal_numbers (big_numbers x) (big_numbers y) x.kept.lowest y.kept.lowest (not_below (big_numbers x) (big_numbers y) c.in_ok-simplest.field-0 c.in_ok-simplest.ensures.simplest c.in_default.not-Some)
    (subst (GivesSimplest (big_numbers y) (big_numbers x)) c.in-None.is c.in_ok-simplest-2.ensures.simplest)
