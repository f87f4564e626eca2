use Rattle.std.specs.Prelude.{◌≡◌, ◌-ℤ◌, neg_ℤ, pos}
use Rattle.std.specs.Int.RustNames.{FitsSigned}
use Rattle.std.proofs.Common.{arith, rules}
use Rattle.std.proofs.lemmas.Int.{ints, to_z-of_z}
use mir.Syntax.{w128}
use Rattle.ratio_totals.proofs.total.Total.subtract.Goals as goal

pub returns-clause-numerators : goal.returns-clause-numerators
returns-clause-numerators g c =
    let n = c.parts-numer.result.0 in
    let held : FitsSigned w128 n = search rules in
    let turned : pos 0 -ℤ n ≡ neg_ℤ n = omega (arith, ints) in
    let fits : FitsSigned w128 (neg_ℤ n) = search rules in
    rw (to_z-of_z w128 n held, turned, to_z-of_z w128 (neg_ℤ n) fits, c.parts-numer.ensures.pair) at c.put.ensures.numerators
