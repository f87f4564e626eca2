use Rattle.std.proofs.Common.{arith, rules, ◌∙◌}
use Rattle.std.specs.Prelude.{◌≡◌}
use Rattle.std.specs.Float.Ieee.{prec}
use Rattle.std.specs.Int.RustNames.{FitsSigned}
use Rattle.core.proofs.dec2flt.Patterns.{shape}
use mir.Syntax.{w128}
use Rattle.ratio_decimal.proofs.FloatDivision.{short_number}
use Rattle.ratio_decimal.proofs.float.nearest.short.Goals as goal

pub returns-then-n-end : goal.returns-then-n-end
returns-then-n-end g c =
    let f = g.F.FloatType.format in
    let digits : c.DIGITS.result ≡ prec f = c.DIGITS.ensures ∙ g.met.F.FloatType.digits_law in
    let s = shape f in
    let fits : FitsSigned w128 c.in_ok-n.n = search rules in
    let is = short_number c.DIGITS.result c.in_ok-n.n (omega (arith, digits, s.digits)) fits c.if-end-n.true c.if-n-end.true in
    (is.0 ∙ c.in_ok-n.ensures.number.1, rw is.0 (rw c.DIGITS.ensures at is.1))
