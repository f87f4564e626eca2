use Rattle.std.specs.Prelude.{◌≡◌, ◌≢◌, pos, negsuc, int_rem}
use Rattle.std.proofs.Common.{arith, ap, sym, ◌∙◌, refl}
use Rattle.std.proofs.lemmas.Int.{ints}
use Rattle.ratio_integer.proofs.DivisionLemmas.{multiple-rem, multiple-zero, multiple_of_minus_one}
use Rattle.ratio_integer.proofs.integer.Integer.is_multiple_of.Goals as goal
use Rattle.ratio_integer.proofs.integer.Integer.is_multiple_of.Goals.{else-lt-via-then-lt+else-is_zero-2, else-lt-via-else-lt}

pub returns-then-is_zero : goal.returns-then-is_zero
returns-then-is_zero g c =
    let v = g.Self.Integer.value in
    let o : v c.args.o ≡ pos 0 = grind (arith, c.is_zero.ensures) in
    let t = multiple-zero (v c.args.self) (v c.args.o) o in
    let z = c.is_zero-then-is_zero.ensures in
    ((λ h. t.1 (z.0 h)), (λ h. z.1 (t.0 h)))

pub plus-requires : goal.plus-requires
plus-requires g c =
    let m = g.met.Self.Integer in
    grind (arith, ints, m.lt_law, m.zero_law, m.one_law, c.held.ensures.range, m.range_law)

pub returns-then-is_zero-2 : goal.returns-then-is_zero-2
returns-then-is_zero-2 g c =
    let v = g.Self.Integer.value in
    let m = g.met.Self.Integer in
    let sum : v c.plus.result ≡ pos 0 = c.if-is_zero-2.ensures.0 refl in
    let first : v c.ONE.result ≡ pos 1 = ap v c.ONE.ensures ∙ m.one_law in
    let y : v c.args.o ≡ negsuc 0 = omega (arith, ints) in
    ((λ h. multiple_of_minus_one (v c.args.self) (v c.args.o) y), (λ h. refl))

pub div_rem-rest-requires-clause-held : goal.div_rem-rest-requires-clause-held
div_rem-rest-requires-clause-held g c =
    let v = g.Self.Integer.value in
    let m = g.met.Self.Integer in
    let nm : v c.args.o ≢ negsuc 0 =
    elim c.else-lt.branch [ else-lt-via-then-lt+else-is_zero-2 w ↦ (λ e. let first : v w.ONE.result ≡ pos 1 = ap v w.ONE.ensures ∙ m.one_law in let sum : v w.plus.result ≡ pos 0 = omega (arith, ints) in let bad = w.if-is_zero-2.ensures.1 sum in cc) | else-lt-via-else-lt w ↦ grind (arith, ints, m.zero_law, m.lt_law) ] in
    λ is. nm is.denom

pub returns : goal.returns
returns g c =
    let v = g.Self.Integer.value in
    let t = multiple-rem (v c.args.self) (v c.args.o) in
    let rest : v c.div_rem-rest.result.1 ≡ int_rem (v c.args.self) (v c.args.o) = c.div_rem-rest.ensures.remainder in
    let z = c.is_zero-2.ensures in
    ((λ h. t.1 (sym rest ∙ z.0 h)), (λ h. z.1 (rest ∙ t.0 h)))
