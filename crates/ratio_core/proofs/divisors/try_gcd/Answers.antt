use Rattle.std.specs.Prelude.{◌≡◌, ◌⊎◌, pos}
use Rattle.std.proofs.Common.{inl, inr, refl, sym}
use Rattle.ratio_core.proofs.DivisorLemmas.{checks_gcd, gcd_of_magnitude, gcd_turned}
use Rattle.ratio_core.proofs.divisors.try_gcd.Goals as goal
use Rattle.ratio_core.proofs.divisors.try_gcd.Goals.{then-is_zero-via-then-is_zero, then-is_zero-via-else-is_zero+then-eq}

pub returns-then-is_zero : goal.returns-then-is_zero
returns-then-is_zero g c =
    let v = g.T.Integer.value in
    let m = g.met.T.Integer in
    let either : (v c.args.c ≡ pos 0) ⊎ (v c.args.a ≡ v c.args.c) =
    elim c.then-is_zero.branch [ then-is_zero-via-then-is_zero w ↦ inl (w.if-is_zero.ensures.0 refl) | then-is_zero-via-else-is_zero+then-eq w ↦ inr ((m.eq_law c.args.a c.args.c).0 (sym w.if-eq.ensures)) ] in
    checks_gcd v _ _ _ _ _ _ (gcd_of_magnitude _ _ either) c.magnitude.ensures

pub returns-then-is_zero-2 : goal.returns-then-is_zero-2
returns-then-is_zero-2 g c =
    let v = g.T.Integer.value in
    checks_gcd v _ _ _ _ _ _ (gcd_turned _ _ _ (gcd_of_magnitude _ _ (inl (c.if-is_zero-2.ensures.0 refl)))) c.magnitude-then-is_zero-2.ensures
