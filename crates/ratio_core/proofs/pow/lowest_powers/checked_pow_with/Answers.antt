use Rattle.std.specs.Prelude.{◌≡◌, true, false}
use Rattle.std.proofs.Common.{refl, inl, inr}
use Rattle.ratio_core.proofs.LowestPowers.{IsFormed, formed_checked, formed_out}
use Rattle.ratio_core.proofs.pow.lowest_powers.checked_pow_with.Goals as goal
use Rattle.ratio_core.proofs.pow.lowest_powers.checked_pow_with.Goals.{then-is_below_zero+in_ok-checked_recip, else-is_below_zero}

pub returns-in_err-checked_recip : goal.returns-in_err-checked_recip
returns-in_err-checked_recip g c =
    let v = g.T.Integer.value in
    rw c.from_residual.ensures (formed_out _ _ (v c.args.n) (v c.args.d) (g.E.Exponent.number c.args.e) g.met.T.Integer.range_law c.requires (c.if-is_below_zero.ensures.0 refl) c.in_err-checked_recip.ensures)

pub returns : goal.returns
returns g c =
    let v = g.T.Integer.value in
    let formed : IsFormed (v c.args.n) (v c.args.d) (g.E.Exponent.number c.args.e) (v c.if-is_below_zero.upper.0) (v c.if-is_below_zero.upper.1) =
    elim c.if-is_below_zero.branch [
      | then-is_below_zero+in_ok-checked_recip w ↦ rw w.upper-is (inl (w.if-is_below_zero.ensures.0 refl, w.in_ok-checked_recip.ensures.0.nonzero, w.in_ok-checked_recip.ensures.1))
      | else-is_below_zero w ↦ rw w.upper-is (inr ((λ h. absurd (let no : false ≡ true = w.if-is_below_zero.ensures.1 h in cc)), refl, refl))
    ] in
    formed_checked (λ r. v r.0) (λ r. v r.1) _ _ (v c.args.n) (v c.args.d) (g.E.Exponent.number c.args.e) _ _ _ c.try_powers.result c.requires c.magnitude.ensures formed c.try_powers.ensures
