use Rattle.std.specs.Prelude.{◌≡◌, true, false}
use Rattle.std.proofs.Common.{refl, inl, inr}
use Rattle.ratio_core.proofs.ReciprocalLemmas.{IsWay, way_asked, way_back}
use Rattle.ratio_core.proofs.pow.checked_pow_with.Goals as goal
use Rattle.ratio_core.proofs.pow.checked_pow_with.Goals.{then-is_below_zero, else-is_below_zero}

pub checked_recip-requires : goal.checked_recip-requires
checked_recip-requires g c =
    let v = g.T.Integer.value in
    let way : IsWay (v c.args.n) (v c.args.d) (g.E.Exponent.number c.args.e) (v c.if-is_below_zero.upper.0) (v c.if-is_below_zero.upper.1) =
    elim c.if-is_below_zero.branch [
      | then-is_below_zero w ↦ rw w.upper-is (inl (w.if-is_below_zero.ensures.0 refl, refl, refl))
      | else-is_below_zero w ↦ rw w.upper-is (inr ((λ h. absurd (let no : false ≡ true = w.if-is_below_zero.ensures.1 h in cc)), refl, refl))
    ] in
    way_asked _ _ _ _ _ _ _ _ _ _ c.requires way c.in_ok-upper.ensures

pub returns : goal.returns
returns g c =
    let v = g.T.Integer.value in
    let way : IsWay (v c.args.n) (v c.args.d) (g.E.Exponent.number c.args.e) (v c.if-is_below_zero.upper.0) (v c.if-is_below_zero.upper.1) =
    elim c.if-is_below_zero.branch [
      | then-is_below_zero w ↦ rw w.upper-is (inl (w.if-is_below_zero.ensures.0 refl, refl, refl))
      | else-is_below_zero w ↦ rw w.upper-is (inr ((λ h. absurd (let no : false ≡ true = w.if-is_below_zero.ensures.1 h in cc)), refl, refl))
    ] in
    way_back _ _ _ _ _ _ _ _ _ _ _ _ _ c.requires c.magnitude.ensures way c.in_ok-upper.ensures c.checked_recip.ensures
