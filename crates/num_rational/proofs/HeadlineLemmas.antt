-- Two fractions have the same codes exactly if they have the same value.
use Rattle.std.specs.Prelude.{◌≡◌, ◌≢◌, ◌↔◌, ℤ, pos, List}
use Rattle.std.proofs.Common.{sym, subst, ◌∙◌}
use Rattle.ratio_integer.specs.Fraction.{SameValue}
use Rattle.ratio_integer.specs.Range.{IsHeld}
use Rattle.ratio_core.specs.ContinuedFraction.{IsCodesOf, TellsApart}
use Rattle.ratio_core.proofs.HashLaws.{codes_of_known}

pub codes_alike : (lo hi n d m e : ℤ) (xs ys : List ℤ) → IsHeld lo hi m → IsHeld lo hi e → e ≢ pos 0 → TellsApart lo hi n d xs → IsCodesOf lo hi m e ys → (xs ≡ ys) ↔ SameValue n d m e
codes_alike lo hi n d m e xs ys m_held e_held nonzero tells own = (
  (λ same. (tells.each m e m_held e_held nonzero).0 (subst (IsCodesOf lo hi m e) (sym same) own)),
  (λ equal. codes_of_known lo hi m e nonzero xs ((tells.each m e m_held e_held nonzero).1 equal) ∙ sym (codes_of_known lo hi m e nonzero ys own)),
)
