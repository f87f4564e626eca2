-- The fraction with the quotients of a fraction is that fraction.
use Rattle.std.specs.Prelude.{ℤ, None, Some}
use Rattle.std.proofs.Common.{sym, ap, subst, ◌∙◌}
use Rattle.ratio_integer.specs.Range.{IsHeld}
use Rattle.ratio_approximation.proofs.FromQuotientsLemmas.{quotients_give_back}
use Rattle.num_rational.specs.declared.reduced.Reduced.{Reduced}
use Rattle.num_rational.specs.Ratio.{denominator, numerator}
use Rattle.ratio_laws.specs.ReducedLaws.{ComesFromQuotients}

pub comes_from_quotients : {T : _} {i : _} {o : _} {e : _} {p : _} {h : _} (x : Reduced T i o e p h) → IsHeld i.lo i.hi (numerator x.ratio) → IsHeld i.lo i.hi (denominator x.ratio) → ComesFromQuotients x
comes_from_quotients {i = i} x numer_held denom_held qs None are told =
    let back = quotients_give_back (numerator x.ratio) (denominator x.ratio) qs x.lowest are in
    told (record {
      quotients = back.0;
      numer_held = subst (IsHeld i.lo i.hi) (sym (ap (λ (f : ℤ × ℤ). f.0) back.1)) numer_held;
      denom_held = subst (IsHeld i.lo i.hi) (sym (ap (λ (f : ℤ × ℤ). f.1) back.1)) denom_held;
    })
comes_from_quotients x numer_held denom_held qs (Some r) are told =
    let back = quotients_give_back (numerator x.ratio) (denominator x.ratio) qs x.lowest are in
    (told.1 ∙ ap (λ (f : ℤ × ℤ). f.0) back.1, told.2 ∙ ap (λ (f : ℤ × ℤ). f.1) back.1)
