-- Fractions with the same fields are the same. A fraction in lowest terms is its own lowest terms.
use Rattle.std.proofs.Common.{◌≡◌, ℤ, pos}
use Rattle.std.proofs.Props.{props}
use mathlib.Core.HLevel.{is_prop→PathP}
use Rattle.ratio_integer.specs.Fraction.{Fits, IsHeldLowest, IsLowestTermsOf}
use Rattle.ratio_integer.proofs.LowestTerms.{lowest_own, lowest_unique}
use Rattle.num_rational.specs.declared.ratio.Ratio.{Ratio}
use Rattle.num_rational.specs.declared.reduced.Reduced.{Reduced}
use Rattle.num_rational.specs.Comparison.{IsInLowestTerms}

pub same_ratio : {T : _} {i : _} {o : _} {e : _} {p : _} {h : _} (x y : Ratio T i o e p h) → x.numer ≡ y.numer → x.denom ≡ y.denom → x ≡ y
same_ratio {i = i} x y a b = λ k. record { numer = a k; denom = b k; nonzero = is_prop→PathP (λ j. i.value (b j) ≡ pos 0 → ⊥) (λ j. Prim.hlevel props) x.nonzero y.nonzero k }

pub same_reduced : {T : _} {i : _} {o : _} {e : _} {p : _} {h : _} (x y : Reduced T i o e p h) → x.ratio ≡ y.ratio → x ≡ y
same_reduced x y same = λ k. record { ratio = same k; lowest = is_prop→PathP (λ j. IsInLowestTerms (same j)) (λ j. Prim.hlevel props) x.lowest y.lowest k }

-- lowest terms in range fit
pub fits_itself : (lo hi n d a b : ℤ) → IsHeldLowest lo hi n d a b → Fits lo hi a b
fits_itself lo hi n d a b low = record {
  numer = a;
  denom = b;
  low = record { terms = lowest_own a b low.terms.lowest; numer_held = low.numer_held; denom_held = low.denom_held };
}

-- and they have no other lowest terms
pub own_only : (lo hi n d a b p q : ℤ) → IsHeldLowest lo hi n d a b → IsLowestTermsOf a b p q → (p ≡ a) × (q ≡ b)
own_only lo hi n d a b p q low terms = lowest_unique a b p q a b terms (lowest_own a b low.terms.lowest)
