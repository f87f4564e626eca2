-- The laws of the nearest fraction for one bound and a larger one.
use Rattle.std.specs.Prelude.{◌*◌, ◌≤◌, ℕ, ℤ, unsigned_abs, None, Some}
use Rattle.std.proofs.Common.{arith, rules, inl, inr}
use Rattle.std.proofs.lemmas.Int.{ints}
use Rattle.ratio_integer.proofs.LowestTerms.{lowest_own}
use Rattle.ratio_approximation.specs.Nearest.{ComesFirst, gap}
use Rattle.ratio_approximation.proofs.NearestLawLemmas.{lowest_nearest, nearest_unique}
use Rattle.num_rational.specs.declared.reduced.Reduced.{Reduced}
use Rattle.num_rational.specs.Ratio.{denominator, numerator}
use Rattle.ratio_laws.specs.NearestBoundLaws.{HasNearest, KeepsNearest, NearsWithBound}

first_no_further : (g : ℕ) (p q : ℤ) (h : ℕ) (m e : ℤ) → ComesFirst g p q h m e → g * unsigned_abs e ≤ h * unsigned_abs q
first_no_further g p q h m e (inl less) = omega arith
first_no_further g p q h m e (inr same) = omega (arith, same.0)

module _ {T : _} {i : _} {o : _} {e : _} {p : _} {h : _} (x : Reduced T i o e p h) where
  pub has_nearest : HasNearest x
  has_nearest most None up none = absurd (omega (arith, ints))
  has_nearest most (Some near) up is = search rules

  pub nears_with_bound : NearsWithBound x
  nears_with_bound most more near nearer wider is also =
      let p = numerator near.ratio in
      let q = denominator near.ratio in
      let within = is.within in
      first_no_further (gap (numerator x.ratio) (denominator x.ratio) (numerator nearer.ratio) (denominator nearer.ratio)) (numerator nearer.ratio) (denominator nearer.ratio)
      (gap (numerator x.ratio) (denominator x.ratio) p q) p q
      (also.first p q is.positive (omega (arith, ints)))

  pub keeps_nearest : KeepsNearest x
  keeps_nearest most near None is none = let within = is.within in let up = is.positive in absurd (omega (arith, ints))
  keeps_nearest most near (Some again) is also =
      nearest_unique (numerator near.ratio) (denominator near.ratio) most (numerator again.ratio) (denominator again.ratio) (numerator near.ratio) (denominator near.ratio) also
      (lowest_nearest (numerator near.ratio) (denominator near.ratio) most (numerator near.ratio) (denominator near.ratio) (lowest_own (numerator near.ratio) (denominator near.ratio) near.lowest) is.within)
