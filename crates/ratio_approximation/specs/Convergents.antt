-- The convergents of a continued fraction, and how many of them have a denominator within a bound.
use Rattle.std.specs.Prelude.{◌≡◌, ◌+◌, ◌+ℤ◌, ◌*ℤ◌, ℕ, ℤ, pos, int_le, cond, List, [], ◌∷◌}
use Rattle.ratio_core.specs.ContinuedFraction.{IsPartialQuotients}

-- the denominators of the *convergents*, the fractions that the first quotients alone give, after two convergents with the denominators p
-- and then q. Each is its quotient times the one before, plus the one before that. They begin after 1 and 0
-- Example: 3, 7, 16: 1, 7, 113
abbrev pub denominators : ℤ → ℤ → List ℤ → List ℤ
denominators p q [] = []
denominators p q (a ∷ rest) = (a *ℤ q +ℤ p) ∷ denominators q (a *ℤ q +ℤ p) rest

-- how many numbers of a list are at most `most`, without the last one
-- Example: 1, 7, 113 within 10: two
abbrev pub count_within : ℤ → List ℤ → ℕ
count_within most [] = 0
count_within most (q ∷ []) = 0
count_within most (q ∷ r ∷ qs) = cond (int_le q most) 1 0 + count_within most (r ∷ qs)

-- k convergents of n/d, without n/d itself, have a denominator of at most `most`
-- Example: 355/113 within 10: two
pub record IsConvergentCount (n d most : ℤ) (k : ℕ) : Type 0 where
  pub quotients : List ℤ
  pub are : IsPartialQuotients n d quotients
  pub count : k ≡ count_within most (denominators (pos 1) (pos 0) quotients)
