-- How often the search for the simplest fraction between n/d and m/e divides. It goes as far as their continued fractions are the same.
use Rattle.std.specs.Prelude.{◌≡◌, ◌+◌, ◌*◌, ◌<ℤ◌, ℕ, ℤ, pos, cond, List, [], ◌∷◌, length}
use Rattle.std.specs.Ordering.{int_eq}
use Rattle.ratio_integer.specs.Fraction.{SameValue}
use Rattle.ratio_approximation.specs.FromQuotients.{AreQuotients, fraction_of}

-- the list is the quotients of a continued fraction of n/d. Each fraction has two, since a last quotient q may also be q - 1, 1: one with an
-- odd number of quotients, and one with an even number
-- Example: 7/3: 2, 3 and 2, 2, 1
pub record IsContinuedFraction (n d : ℤ) (qs : List ℤ) : Type 0 where
  pub are : AreQuotients qs
  pub value : SameValue n d (fraction_of qs).0 (fraction_of qs).1

-- the quotients at the beginning of both lists, up to the first difference or the end of a list
-- Example: 0, 2, 1 and 0, 2: 0, 2
abbrev pub common_start : List ℤ → List ℤ → List ℤ
common_start [] qs = []
common_start (p ∷ ps) [] = []
common_start (p ∷ ps) (q ∷ qs) = cond (int_eq p q) (p ∷ common_start ps qs) []

-- 1 if one list is the beginning of the other, and else 0
-- Example: 0, 2, 1 and 0, 2: 1
abbrev pub one_ends : List ℤ → List ℤ → ℕ
one_ends [] qs = 1
one_ends (p ∷ ps) [] = 1
one_ends (p ∷ ps) (q ∷ qs) = cond (int_eq p q) (one_ends ps qs) 0

-- how many quotients there are, without the second one if it is 1
-- Example: 0, 2, 1: three; 0, 1, 2: two
abbrev pub count_without_one : List ℤ → ℕ
count_without_one [] = 0
count_without_one (q ∷ []) = 1
count_without_one (q ∷ r ∷ qs) = cond (int_eq r (pos 1)) 1 2 + length qs

-- the search divides `left` times on the left side and `right` times on the right side. The list of n/d has an odd number of quotients, and
-- the list of m/e an even number. The left side divides once, and once more for each quotient of their common start, except for a second
-- quotient 1 (`count_without_one`). The right side divides as often, or once less if one list is the beginning of the other (`one_ends`)
-- Example: 1/3 and 1/2, with 0, 2, 1 and 0, 2: three and two
pub record IsSearchCount (n d m e : ℤ) (left right : ℕ) : Type 0 where
  pub low : List ℤ
  pub high : List ℤ
  pub low_are : IsContinuedFraction n d low
  pub high_are : IsContinuedFraction m e high
  pub low_odd : (i : ℕ) × (length low ≡ 2 * i + 1)
  pub high_even : (i : ℕ) × (length high ≡ 2 * i)
  pub left_is : left ≡ 1 + count_without_one (common_start low high)
  pub right_is : left ≡ right + one_ends low high

-- ---- laws

-- Law: a search has only one pair of counts (`IsSearchCount`)
abbrev pub OneSearchCount : Type 0
OneSearchCount =
    (n d m e : ℤ) (left right left' right' : ℕ) → pos 0 <ℤ d → pos 0 <ℤ e → IsSearchCount n d m e left right → IsSearchCount n d m e left' right'
    → (left ≡ left') × (right ≡ right')
