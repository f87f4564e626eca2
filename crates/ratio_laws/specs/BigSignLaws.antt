-- The laws of negatives, absolute values and signs of fractions of any size. A fraction is a pair here.
use Rattle.std.specs.Prelude.{◌≢◌, ℤ}
use Rattle.std.specs.declared.cmp.Ordering.TheVariants.{Greater}
use Rattle.ratio_core.specs.Laws.{IsSum}
use Rattle.ratio_big.specs.Values.{absolute_pair, negative_pair}
use Rattle.ratio_laws.specs.BigFieldLaws.{GivesOnly}
use Rattle.ratio_laws.specs.BigOrderLaws.{pair_order}

-- -x∘y is -(x∘y), where ∘ is the call
-- Example: -x * y is -(x * y)
abbrev pub MovesNegative : (ℤ × ℤ → ℤ × ℤ → ℤ × ℤ → Type 0) → ℤ × ℤ → ℤ × ℤ → Type 0
MovesNegative Call x y = (both : ℤ × ℤ) → Call x y both → GivesOnly Call (negative_pair x) y (negative_pair both)

-- |x|∘|y| is |x∘y|, where ∘ is the call
-- Example: |x| * |y| is |x * y|
abbrev pub MovesAbsolute : (ℤ × ℤ → ℤ × ℤ → ℤ × ℤ → Type 0) → ℤ × ℤ → ℤ × ℤ → Type 0
MovesAbsolute Call x y = (both : ℤ × ℤ) → Call x y both → GivesOnly Call (absolute_pair x) (absolute_pair y) (absolute_pair both)

-- |x + y| is not above |x| + |y|
abbrev pub MeetsTriangleInequality : ℤ × ℤ → ℤ × ℤ → Type 0
MeetsTriangleInequality x y = (sum other : ℤ × ℤ) → IsSum x y sum → IsSum (absolute_pair x) (absolute_pair y) other → pair_order (absolute_pair sum) other ≢ Greater
