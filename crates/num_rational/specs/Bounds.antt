-- Bounds that are fractions in lowest terms, and the simplest fraction within two of them.
use Rattle.std.specs.Prelude.{ℤ, Option, None, Some}
use Rattle.std.specs.declared.ops.Bound.{Bound, TheVariants.Included, TheVariants.Excluded, TheVariants.Unbounded}
use Rattle.ratio_approximation.specs.SimplestWithin.{HoldsNoneWithin, IsSimplestWithin}
use Rattle.num_rational.specs.declared.reduced.Reduced.{Reduced}
use Rattle.num_rational.specs.Ratio.{denominator, numerator}

-- the bound with the two whole numbers of its fraction: included 1/2 for an included 1/2
-- Example: included 1/2: included 1 and 2
abbrev pub bound_numbers : {T : _} {i : _} {o : _} {e : _} {p : _} {h : _} → Bound (Reduced T i o e p h) → Bound (ℤ × ℤ)
bound_numbers (Included x) = Included (numerator x.ratio, denominator x.ratio)
bound_numbers (Excluded x) = Excluded (numerator x.ratio, denominator x.ratio)
bound_numbers Unbounded = Unbounded

-- the result is the simplest fraction within the bounds (`IsSimplestWithin`), and `None` exactly if its type has no fraction there
-- Example: above 5/2: `Some(3/1)`; above 127/1: `None`
abbrev pub ChecksSimplestWithinBounds : {T : _} {i : _} {o : _} {e : _} {p : _} {h : _} → Bound (ℤ × ℤ) → Bound (ℤ × ℤ) → Option (Reduced T i o e p h) → Type 0
ChecksSimplestWithinBounds {i = i} low high None = HoldsNoneWithin i.lo i.hi low high
ChecksSimplestWithinBounds low high (Some r) = IsSimplestWithin low high (numerator r.ratio) (denominator r.ratio)
