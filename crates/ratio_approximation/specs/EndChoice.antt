-- Inner steps of the search within bounds: both ends, and the choice among the fractions that may be the simplest.
use Rattle.std.specs.Prelude.{◌≡◌, ◌⊎◌, ◌≤◌, ◌<ℤ◌, ℤ, pos, unsigned_abs, Bool, true, false, Option, Some, None}
use Rattle.std.specs.declared.ops.Bound.{Bound, TheVariants.Included, TheVariants.Excluded, TheVariants.Unbounded}
use Rattle.ratio_integer.specs.{Fraction.IsHeldLowest, Fraction.SameValue, Range.IsHeld}
use Rattle.ratio_approximation.specs.{Bounds.IsWithin, SimplestWithin.HoldsNoneWithin}

-- Inner: the bound n/d, included or not
abbrev pub end_bound : Bool → ℤ → ℤ → Bound (ℤ × ℤ)
end_bound true n d = Included (n, d)
end_bound false n d = Excluded (n, d)

-- Inner: the bound itself, or the least number of the type, included, in place of an open low bound
abbrev pub low_bound : ℤ → Bound (ℤ × ℤ) → Bound (ℤ × ℤ)
low_bound lo (Included x) = Included x
low_bound lo (Excluded x) = Excluded x
low_bound lo Unbounded = Included (lo, pos 1)

-- Inner: the bound itself, or the greatest number of the type, included, in place of an open high bound
abbrev pub high_bound : ℤ → Bound (ℤ × ℤ) → Bound (ℤ × ℤ)
high_bound hi (Included x) = Included x
high_bound hi (Excluded x) = Excluded x
high_bound hi Unbounded = Included (hi, pos 1)

-- Inner: p/q has a smaller denominator than a/b, or the same one and a numerator that is not farther from 0
-- Example: 1/2 as 2/5, and 2/5 as 3/5
abbrev pub IsAsSimple : ℤ → ℤ → ℤ → ℤ → Type 0
IsAsSimple p q a b = (q <ℤ b) ⊎ ((q ≡ b) × (unsigned_abs p ≤ unsigned_abs a))

-- Inner: p/q is within the bounds, and as simple as each fraction there that the type has
pub record IsFirstHeld (lo hi : ℤ) (low high : Bound (ℤ × ℤ)) (p q : ℤ) : Type 0 where
  pub within : IsWithin low high p q
  pub first : (a b : ℤ) → IsHeld lo hi a → IsHeld lo hi b → IsWithin low high a b → IsAsSimple p q a b

-- Inner: the result is the fraction of `IsFirstHeld`, and `None` exactly if the type has none within the bounds
abbrev pub ChecksFirstHeld : {T : Type 0} → (T → ℤ) → ℤ → ℤ → Bound (ℤ × ℤ) → Bound (ℤ × ℤ) → Option (T × T) → Type 0
ChecksFirstHeld value lo hi low high None = HoldsNoneWithin lo hi low high
ChecksFirstHeld value lo hi low high (Some r) = IsFirstHeld lo hi low high (value r.0) (value r.1)

-- Inner: a/b is the fraction that was found so far, if any was
abbrev pub IsFound : {T : Type 0} → (T → ℤ) → Option (T × T) → ℤ → ℤ → Type 0
IsFound value None a b = ⊥
IsFound value (Some r) a b = (value r.0 ≡ a) × (value r.1 ≡ b)

-- Inner: p/q is the simpler one of what was found and the lowest terms of n/d. It is as simple as what was found, and as each fraction of
-- the value of n/d
pub record IsFirstOfTwo {T : Type 0} (value : T → ℤ) (lo hi : ℤ) (found : Option (T × T)) (n d p q : ℤ) : Type 0 where
  pub chosen : IsFound value found p q ⊎ IsHeldLowest lo hi n d p q
  pub before_found : (a b : ℤ) → IsFound value found a b → IsAsSimple p q a b
  pub before_end : (a b : ℤ) → pos 0 <ℤ b → SameValue n d a b → IsAsSimple p q a b

-- Inner: the result is `IsFirstOfTwo` of what was found and an included end n/d; an excluded end changes nothing
abbrev pub ChecksWithEnd : {T : Type 0} → (T → ℤ) → ℤ → ℤ → Bool → Option (T × T) → ℤ → ℤ → Option (T × T) → Type 0
ChecksWithEnd value lo hi false found n d result = result ≡ found
ChecksWithEnd value lo hi true found n d None = ⊥
ChecksWithEnd value lo hi true found n d (Some r) = IsFirstOfTwo value lo hi found n d (value r.0) (value r.1)
