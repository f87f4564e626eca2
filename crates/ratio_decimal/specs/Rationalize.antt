-- The simplest fraction that rounds to a float. Without their signs, floats in order have consecutive bits.
use Rattle.std.specs.Prelude.{◌≡◌, ◌+◌, ◌-◌, ◌%◌, ◌+ℤ◌, ◌*ℤ◌, ℕ, ℤ, pos, negsuc, neg_ℤ, false, true, Option, None, from_bits, to_bits}
use Rattle.std.specs.Float.{Float, Format, nan, inf, fin}
use Rattle.std.specs.Float.Ieee.{top}
use Rattle.ratio_integer.specs.Fraction.{ChecksLowest}
use Rattle.ratio_decimal.specs.Floats.{fraction_of_float}
use Rattle.ratio_approximation.specs.Simplest.{ChecksSimplest}

-- the fraction halfway between two, not reduced
-- Example: 1/3 and 1/2: 10/24
abbrev pub middle : ℤ × ℤ → ℤ × ℤ → ℤ × ℤ
middle x y = (x.0 *ℤ y.1 +ℤ y.0 *ℤ x.1, pos 2 *ℤ (x.1 *ℤ y.1))

-- halfway from the float with the bits b to the next one
abbrev pub halfway : Format → ℕ → ℤ × ℤ
halfway f b = middle (fraction_of_float (from_bits f b)) (fraction_of_float (from_bits f (b + 1)))

-- the bits of a float without its sign
abbrev pub size_bits : Format → Float → ℕ
size_bits f x = to_bits f x % top f

-- the result for a float. An infinity and a NaN have none. A whole float, such as 1e16, is the result itself. For any other one it is the
-- simplest fraction strictly between the two points that are halfway to its neighbours
-- Example: 0.1: 1/10; 1e16: itself
abbrev pub ChecksRationalized : {T : Type 0} → (T → ℤ) → ℤ → ℤ → Format → Float → Option (T × T) → Type 0
ChecksRationalized value lo hi f nan r = r ≡ None
ChecksRationalized value lo hi f (inf s) r = r ≡ None
ChecksRationalized value lo hi f (fin s m (pos e)) r = ChecksLowest (λ p. value p.0) (λ p. value p.1) lo hi (fraction_of_float (fin s m (pos e))) r
ChecksRationalized value lo hi f (fin false m (negsuc e)) r =
    let b = size_bits f (fin false m (negsuc e)) in
    ChecksSimplest value lo hi (halfway f (b - 1)).0 (halfway f (b - 1)).1 (halfway f b).0 (halfway f b).1 r
ChecksRationalized value lo hi f (fin true m (negsuc e)) r =
    let b = size_bits f (fin true m (negsuc e)) in
    ChecksSimplest value lo hi (neg_ℤ (halfway f b).0) (halfway f b).1 (neg_ℤ (halfway f (b - 1)).0) (halfway f (b - 1)).1 r
