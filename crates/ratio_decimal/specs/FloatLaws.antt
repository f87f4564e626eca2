-- The laws of the nearest float.
use Rattle.std.specs.Prelude.{◌≡◌, ◌<◌, ◌≤ℤ◌, ◌<ℤ◌, ◌*ℤ◌, ◌-◌, ◌^◌, ◌⊎◌, ℕ, ℤ, suc, pos, negsuc, Bool, false, Some, T}
use Rattle.std.specs.Float.{Format, fin, ◌≤ᶠ◌}
use Rattle.std.specs.Float.Ieee.{fits}
use Rattle.ratio_integer.specs.Fraction.{SameValue}
use Rattle.ratio_decimal.specs.Floats.{fraction_of_float, nearest_float}
use Rattle.ratio_decimal.specs.Rationalize.{ChecksRationalized, halfway, size_bits}
use Rattle.ratio_approximation.specs.Simplest.{IsBetween}

-- Law: 0/d, with a positive d, gives 0.0, and not -0.0
abbrev pub NearestOfZero : Type 0
NearestOfZero = (f : Format) (d : ℤ) → pos 0 <ℤ d → nearest_float f (pos 0) d ≡ fin false 0 (pos 0)

-- Law: fractions of one value, with positive denominators, have the same nearest float
abbrev pub SameValueSameFloat : Type 0
SameValueSameFloat = (f : Format) (n d m e : ℤ) → pos 0 <ℤ d → pos 0 <ℤ e → SameValue n d m e → nearest_float f n d ≡ nearest_float f m e

-- Law: a greater fraction never has a smaller nearest float, for positive denominators
abbrev pub FloatsAreMonotone : Type 0
FloatsAreMonotone = (f : Format) (n d m e : ℤ) → pos 0 <ℤ d → pos 0 <ℤ e → (n *ℤ e) ≤ℤ (m *ℤ d) → nearest_float f n d ≤ᶠ nearest_float f m e

-- Law: a finite float other than 0 is the nearest float to each fraction with exactly its value
abbrev pub FloatsComeBack : Type 0
FloatsComeBack = (f : Format) (s : Bool) (k : ℕ) (e n d : ℤ) → T (fits f (fin s k e)) → 0 < k → pos 0 <ℤ d
    → SameValue n d (fraction_of_float (fin s k e)).0 (fraction_of_float (fin s k e)).1 → nearest_float f n d ≡ fin s k e

-- Law: the fraction n/d that `rationalize` returns for a float has this float as its nearest one. For 0.0 and -0.0 that is 0.0
abbrev pub RationalizedComesBack : Type 0
RationalizedComesBack = (f : Format) (s : Bool) (k : ℕ) (e lo hi n d : ℤ) → T (fits f (fin s k e)) → ChecksRationalized (λ z. z) lo hi f (fin s k e) (Some (n, d))
    → (0 < k → nearest_float f n d ≡ fin s k e) × (k ≡ 0 → nearest_float f n d ≡ fin false 0 (pos 0))

-- Law: for a float that is not whole, a fraction exactly halfway to a neighbour has a greater denominator than the float itself
abbrev pub EndsHaveGreaterDenominators : Type 0
EndsHaveGreaterDenominators = (f : Format) (s : Bool) (m e : ℕ) (a d : ℤ) → T (fits f (fin s m (negsuc e))) → pos 0 <ℤ d →
    let b = size_bits f (fin s m (negsuc e)) in
    SameValue a d (halfway f (b - 1)).0 (halfway f (b - 1)).1 ⊎ SameValue a d (halfway f b).0 (halfway f b).1
    → (fraction_of_float (fin s m (negsuc e))).1 <ℤ d

-- Law: a float that is not whole, m/2^(e+1) without its sign, lies strictly between the points halfway to its neighbours
abbrev pub FloatsLieBetweenEnds : Type 0
FloatsLieBetweenEnds = (f : Format) (s : Bool) (m e : ℕ) → T (fits f (fin s m (negsuc e))) →
    let b = size_bits f (fin s m (negsuc e)) in
    IsBetween (halfway f (b - 1)).0 (halfway f (b - 1)).1 (halfway f b).0 (halfway f b).1 (pos m) (pos (2 ^ suc e))
