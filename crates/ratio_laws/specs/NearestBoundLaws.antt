-- The nearest fraction with a bounded denominator, of `Reduced`. A premise only says what a call returned.
use Rattle.std.specs.Prelude.{◌*◌, ◌≤◌, ◌≤ℤ◌, ◌<ℤ◌, ℕ, ℤ, pos, unsigned_abs, IsSome, Option, Some}
use Rattle.ratio_approximation.specs.Nearest.{gap}
use Rattle.num_rational.specs.declared.reduced.Reduced.{Reduced}
use Rattle.num_rational.specs.{Ratio.denominator, Ratio.numerator, Reduced.ChecksNearest, Reduced.ratio_of}
use Rattle.ratio_laws.specs.ReducedLaws.{AreOneAnswer}

-- the distance of r from x, times both denominators
abbrev pub gap_of : {T : _} {i : _} {o : _} {e : _} {p : _} {h : _} → Reduced T i o e p h → Reduced T i o e p h → ℕ
gap_of x r = gap (numerator (ratio_of x)) (denominator (ratio_of x)) (numerator (ratio_of r)) (denominator (ratio_of r))

-- y is at most as far from x as z is
abbrev pub IsNoFurther : {T : _} {i : _} {o : _} {e : _} {p : _} {h : _} → Reduced T i o e p h → Reduced T i o e p h → Reduced T i o e p h → Type 0
IsNoFurther x y z = gap_of x y * unsigned_abs (denominator (ratio_of z)) ≤ gap_of x z * unsigned_abs (denominator (ratio_of y))

-- for a bound of at least 1, the nearest fraction to x is `Some`
abbrev pub HasNearest : {T : _} {i : _} {o : _} {e : _} {p : _} {h : _} → Reduced T i o e p h → Type 0
HasNearest {T} {i} {o} {e} {p} {h} x = (most : ℤ) (near : Option (Reduced T i o e p h)) → pos 0 <ℤ most → ChecksNearest x most near → IsSome near

-- for a larger bound, the nearest fraction to x is no further away
abbrev pub NearsWithBound : {T : _} {i : _} {o : _} {e : _} {p : _} {h : _} → Reduced T i o e p h → Type 0
NearsWithBound {T} {i} {o} {e} {p} {h} x =
    (most more : ℤ) (near nearer : Reduced T i o e p h)
    → most ≤ℤ more
    → ChecksNearest x most (Some near)
    → ChecksNearest x more (Some nearer)
    → IsNoFurther x nearer near

-- the nearest fraction to the nearest one, for the same bound, is `Some` of it
abbrev pub KeepsNearest : {T : _} {i : _} {o : _} {e : _} {p : _} {h : _} → Reduced T i o e p h → Type 0
KeepsNearest {T} {i} {o} {e} {p} {h} x =
    (most : ℤ) (near : Reduced T i o e p h) (again : Option (Reduced T i o e p h)) → ChecksNearest x most (Some near) → ChecksNearest near most again → AreOneAnswer again (Some near)
