-- Floats of 32 and 64 bits, as one type: a NaN, an infinity, or `fin s m e`: m * 2^e, negated if s is true. So 0.75 is `fin false 3 -2`.
use Rattle.std.specs.Prelude.{◌≡◌, ◌+◌, ◌*◌, ◌<◌, ℕ, suc, ℤ, pos, negsuc, unsigned_abs, Bool, true, false}
use Rattle.std.specs.Bool.{OnFalse, OnTrue}
use Rattle.std.specs.Float.{Float, Format, nan, inf, fin}
use Rattle.std.specs.Float.Ieee.{down, round, up}
use Rattle.ratio_core.specs.Signs.{with_sign}

-- exactly the value of a float as a fraction. An infinity and a NaN have the denominator 0, so no lowest terms
-- Example: 0.75: 3/4
abbrev pub fraction_of_float : Float → ℤ × ℤ
fraction_of_float nan = (pos 0, pos 0)
fraction_of_float (inf s) = (pos 0, pos 0)
fraction_of_float (fin s m e) = (with_sign s (m * up e), pos (down e))

-- the float of 32 or of 64 bits nearest to n/d, for a d above 0; of two as near, the one whose last bit is 0
-- Example: (2^53+1)/1, of 64 bits: 2^53
abbrev pub nearest_float : Format → ℤ → ℤ → Float
nearest_float f (pos n) d = round f false n (unsigned_abs d)
nearest_float f (negsuc n) d = round f true (suc n) (unsigned_abs d)

-- Inner: q is n/d cut to a whole number, and `more` says whether that took something away
pub record IsCutQuotient (n d q : ℕ) (more : Bool) : Type 0 where
  pub below : n < (q + 1) * d
  pub whole : OnFalse more (n ≡ q * d)
  pub cut : OnTrue more (q * d < n)
