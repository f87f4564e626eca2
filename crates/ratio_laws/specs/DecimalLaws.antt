-- The laws of decimals to so many places, as `decimal` prints them. `multiple` is the number of 1/10^places that the text has.
use Rattle.std.specs.Prelude.{◌≡◌, ◌<◌, ◌≤◌, ◌*◌, ◌^◌, ◌≤ℤ◌, ◌<ℤ◌, ◌+ℤ◌, ◌-ℤ◌, ◌*ℤ◌, ℕ, ℤ, pos, unsigned_abs, List, Result, Ok, Err}
use Rattle.ratio_decimal.specs.{Decimal.IsDecimalOf, DecimalReading.IsDecimalText}
use Rattle.ratio_core.specs.{Reading.ReadsLowest, Rounding.IsWithinHalf}
use Rattle.ratio_decimal.specs.declared.rounding_rule.Rounding.{Rounding}
use Rattle.ratio_decimal.specs.declared.rounding_rule.Rounding.TheVariants.{HalfAway, HalfEven, Down, Up, Floor, Ceil}
use Rattle.ratio_decimal.specs.declared.reading.DecimalRefusal.{DecimalRefusal, TheVariants.NotHeld}

-- Law: by one rule and to as many places, the decimal of a greater fraction is never smaller
-- Example: 1/3 and 2/5: `0.33`, `0.40`
abbrev pub DecimalsAreMonotone : Type 0
DecimalsAreMonotone =
    (rule : Rounding) (places : ℕ) (n d m e : ℤ) (left right : List ℕ) → pos 0 <ℤ d → pos 0 <ℤ e → (n *ℤ e) ≤ℤ (m *ℤ d)
    → (x : IsDecimalOf rule places n d left) (y : IsDecimalOf rule places m e right) → x.multiple ≤ℤ y.multiple

-- r is less than 1 away from n/d, and by `HalfAway` and `HalfEven` at most a half
-- Example: 9/4 by `Up`: 3
abbrev pub IsWithinRule : Rounding → ℤ → ℤ → ℤ → Type 0
IsWithinRule HalfAway n d r = IsWithinHalf n d r
IsWithinRule HalfEven n d r = IsWithinHalf n d r
IsWithinRule Down n d r = ((r *ℤ d -ℤ d) <ℤ n) × (n <ℤ (r *ℤ d +ℤ d))
IsWithinRule Up n d r = ((r *ℤ d -ℤ d) <ℤ n) × (n <ℤ (r *ℤ d +ℤ d))
IsWithinRule Floor n d r = ((r *ℤ d -ℤ d) <ℤ n) × (n <ℤ (r *ℤ d +ℤ d))
IsWithinRule Ceil n d r = ((r *ℤ d -ℤ d) <ℤ n) × (n <ℤ (r *ℤ d +ℤ d))

-- Law: the decimal is less than 1/10^places away from the fraction, and by `HalfAway` and `HalfEven` at most half of this
abbrev pub DecimalsAreNear : Type 0
DecimalsAreNear =
    (rule : Rounding) (places : ℕ) (n d : ℤ) (text : List ℕ) → pos 0 <ℤ d → (x : IsDecimalOf rule places n d text)
    → IsWithinRule rule (n *ℤ pos (10 ^ places)) d x.multiple

-- a/b is less than 1/10^places away from n/d, and by `HalfAway` and `HalfEven` at most half of this. Their distance is |a*d - n*b| over b*d
abbrev pub IsNearTo : Rounding → ℕ → ℤ → ℤ → ℤ → ℤ → Type 0
IsNearTo HalfAway places n d a b = 2 * (unsigned_abs (a *ℤ d -ℤ n *ℤ b) * 10 ^ places) ≤ unsigned_abs (b *ℤ d)
IsNearTo HalfEven places n d a b = 2 * (unsigned_abs (a *ℤ d -ℤ n *ℤ b) * 10 ^ places) ≤ unsigned_abs (b *ℤ d)
IsNearTo Down places n d a b = unsigned_abs (a *ℤ d -ℤ n *ℤ b) * 10 ^ places < unsigned_abs (b *ℤ d)
IsNearTo Up places n d a b = unsigned_abs (a *ℤ d -ℤ n *ℤ b) * 10 ^ places < unsigned_abs (b *ℤ d)
IsNearTo Floor places n d a b = unsigned_abs (a *ℤ d -ℤ n *ℤ b) * 10 ^ places < unsigned_abs (b *ℤ d)
IsNearTo Ceil places n d a b = unsigned_abs (a *ℤ d -ℤ n *ℤ b) * 10 ^ places < unsigned_abs (b *ℤ d)

-- Law: what is read from the decimal of n/d is so near to n/d (`IsNearTo`)
abbrev pub ReadDecimalsAreNear : Type 0
ReadDecimalsAreNear =
    (rule : Rounding) (places : ℕ) (lo hi n d a b : ℤ) (text : List ℕ) → pos 0 <ℤ d → unsigned_abs n < 2 ^ 128
    → IsDecimalOf rule places n d text → ReadsLowest lo hi (IsDecimalText text) a b → IsNearTo rule places n d a b

-- the result of reading has the two numbers of a fraction that `IsNearTo` n/d, or it is `NotHeld`: its two numbers are not in range
abbrev pub IsReadNear : {R : Type 0} → (R → ℤ) → (R → ℤ) → Rounding → ℕ → ℤ → ℤ → Result R DecimalRefusal → Type 0
IsReadNear numer denom rule places n d (Ok r) = IsNearTo rule places n d (numer r) (denom r)
IsReadNear numer denom rule places n d (Err refusal) = refusal ≡ NotHeld
