-- What an operator gives of two values, and which it refuses.
use Rattle.std.specs.Prelude.{◌≡◌, ◌≢◌, ◌↔◌, ◌⊎◌, ◌<ℤ◌, ◌≤◌, ◌*◌, ◌^◌, ℕ, ℤ, pos, [], ◌∷◌, unsigned_abs}
use Rattle.std.specs.Ordering.{is_eq, is_ge, is_gt, is_le, is_lt, is_ne}
use Rattle.ratio_integer.specs.Arithmetic.{difference_of, product_of, quotient_of, remainder_of, sum_of}
use Rattle.ratio_core.specs.Order.{cross_cmp}
use Rattle.ratio_core.specs.Power.{power_of}
use Rattle.ratio_big.specs.Powers.{HasNoPower}
use Rattle.ratio_big.specs.Values.{HasTerms, negative_pair}
use Rattle.ratio_expressions.specs.declared.token.Operator.{Operator}
use Rattle.ratio_expressions.specs.declared.token.Operator.TheVariants.{Less, AtMost, Equal, NotEqual, AtLeast, Greater, Add, Subtract, Multiply, Divide, Remainder, Power}
use Rattle.ratio_expressions.specs.declared.token.Sign.{Sign}
use Rattle.ratio_expressions.specs.declared.token.Sign.TheVariants.{Plus, Minus}
use Rattle.ratio_expressions.specs.declared.refusal.Reason.{Reason}
use Rattle.ratio_expressions.specs.declared.refusal.Reason.TheVariants as reasons
use Rattle.ratio_expressions.specs.Limits.{FitTogether}
use Rattle.ratio_expressions.specs.Worths.{Worth, Amount, Truth}

-- both numbers of x are at most 2 to a whole number `bits`, without their signs, and this times the exponent, without its sign, is at most a
-- million. So both numbers of the power are at most 2 to the million, and 0, 1 and -1 may have any exponent
-- Example: 2 to the 1000000, and 1 to the 10^30; not 2 to the 1000001
pub record IsModestPower (x : ℤ × ℤ) (exponent : ℤ) : Type 0 where
  pub bits : ℕ
  pub numer : unsigned_abs x.0 ≤ 2 ^ bits
  pub denom : unsigned_abs x.1 ≤ 2 ^ bits
  pub few : bits * unsigned_abs exponent ≤ 1000000

-- Inner: by both exponents the same numbers have modest powers, and the same ones; and both are below 0, or neither is
-- Example: 1000002 and 10^30
pub record HaveSamePowers (e f : ℤ) : Type 0 where
  pub modest : (x : ℤ × ℤ) → IsModestPower x e ↔ IsModestPower x f
  pub power : (x : ℤ × ℤ) → IsModestPower x e → power_of x.0 x.1 e ≡ power_of x.0 x.1 f
  pub below : (e <ℤ pos 0) ↔ (f <ℤ pos 0)

-- the worth is a number, and this is the lowest terms of the pair x. A pair over 0 has none
-- Example: 2/4: 1/2
abbrev pub IsTermsOf : ℤ × ℤ → Worth → Type 0
IsTermsOf x (Amount z) = HasTerms x z
IsTermsOf x (Truth b) = ⊥

-- what an operator gives of two numbers. An exponent is a whole number, and the power is no larger than `IsModestPower` says
-- Example: `+`, 1/2 and 1/3: 5/6
abbrev pub GivesNumbers : Operator → ℤ × ℤ → ℤ × ℤ → Worth → Type 0
GivesNumbers Less x y w = w ≡ Truth (is_lt (cross_cmp x.0 x.1 y.0 y.1))
GivesNumbers AtMost x y w = w ≡ Truth (is_le (cross_cmp x.0 x.1 y.0 y.1))
GivesNumbers Equal x y w = w ≡ Truth (is_eq (cross_cmp x.0 x.1 y.0 y.1))
GivesNumbers NotEqual x y w = w ≡ Truth (is_ne (cross_cmp x.0 x.1 y.0 y.1))
GivesNumbers AtLeast x y w = w ≡ Truth (is_ge (cross_cmp x.0 x.1 y.0 y.1))
GivesNumbers Greater x y w = w ≡ Truth (is_gt (cross_cmp x.0 x.1 y.0 y.1))
GivesNumbers Add x y w = IsTermsOf (sum_of x.0 x.1 y.0 y.1) w
GivesNumbers Subtract x y w = IsTermsOf (difference_of x.0 x.1 y.0 y.1) w
GivesNumbers Multiply x y w = IsTermsOf (product_of x.0 x.1 y.0 y.1) w
GivesNumbers (Divide s) x y w = IsTermsOf (quotient_of x.0 x.1 y.0 y.1) w
GivesNumbers (Remainder s) x y w = (y.0 ≢ pos 0) × IsTermsOf (remainder_of x.0 x.1 y.0 y.1) w
GivesNumbers Power x y w = (y.1 ≡ pos 1) × IsModestPower x y.0 × IsTermsOf (power_of x.0 x.1 y.0) w

-- why an operator refuses two numbers
-- Example: `/`, 1/2 and 0: `ZeroDivisor`
abbrev pub RefusesNumbers : Operator → ℤ × ℤ → ℤ × ℤ → Reason → Type 0
RefusesNumbers (Divide s) x y reasons.ZeroDivisor = y.0 ≡ pos 0
RefusesNumbers (Remainder s) x y reasons.ZeroDivisor = y.0 ≡ pos 0
RefusesNumbers Power x y reasons.ExponentNotWhole = y.1 ≢ pos 1
RefusesNumbers Power x y reasons.PowerTooLarge = (y.1 ≡ pos 1) × ¬ (IsModestPower x y.0)
RefusesNumbers Power x y reasons.ZeroDivisor = (y.1 ≡ pos 1) × IsModestPower x y.0 × HasNoPower x y.0
RefusesNumbers o x y r = ⊥

-- the two numbers are not too large for the operator: for `+ - * / %` they have at most a million bits together. Comparisons make no number, and a
-- power has a rule of its own (`IsModestPower`)
-- Example: `*`, 2^500000 and 2^500000; not 2^500000 and 2^500001
abbrev pub TakesNumbers : Operator → ℤ × ℤ → ℤ × ℤ → Type 0
TakesNumbers Add x y = FitTogether (x ∷ y ∷ [])
TakesNumbers Subtract x y = FitTogether (x ∷ y ∷ [])
TakesNumbers Multiply x y = FitTogether (x ∷ y ∷ [])
TakesNumbers (Divide s) x y = FitTogether (x ∷ y ∷ [])
TakesNumbers (Remainder s) x y = FitTogether (x ∷ y ∷ [])
TakesNumbers o x y = Unit {0}

-- what an operator gives of two values: it takes numbers that are not too large
abbrev pub GivesWorth : Operator → Worth → Worth → Worth → Type 0
GivesWorth o (Amount x) (Amount y) w = TakesNumbers o x y × GivesNumbers o x y w
GivesWorth o (Amount x) (Truth c) w = ⊥
GivesWorth o (Truth b) v w = ⊥

-- why an operator refuses two values: one of them is true or false, or the two numbers are too large, or it refuses them
-- Example: `*`, 2^600000 and 2^600000: `TooLarge`
abbrev pub RefusesWorths : Operator → Worth → Worth → Reason → Type 0
RefusesWorths o (Amount x) (Amount y) r = ((r ≡ reasons.TooLarge) × ¬ (TakesNumbers o x y)) ⊎ (TakesNumbers o x y × RefusesNumbers o x y r)
RefusesWorths o (Amount x) (Truth c) r = r ≡ reasons.NotNumber
RefusesWorths o (Truth b) v r = r ≡ reasons.NotNumber

-- a value with a sign before it, which is a number
-- Example: `-`, 1/2: -1/2; `+`, 1/2: 1/2
abbrev pub IsSignedWorth : Sign → Worth → Worth → Type 0
IsSignedWorth Plus (Amount x) w = w ≡ Amount x
IsSignedWorth Minus (Amount x) w = w ≡ Amount (negative_pair x)
IsSignedWorth g (Truth b) w = ⊥

-- the value is true or false
abbrev pub IsTrueOrFalse : Worth → Type 0
IsTrueOrFalse (Amount x) = ⊥
IsTrueOrFalse (Truth b) = Unit {0}
