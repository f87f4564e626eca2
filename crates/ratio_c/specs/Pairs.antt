-- What the calls on pairs answer that are not sums, products or quotients: divisors, multiples and rounded products.
use Rattle.std.specs.Prelude.{◌≡◌, ◌<◌, ◌<ℤ◌, ℕ, ℤ, pos}
use Rattle.ratio_integer.specs.{Arithmetic.product_of, Arithmetic.quotient_of, Range.IsHeld}
use Rattle.ratio_core.specs.Divisors.{ChecksPair, IsGcdOfFractions, IsLcmOfFractions}
use Rattle.ratio_decimal.specs.{Products.ChecksRoundedQuotientTo, RoundingRules.ChecksRounded, RoundingRules.IsRoundedBy}
use Rattle.ratio_decimal.specs.declared.rounding_rule.Rounding.{Rounding}
use Rattle.ratio_c.specs.Calls.{OfDivisor, OfPositive, Tested}
use Rattle.ratio_c.specs.Codes.{code_answered, code_bad_option, code_not_held}
use Rattle.ratio_c.specs.Crossing.{Said, Says, refused, rule_of}

-- `OfPositive`: the greatest fraction that divides both, in lowest terms, or the code 1 where these do not fit
-- Example: 1/4 and 1/6: 1/12
abbrev pub IsGcdAnswer : ℤ → ℤ → ℤ × ℤ → ℤ × ℤ → Said → Type 0
IsGcdAnswer lo hi x y answer = OfPositive x y answer (Says (ChecksPair (λ z. z.0) (λ z. z.1) lo hi (IsGcdOfFractions x.0 x.1 y.0 y.1)) answer)

-- `OfPositive`: the least fraction above 0 that both divide, in lowest terms, or the code 1 where these do not fit
-- Example: 1/4 and 1/6: 1/2
abbrev pub IsLcmAnswer : ℤ → ℤ → ℤ × ℤ → ℤ × ℤ → Said → Type 0
IsLcmAnswer lo hi x y answer = OfPositive x y answer (Says (ChecksPair (λ z. z.0) (λ z. z.1) lo hi (IsLcmOfFractions x.0 x.1 y.0 y.1)) answer)

-- the answer is the fraction x rounded by a rule to a whole number, over 1, or the code 1 where that number does not fit
-- Example: 35/6 by `HalfEven`: 6/1
pub record SaysRounded (lo hi : ℤ) (rule : Rounding) (x : ℤ × ℤ) (answer : Said) : Type 0 where
  pub number : ℤ
  pub is_rounded : IsRoundedBy rule x.0 x.1 number
  pub is_said : Tested (IsHeld lo hi number) (answer ≡ (code_answered, (number, pos 1))) (answer ≡ refused code_not_held)

-- `OfPositive`: x * y rounded by a rule to a whole number (`SaysRounded`). The code 9 is for a rule above 5
-- Example: 7/3 times 5/2, rule 1: 6/1
abbrev pub IsRoundedProductAnswer : ℤ → ℤ → ℤ × ℤ → ℤ × ℤ → ℕ → Said → Type 0
IsRoundedProductAnswer lo hi x y rule answer =
    OfPositive x y answer (Tested (rule < 6) (SaysRounded lo hi (rule_of rule) (product_of x.0 x.1 y.0 y.1) answer) (answer ≡ refused code_bad_option))

-- the parts are above 0, the rule is one of 0 to 5, and `Is` holds. Otherwise the answer has the code 9, `code_bad_option`
abbrev pub OfOptions : ℤ → ℕ → Said → Type 0 → Type 0
OfOptions parts rule answer Is = Tested (pos 0 <ℤ parts) (Tested (rule < 6) Is (answer ≡ refused code_bad_option)) (answer ≡ refused code_bad_option)

-- `OfPositive` and `OfOptions`: x * y rounded by a rule to a multiple of 1/parts, in lowest terms, or the code 1 where these do not fit
-- Example: 1999/100 times 5/2 to 100, rule 1: 2499/50
abbrev pub IsProductToAnswer : ℤ → ℤ → ℤ × ℤ → ℤ × ℤ → ℤ → ℕ → Said → Type 0
IsProductToAnswer lo hi x y parts rule answer =
    OfPositive x y answer
    (OfOptions parts rule answer
    (Says (ChecksRounded (λ z. z.0) (λ z. z.1) lo hi (rule_of rule) parts (product_of x.0 x.1 y.0 y.1).0 (product_of x.0 x.1 y.0 y.1).1) answer))

-- `OfPositive`, `OfOptions`, `OfDivisor`: x / y rounded by a rule to a multiple of 1/parts, in lowest terms, or the code 1 if these do not fit
-- Example: 1999/100 by 2/5 to 100, rule 1: 2499/50
abbrev pub IsQuotientToAnswer : ℤ → ℤ → ℤ × ℤ → ℤ × ℤ → ℤ → ℕ → Said → Type 0
IsQuotientToAnswer lo hi x y parts rule answer =
    OfPositive x y answer
    (OfOptions parts rule answer
    (OfDivisor y answer (ChecksRoundedQuotientTo (λ z. z.0) (λ z. z.1) lo hi (rule_of rule) parts (quotient_of x.0 x.1 y.0 y.1))))
