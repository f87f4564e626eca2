-- What a call gives of its arguments, and which it refuses.
use Rattle.std.specs.Prelude.{◌≡◌, ◌⊎◌, ℕ, ℤ, Bool, List, length, map, None, Some, Result, Ok, Err}
use Rattle.std.specs.List.{All, Contains}
use Rattle.ratio_integer.specs.Fraction.{IsLowestTerms}
use Rattle.ratio_big.specs.Fractions.{big_numbers}
use Rattle.ratio_big.specs.declared.fraction.BigFraction.{BigFraction}
use Rattle.ratio_expressions.specs.declared.function.Function.{Function}
use Rattle.ratio_expressions.specs.declared.refusal.Reason.{Reason}
use Rattle.ratio_expressions.specs.declared.refusal.Reason.TheVariants as reasons
use Rattle.ratio_expressions.specs.Functions.{FunctionRefuses, GivesNumber, TakesCount, function_of}
use Rattle.ratio_expressions.specs.Limits.{FitTogether}
use Rattle.ratio_expressions.specs.Worths.{Worth, Amount, Truth}

-- each of the values is a number, and these are the numbers, in lowest terms
pub record AreNumbers (ws : List Worth) (xs : List (ℤ × ℤ)) : Type 0 where
  pub same : ws ≡ map Amount xs
  pub lowest : All (λ x. IsLowestTerms x.0 x.1) xs

-- one of the values is true or false
abbrev pub HaveTruth : List Worth → Type 0
HaveTruth ws = (b : Bool) × Contains ws (Truth b)

-- what the function with this name gives of its arguments: it takes so many, and they are numbers with at most a million bits together
-- Example: `max` of 1, 1/2 and 3: 3
pub record GivesCall (name : List ℕ) (ws : List Worth) (w : Worth) : Type 0 where
  pub function : Function
  pub numbers : List (ℤ × ℤ)
  pub result : ℤ × ℤ
  pub named : function_of name ≡ Some function
  pub count : TakesCount function (length ws)
  pub given : AreNumbers ws numbers
  pub fit : FitTogether numbers
  pub gives : GivesNumber function numbers result
  pub is : w ≡ Amount result

-- why a function refuses numbers, of which it takes so many: they have more than a million bits together, or it refuses them
-- Example: `lcm`, 2^600000 and 3^600000: `TooLarge`
abbrev pub FunctionRefusesAny : Function → List (ℤ × ℤ) → Reason → Type 0
FunctionRefusesAny f xs r = ((r ≡ reasons.TooLarge) × ¬ (FitTogether xs)) ⊎ (FitTogether xs × FunctionRefuses f xs r)

-- Inner: the result is what the function gives of its arguments, or why it refuses them
abbrev pub AnswersArguments : Function → List (ℤ × ℤ) → Result BigFraction Reason → Type 0
AnswersArguments f xs (Ok r) = FitTogether xs × GivesNumber f xs (big_numbers r)
AnswersArguments f xs (Err reason) = FunctionRefusesAny f xs reason

-- the function with this name takes so many arguments, and refuses the numbers that they are
-- Example: `nearest` of 1/2 and 0: `BoundBelowOne`
pub record RefusesAmounts (name : List ℕ) (ws : List Worth) (reason : Reason) : Type 0 where
  pub function : Function
  pub numbers : List (ℤ × ℤ)
  pub named : function_of name ≡ Some function
  pub count : TakesCount function (length ws)
  pub given : AreNumbers ws numbers
  pub refuses : FunctionRefusesAny function numbers reason

-- why a call refuses its arguments: no function has its name, or it does not take so many, or one is true or false, or it refuses the numbers
-- Example: `floor` of 1 and 2: `ArgumentCount`
abbrev pub RefusesCall : List ℕ → List Worth → Reason → Type 0
RefusesCall name ws reasons.UnknownCall = function_of name ≡ None
RefusesCall name ws reasons.ArgumentCount = (f : Function) × (function_of name ≡ Some f) × ¬ (TakesCount f (length ws))
RefusesCall name ws reasons.NotNumber = (f : Function) × (function_of name ≡ Some f) × TakesCount f (length ws) × HaveTruth ws
RefusesCall name ws r = RefusesAmounts name ws r
