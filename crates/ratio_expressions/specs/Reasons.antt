-- What a refusal prints.
use Rattle.std.specs.Prelude.{ℕ, List, codes}
use Rattle.ratio_expressions.specs.declared.refusal.Reason.{Reason}
use Rattle.ratio_expressions.specs.declared.refusal.Reason.TheVariants.{NoExpression, TooDeep, NotNumeral, ZeroDenominator, NumberTooLarge, UnknownName, UnknownCall, ArgumentCount, NotNumber, BoundBelowOne, NothingBetween, ZeroDivisor, ExponentNotWhole, PowerTooLarge, TooLarge}

-- the text that a reason prints
-- Example: `ZeroDivisor`: `this divides by 0`
abbrev pub reason_text : Reason → List ℕ
reason_text NoExpression = codes "the expression cannot go on like this"
reason_text TooDeep = codes "the parentheses are too deep"
reason_text NotNumeral = codes "this is no number"
reason_text ZeroDenominator = codes "the denominator is 0"
reason_text NumberTooLarge = codes "the exponent has more than five digits"
reason_text UnknownName = codes "nothing has this name"
reason_text UnknownCall = codes "there is no such call"
reason_text ArgumentCount = codes "the call takes another number of arguments"
reason_text NotNumber = codes "this takes numbers, and not true or false"
reason_text BoundBelowOne = codes "the bound is below 1"
reason_text NothingBetween = codes "there is nothing between equal numbers"
reason_text ZeroDivisor = codes "this divides by 0"
reason_text ExponentNotWhole = codes "the exponent is no whole number"
reason_text PowerTooLarge = codes "the power may have more than a million bits"
reason_text TooLarge = codes "the numbers have more than a million bits together"
