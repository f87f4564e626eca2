-- What a refused line is told to type.
use Rattle.std.specs.Prelude.{ℕ, List, [], ◌++◌, codes, Option, Some, None}
use Rattle.ratio_expressions.specs.declared.replies.hint.Hint.{Hint}
use Rattle.ratio_expressions.specs.declared.replies.hint.Hint.TheVariants as hints

-- what a hint prints: an example that works when it is typed, and the slip that it stands for
-- Example: `Product`: `2*(3+4) for 2(3+4)`
abbrev pub hint_text : Hint → List ℕ
hint_text hints.Product = codes "2*(3+4) for 2(3+4)"
hint_text hints.SideBySide = codes "2*3 or 2 + 3 for 2 3, and 1299 for 1 299"
hint_text hints.BesideSlash = codes "2/(1 1/2) for 2/1 1/2, and 1/2 * 1/3 for 1/2 1/3"
hint_text hints.MixedPower = codes "(1 1/2)^2 for 1 1/2^2"
hint_text hints.MixedSlash = codes "1 1/2, with the slash of the keyboard"
hint_text hints.Points = codes "1299000 for 1.299.000"
hint_text hints.Repeating = codes "1/3 for 0.333..."
hint_text hints.LastPoint = codes "5 for 5."
hint_text hints.Unit = codes "3*x for 3x, and 1/2 for 1/2 cup"
hint_text hints.Currency = codes "5 for $5 or 5'"
hint_text hints.Times = codes "2*3 for 2 x 3, and 3*x for 3x"
hint_text hints.Share = codes "1/2 * 3 for 1/2 of 3"
hint_text hints.Joined = codes "1 1/2 for 1 and 1/2"
hint_text hints.Underscore = codes "1299 for 1_299"
hint_text hints.Comma = codes "12.50 for 12,50, and 1299 for 1,299"
hint_text hints.Percentage = codes "x/100 for x%, and (1/2)/100 for 1/2%"
hint_text hints.Remainder = codes "12 % 5 for 12 mod 5, with the sign of 12"
hint_text hints.WholeQuotient = codes "floor(7/2) for 7 // 2"
hint_text hints.Factorial = codes "5*4*3*2 for 5!"
hint_text hints.Power = codes "3^2 for pow(3, 2) or for a raised 2"
hint_text hints.Sum = codes "1 + 2 for sum(1, 2)"
hint_text hints.Root = codes "99/70 for sqrt(2), which is no fraction"
hint_text hints.Pi = codes "22/7 or 355/113 for pi, which is no fraction"
hint_text hints.Bracket = codes "(2+3) for [2+3]"
hint_text hints.Closing = codes "(2+3) for (2+3)), (2+) or ()"
hint_text hints.Unclosed = codes "(2+3) for (2+3"
hint_text hints.Proportion = codes "16/9 for 16:9"
hint_text hints.Lines = codes "1 and 2 on a line each for 1; 2"
hint_text hints.Note = codes "2+3 for 2+3 # a note"
hint_text hints.Equals = codes "2+3 for 2+3= or =2+3"
hint_text hints.Same = codes "1/2 = 0.5 for 1/2 == 0.5, and (x) = 1 for x == 1"
hint_text hints.Chain = codes "1 < 2 and then 2 < 3 for 1 < 2 < 3"
hint_text hints.TwoNames = codes "b = 1 and then a = b for a = b = 1"
hint_text hints.Turned = codes "2 <= 3 for 2 =< 3, 3 >= 2 for 3 => 2, and 2 != 3 for 2 <> 3"
hint_text hints.Increase = codes "x = x + 1 for x += 1"
hint_text hints.Assigned = codes "x = 3 for x := 3"
hint_text hints.GoingOn = codes "ans * 5 for * 5"
hint_text hints.OneOperator = codes "2 * 3 for 2 * / 3"
hint_text hints.PlainSpace = codes "a plain space"
hint_text hints.NameProduct = codes "x*(3+4) for x(3+4)"
hint_text hints.NameFirst = codes "x = 3 first, to use x"
hint_text hints.Calls = codes "floor(7/2), or another of abs, ceil, round, trunc, cents, min, max, gcd, lcm, nearest, between"

-- what the last line of a refusal ends with
-- Example: `Product`: `; type 2*(3+4) for 2(3+4)`
abbrev pub advice : Option Hint → List ℕ
advice None = []
advice (Some hint) = codes "; type " ++ hint_text hint
