-- The trees of expressions, how each is spelled, and which list of tokens has which tree.
use Rattle.std.specs.Prelude.{◌≡◌, ◌≤◌, ◌+◌, ℕ, List, [], ◌∷◌, ◌++◌, nat_le, if◌then◌else◌}
use Rattle.ratio_expressions.specs.declared.token.Span.{Span}
use Rattle.ratio_expressions.specs.declared.token.Operator.{Operator}
use Rattle.ratio_expressions.specs.declared.token.Operator.TheVariants.{Less, AtMost, Equal, NotEqual, AtLeast, Greater, Add, Subtract, Multiply, Divide, Remainder, Power}
use Rattle.ratio_expressions.specs.declared.token.Spacing.TheVariants.{Tight, Half, Wide}
use Rattle.ratio_expressions.specs.declared.token.Sign.{Sign}
use Rattle.ratio_expressions.specs.declared.token.Sign.TheVariants.{Plus, Minus}
use Rattle.ratio_expressions.specs.declared.token.Kind.TheVariants as kinds
use Rattle.ratio_expressions.specs.declared.token.Token.{Token}
use Rattle.ratio_expressions.specs.declared.step.Step.{Step}
use Rattle.ratio_expressions.specs.declared.step.Step.TheVariants as steps

-- an expression, or the arguments of a call with commas between them, with the place of each of the tokens
pub data Tree : Type 0 where
  Number : Span → Tree
  Name : Span → Tree
  Signed : Sign → Span → Tree → Tree
  Between : Operator → Span → Tree → Tree → Tree
  Group : Span → Tree → Span → Tree
  Call : Span → Span → Tree → Span → Tree
  Listed : Tree → Span → Tree → Tree

-- the operator that a sign is spelled as
abbrev pub sign_operator : Sign → Operator
sign_operator Plus = Add
sign_operator Minus = Subtract

-- the tokens of an expression, from left to right
abbrev pub spelling : Tree → List Token
spelling (Number s) = record { kind = kinds.Number; span = s } ∷ []
spelling (Name s) = record { kind = kinds.Name; span = s } ∷ []
spelling (Signed g s t) = record { kind = kinds.Operator (sign_operator g); span = s } ∷ spelling t
spelling (Between o s a b) = spelling a ++ (record { kind = kinds.Operator o; span = s } ∷ spelling b)
spelling (Group s t e) = record { kind = kinds.Open; span = s } ∷ (spelling t ++ record { kind = kinds.Close; span = e } ∷ [])
spelling (Call n s t e) = record { kind = kinds.Name; span = n } ∷ (record { kind = kinds.Open; span = s } ∷ (spelling t ++ record { kind = kinds.Close; span = e } ∷ []))
spelling (Listed a s b) = spelling a ++ (record { kind = kinds.Comma; span = s } ∷ spelling b)

-- the operators by how tightly they bind: `^` first, then `*`, `/` and `%` from the left, then `+` and `-`, then comparisons. Right of a `/` or a `%`
-- with a space on both sides, a chain of slashes without spaces is taken whole, so `1/2 / 1/3` is 3/2
pub data Rank : Type 0 where
  Comparison : Rank
  Sum : Rank
  Quotient : Rank
  Product : Rank
  Slash : Rank
  Raising : Rank

-- the rank of each operator
abbrev pub rank : Operator → Rank
rank Less = Comparison
rank AtMost = Comparison
rank Equal = Comparison
rank NotEqual = Comparison
rank AtLeast = Comparison
rank Greater = Comparison
rank Add = Sum
rank Subtract = Sum
rank Multiply = Product
rank (Divide Wide) = Quotient
rank (Divide Half) = Product
rank (Divide Tight) = Slash
rank (Remainder Wide) = Quotient
rank (Remainder s) = Product
rank Power = Raising

-- how tightly an operator binds; arguments with a comma between them are at 2, a sign before an operand is at 7, and an operand at 9
abbrev pub level : Rank → ℕ
level Comparison = 1
level Sum = 3
level Quotient = 4
level Product = 5
level Slash = 6
level Raising = 8

-- how tightly the expression on the left of an operator must bind: `+ -` and `* / %` go from left to right, `^` wants an operand
abbrev pub left_level : Rank → ℕ
left_level Comparison = 3
left_level Sum = 3
left_level Quotient = 4
left_level Product = 4
left_level Slash = 5
left_level Raising = 9

-- how tightly the expression on the right must bind: right of `/` or `%` with spaces is a chain, and `^` goes from right to left, and takes a sign
abbrev pub right_level : Rank → ℕ
right_level Comparison = 3
right_level Sum = 4
right_level Quotient = 6
right_level Product = 7
right_level Slash = 7
right_level Raising = 7

-- how tightly an expression binds whose operator has this rank, and whose left side binds so tightly: slashes without spaces are a chain, if no `*`
-- is before them
-- Example: `1/2/3`: 6; `2*3/4`: 5
abbrev pub joined : Rank → ℕ → ℕ
joined Slash left = if nat_le 6 left then 6 else 5
joined r left = level r

-- how tightly an expression binds
abbrev pub binds : Tree → ℕ
binds (Number s) = 9
binds (Name s) = 9
binds (Signed g s t) = 7
binds (Between o s a b) = joined (rank o) (binds a)
binds (Group s t e) = 9
binds (Call n s t e) = 9
binds (Listed a s b) = 2

-- how many arguments there are: 1, and one more for each comma
-- Example: `1, 2` in `max(1, 2)`: 2
abbrev pub arguments : Tree → ℕ
arguments (Number s) = 1
arguments (Name s) = 1
arguments (Signed g s t) = 1
arguments (Between o s a b) = 1
arguments (Group s t e) = 1
arguments (Call n s t e) = 1
arguments (Listed a s b) = arguments a + 1

-- each operator has operands that bind tightly enough, a comparison is in no parentheses, and a comma only in those of a call
abbrev pub IsProper : Tree → Type 0
IsProper (Number s) = Unit {0}
IsProper (Name s) = Unit {0}
IsProper (Signed g s t) = (7 ≤ binds t) × IsProper t
IsProper (Between o s a b) = (left_level (rank o) ≤ binds a) × (right_level (rank o) ≤ binds b) × IsProper a × IsProper b
IsProper (Group s t e) = (3 ≤ binds t) × IsProper t
IsProper (Call n s t e) = (2 ≤ binds t) × IsProper t
IsProper (Listed a s b) = (2 ≤ binds a) × (3 ≤ binds b) × IsProper a × IsProper b

-- the tokens are an expression, and this is its tree
pub record HasTree (tokens : List Token) (t : Tree) : Type 0 where
  pub spelled : spelling t ≡ tokens
  pub single : arguments t ≡ 1
  pub proper : IsProper t

-- some expression begins with the tokens
pub record IsBegun (tokens : List Token) : Type 0 where
  pub more : List Token
  pub tree : Tree
  pub has : HasTree (tokens ++ more) tree

-- the tree in postfix order: the operands of an operator come before it
abbrev pub postfix : Tree → List Step
postfix (Number s) = steps.Number s ∷ []
postfix (Name s) = steps.Name s ∷ []
postfix (Signed g s t) = postfix t ++ steps.Sign g s ∷ []
postfix (Between o s a b) = postfix a ++ (postfix b ++ steps.Apply o s ∷ [])
postfix (Group s t e) = postfix t ++ steps.Group s e ∷ []
postfix (Call n s t e) = postfix t ++ steps.Call (record { name = n; opening = s; closing = e; arguments = arguments t }) ∷ []
postfix (Listed a s b) = postfix a ++ (postfix b ++ steps.Comma s ∷ [])
