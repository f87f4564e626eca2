-- How deep the parentheses of a text are.
use Rattle.std.specs.Prelude.{◌≡◌, ◌<◌, ◌≤◌, ◌+◌, ◌-◌, ℕ, List, [], ◌∷◌, ◌++◌, nat_le, if◌then◌else◌}
use Rattle.ratio_expressions.specs.declared.token.Kind.{Kind}
use Rattle.ratio_expressions.specs.declared.token.Kind.TheVariants as kinds
use Rattle.ratio_expressions.specs.declared.token.Token.{Token}
use Rattle.ratio_expressions.specs.Tokens.{IsCutInto, IsTokenAt}

-- how many parentheses may be open at once: 1,000
abbrev pub most_open : ℕ
most_open = 1000

-- how many parentheses are open behind a token, if n were open before it
-- Example: a closing one, behind 3: 2
abbrev pub open_behind : Kind → ℕ → ℕ
open_behind kinds.Open n = n + 1
open_behind kinds.Close n = n - 1
open_behind kinds.Number n = n
open_behind kinds.Name n = n
open_behind (kinds.Operator o) n = n
open_behind kinds.Comma n = n

-- how many are open behind all of these tokens, if n were open before them
-- Example: `((2)`, behind none: 1
abbrev pub open_after : ℕ → List Token → ℕ
open_after n [] = n
open_after n (t ∷ ts) = open_after (open_behind t.kind n) ts

-- the greater of two numbers
abbrev pub greater : ℕ → ℕ → ℕ
greater m n = if nat_le m n then n else m

-- the most parentheses that are open at once in these tokens, if n were open before them
-- Example: `((2) + 3)`, behind none: 2
abbrev pub depth_from : ℕ → List Token → ℕ
depth_from n [] = n
depth_from n (t ∷ ts) = greater n (depth_from (open_behind t.kind n) ts)

-- the most parentheses that are open at once
-- Example: `((2) + 3)`: 2
abbrev pub depth : List Token → ℕ
depth tokens = depth_from 0 tokens

-- up to this place no more than 1,000 parentheses are open at once, and with the token there more are
pub record IsTooDeep (text : List ℕ) (at : ℕ) : Type 0 where
  pub tokens : List Token
  pub token : Token
  pub cut : IsCutInto text 0 at tokens
  pub here : IsTokenAt text token
  pub place : token.span.start ≡ at
  pub before : depth tokens ≤ most_open
  pub deep : most_open < depth (tokens ++ token ∷ [])

-- at no place more than 1,000 parentheses are open
abbrev pub IsShallow : List ℕ → Type 0
IsShallow text = (at : ℕ) → ¬ (IsTooDeep text at)
