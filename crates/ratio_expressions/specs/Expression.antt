-- Which tree a text has, and where a text stops being an expression.
use Rattle.std.specs.Prelude.{◌≡◌, ◌⊎◌, ℕ, Bool, List, [], ◌∷◌, ◌++◌, length, nat_lt, nat_le, ◌||◌}
use Rattle.ratio_expressions.specs.declared.token.Token.{Token}
use Rattle.ratio_expressions.specs.Grammar.{Tree, HasTree, IsBegun}
use Rattle.ratio_expressions.specs.Tokens.{IsCutInto, IsTokenAt, BeginsNone}

-- the text is tokens, and these have this tree
-- Example: `2+3`: the sum of 2 and 3
pub record IsExpression (text : List ℕ) (t : Tree) : Type 0 where
  pub tokens : List Token
  pub cut : IsCutInto text 0 (length text) tokens
  pub has : HasTree tokens t

-- after these tokens, what is at this place goes on no expression: a token there does not, or none begins there, or the text ends there, and
-- the tokens have no tree
-- Example: 2, of `2+)`
abbrev pub RefusesText : List ℕ → List Token → ℕ → Type 0
RefusesText text tokens at =
    ((t : Token) × IsTokenAt text t × (t.span.start ≡ at) × (IsBegun (tokens ++ t ∷ []) → ⊥))
    ⊎ (BeginsNone text at ⊎ ((at ≡ length text) × ((t : Tree) → HasTree tokens t → ⊥)))

-- up to this place, the text is tokens that begin an expression, and what is there goes on none
-- Example: 2, of `2+)`
pub record IsRefusal (text : List ℕ) (at : ℕ) : Type 0 where
  pub tokens : List Token
  pub cut : IsCutInto text 0 at tokens
  pub begun : IsBegun tokens
  pub refuses : RefusesText text tokens at

-- whether a byte is the first one of a character in UTF-8
-- Example: 65, which is `A`
abbrev pub begins_character : ℕ → Bool
begins_character b = nat_lt b 128 || nat_le 192 b
