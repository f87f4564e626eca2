-- What a text is worth, and where it is refused.
use Rattle.std.specs.Prelude.{◌≡◌, ◌⊎◌, ℕ, List, Option}
use Rattle.ratio_expressions.specs.declared.refusal.Refusal.{Refusal}
use Rattle.ratio_expressions.specs.declared.refusal.Reason.TheVariants as reasons
use Rattle.ratio_expressions.specs.Expression.{IsExpression, IsRefusal}
use Rattle.ratio_expressions.specs.Grammar.{Tree}
use Rattle.ratio_expressions.specs.Nesting.{IsShallow, IsTooDeep}
use Rattle.ratio_expressions.specs.Values.{HasRefusal, IsWorth}
use Rattle.ratio_expressions.specs.Worths.{Worth}

-- the text has a tree, and this is what it is worth, with what each name is worth
-- Example: `1/3 + 0.25`: 7/12
pub record IsTextWorth (text : List ℕ) (named : List ℕ → Option Worth) (w : Worth) : Type 0 where
  pub tree : Tree
  pub has : IsExpression text tree
  pub shallow : IsShallow text
  pub value : IsWorth text named tree w

-- the text has a tree, and this is its refusal
-- Example: `2 + x`, without an x: `UnknownName`, at 4
pub record HasTreeRefusal (text : List ℕ) (named : List ℕ → Option Worth) (r : Refusal) : Type 0 where
  pub tree : Tree
  pub has : IsExpression text tree
  pub shallow : IsShallow text
  pub refusal : HasRefusal text named tree r

-- at this place the text is too deep; or else no expression goes on there
-- Example: `2 + )`: `NoExpression`, at 4
abbrev pub IsUnread : List ℕ → Refusal → Type 0
IsUnread text r = ((r.reason ≡ reasons.TooDeep) × IsTooDeep text r.place) ⊎ ((r.reason ≡ reasons.NoExpression) × IsShallow text × IsRefusal text r.place)

-- the text is not read up to its end, or it has a tree, and this is its refusal
-- Example: `2 + )`: `NoExpression`, at 4
abbrev pub HasTextRefusal : List ℕ → (List ℕ → Option Worth) → Refusal → Type 0
HasTextRefusal text named r = IsUnread text r ⊎ HasTreeRefusal text named r
