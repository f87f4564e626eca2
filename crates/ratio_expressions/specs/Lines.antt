-- What a line is worth, and what its value is named.
use Rattle.std.specs.Prelude.{◌≡◌, ◌⊎◌, ℕ, List, codes, Option, Some, None, if◌then◌else◌}
use Rattle.std.specs.Str.{bytes_eq}
use Rattle.ratio_expressions.specs.declared.refusal.Refusal.{Refusal}
use Rattle.ratio_expressions.specs.declared.token.Operator.TheVariants.{Equal}
use Rattle.ratio_expressions.specs.declared.token.Span.{Span}
use Rattle.ratio_expressions.specs.declared.step.Step.{Step}
use Rattle.ratio_expressions.specs.Answers.{IsUnread}
use Rattle.ratio_expressions.specs.Expression.{IsExpression}
use Rattle.ratio_expressions.specs.Grammar.{Tree, Name, Between, postfix}
use Rattle.ratio_expressions.specs.Nesting.{IsShallow}
use Rattle.ratio_expressions.specs.Values.{HasRefusal, IsWorth, piece}
use Rattle.ratio_expressions.specs.Worths.{Worth}

-- the name that a line gives its value, if it has one: it is on the left of the line's `=`
-- Example: `x = 3/7`: `x`
abbrev pub target : Tree → Option Span
target (Between Equal s (Name n) t) = Some n
target t = None

-- the expression whose value a line has: what is on the right of that `=`, and else the whole
-- Example: `x = 3/7`: `3/7`
abbrev pub valued : Tree → Tree
valued (Between Equal s (Name n) t) = t
valued t = t

-- what each name is worth once a value has this name
abbrev pub with_name : (List ℕ → Option Worth) → List ℕ → Worth → List ℕ → Option Worth
with_name named name w other = if bytes_eq name other then Some w else named other

-- the same, if there is a name
abbrev pub with_target : List ℕ → (List ℕ → Option Worth) → Option Span → Worth → List ℕ → Option Worth
with_target text named None w other = named other
with_target text named (Some s) w other = with_name named (piece text s) w other

-- what each name is worth behind a line with this tree and value: its own name has the value, and `ans` has it
-- Example: `x = 3/7`: `x` is 3/7, and `ans`
abbrev pub named_behind : List ℕ → (List ℕ → Option Worth) → Tree → Worth → List ℕ → Option Worth
named_behind text named t w other = with_name (with_target text named (target t) w) (codes "ans") w other

-- the line is worth this, with what each name is worth, and behind it the names are worth what `behind` says
-- Example: `x = 3/7`: 3/7
pub record IsLineWorth (text : List ℕ) (named : List ℕ → Option Worth) (w : Worth) (behind : List ℕ → Option Worth) : Type 0 where
  pub tree : Tree
  pub has : IsExpression text tree
  pub shallow : IsShallow text
  pub value : IsWorth text named (valued tree) w
  pub names : (other : List ℕ) → behind other ≡ named_behind text named tree w other

-- each name is worth what it was, or what it is behind the line
-- Example: `x = 3/7`: x and `ans` are what they were, or 3/7, and each other name is what it was
abbrev pub AreOldOrNew : List ℕ → (List ℕ → Option Worth) → (List ℕ → Option Worth) → Type 0
AreOldOrNew text named now = (other : List ℕ) → (now other ≡ named other) ⊎ ((w : Worth) × (behind : List ℕ → Option Worth) × IsLineWorth text named w behind × (now other ≡ behind other))

-- Inner: each name is worth what it was, or what it is once the value of these steps has the name at a place, if there is one, and `ans`
abbrev pub AreOldOrPut : List ℕ → List Step → (List ℕ → Option Worth) → Option Span → (List ℕ → Option Worth) → Type 0
AreOldOrPut text written named name now = (other : List ℕ) → (now other ≡ named other)
    ⊎ ((w : Worth) × ((t : Tree) → written ≡ postfix t → IsWorth text named t w) × (now other ≡ with_name (with_target text named name w) (codes "ans") w other))

-- the line has a tree, and its expression has this refusal
-- Example: `x = y`, without a y: `UnknownName`, at 4
pub record HasLineTreeRefusal (text : List ℕ) (named : List ℕ → Option Worth) (r : Refusal) : Type 0 where
  pub tree : Tree
  pub has : IsExpression text tree
  pub shallow : IsShallow text
  pub refusal : HasRefusal text named (valued tree) r

-- the line is not read up to its end, or it has a tree, and this is its refusal
-- Example: `x = 1/0`: `ZeroDenominator`, at 4
abbrev pub HasLineRefusal : List ℕ → (List ℕ → Option Worth) → Refusal → Type 0
HasLineRefusal text named r = IsUnread text r ⊎ HasLineTreeRefusal text named r
