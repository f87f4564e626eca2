-- Inner: how the steps of a tree are taken, one after another, over a stack of values.
use Rattle.std.specs.Prelude.{◌≡◌, ◌≤◌, ℕ, ℤ, List, [], ◌∷◌, length, map, reverse, take, drop, Option, Some, None}
use Rattle.ratio_expressions.specs.declared.token.Operator.TheVariants.{Equal}
use Rattle.ratio_expressions.specs.declared.token.Span.{Span}
use Rattle.ratio_expressions.specs.declared.step.Step.{Step}
use Rattle.ratio_expressions.specs.declared.step.Step.TheVariants as steps
use Rattle.ratio_expressions.specs.declared.refusal.Refusal.{Refusal}
use Rattle.ratio_expressions.specs.declared.refusal.Reason.TheVariants as reasons
use Rattle.ratio_expressions.specs.declared.refusal.ValueError.{ValueError}
use Rattle.ratio_expressions.specs.declared.refusal.ValueError.TheVariants as errors
use Rattle.ratio_expressions.specs.declared.value.Value.{Value}
use Rattle.ratio_expressions.specs.Calls.{GivesCall, RefusesCall}
use Rattle.ratio_expressions.specs.Grammar.{Tree, Number, Name, Signed, Between, Group, Call, Listed, IsProper, arguments, postfix}
use Rattle.ratio_expressions.specs.Numbers.{SaysNumber, SaysNoNumber}
use Rattle.ratio_expressions.specs.Operators.{GivesWorth, RefusesWorths, IsSignedWorth, IsTrueOrFalse}
use Rattle.ratio_expressions.specs.Values.{piece, IsRefusedAt}
use Rattle.ratio_expressions.specs.Worths.{Worth, Amount, worth}

-- Inner: the error is for want of memory, or it is a refusal of which P holds
abbrev pub FailsWith : (Refusal → Type 0) → ValueError → Type 0
FailsWith P errors.Memory = Unit {0}
FailsWith P (errors.Refused r) = P r

-- Inner: the steps are those of some expression
pub record AreOfTree (written : List Step) : Type 0 where
  pub tree : Tree
  pub proper : IsProper tree
  pub single : arguments tree ≡ 1
  pub same : written ≡ postfix tree

-- Inner: a number or a name, of a call too, is in the text
abbrev pub IsStepWithin : List ℕ → Step → Type 0
IsStepWithin text (steps.Number s) = (s.start ≤ s.end) × (s.end ≤ length text)
IsStepWithin text (steps.Name s) = (s.start ≤ s.end) × (s.end ≤ length text)
IsStepWithin text (steps.Call c) = (c.name.start ≤ c.name.end) × (c.name.end ≤ length text)
IsStepWithin text x = Unit {0}

-- Inner: the trees that a step makes, the last one first. `None` if there are too few
abbrev pub trees_by : Step → List Tree → Option (List Tree)
trees_by (steps.Number s) ts = Some (Number s ∷ ts)
trees_by (steps.Name s) ts = Some (Name s ∷ ts)
trees_by (steps.Sign g s) [] = None
trees_by (steps.Sign g s) (t ∷ ts) = Some (Signed g s t ∷ ts)
trees_by (steps.Apply o s) [] = None
trees_by (steps.Apply o s) (b ∷ []) = None
trees_by (steps.Apply o s) (b ∷ (a ∷ ts)) = Some (Between o s a b ∷ ts)
trees_by (steps.Group s e) [] = None
trees_by (steps.Group s e) (t ∷ ts) = Some (Group s t e ∷ ts)
trees_by (steps.Comma s) [] = None
trees_by (steps.Comma s) (b ∷ []) = None
trees_by (steps.Comma s) (b ∷ (a ∷ ts)) = Some (Listed a s b ∷ ts)
trees_by (steps.Call c) [] = None
trees_by (steps.Call c) (t ∷ ts) = Some (Call c.name c.opening t c.closing ∷ ts)

-- Inner: the trees that steps make
abbrev pub grow : List Step → Option (List Tree) → Option (List Tree)
grow [] ts = ts
grow (x ∷ xs) None = None
grow (x ∷ xs) (Some ts) = grow xs (trees_by x ts)

-- Inner: the steps make one tree, however many arguments they say that a call has
pub record MakeOneTree (written : List Step) : Type 0 where
  pub tree : Tree
  pub makes : grow written (Some []) ≡ Some (tree ∷ [])

-- Inner: how many trees a step takes
abbrev pub operands : Step → ℕ
operands (steps.Number s) = 0
operands (steps.Name s) = 0
operands (steps.Sign g s) = 1
operands (steps.Apply o s) = 2
operands (steps.Group s e) = 1
operands (steps.Comma s) = 2
operands (steps.Call c) = 1

-- Inner: how many values a step takes from the stack. Those of arguments stay there, until their call takes them all
abbrev pub values_taken : Step → ℕ
values_taken (steps.Number s) = 0
values_taken (steps.Name s) = 0
values_taken (steps.Sign g s) = 1
values_taken (steps.Apply o s) = 2
values_taken (steps.Group s e) = 0
values_taken (steps.Comma s) = 0
values_taken (steps.Call c) = c.arguments

-- Inner: the step is a `=`
abbrev pub IsEqualSign : Step → Type 0
IsEqualSign (steps.Apply Equal s) = Unit {0}
IsEqualSign x = ⊥

-- Inner: what the values of a stack are worth, the last one first
abbrev pub worths : List Value → List Worth
worths stack = map worth (reverse stack)

module _ (text : List ℕ) (named : List ℕ → Option Worth) where
  -- Inner: a step makes the second stack of the first one
  abbrev pub TakesStep : Step → List Worth → List Worth → Type 0
  TakesStep (steps.Number s) ws vs = (x : ℤ × ℤ) × SaysNumber (piece text s) x × (vs ≡ Amount x ∷ ws)
  TakesStep (steps.Name s) ws vs = (w : Worth) × (named (piece text s) ≡ Some w) × (vs ≡ w ∷ ws)
  TakesStep (steps.Sign g s) [] vs = ⊥
  TakesStep (steps.Sign g s) (v ∷ ws) vs = (w : Worth) × IsSignedWorth g v w × (vs ≡ w ∷ ws)
  TakesStep (steps.Apply o s) [] vs = ⊥
  TakesStep (steps.Apply o s) (v ∷ []) vs = ⊥
  TakesStep (steps.Apply o s) (v ∷ (u ∷ ws)) vs = (w : Worth) × GivesWorth o u v w × (vs ≡ w ∷ ws)
  TakesStep (steps.Group s e) ws vs = vs ≡ ws
  TakesStep (steps.Comma s) ws vs = vs ≡ ws
  TakesStep (steps.Call c) ws vs = (w : Worth) × GivesCall (piece text c.name) (reverse (take c.arguments ws)) w × (vs ≡ w ∷ drop c.arguments ws)

  -- Inner: a step is refused over this stack
  abbrev pub StopsAtStep : Step → List Worth → Refusal → Type 0
  StopsAtStep (steps.Number s) ws r = SaysNoNumber (piece text s) r.reason × (r.place ≡ s.start)
  StopsAtStep (steps.Name s) ws r = (named (piece text s) ≡ None) × IsRefusedAt s reasons.UnknownName r
  StopsAtStep (steps.Sign g s) [] r = ⊥
  StopsAtStep (steps.Sign g s) (v ∷ ws) r = IsTrueOrFalse v × IsRefusedAt s reasons.NotNumber r
  StopsAtStep (steps.Apply o s) [] r = ⊥
  StopsAtStep (steps.Apply o s) (v ∷ []) r = ⊥
  StopsAtStep (steps.Apply o s) (v ∷ (u ∷ ws)) r = RefusesWorths o u v r.reason × (r.place ≡ s.start)
  StopsAtStep (steps.Group s e) ws r = ⊥
  StopsAtStep (steps.Comma s) ws r = ⊥
  StopsAtStep (steps.Call c) ws r = RefusesCall (piece text c.name) (reverse (take c.arguments ws)) r.reason × (r.place ≡ c.name.start)
