-- Which chains of slashes are taken whole, and how a text shows that.
use Rattle.std.specs.Prelude.{◌≡◌, ◌+◌, ℕ, Bool, true, false, List, [], ◌∷◌, ◌++◌, length, Option, Some, None, ◌==◌, nat_lt, if◌then◌else◌}
use Rattle.std.specs.List.{list_any}
use Rattle.ratio_expressions.specs.declared.token.Operator.{Operator}
use Rattle.ratio_expressions.specs.declared.token.Operator.TheVariants.{Divide, Remainder}
use Rattle.ratio_expressions.specs.declared.token.Spacing.TheVariants.{Tight, Wide}
use Rattle.ratio_expressions.specs.declared.token.Span.{Span}
use Rattle.ratio_expressions.specs.declared.step.Step.{Step}
use Rattle.ratio_expressions.specs.declared.step.Step.TheVariants as steps
use Rattle.ratio_expressions.specs.declared.slashes.Part.{Part}
use Rattle.ratio_expressions.specs.Expression.{IsExpression}
use Rattle.ratio_expressions.specs.Grammar.{Tree, Number, Name, Signed, Between, Group, Call, Listed}
use Rattle.ratio_expressions.specs.Nesting.{IsShallow}

-- where the first token of an expression begins
-- Example: `-2*3` behind a space: 1
abbrev pub first_place : Tree → ℕ
first_place (Number s) = s.start
first_place (Name s) = s.start
first_place (Signed g s t) = s.start
first_place (Between o s a b) = first_place a
first_place (Group s t e) = s.start
first_place (Call n s t e) = n.start
first_place (Listed a s b) = first_place a

-- where the last token of an expression ends
-- Example: `-2*3` behind a space: 5
abbrev pub last_place : Tree → ℕ
last_place (Number s) = s.end
last_place (Name s) = s.end
last_place (Signed g s t) = last_place t
last_place (Between o s a b) = last_place b
last_place (Group s t e) = e.end
last_place (Call n s t e) = e.end
last_place (Listed a s b) = last_place b

-- where an expression is, from its first token to its last
abbrev pub place_of : Tree → Span
place_of t = record { start = first_place t; end = last_place t }

-- whether an operator is a slash without spaces
abbrev pub is_tight : Operator → Bool
is_tight (Divide Tight) = true
is_tight o = false

-- whether slashes without spaces make the expression
-- Example: `1/2`; not `1/2*3`
abbrev pub is_slashed : Tree → Bool
is_slashed (Between o s a b) = is_tight o
is_slashed t = false

-- the right side of an operator, if it is a chain that is taken whole: right of a `/` or a `%` with a space on both sides
abbrev pub whole_side : Operator → Bool → Span → List Span
whole_side (Divide Wide) true s = s ∷ []
whole_side (Remainder Wide) true s = s ∷ []
whole_side o slashed s = []

-- the chains of an expression that are taken whole
-- Example: `1/2 / 1/3`: `1/3`, from 6 to 9
abbrev pub whole_chains : Tree → List Span
whole_chains (Number s) = []
whole_chains (Name s) = []
whole_chains (Signed g s t) = whole_chains t
whole_chains (Between o s a b) = whole_chains a ++ (whole_chains b ++ whole_side o (is_slashed b) (place_of b))
whole_chains (Group s t e) = whole_chains t
whole_chains (Call n s t e) = whole_chains t
whole_chains (Listed a s b) = whole_chains a ++ whole_chains b

-- a byte, if it is shown
abbrev pub byte_if : Bool → ℕ → List ℕ
byte_if true b = b ∷ []
byte_if false b = []

-- the parentheses at a place: a closing one, if a chain ends there, and an opening one, if one begins there
abbrev pub marks_at : List Span → ℕ → List ℕ
marks_at chains at = byte_if (list_any (λ s. s.end == at) chains) 41 ++ byte_if (list_any (λ s. s.start == at) chains) 40

-- the rest of a text from this place on, with parentheses around the chains
abbrev pub shown_from : List Span → ℕ → List ℕ → List ℕ
shown_from chains at [] = marks_at chains at
shown_from chains at (b ∷ rest) = marks_at chains at ++ (b ∷ shown_from chains (at + 1) rest)

-- how long a text may be that is shown: 1,000 bytes
abbrev pub longest_shown : ℕ
longest_shown = 1000

-- the text with parentheses around these chains, if there are some and the text is no longer than that
abbrev pub shown_with : List Span → List ℕ → Option (List ℕ)
shown_with [] text = None
shown_with (s ∷ chains) text = if nat_lt longest_shown (length text) then None else Some (shown_from (s ∷ chains) 0 text)

-- the text shows how its slashes are read: with parentheses around each chain that is taken whole, if there is one
-- Example: `1/2 / 1/3`: `1/2 / (1/3)`; `1/2/3`: none
pub record IsShownAs (text : List ℕ) (shown : Option (List ℕ)) : Type 0 where
  pub same : (t : Tree) → IsExpression text t → IsShallow text → shown ≡ shown_with (whole_chains t) text

-- Inner: where a part of an expression is, and whether slashes make it
abbrev pub part_of : Tree → Part
part_of t = record { place = place_of t; slashed = is_slashed t }

-- Inner: a part from one place to another
abbrev pub part_at : ℕ → ℕ → Bool → Part
part_at start end slashed = record { place = record { start = start; end = end }; slashed = slashed }

-- Inner: the parts behind a step, the last one first
abbrev pub parts_by : Step → List Part → List Part
parts_by (steps.Number s) ps = part_at s.start s.end false ∷ ps
parts_by (steps.Name s) ps = part_at s.start s.end false ∷ ps
parts_by (steps.Sign g s) (p ∷ ps) = part_at s.start p.place.end false ∷ ps
parts_by (steps.Apply o s) (q ∷ (p ∷ ps)) = part_at p.place.start q.place.end (is_tight o) ∷ ps
parts_by (steps.Group s e) (p ∷ ps) = part_at s.start e.end false ∷ ps
parts_by (steps.Comma s) (q ∷ (p ∷ ps)) = part_at p.place.start q.place.end false ∷ ps
parts_by (steps.Call c) (p ∷ ps) = part_at c.name.start c.closing.end false ∷ ps
parts_by x ps = []

-- Inner: the chain that a step takes whole, if it does
abbrev pub chains_by : Step → List Part → List Span
chains_by (steps.Apply o s) (q ∷ ps) = whole_side o q.slashed q.place
chains_by x ps = []
