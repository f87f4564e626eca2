-- How tokens are read, one after another: what waits, and the steps that are written.
use Rattle.std.specs.Prelude.{◌≡◌, ◌<◌, ◌≤◌, ◌+◌, ℕ, Bool, true, false, List, [], ◌∷◌, ◌++◌, length, take, reverse, Option, Some, None, nat_le, if◌then◌else◌}
use Rattle.ratio_expressions.specs.declared.token.Span.{Span}
use Rattle.ratio_expressions.specs.declared.token.Operator.{Operator}
use Rattle.ratio_expressions.specs.declared.token.Operator.TheVariants.{Add, Subtract}
use Rattle.ratio_expressions.specs.declared.token.Sign.TheVariants.{Plus, Minus}
use Rattle.ratio_expressions.specs.declared.token.Kind.{Kind}
use Rattle.ratio_expressions.specs.declared.token.Kind.TheVariants as kinds
use Rattle.ratio_expressions.specs.declared.token.Token.{Token}
use Rattle.ratio_expressions.specs.declared.step.Step.{Step}
use Rattle.ratio_expressions.specs.declared.step.Step.TheVariants as steps
use Rattle.ratio_expressions.specs.declared.parser.mark.Mark.{Mark}
use Rattle.ratio_expressions.specs.declared.parser.mark.Mark.TheVariants.{Prefix, Half, Opened, Called, Comma}
use Rattle.ratio_expressions.specs.declared.parser.error.ParseError.{ParseError}
use Rattle.ratio_expressions.specs.declared.parser.error.ParseError.TheVariants as errors
use Rattle.ratio_expressions.specs.Grammar.{rank, level, left_level, right_level}

-- Inner: what waits, the last first, and the steps written so far
pub record Work : Type 0 where
  pub marks : List Mark
  pub written : List Step

-- Inner: the work, and whether an operand comes next
pub record State : Type 0 where
  pub work : Work
  pub wants : Bool

-- Inner: the step that a mark becomes when what is right of it is read
abbrev pub step_of : Mark → Step
step_of (Prefix g s) = steps.Sign g s
step_of (Half o s) = steps.Apply o s
step_of (Opened s) = steps.Group s s
step_of (Called n s k) = steps.Call (record { name = n; opening = s; closing = s; arguments = k })
step_of (Comma s) = steps.Comma s

-- Inner: how tightly the expression binds that a mark becomes; a parenthesis becomes none
abbrev pub mark_level : Mark → ℕ
mark_level (Prefix g s) = 7
mark_level (Half o s) = level (rank o)
mark_level (Opened s) = 0
mark_level (Called n s k) = 0
mark_level (Comma s) = 2

-- Inner: how tightly an expression must bind to stand right of a mark
abbrev pub mark_room : Mark → ℕ
mark_room (Prefix g s) = 7
mark_room (Half o s) = right_level (rank o)
mark_room (Opened s) = 3
mark_room (Called n s k) = 2
mark_room (Comma s) = 3

-- Inner: the same for what waits
abbrev pub room : List Mark → ℕ
room [] = 0
room (m ∷ ms) = mark_room m

-- Inner: the marks that bind at least so tightly become steps, from the last on
abbrev pub settle : ℕ → List Mark → List Step → Work
settle n [] out = record { marks = []; written = out }
settle n (m ∷ ms) out = if nat_le n (mark_level m) then settle n ms (out ++ step_of m ∷ []) else record { marks = m ∷ ms; written = out }

-- Inner: an operator is read behind an operand, when what binds more tightly is settled
abbrev pub with_operator : Operator → Span → Work → Option State
with_operator o s w = if nat_le (room w.marks) (level (rank o)) then Some (record { work = record { marks = Half o s ∷ w.marks; written = w.written }; wants = true }) else None

-- Inner: a closing parenthesis is read, when what is inside is settled
abbrev pub with_close : Span → List Mark → List Step → Option State
with_close e [] out = None
with_close e (Prefix g s ∷ ms) out = None
with_close e (Half o s ∷ ms) out = None
with_close e (Opened s ∷ ms) out = Some (record { work = record { marks = ms; written = out ++ steps.Group s e ∷ [] }; wants = false })
with_close e (Called n s k ∷ ms) out = Some (record { work = record { marks = ms; written = out ++ steps.Call (record { name = n; opening = s; closing = e; arguments = k }) ∷ [] }; wants = false })
with_close e (Comma s ∷ ms) out = None

-- Inner: a comma is read in a call, when what is before it is settled
abbrev pub with_comma : Span → List Mark → List Step → Option State
with_comma e [] out = None
with_comma e (Prefix g s ∷ ms) out = None
with_comma e (Half o s ∷ ms) out = None
with_comma e (Opened s ∷ ms) out = None
with_comma e (Called n s k ∷ ms) out = Some (record { work = record { marks = Comma e ∷ (Called n s (k + 1) ∷ ms); written = out }; wants = true })
with_comma e (Comma s ∷ ms) out = None

-- Inner: an opening parenthesis is read behind a name; the steps are the last first
abbrev pub with_call : Span → List Mark → List Step → Option State
with_call s ms [] = None
with_call s ms (steps.Number n ∷ out) = None
with_call s ms (steps.Name n ∷ out) = Some (record { work = record { marks = Called n s 1 ∷ ms; written = reverse out }; wants = true })
with_call s ms (steps.Sign g n ∷ out) = None
with_call s ms (steps.Apply o n ∷ out) = None
with_call s ms (steps.Group n e ∷ out) = None
with_call s ms (steps.Comma n ∷ out) = None
with_call s ms (steps.Call n ∷ out) = None

-- Inner: an operand is read
abbrev pub with_operand : Step → Work → Option State
with_operand x w = Some (record { work = record { marks = w.marks; written = w.written ++ x ∷ [] }; wants = false })

-- Inner: a mark is put down before an operand
abbrev pub with_mark : Mark → Work → Option State
with_mark m w = Some (record { work = record { marks = m ∷ w.marks; written = w.written }; wants = true })

-- Inner: a token is read where an operand comes
abbrev pub at_operand : Kind → Span → Work → Option State
at_operand kinds.Number s w = with_operand (steps.Number s) w
at_operand kinds.Name s w = with_operand (steps.Name s) w
at_operand (kinds.Operator Add) s w = with_mark (Prefix Plus s) w
at_operand (kinds.Operator Subtract) s w = with_mark (Prefix Minus s) w
at_operand (kinds.Operator o) s w = None
at_operand kinds.Open s w = with_mark (Opened s) w
at_operand kinds.Close s w = None
at_operand kinds.Comma s w = None

-- Inner: a token is read behind an operand
abbrev pub behind_operand : Kind → Span → Work → Option State
behind_operand kinds.Number s w = None
behind_operand kinds.Name s w = None
behind_operand (kinds.Operator o) s w = with_operator o s (settle (left_level (rank o)) w.marks w.written)
behind_operand kinds.Open s w = with_call s w.marks (reverse w.written)
behind_operand kinds.Close s w = let v = settle 2 w.marks w.written in with_close s v.marks v.written
behind_operand kinds.Comma s w = let v = settle 2 w.marks w.written in with_comma s v.marks v.written

-- Inner: a token is read
abbrev pub next_state : Bool → Kind → Span → Work → Option State
next_state true k s w = at_operand k s w
next_state false k s w = behind_operand k s w

-- Inner: a token is read, if none before it was refused
abbrev pub with_token : Token → Option State → Option State
with_token t None = None
with_token t (Some x) = next_state x.wants t.kind t.span x.work

-- Inner: tokens are read, one after another
abbrev pub run : List Token → Option State → Option State
run [] x = x
run (t ∷ ts) x = run ts (with_token t x)

-- Inner: nothing is read
abbrev pub start : Option State
start = Some (record { work = record { marks = []; written = [] }; wants = true })

-- Inner: the steps, if nothing waits
abbrev pub if_settled : List Mark → List Step → Option (List Step)
if_settled [] out = Some out
if_settled (m ∷ ms) out = None

-- Inner: the steps of the whole, at the end of the tokens
abbrev pub finish : Option State → Option (List Step)
finish None = None
finish (Some x) = if x.wants then None else (let v = settle 1 x.work.marks x.work.written in if_settled v.marks v.written)

-- Inner: the work, by the vectors that keep it
abbrev pub work_of : List Mark → List Step → Work
work_of marks written = record { marks = reverse marks; written = written }

-- Inner: the state, by the vectors that keep it
abbrev pub state_of : List Mark → List Step → Bool → State
state_of marks written wants = record { work = work_of marks written; wants = wants }

-- Inner: what reading a token returns is whether an operand comes next in the state, or `None` if there is none
abbrev pub IsNextState : Option State → List Mark → List Step → Option Bool → Type 0
IsNextState next marks written None = next ≡ None
IsNextState next marks written (Some wants) = next ≡ Some (state_of marks written wants)

-- Inner: the tokens before this one are read, and this one is not. Or all are read, and the end is refused
pub record IsRefusedAt (tokens : List Token) (at : ℕ) : Type 0 where
  pub bound : at ≤ length tokens
  pub before : State
  pub read : run (take at tokens) start ≡ Some before
  pub within : at < length tokens → run (take (at + 1) tokens) start ≡ None
  pub end : length tokens ≤ at → finish (run tokens start) ≡ None

-- Inner: all tokens are read, and these are their steps
abbrev pub Gives : List Token → List Step → Type 0
Gives tokens written = finish (run tokens start) ≡ Some written

-- Inner: the tokens are refused at this place, or memory ran out
abbrev pub Fails : List Token → ParseError → Type 0
Fails tokens errors.Memory = Unit {0}
Fails tokens (errors.RefusedToken at) = IsRefusedAt tokens at
