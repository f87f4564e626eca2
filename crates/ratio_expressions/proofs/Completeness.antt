-- The tokens of a proper tree are read, and its steps are written.
use Rattle.std.proofs.Common.{◌≡◌, ◌<◌, ◌≤◌, ◌+◌, ◌⊎◌, ⊎_elim, inl, inr, ℕ, Bool, true, false, List, [], ◌∷◌, ◌++◌, Option, Some, None, refl, ap, sym, ◌∙◌, reverse, arith, append_assoc, le-leb}
use Rattle.std.specs.Prelude.{if◌then◌else◌}
use Rattle.std.proofs.lemmas.Bool.{lt-leb}
use Rattle.std.proofs.lemmas.Bool.Decides.{leb_tells}
use Rattle.std.proofs.lemmas.List.{reverse-append, reverse-reverse}
use Rattle.ratio_expressions.specs.declared.token.Span.{Span}
use Rattle.ratio_expressions.specs.declared.token.Operator.{Operator}
use Rattle.ratio_expressions.specs.declared.token.Sign.{Sign}
use Rattle.ratio_expressions.specs.declared.token.Sign.TheVariants.{Plus, Minus}
use Rattle.ratio_expressions.specs.declared.token.Kind.TheVariants as kinds
use Rattle.ratio_expressions.specs.declared.token.Token.{Token}
use Rattle.ratio_expressions.specs.declared.step.Step.{Step}
use Rattle.ratio_expressions.specs.declared.step.Step.TheVariants as steps
use Rattle.ratio_expressions.specs.declared.parser.mark.Mark.{Mark}
use Rattle.ratio_expressions.specs.declared.parser.mark.Mark.TheVariants.{Prefix, Half, Opened, Called, Comma}
use Rattle.ratio_expressions.specs.Grammar.{Tree, Number, Name, Signed, Between, Group, Call, Listed, arguments, spelling, sign_operator, Rank, Comparison, Sum, Quotient, Product, Slash, Raising, rank, level, left_level, right_level, joined, binds, IsProper, postfix}
use Rattle.ratio_expressions.specs.Reading.{Work, State, step_of, mark_level, mark_room, room, settle, at_operand, with_mark, with_operator, with_close, with_call, with_comma, with_token, run, start, finish, if_settled}

-- an operand comes next
abbrev pub wanting : List Mark → List Step → Option State
wanting ms out = Some (record { work = record { marks = ms; written = out }; wants = true })

-- an operand was read
abbrev pub having : List Mark → List Step → Option State
having ms out = Some (record { work = record { marks = ms; written = out }; wants = false })

-- the number of arguments of the call that waits last, if one does
abbrev pub counted : ℕ → List Mark → List Mark
counted k [] = []
counted k (Prefix g s ∷ ms) = Prefix g s ∷ ms
counted k (Half o s ∷ ms) = Half o s ∷ ms
counted k (Opened s ∷ ms) = Opened s ∷ ms
counted k (Called n s j ∷ ms) = Called n s k ∷ ms
counted k (Comma s ∷ ms) = Comma s ∷ ms

-- what waits when a tree is read
abbrev pub spine : Tree → List Mark → List Mark
spine (Number s) ms = ms
spine (Name s) ms = ms
spine (Signed g s t) ms = spine t (Prefix g s ∷ ms)
spine (Between o s a b) ms = spine b (Half o s ∷ ms)
spine (Group s t e) ms = ms
spine (Call n s t e) ms = ms
spine (Listed a s b) ms = spine b (Comma s ∷ counted (arguments a + 1) ms)

-- what waits when all of a tree is settled
abbrev pub ending : Tree → List Mark → List Mark
ending (Number s) ms = ms
ending (Name s) ms = ms
ending (Signed g s t) ms = ms
ending (Between o s a b) ms = ms
ending (Group s t e) ms = ms
ending (Call n s t e) ms = ms
ending (Listed a s b) ms = counted (arguments a + 1) ms

-- what is written when a tree is read
abbrev pub written_by : Tree → List Step → List Step
written_by (Number s) out = out ++ steps.Number s ∷ []
written_by (Name s) out = out ++ steps.Name s ∷ []
written_by (Signed g s t) out = written_by t out
written_by (Between o s a b) out = written_by b (out ++ postfix a)
written_by (Group s t e) out = out ++ postfix (Group s t e)
written_by (Call n s t e) out = out ++ postfix (Call n s t e)
written_by (Listed a s b) out = written_by b (out ++ postfix a)

-- a mark that binds tightly enough becomes a step
pub pops : (n : ℕ) (m : Mark) (ms : List Mark) (out : List Step) → n ≤ mark_level m → settle n (m ∷ ms) out ≡ settle n ms (out ++ step_of m ∷ [])
pops n m ms out h = ap (λ b. if b then settle n ms (out ++ step_of m ∷ []) else record { marks = m ∷ ms; written = out }) (le-leb n (mark_level m) h)

-- another stays
pub stays : (n : ℕ) (m : Mark) (ms : List Mark) (out : List Step) → mark_level m < n → settle n (m ∷ ms) out ≡ record { marks = m ∷ ms; written = out }
stays n m ms out h = ap (λ b. if b then settle n ms (out ++ step_of m ∷ []) else record { marks = m ∷ ms; written = out }) (lt-leb n (mark_level m) h)

-- what is on the right of an operator binds as tightly as what may be settled with it
under : (r : Rank) (n k : ℕ) → (n ≤ 8 → n ≤ 5) → n ≤ level r → right_level r ≤ k → n ≤ k
under Comparison n k low h g = omega arith
under Sum n k low h g = omega arith
under Quotient n k low h g = omega arith
under Product n k low h g = omega arith
under Slash n k low h g = omega arith
under Raising n k low h g = omega arith

right_three : (r : Rank) → 3 ≤ right_level r
right_three Comparison = omega arith
right_three Sum = omega arith
right_three Quotient = omega arith
right_three Product = omega arith
right_three Slash = omega arith
right_three Raising = omega arith

-- a tree that binds more tightly than a comma is one expression
pub one_argument : (t : Tree) → 3 ≤ binds t → arguments t ≡ 1
one_argument (Number s) h = refl
one_argument (Name s) h = refl
one_argument (Signed g s t) h = refl
one_argument (Between o s a b) h = refl
one_argument (Group s t e) h = refl
one_argument (Call n s t e) h = refl
one_argument (Listed a s b) h = absurd (omega arith)

some_arguments : (t : Tree) → 1 ≤ arguments t
some_arguments (Number s) = omega arith
some_arguments (Name s) = omega arith
some_arguments (Signed g s t) = omega arith
some_arguments (Between o s a b) = omega arith
some_arguments (Group s t e) = omega arith
some_arguments (Call n s t e) = omega arith
some_arguments (Listed a s b) = omega arith

-- one expression counts no arguments
ends : (t : Tree) (ms : List Mark) → arguments t ≡ 1 → ending t ms ≡ ms
ends (Number s) ms h = refl
ends (Name s) ms h = refl
ends (Signed g s t) ms h = refl
ends (Between o s a b) ms h = refl
ends (Group s t e) ms h = refl
ends (Call n s t e) ms h = refl
ends (Listed a s b) ms h = absurd (omega (arith, some_arguments a))

-- a call counts its arguments
ends_call : (t : Tree) (n s : Span) (ms : List Mark) → ending t (Called n s 1 ∷ ms) ≡ Called n s (arguments t) ∷ ms
ends_call (Number p) n s ms = refl
ends_call (Name p) n s ms = refl
ends_call (Signed g p t) n s ms = refl
ends_call (Between o p a b) n s ms = refl
ends_call (Group p t e) n s ms = refl
ends_call (Call m p t e) n s ms = refl
ends_call (Listed a p b) n s ms = refl

-- slashes without spaces bind as a chain behind a chain, and else as a product
pub slash_joined : (left : ℕ) → ((joined Slash left ≡ 6) × (6 ≤ left)) ⊎ ((joined Slash left ≡ 5) × (left < 6))
slash_joined left =
    let value : Bool → ℕ = λ b. if b then 6 else 5 in
    ⊎_elim (λ p. inl (ap value p.0, p.1)) (λ p. inr (ap value p.0, p.1)) (leb_tells 6 left)

-- an expression binds at most as tightly as its operator
pub joined_most : (r : Rank) (left : ℕ) → joined r left ≤ level r
joined_most Comparison left = omega arith
joined_most Sum left = omega arith
joined_most Quotient left = omega arith
joined_most Product left = omega arith
joined_most Slash left = ⊎_elim (λ p. omega (arith, p.0)) (λ p. omega (arith, p.0)) (slash_joined left)
joined_most Raising left = omega arith

-- what waits when a tree is read becomes its last steps
settles : (n : ℕ) → (n ≤ 8 → n ≤ 5) → (t : Tree) → n ≤ binds t → IsProper t → (ms : List Mark) (out : List Step) → settle n (spine t ms) (written_by t out) ≡ settle n (ending t ms) (out ++ postfix t)
settles n low (Number s) h p ms out = refl
settles n low (Name s) h p ms out = refl
settles n low (Group s t e) h p ms out = refl
settles n low (Call m s t e) h p ms out = refl
settles n low (Signed g s t) h p ms out =
    settles n low t (omega (arith, p.0)) p.1 (Prefix g s ∷ ms) out
    ∙ ap (λ l. settle n l (out ++ postfix t)) (ends t (Prefix g s ∷ ms) (one_argument t (omega (arith, p.0))))
    ∙ pops n (Prefix g s) ms (out ++ postfix t) h
    ∙ ap (settle n ms) (append_assoc out (postfix t) (steps.Sign g s ∷ []))
settles n low (Between o s a b) h p ms out =
    let tight : n ≤ level (rank o) = omega (arith, joined_most (rank o) (binds a), h) in
    settles n low b (under (rank o) n (binds b) low tight p.1) p.3 (Half o s ∷ ms) (out ++ postfix a)
    ∙ ap (λ l. settle n l ((out ++ postfix a) ++ postfix b)) (ends b (Half o s ∷ ms) (one_argument b (omega (arith, right_three (rank o), p.1))))
    ∙ pops n (Half o s) ms ((out ++ postfix a) ++ postfix b) tight
    ∙ ap (settle n ms) (append_assoc (out ++ postfix a) (postfix b) (steps.Apply o s ∷ []) ∙ append_assoc out (postfix a) (postfix b ++ steps.Apply o s ∷ []))
settles n low (Listed a s b) h p ms out =
    let rest = counted (arguments a + 1) ms in
    settles n low b (omega (arith, p.1)) p.3 (Comma s ∷ rest) (out ++ postfix a)
    ∙ ap (λ l. settle n l ((out ++ postfix a) ++ postfix b)) (ends b (Comma s ∷ rest) (one_argument b p.1))
    ∙ pops n (Comma s) rest ((out ++ postfix a) ++ postfix b) h
    ∙ ap (settle n rest) (append_assoc (out ++ postfix a) (postfix b) (steps.Comma s ∷ []) ∙ append_assoc out (postfix a) (postfix b ++ steps.Comma s ∷ []))

pub low_left : (r : Rank) → left_level r ≤ 8 → left_level r ≤ 5
low_left Comparison h = omega arith
low_left Sum h = omega arith
low_left Quotient h = omega arith
low_left Product h = omega arith
low_left Slash h = omega arith
low_left Raising h = omega arith

-- an operator that has room right of another doesn't settle it
below_rank : (q r : Rank) → right_level q ≤ level r → level q < left_level r
below_rank Comparison Comparison h = omega arith
below_rank Comparison Sum h = omega arith
below_rank Comparison Quotient h = omega arith
below_rank Comparison Product h = omega arith
below_rank Comparison Slash h = omega arith
below_rank Comparison Raising h = omega arith
below_rank Sum Comparison h = omega arith
below_rank Sum Sum h = omega arith
below_rank Sum Quotient h = omega arith
below_rank Sum Product h = omega arith
below_rank Sum Slash h = omega arith
below_rank Sum Raising h = omega arith
below_rank Quotient Comparison h = omega arith
below_rank Quotient Sum h = omega arith
below_rank Quotient Quotient h = omega arith
below_rank Quotient Product h = omega arith
below_rank Quotient Slash h = omega arith
below_rank Quotient Raising h = omega arith
below_rank Product Comparison h = omega arith
below_rank Product Sum h = omega arith
below_rank Product Quotient h = omega arith
below_rank Product Product h = omega arith
below_rank Product Slash h = omega arith
below_rank Product Raising h = omega arith
below_rank Slash Comparison h = omega arith
below_rank Slash Sum h = omega arith
below_rank Slash Quotient h = omega arith
below_rank Slash Product h = omega arith
below_rank Slash Slash h = omega arith
below_rank Slash Raising h = omega arith
below_rank Raising Comparison h = omega arith
below_rank Raising Sum h = omega arith
below_rank Raising Quotient h = omega arith
below_rank Raising Product h = omega arith
below_rank Raising Slash h = omega arith
below_rank Raising Raising h = omega arith

below_sign : (r : Rank) → 7 ≤ level r → 7 < left_level r
below_sign Comparison h = omega arith
below_sign Sum h = omega arith
below_sign Quotient h = omega arith
below_sign Product h = omega arith
below_sign Slash h = omega arith
below_sign Raising h = omega arith

above_comma : (r : Rank) → 2 < left_level r
above_comma Comparison = omega arith
above_comma Sum = omega arith
above_comma Quotient = omega arith
above_comma Product = omega arith
above_comma Slash = omega arith
above_comma Raising = omega arith

below : (r : Rank) (m : Mark) → mark_room m ≤ level r → mark_level m < left_level r
below r (Prefix g s) h = below_sign r h
below r (Half o s) h = below_rank (rank o) r h
below r (Opened s) h = omega (arith, above_comma r)
below r (Called n s k) h = omega (arith, above_comma r)
below r (Comma s) h = above_comma r

-- an operator that has room settles nothing that waits
rests : (r : Rank) (ms : List Mark) (out : List Step) → room ms ≤ level r → settle (left_level r) ms out ≡ record { marks = ms; written = out }
rests r [] out h = refl
rests r (m ∷ ms) out h = stays (left_level r) m ms out (below r m h)

-- an operator is read where it has room
operates : (o : Operator) (s : Span) (ms : List Mark) (out : List Step) → room ms ≤ level (rank o) → with_operator o s (record { marks = ms; written = out }) ≡ wanting (Half o s ∷ ms) out
operates o s ms out h = ap (λ b. if b then wanting (Half o s ∷ ms) out else None) (le-leb (room ms) (level (rank o)) h)

right_gap : (r : Rank) → right_level r ≤ 5 → right_level r ≤ 4
right_gap Comparison h = omega arith
right_gap Sum h = omega arith
right_gap Quotient h = omega arith
right_gap Product h = omega arith
right_gap Slash h = omega arith
right_gap Raising h = omega arith

-- no mark wants just what a product with `*` is
room_gap : (ms : List Mark) → room ms ≤ 5 → room ms ≤ 4
room_gap [] h = omega arith
room_gap (Prefix g s ∷ ms) h = omega arith
room_gap (Half o s ∷ ms) h = right_gap (rank o) h
room_gap (Opened s ∷ ms) h = omega arith
room_gap (Called n s k ∷ ms) h = omega arith
room_gap (Comma s ∷ ms) h = omega arith

-- what an operator wants on its left has the room that the whole has
left_room : (r : Rank) (ms : List Mark) (left : ℕ) → room ms ≤ joined r left → left_level r ≤ left → room ms ≤ left
left_room Comparison ms left h g = omega arith
left_room Sum ms left h g = omega arith
left_room Quotient ms left h g = omega arith
left_room Product ms left h g = omega (arith, room_gap ms h)
left_room Slash ms left h g = ⊎_elim (λ p. omega (arith, p.0, p.1)) (λ p. omega (arith, p.0)) (slash_joined left)
left_room Raising ms left h g = omega arith

pub run-append : (xs ys : List Token) (x : Option State) → run (xs ++ ys) x ≡ run ys (run xs x)
run-append [] ys x = refl
run-append (t ∷ xs) ys x = run-append xs ys (with_token t x)

pub run-none : (xs : List Token) → run xs None ≡ None
run-none [] = refl
run-none (t ∷ xs) = run-none xs

-- a name becomes a call
pub calls : (n s : Span) (ms : List Mark) (out : List Step) → with_call s ms (reverse (out ++ steps.Name n ∷ [])) ≡ wanting (Called n s 1 ∷ ms) out
calls n s ms out = ap (with_call s ms) (reverse-append out (steps.Name n ∷ [])) ∙ ap (wanting (Called n s 1 ∷ ms)) (reverse-reverse out)

-- the arguments of a call begin
record Begins (ms : List Mark) : Type 0 where
  name : Span
  open_at : Span
  rest : List Mark
  is : ms ≡ Called name open_at 1 ∷ rest

-- a list of arguments is read where those of a call begin
abbrev MayBegin : Tree → List Mark → Type 0
MayBegin (Number s) ms = Unit {0}
MayBegin (Name s) ms = Unit {0}
MayBegin (Signed g s t) ms = Unit {0}
MayBegin (Between o s a b) ms = Unit {0}
MayBegin (Group s t e) ms = Unit {0}
MayBegin (Call n s t e) ms = Unit {0}
MayBegin (Listed a s b) ms = Begins ms

begins_call : (t : Tree) (ms : List Mark) → Begins ms → MayBegin t ms
begins_call (Number s) ms h = tt
begins_call (Name s) ms h = tt
begins_call (Signed g s t) ms h = tt
begins_call (Between o s a b) ms h = tt
begins_call (Group s t e) ms h = tt
begins_call (Call n s t e) ms h = tt
begins_call (Listed a s b) ms h = h

begins_one : (t : Tree) (ms : List Mark) → arguments t ≡ 1 → MayBegin t ms
begins_one (Number s) ms h = tt
begins_one (Name s) ms h = tt
begins_one (Signed g s t) ms h = tt
begins_one (Between o s a b) ms h = tt
begins_one (Group s t e) ms h = tt
begins_one (Call n s t e) ms h = tt
begins_one (Listed a s b) ms h = absurd (omega (arith, some_arguments a))

begins_tight : (t : Tree) (ms : List Mark) → 3 ≤ binds t → MayBegin t ms
begins_tight t ms h = begins_one t ms (one_argument t h)

-- where the arguments of a call begin, they are counted
counts : (a : Tree) (ms : List Mark) (h : Begins ms) → ending a ms ≡ Called h.name h.open_at (arguments a) ∷ h.rest
counts a ms h = ap (ending a) h.is ∙ ends_call a h.name h.open_at h.rest

counts_more : (k : ℕ) (ms : List Mark) (h : Begins ms) → Called h.name h.open_at k ∷ h.rest ≡ counted k ms
counts_more k ms h = sym (ap (counted k) h.is)

pub left_three : (r : Rank) → 3 ≤ left_level r
left_three Comparison = omega arith
left_three Sum = omega arith
left_three Quotient = omega arith
left_three Product = omega arith
left_three Slash = omega arith
left_three Raising = omega arith

-- a sign before an operand is put down
sign_read : (g : Sign) (s : Span) (w : Work) → at_operand (kinds.Operator (sign_operator g)) s w ≡ with_mark (Prefix g s) w
sign_read Plus s w = refl
sign_read Minus s w = refl

-- the tokens of a proper tree are read
reads : (t : Tree) → IsProper t → (ms : List Mark) (out : List Step) → room ms ≤ binds t → MayBegin t ms → run (spelling t) (wanting ms out) ≡ having (spine t ms) (written_by t out)
reads (Number s) p ms out h may = refl
reads (Name s) p ms out h may = refl
reads (Signed g s t) p ms out h may = ap (run (spelling t)) (sign_read g s (record { marks = ms; written = out })) ∙ reads t p.1 (Prefix g s ∷ ms) out p.0 (begins_tight t (Prefix g s ∷ ms) (omega (arith, p.0)))
reads (Group s t e) p ms out h may =
    run-append (spelling t) (record { kind = kinds.Close; span = e } ∷ []) (wanting (Opened s ∷ ms) out)
    ∙ ap (with_token (record { kind = kinds.Close; span = e })) (reads t p.1 (Opened s ∷ ms) out p.0 (begins_tight t (Opened s ∷ ms) p.0))
    ∙ ap (λ (v : Work). with_close e v.marks v.written) (settles 2 (λ h. omega arith) t (omega (arith, p.0)) p.1 (Opened s ∷ ms) out ∙ ap (λ l. settle 2 l (out ++ postfix t)) (ends t (Opened s ∷ ms) (one_argument t p.0)))
    ∙ ap (having ms) (append_assoc out (postfix t) (steps.Group s e ∷ []))
reads (Call n s t e) p ms out h may =
    let close : Token = record { kind = kinds.Close; span = e } in
    ap (run (spelling t ++ close ∷ [])) (calls n s ms out)
    ∙ run-append (spelling t) (close ∷ []) (wanting (Called n s 1 ∷ ms) out)
    ∙ ap (with_token close) (reads t p.1 (Called n s 1 ∷ ms) out p.0 (begins_call t (Called n s 1 ∷ ms) (record { name = n; open_at = s; rest = ms; is = refl })))
    ∙ ap (λ (v : Work). with_close e v.marks v.written) (settles 2 (λ h. omega arith) t p.0 p.1 (Called n s 1 ∷ ms) out ∙ ap (λ l. settle 2 l (out ++ postfix t)) (ends_call t n s ms))
    ∙ ap (having ms) (append_assoc out (postfix t) (steps.Call (record { name = n; opening = s; closing = e; arguments = arguments t }) ∷ []))
reads (Between o s a b) p ms out h may =
    let tok : Token = record { kind = kinds.Operator o; span = s } in
    let room_for : room ms ≤ level (rank o) = omega (arith, joined_most (rank o) (binds a), h) in
    run-append (spelling a) (tok ∷ spelling b) (wanting ms out)
    ∙ ap (λ x. run (spelling b) (with_token tok x)) (reads a p.2 ms out (left_room (rank o) ms (binds a) h p.0) (begins_tight a ms (omega (arith, left_three (rank o), p.0))))
    ∙ ap (λ (v : Work). run (spelling b) (with_operator o s v))
    (settles (left_level (rank o)) (low_left (rank o)) a p.0 p.2 ms out ∙ ap (λ l. settle (left_level (rank o)) l (out ++ postfix a)) (ends a ms (one_argument a (omega (arith, left_three (rank o), p.0)))) ∙ rests (rank o) ms (out ++ postfix a) room_for)
    ∙ ap (run (spelling b)) (operates o s ms (out ++ postfix a) room_for)
    ∙ reads b p.3 (Half o s ∷ ms) (out ++ postfix a) p.1 (begins_tight b (Half o s ∷ ms) (omega (arith, right_three (rank o), p.1)))
reads (Listed a s b) p ms out h may =
    let tok : Token = record { kind = kinds.Comma; span = s } in
    let k = arguments a + 1 in
    run-append (spelling a) (tok ∷ spelling b) (wanting ms out)
    ∙ ap (λ x. run (spelling b) (with_token tok x)) (reads a p.2 ms out (omega (arith, h, p.0)) (begins_call a ms may))
    ∙ ap (λ (v : Work). run (spelling b) (with_comma s v.marks v.written))
    (settles 2 (λ h. omega arith) a p.0 p.2 ms out ∙ ap (λ l. settle 2 l (out ++ postfix a)) (counts a ms may))
    ∙ ap (λ l. run (spelling b) (wanting (Comma s ∷ l) (out ++ postfix a))) (counts_more k ms may)
    ∙ reads b p.3 (Comma s ∷ counted k ms) (out ++ postfix a) p.1 (begins_tight b (Comma s ∷ counted k ms) p.1)

one_binds : (r : Rank) (left : ℕ) → 1 ≤ joined r left
one_binds Comparison left = omega arith
one_binds Sum left = omega arith
one_binds Quotient left = omega arith
one_binds Product left = omega arith
one_binds Slash left = ⊎_elim (λ p. omega (arith, p.0)) (λ p. omega (arith, p.0)) (slash_joined left)
one_binds Raising left = omega arith

binds_one : (t : Tree) → 1 ≤ binds t
binds_one (Number s) = omega arith
binds_one (Name s) = omega arith
binds_one (Signed g s t) = omega arith
binds_one (Between o s a b) = one_binds (rank o) (binds a)
binds_one (Group s t e) = omega arith
binds_one (Call n s t e) = omega arith
binds_one (Listed a s b) = omega arith

-- the tokens of a proper tree are read as a whole, and give its steps
pub reads_all : (t : Tree) → IsProper t → arguments t ≡ 1 → finish (run (spelling t) start) ≡ Some (postfix t)
reads_all t p one =
    ap finish (reads t p [] [] (omega arith) (begins_one t [] one))
    ∙ ap (λ (v : Work). if_settled v.marks v.written) (settles 1 (λ h. omega arith) t (binds_one t) p [] [] ∙ ap (λ l. settle 1 l (postfix t)) (ends t [] one))
