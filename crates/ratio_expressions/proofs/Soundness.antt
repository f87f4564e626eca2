-- What was read is the front of an expression, and its steps are those of its tree.
use Rattle.std.proofs.Common.{◌≡◌, ◌<◌, ◌≤◌, ◌+◌, ℕ, Bool, true, false, List, [], ◌∷◌, ◌++◌, Option, Some, None, refl, ap, sym, ◌∙◌, subst, arith, append_assoc, reverse, ⊎_elim, ◌⊎◌, inl, inr}
use Rattle.std.specs.Prelude.{IfSome, if◌then◌else◌}
use Rattle.std.proofs.lemmas.Bool.Decides.{leb_tells}
use Rattle.std.proofs.lemmas.List.{append-nil, reverse-append}
use Rattle.ratio_expressions.specs.declared.token.Span.{Span}
use Rattle.ratio_expressions.specs.declared.token.Operator.{Operator}
use Rattle.ratio_expressions.specs.declared.token.Operator.TheVariants.{Less, AtMost, Equal, NotEqual, AtLeast, Greater, Add, Subtract, Multiply, Divide, Remainder, Power}
use Rattle.ratio_expressions.specs.declared.token.Sign.{Sign}
use Rattle.ratio_expressions.specs.declared.token.Sign.TheVariants.{Plus, Minus}
use Rattle.ratio_expressions.specs.declared.token.Kind.{Kind}
use Rattle.ratio_expressions.specs.declared.token.Kind.TheVariants as kinds
use Rattle.ratio_expressions.specs.declared.token.Token.{Token}
use Rattle.ratio_expressions.specs.declared.step.Step.{Step}
use Rattle.ratio_expressions.specs.declared.step.Step.TheVariants as steps
use Rattle.ratio_expressions.specs.declared.parser.mark.Mark.{Mark}
use Rattle.ratio_expressions.specs.declared.parser.mark.Mark.TheVariants.{Prefix, Half, Opened, Called, Comma}
use Rattle.ratio_expressions.specs.Grammar.{Tree, Number, Name, Signed, Between, Group, Call, Listed, arguments, spelling, Rank, Comparison, Sum, Quotient, Product, Slash, Raising, rank, level, left_level, right_level, joined, sign_operator, binds, IsProper, HasTree, IsBegun, postfix}
use Rattle.ratio_expressions.specs.Reading.{Work, State, room, settle, at_operand, behind_operand, next_state, with_operator, with_close, with_call, with_comma, with_token, run, start, finish, if_settled}
use Rattle.ratio_expressions.proofs.Completeness.{pops, stays, calls, one_argument, left_three, low_left, slash_joined, joined_most}

-- what was read before an operand: what waits, with the trees on the left
pub data Context : Type 0 where
  Bottom : Context
  Behind : Context → Sign → Span → Context
  Left : Context → Tree → Operator → Span → Context
  Inside : Context → Span → Context
  Calling : Context → Span → Span → ℕ → Context
  Further : Context → Tree → Span → Context

abbrev pub marks_of : Context → List Mark
marks_of Bottom = []
marks_of (Behind c g s) = Prefix g s ∷ marks_of c
marks_of (Left c a o s) = Half o s ∷ marks_of c
marks_of (Inside c s) = Opened s ∷ marks_of c
marks_of (Calling c n s k) = Called n s k ∷ marks_of c
marks_of (Further c a e) = Comma e ∷ marks_of c

abbrev pub steps_of : Context → List Step
steps_of Bottom = []
steps_of (Behind c g s) = steps_of c
steps_of (Left c a o s) = steps_of c ++ postfix a
steps_of (Inside c s) = steps_of c
steps_of (Calling c n s k) = steps_of c
steps_of (Further c a e) = steps_of c ++ postfix a

-- the tokens that were read
abbrev pub front_of : Context → List Token
front_of Bottom = []
front_of (Behind c g s) = front_of c ++ record { kind = kinds.Operator (sign_operator g); span = s } ∷ []
front_of (Left c a o s) = front_of c ++ (spelling a ++ record { kind = kinds.Operator o; span = s } ∷ [])
front_of (Inside c s) = front_of c ++ record { kind = kinds.Open; span = s } ∷ []
front_of (Calling c n s k) = front_of c ++ (record { kind = kinds.Name; span = n } ∷ (record { kind = kinds.Open; span = s } ∷ []))
front_of (Further c a e) = front_of c ++ (spelling a ++ record { kind = kinds.Comma; span = e } ∷ [])

-- the number of arguments that were counted
abbrev pub count_of : Context → ℕ
count_of Bottom = 1
count_of (Behind c g s) = 1
count_of (Left c a o s) = 1
count_of (Inside c s) = 1
count_of (Calling c n s k) = k
count_of (Further c a e) = 1

-- what was read has a place in a proper tree
abbrev pub IsSound : Context → Type 0
IsSound Bottom = Unit {0}
IsSound (Behind c g s) = (count_of c ≡ 1) × IsSound c
IsSound (Left c a o s) = (left_level (rank o) ≤ binds a) × IsProper a × (room (marks_of c) ≤ joined (rank o) (binds a)) × (count_of c ≡ 1) × IsSound c
IsSound (Inside c s) = (count_of c ≡ 1) × IsSound c
IsSound (Calling c n s k) = (count_of c ≡ 1) × IsSound c
IsSound (Further c a e) = (2 ≤ binds a) × IsProper a × (room (marks_of c) ≤ 2) × (count_of c ≡ arguments a + 1) × IsSound c

right_seven : (r : Rank) → right_level r ≤ 7
right_seven Comparison = omega arith
right_seven Sum = omega arith
right_seven Quotient = omega arith
right_seven Product = omega arith
right_seven Slash = omega arith
right_seven Raising = omega arith

room_seven : (c : Context) → room (marks_of c) ≤ 7
room_seven Bottom = omega arith
room_seven (Behind c g s) = omega arith
room_seven (Left c a o s) = right_seven (rank o)
room_seven (Inside c s) = omega arith
room_seven (Calling c n s k) = omega arith
room_seven (Further c a e) = omega arith

left_nine : (r : Rank) → left_level r ≤ 9
left_nine Comparison = omega arith
left_nine Sum = omega arith
left_nine Quotient = omega arith
left_nine Product = omega arith
left_nine Slash = omega arith
left_nine Raising = omega arith

at_or_above : (n m : ℕ) → (n ≤ m) ⊎ (m < n)
at_or_above n m = ⊎_elim (λ p. inl p.1) (λ p. inr p.1) (leb_tells n m)

-- what waits and the last operand, when all that binds tightly enough is settled
record Settled (n : ℕ) (c : Context) (t : Tree) : Type 0 where
  context : Context
  tree : Tree
  sound : IsSound context
  proper : IsProper tree
  fits : room (marks_of context) ≤ binds tree
  tight : n ≤ binds tree
  counted : count_of context ≡ arguments tree
  work : settle n (marks_of c) (steps_of c ++ postfix t) ≡ record { marks = marks_of context; written = steps_of context ++ postfix tree }
  front : front_of context ++ spelling tree ≡ front_of c ++ spelling t

-- an operand behind a minus, an operator and a parenthesis, in the order of the tokens
behind_sign : (f : List Token) (x : Token) (b : List Token) → f ++ (x ∷ b) ≡ (f ++ x ∷ []) ++ b
behind_sign f x b = sym (append_assoc f (x ∷ []) b)

behind_left : (f a : List Token) (x : Token) (b : List Token) → f ++ (a ++ (x ∷ b)) ≡ (f ++ (a ++ x ∷ [])) ++ b
behind_left f a x b = sym (append_assoc f (a ++ x ∷ []) b ∙ ap (λ l. f ++ l) (append_assoc a (x ∷ []) b))

inside : (f : List Token) (x : Token) (b : List Token) (y : Token) → f ++ (x ∷ (b ++ y ∷ [])) ≡ ((f ++ x ∷ []) ++ b) ++ y ∷ []
inside f x b y = behind_sign f x (b ++ y ∷ []) ∙ sym (append_assoc (f ++ x ∷ []) b (y ∷ []))

inside_call : (f : List Token) (n x : Token) (b : List Token) (y : Token) → f ++ (n ∷ (x ∷ (b ++ y ∷ []))) ≡ ((f ++ (n ∷ (x ∷ []))) ++ b) ++ y ∷ []
inside_call f n x b y = sym (append_assoc f (n ∷ (x ∷ [])) (b ++ y ∷ [])) ∙ sym (append_assoc (f ++ (n ∷ (x ∷ []))) b (y ∷ []))

steps_left : (p a b : List Step) (x : Step) → ((p ++ a) ++ b) ++ x ∷ [] ≡ p ++ (a ++ (b ++ x ∷ []))
steps_left p a b x = append_assoc (p ++ a) b (x ∷ []) ∙ append_assoc p a (b ++ x ∷ [])

-- what is settled stays as it is
unsettled : (n : ℕ) (c : Context) (t : Tree) → IsSound c → IsProper t → room (marks_of c) ≤ binds t → n ≤ binds t → count_of c ≡ arguments t → settle n (marks_of c) (steps_of c ++ postfix t) ≡ record { marks = marks_of c; written = steps_of c ++ postfix t } → Settled n c t
unsettled n c t sound proper fits tight counted e = record { context = c; tree = t; sound = sound; proper = proper; fits = fits; tight = tight; counted = counted; work = e; front = refl }

-- one mark was settled, and then the others
settled_more : (n : ℕ) (c : Context) (t : Tree) (c' : Context) (t' : Tree) → settle n (marks_of c) (steps_of c ++ postfix t) ≡ settle n (marks_of c') (steps_of c' ++ postfix t') → front_of c' ++ spelling t' ≡ front_of c ++ spelling t → Settled n c' t' → Settled n c t
settled_more n c t c' t' e f r = record { context = r.context; tree = r.tree; sound = r.sound; proper = r.proper; fits = r.fits; tight = r.tight; counted = r.counted; work = e ∙ r.work; front = r.front ∙ f }

-- an expression binds as tightly as its operator, where less than a chain is enough
joined_least : (r : Rank) (n left : ℕ) → (n ≤ 8 → n ≤ 5) → n ≤ level r → left_level r ≤ left → n ≤ joined r left
joined_least Comparison n left low h g = h
joined_least Sum n left low h g = h
joined_least Quotient n left low h g = h
joined_least Product n left low h g = h
joined_least Slash n left low h g = ⊎_elim (λ p. omega (arith, p.0)) (λ p. omega (arith, low (omega arith), p.0)) (slash_joined left)
joined_least Raising n left low h g = h

-- what has room for an operator and for its left side has room for both
joined_fits : (r : Rank) (n left : ℕ) → n ≤ level r → n ≤ left → n ≤ joined r left
joined_fits Comparison n left h g = h
joined_fits Sum n left h g = h
joined_fits Quotient n left h g = h
joined_fits Product n left h g = h
joined_fits Slash n left h g = ⊎_elim (λ p. omega (arith, p.0)) (λ p. omega (arith, p.0, p.1)) (slash_joined left)
joined_fits Raising n left h g = h

settled : (n : ℕ) → 1 ≤ n → (n ≤ 8 → n ≤ 5) → (c : Context) (t : Tree) → IsSound c → IsProper t → room (marks_of c) ≤ binds t → n ≤ binds t → count_of c ≡ arguments t → Settled n c t
settled n one low Bottom t sound proper fits tight counted = unsettled n Bottom t sound proper fits tight counted refl
settled n one low (Inside c s) t sound proper fits tight counted =
    unsettled n (Inside c s) t sound proper fits tight counted (stays n (Opened s) (marks_of c) (steps_of c ++ postfix t) one)
settled n one low (Calling c m s k) t sound proper fits tight counted =
    unsettled n (Calling c m s k) t sound proper fits tight counted (stays n (Called m s k) (marks_of c) (steps_of c ++ postfix t) one)
settled n one low (Behind c g s) t sound proper fits tight counted =
    ⊎_elim
    (λ h. settled_more n (Behind c g s) t c (Signed g s t)
    (pops n (Prefix g s) (marks_of c) (steps_of c ++ postfix t) h ∙ ap (settle n (marks_of c)) (append_assoc (steps_of c) (postfix t) (steps.Sign g s ∷ [])))
    (behind_sign (front_of c) (record { kind = kinds.Operator (sign_operator g); span = s }) (spelling t))
    (settled n one low c (Signed g s t) sound.1 (fits, proper) (room_seven c) h sound.0))
    (λ h. unsettled n (Behind c g s) t sound proper fits tight counted (stays n (Prefix g s) (marks_of c) (steps_of c ++ postfix t) h))
    (at_or_above n 7)
settled n one low (Left c a o s) t sound proper fits tight counted =
    ⊎_elim
    (λ h. settled_more n (Left c a o s) t c (Between o s a t)
    (pops n (Half o s) (marks_of c) ((steps_of c ++ postfix a) ++ postfix t) h ∙ ap (settle n (marks_of c)) (steps_left (steps_of c) (postfix a) (postfix t) (steps.Apply o s)))
    (behind_left (front_of c) (spelling a) (record { kind = kinds.Operator o; span = s }) (spelling t))
    (settled n one low c (Between o s a t) sound.4 (sound.0, fits, sound.1, proper) sound.2 (joined_least (rank o) n (binds a) low h sound.0) sound.3))
    (λ h. unsettled n (Left c a o s) t sound proper fits tight counted (stays n (Half o s) (marks_of c) ((steps_of c ++ postfix a) ++ postfix t) h))
    (at_or_above n (level (rank o)))
settled n one low (Further c a e) t sound proper fits tight counted =
    ⊎_elim
    (λ h. settled_more n (Further c a e) t c (Listed a e t)
    (pops n (Comma e) (marks_of c) ((steps_of c ++ postfix a) ++ postfix t) h ∙ ap (settle n (marks_of c)) (steps_left (steps_of c) (postfix a) (postfix t) (steps.Comma e)))
    (behind_left (front_of c) (spelling a) (record { kind = kinds.Comma; span = e }) (spelling t))
    (settled n one low c (Listed a e t) sound.4 (sound.0, fits, sound.1, proper) sound.2 h sound.3))
    (λ h. unsettled n (Further c a e) t sound proper fits tight counted (stays n (Comma e) (marks_of c) ((steps_of c ++ postfix a) ++ postfix t) h))
    (at_or_above n 2)

-- an operand comes next
record Wanting (ts : List Token) (w : Work) : Type 0 where
  context : Context
  sound : IsSound context
  counted : count_of context ≡ 1
  work : w ≡ record { marks = marks_of context; written = steps_of context }
  front : front_of context ≡ ts

-- an operand was read
record Having (ts : List Token) (w : Work) : Type 0 where
  context : Context
  tree : Tree
  sound : IsSound context
  proper : IsProper tree
  tight : 9 ≤ binds tree
  counted : count_of context ≡ 1
  work : w ≡ record { marks = marks_of context; written = steps_of context ++ postfix tree }
  front : front_of context ++ spelling tree ≡ ts

abbrev StandsIn : Bool → List Token → Work → Type 0
StandsIn true ts w = Wanting ts w
StandsIn false ts w = Having ts w

-- the tokens that were read are the front of an expression
abbrev Stands : List Token → State → Type 0
Stands ts x = StandsIn x.wants ts x.work

with_leaf : (t : Tree) (x : Token) (ts : List Token) (w : Work) → 9 ≤ binds t → IsProper t → spelling t ≡ x ∷ [] → Wanting ts w → Having (ts ++ x ∷ []) (record { marks = w.marks; written = w.written ++ postfix t })
with_leaf t x ts w tight proper e h = record {
  context = h.context;
  tree = t;
  sound = h.sound;
  proper = proper;
  tight = tight;
  counted = h.counted;
  work = ap (λ (v : Work). let r : Work = record { marks = v.marks; written = v.written ++ postfix t } in r) h.work;
  front = ap (λ l. front_of h.context ++ l) e ∙ ap (λ f. f ++ x ∷ []) h.front;
}

with_mark_of : (m : Mark) (c : Context) (x : Token) (ts : List Token) (w : Work) → IsSound c → count_of c ≡ 1 → marks_of c ≡ m ∷ w.marks → steps_of c ≡ w.written → front_of c ≡ ts ++ x ∷ [] → Wanting (ts ++ x ∷ []) (record { marks = m ∷ w.marks; written = w.written })
with_mark_of m c x ts w sound counted e1 e2 e3 = record {
  context = c;
  sound = sound;
  counted = counted;
  work = ap (λ (l : List Mark). let r : Work = record { marks = l; written = w.written } in r) (sym e1) ∙ ap (λ (l : List Step). let r : Work = record { marks = marks_of c; written = l } in r) (sym e2);
  front = e3;
}

with_sign : (g : Sign) (s : Span) (ts : List Token) (w : Work) → Wanting ts w → Wanting (ts ++ record { kind = kinds.Operator (sign_operator g); span = s } ∷ []) (record { marks = Prefix g s ∷ w.marks; written = w.written })
with_sign g s ts w h = with_mark_of (Prefix g s) (Behind h.context g s) (record { kind = kinds.Operator (sign_operator g); span = s }) ts w (h.counted, h.sound) refl (ap (λ (v : Work). Prefix g s ∷ v.marks) (sym h.work)) (ap (λ (v : Work). v.written) (sym h.work)) (ap (λ f. f ++ record { kind = kinds.Operator (sign_operator g); span = s } ∷ []) h.front)

operand_stands : (k : Kind) (s : Span) (ts : List Token) (w : Work) → Wanting ts w → IfSome (at_operand k s w) (λ x. Stands (ts ++ record { kind = k; span = s } ∷ []) x)
operand_stands kinds.Number s ts w h = with_leaf (Number s) (record { kind = kinds.Number; span = s }) ts w (omega arith) tt refl h
operand_stands kinds.Name s ts w h = with_leaf (Name s) (record { kind = kinds.Name; span = s }) ts w (omega arith) tt refl h
operand_stands kinds.Open s ts w h = with_mark_of (Opened s) (Inside h.context s) (record { kind = kinds.Open; span = s }) ts w (h.counted, h.sound) refl (ap (λ (v : Work). Opened s ∷ v.marks) (sym h.work)) (ap (λ (v : Work). v.written) (sym h.work)) (ap (λ f. f ++ record { kind = kinds.Open; span = s } ∷ []) h.front)
operand_stands (kinds.Operator Add) s ts w h = with_sign Plus s ts w h
operand_stands (kinds.Operator Subtract) s ts w h = with_sign Minus s ts w h
operand_stands (kinds.Operator Less) s ts w h = tt
operand_stands (kinds.Operator AtMost) s ts w h = tt
operand_stands (kinds.Operator Equal) s ts w h = tt
operand_stands (kinds.Operator NotEqual) s ts w h = tt
operand_stands (kinds.Operator AtLeast) s ts w h = tt
operand_stands (kinds.Operator Greater) s ts w h = tt
operand_stands (kinds.Operator Multiply) s ts w h = tt
operand_stands (kinds.Operator (Divide d)) s ts w h = tt
operand_stands (kinds.Operator (Remainder d)) s ts w h = tt
operand_stands (kinds.Operator Power) s ts w h = tt
operand_stands kinds.Close s ts w h = tt
operand_stands kinds.Comma s ts w h = tt

absent : (ts : List Token) {x : Option State} → x ≡ None → IfSome x (λ v. Stands ts v)
absent ts e = subst (λ (o : Option State). IfSome o (λ v. Stands ts v)) (sym e) tt

level_eight : (r : Rank) → level r ≤ 8
level_eight Comparison = omega arith
level_eight Sum = omega arith
level_eight Quotient = omega arith
level_eight Product = omega arith
level_eight Slash = omega arith
level_eight Raising = omega arith

single : (c : Context) (t : Tree) → 9 ≤ binds t → count_of c ≡ 1 → count_of c ≡ arguments t
single c t tight counted = counted ∙ sym (one_argument t (omega arith))

operator_stands : (o : Operator) (s : Span) (c : Context) (t : Tree) (ts : List Token) → IsSound c → IsProper t → room (marks_of c) ≤ binds t → left_level (rank o) ≤ binds t → count_of c ≡ arguments t → front_of c ++ spelling t ≡ ts
    → IfSome (with_operator o s (record { marks = marks_of c; written = steps_of c ++ postfix t })) (λ x. Stands (ts ++ record { kind = kinds.Operator o; span = s } ∷ []) x)
operator_stands o s c t ts sound proper fits tight counted front =
    let x : Token = record { kind = kinds.Operator o; span = s } in
    let next : State = record { work = record { marks = Half o s ∷ marks_of c; written = steps_of c ++ postfix t }; wants = true } in
    let P : Bool → Type 0 = λ b. IfSome (if b then Some next else None) (λ x. Stands (ts ++ record { kind = kinds.Operator o; span = s } ∷ []) x) in
    let one : count_of c ≡ 1 = counted ∙ one_argument t (omega (arith, left_three (rank o), tight)) in
    ⊎_elim
    (λ p.
    let r : Wanting (ts ++ x ∷ []) next.work = record { context = Left c t o s; sound = (tight, proper, joined_fits (rank o) (room (marks_of c)) (binds t) p.1 fits, one, sound); counted = refl; work = refl; front = sym (append_assoc (front_of c) (spelling t) (x ∷ [])) ∙ ap (λ f. f ++ x ∷ []) front } in
    subst P (sym p.0) r)
    (λ p. subst P (sym p.0) tt)
    (leb_tells (room (marks_of c)) (level (rank o)))

close_stands : (e : Span) (c : Context) (t : Tree) (ts : List Token) → IsSound c → IsProper t → room (marks_of c) ≤ binds t → count_of c ≡ arguments t → front_of c ++ spelling t ≡ ts
    → IfSome (with_close e (marks_of c) (steps_of c ++ postfix t)) (λ x. Stands (ts ++ record { kind = kinds.Close; span = e } ∷ []) x)
close_stands e Bottom t ts sound proper fits counted front = tt
close_stands e (Behind c g s) t ts sound proper fits counted front = tt
close_stands e (Left c a o s) t ts sound proper fits counted front = tt
close_stands e (Further c a s) t ts sound proper fits counted front = tt
close_stands e (Inside c s) t ts sound proper fits counted front = record {
  context = c;
  tree = Group s t e;
  sound = sound.1;
  proper = (fits, proper);
  tight = omega arith;
  counted = sound.0;
  work = ap (λ (l : List Step). let r : Work = record { marks = marks_of c; written = l } in r) (append_assoc (steps_of c) (postfix t) (steps.Group s e ∷ []));
  front = inside (front_of c) (record { kind = kinds.Open; span = s }) (spelling t) (record { kind = kinds.Close; span = e }) ∙ ap (λ f. f ++ record { kind = kinds.Close; span = e } ∷ []) front;
}
close_stands e (Calling c n s k) t ts sound proper fits counted front = record {
  context = c;
  tree = Call n s t e;
  sound = sound.1;
  proper = (fits, proper);
  tight = omega arith;
  counted = sound.0;
  work = ap (λ (j : ℕ). let r : Work = record { marks = marks_of c; written = (steps_of c ++ postfix t) ++ steps.Call (record { name = n; opening = s; closing = e; arguments = j }) ∷ [] } in r) counted
      ∙ ap (λ (l : List Step). let r : Work = record { marks = marks_of c; written = l } in r) (append_assoc (steps_of c) (postfix t) (steps.Call (record { name = n; opening = s; closing = e; arguments = arguments t }) ∷ []));
  front = inside_call (front_of c) (record { kind = kinds.Name; span = n }) (record { kind = kinds.Open; span = s }) (spelling t) (record { kind = kinds.Close; span = e }) ∙ ap (λ f. f ++ record { kind = kinds.Close; span = e } ∷ []) front;
}

comma_stands : (e : Span) (c : Context) (t : Tree) (ts : List Token) → IsSound c → IsProper t → 2 ≤ binds t → count_of c ≡ arguments t → front_of c ++ spelling t ≡ ts
    → IfSome (with_comma e (marks_of c) (steps_of c ++ postfix t)) (λ x. Stands (ts ++ record { kind = kinds.Comma; span = e } ∷ []) x)
comma_stands e Bottom t ts sound proper tight counted front = tt
comma_stands e (Behind c g s) t ts sound proper tight counted front = tt
comma_stands e (Left c a o s) t ts sound proper tight counted front = tt
comma_stands e (Further c a s) t ts sound proper tight counted front = tt
comma_stands e (Inside c s) t ts sound proper tight counted front = tt
comma_stands e (Calling c n s k) t ts sound proper tight counted front =
    let x : Token = record { kind = kinds.Comma; span = e } in
    record {
      context = Further (Calling c n s (k + 1)) t e;
      sound = (tight, proper, omega arith, ap (λ j. j + 1) counted, sound);
      counted = refl;
      work = refl;
      front = sym (append_assoc (front_of (Calling c n s k)) (spelling t) (x ∷ [])) ∙ ap (λ f. f ++ x ∷ []) front;
    }

-- steps that end with no name begin no call
no_call : (s : Span) (ms : List Mark) (out : List Step) (x : Step) → with_call s ms (x ∷ reverse out) ≡ None → with_call s ms (reverse (out ++ x ∷ [])) ≡ None
no_call s ms out x e = ap (with_call s ms) (reverse-append out (x ∷ [])) ∙ e

call_stands : (s : Span) (c : Context) (t : Tree) (ts : List Token) → IsSound c → 9 ≤ binds t → count_of c ≡ 1 → front_of c ++ spelling t ≡ ts
    → IfSome (with_call s (marks_of c) (reverse (steps_of c ++ postfix t))) (λ x. Stands (ts ++ record { kind = kinds.Open; span = s } ∷ []) x)
call_stands s c (Number n) ts sound tight counted front = absent (ts ++ record { kind = kinds.Open; span = s } ∷ []) (no_call s (marks_of c) (steps_of c) (steps.Number n) refl)
call_stands s c (Name n) ts sound tight counted front =
    let x : Token = record { kind = kinds.Open; span = s } in
    let y : Token = record { kind = kinds.Name; span = n } in
    let r : Wanting (ts ++ x ∷ []) (record { marks = Called n s 1 ∷ marks_of c; written = steps_of c }) = record {
      context = Calling c n s 1;
      sound = (counted, sound);
      counted = refl;
      work = refl;
      front = sym (append_assoc (front_of c) (y ∷ []) (x ∷ [])) ∙ ap (λ f. f ++ x ∷ []) front;
    } in
    subst (λ (o : Option State). IfSome o (λ v. Stands (ts ++ x ∷ []) v)) (sym (calls n s (marks_of c) (steps_of c))) r
call_stands s c (Signed g n t) ts sound tight counted front = absurd (omega arith)
call_stands s c (Between o n a b) ts sound tight counted front = absurd (omega (arith, level_eight (rank o), joined_most (rank o) (binds a)))
call_stands s c (Group n t e) ts sound tight counted front =
    absent (ts ++ record { kind = kinds.Open; span = s } ∷ [])
    (ap (λ l. with_call s (marks_of c) (reverse l)) (sym (append_assoc (steps_of c) (postfix t) (steps.Group n e ∷ []))) ∙ no_call s (marks_of c) (steps_of c ++ postfix t) (steps.Group n e) refl)
call_stands s c (Call m n t e) ts sound tight counted front =
    let x : Step = steps.Call (record { name = m; opening = n; closing = e; arguments = arguments t }) in
    absent (ts ++ record { kind = kinds.Open; span = s } ∷ [])
    (ap (λ l. with_call s (marks_of c) (reverse l)) (sym (append_assoc (steps_of c) (postfix t) (x ∷ []))) ∙ no_call s (marks_of c) (steps_of c ++ postfix t) x refl)
call_stands s c (Listed a n b) ts sound tight counted front = absurd (omega arith)

behind_stands : (k : Kind) (s : Span) (ts : List Token) (w : Work) → Having ts w → IfSome (behind_operand k s w) (λ x. Stands (ts ++ record { kind = k; span = s } ∷ []) x)
behind_stands kinds.Number s ts w h = tt
behind_stands kinds.Name s ts w h = tt
behind_stands kinds.Open s ts w h =
    subst (λ (v : Work). IfSome (with_call s v.marks (reverse v.written)) (λ x. Stands (ts ++ record { kind = kinds.Open; span = s } ∷ []) x))
    (sym h.work)
    (call_stands s h.context h.tree ts h.sound h.tight h.counted h.front)
behind_stands (kinds.Operator o) s ts w h =
    let n = left_level (rank o) in
    let r = settled n (omega (arith, left_three (rank o))) (low_left (rank o)) h.context h.tree h.sound h.proper (omega (arith, room_seven h.context, h.tight)) (omega (arith, left_nine (rank o), h.tight)) (single h.context h.tree h.tight h.counted) in
    subst (λ (v : Work). IfSome (with_operator o s v) (λ x. Stands (ts ++ record { kind = kinds.Operator o; span = s } ∷ []) x))
    (sym (ap (λ (v : Work). settle n v.marks v.written) h.work ∙ r.work))
    (operator_stands o s r.context r.tree ts r.sound r.proper r.fits r.tight r.counted (r.front ∙ h.front))
behind_stands kinds.Close s ts w h =
    let r = settled 2 (omega arith) (λ h. omega arith) h.context h.tree h.sound h.proper (omega (arith, room_seven h.context, h.tight)) (omega (arith, h.tight)) (single h.context h.tree h.tight h.counted) in
    subst (λ (v : Work). IfSome (with_close s v.marks v.written) (λ x. Stands (ts ++ record { kind = kinds.Close; span = s } ∷ []) x))
    (sym (ap (λ (v : Work). settle 2 v.marks v.written) h.work ∙ r.work))
    (close_stands s r.context r.tree ts r.sound r.proper r.fits r.counted (r.front ∙ h.front))
behind_stands kinds.Comma s ts w h =
    let r = settled 2 (omega arith) (λ h. omega arith) h.context h.tree h.sound h.proper (omega (arith, room_seven h.context, h.tight)) (omega (arith, h.tight)) (single h.context h.tree h.tight h.counted) in
    subst (λ (v : Work). IfSome (with_comma s v.marks v.written) (λ x. Stands (ts ++ record { kind = kinds.Comma; span = s } ∷ []) x))
    (sym (ap (λ (v : Work). settle 2 v.marks v.written) h.work ∙ r.work))
    (comma_stands s r.context r.tree ts r.sound r.proper r.tight r.counted (r.front ∙ h.front))

next_stands : (b : Bool) (k : Kind) (s : Span) (ts : List Token) (w : Work) → StandsIn b ts w → IfSome (next_state b k s w) (λ x. Stands (ts ++ record { kind = k; span = s } ∷ []) x)
next_stands true k s ts w h = operand_stands k s ts w h
next_stands false k s ts w h = behind_stands k s ts w h

token_stands : (t : Token) (ts : List Token) (x : Option State) → IfSome x (λ v. Stands ts v) → IfSome (with_token t x) (λ v. Stands (ts ++ t ∷ []) v)
token_stands t ts None h = tt
token_stands t ts (Some x) h = next_stands x.wants t.kind t.span ts x.work h

run_stands : (xs ts : List Token) (x : Option State) → IfSome x (λ v. Stands ts v) → IfSome (run xs x) (λ v. Stands (ts ++ xs) v)
run_stands [] ts x h = subst (λ l. IfSome x (λ v. Stands l v)) (sym (append-nil ts)) h
run_stands (t ∷ xs) ts x h = subst (λ l. IfSome (run xs (with_token t x)) (λ v. Stands l v)) (append_assoc ts (t ∷ []) xs) (run_stands xs (ts ++ t ∷ []) (with_token t x) (token_stands t ts x h))

-- what is read stands for the tokens
reads_front : (ts : List Token) (x : State) → run ts start ≡ Some x → Stands ts x
reads_front ts x e =
    let none : Wanting [] (record { marks = []; written = [] }) = record { context = Bottom; sound = tt; counted = refl; work = refl; front = refl } in
    subst (λ (o : Option State). IfSome o (λ v. Stands ts v)) e (run_stands ts [] start none)

whole_of : (c : Context) (t : Tree) (ts : List Token) (out : List Step) → IsProper t → count_of c ≡ arguments t → front_of c ++ spelling t ≡ ts → if_settled (marks_of c) (steps_of c ++ postfix t) ≡ Some out → (u : Tree) × HasTree ts u × (out ≡ postfix u)
whole_of Bottom t ts out proper counted front e = (t, record { spelled = front; single = sym counted; proper = proper }, cc)
whole_of (Behind c g s) t ts out proper counted front e = absurd (cc)
whole_of (Left c a o s) t ts out proper counted front e = absurd (cc)
whole_of (Inside c s) t ts out proper counted front e = absurd (cc)
whole_of (Calling c n s k) t ts out proper counted front e = absurd (cc)
whole_of (Further c a s) t ts out proper counted front e = absurd (cc)

whole_in : (b : Bool) (ts : List Token) (w : Work) (out : List Step) → StandsIn b ts w → finish (Some (record { work = w; wants = b })) ≡ Some out → (u : Tree) × HasTree ts u × (out ≡ postfix u)
whole_in true ts w out h e = absurd (cc)
whole_in false ts w out h e =
    let r = settled 1 (omega arith) (λ h. omega arith) h.context h.tree h.sound h.proper (omega (arith, room_seven h.context, h.tight)) (omega (arith, h.tight)) (single h.context h.tree h.tight h.counted) in
    whole_of r.context r.tree ts out r.proper r.counted (r.front ∙ h.front)
    (sym (ap (λ (v : Work). if_settled v.marks v.written) (ap (λ (v : Work). settle 1 v.marks v.written) h.work ∙ r.work)) ∙ e)

whole_option : (x : Option State) (ts : List Token) (out : List Step) → IfSome x (λ v. Stands ts v) → finish x ≡ Some out → (u : Tree) × HasTree ts u × (out ≡ postfix u)
whole_option None ts out h e = absurd (cc)
whole_option (Some x) ts out h e = whole_in x.wants ts x.work out h e

-- what is read as a whole has a tree, and gives its steps
pub whole : (ts : List Token) (out : List Step) → finish (run ts start) ≡ Some out → (u : Tree) × HasTree ts u × (out ≡ postfix u)
whole ts out e =
    let none : Wanting [] (record { marks = []; written = [] }) = record { context = Bottom; sound = tt; counted = refl; work = refl; front = refl } in
    whole_option (run ts start) ts out (run_stands ts [] start none) e

pub shorter : (ts xs : List Token) → IsBegun (ts ++ xs) → IsBegun ts
shorter ts xs b = record { more = xs ++ b.more; tree = b.tree; has = record { spelled = b.has.spelled ∙ append_assoc ts xs b.more; single = b.has.single; proper = b.has.proper } }

-- what waits can be completed
begun_with : (c : Context) (t : Tree) (ts : List Token) → IsSound c → IsProper t → room (marks_of c) ≤ binds t → count_of c ≡ arguments t → front_of c ++ spelling t ≡ ts → IsBegun ts
begun_with Bottom t ts sound proper fits counted front = record { more = []; tree = t; has = record { spelled = front ∙ sym (append-nil ts); single = sym counted; proper = proper } }
begun_with (Behind c g s) t ts sound proper fits counted front =
    begun_with c (Signed g s t) ts sound.1 (fits, proper) (room_seven c) sound.0 (behind_sign (front_of c) (record { kind = kinds.Operator (sign_operator g); span = s }) (spelling t) ∙ front)
begun_with (Left c a o s) t ts sound proper fits counted front =
    begun_with c (Between o s a t) ts sound.4 (sound.0, fits, sound.1, proper) sound.2 sound.3 (behind_left (front_of c) (spelling a) (record { kind = kinds.Operator o; span = s }) (spelling t) ∙ front)
begun_with (Further c a e) t ts sound proper fits counted front =
    begun_with c (Listed a e t) ts sound.4 (sound.0, fits, sound.1, proper) sound.2 sound.3 (behind_left (front_of c) (spelling a) (record { kind = kinds.Comma; span = e }) (spelling t) ∙ front)
begun_with (Inside c s) t ts sound proper fits counted front =
    let y : Token = record { kind = kinds.Close; span = s } in
    shorter ts (y ∷ []) (begun_with c (Group s t s) (ts ++ y ∷ []) sound.1 (fits, proper) (omega (arith, room_seven c)) sound.0
    (inside (front_of c) (record { kind = kinds.Open; span = s }) (spelling t) y ∙ ap (λ f. f ++ y ∷ []) front))
begun_with (Calling c n s k) t ts sound proper fits counted front =
    let y : Token = record { kind = kinds.Close; span = s } in
    shorter ts (y ∷ []) (begun_with c (Call n s t s) (ts ++ y ∷ []) sound.1 (fits, proper) (omega (arith, room_seven c)) sound.0
    (inside_call (front_of c) (record { kind = kinds.Name; span = n }) (record { kind = kinds.Open; span = s }) (spelling t) y ∙ ap (λ f. f ++ y ∷ []) front))

begun_in : (b : Bool) (ts : List Token) (w : Work) → StandsIn b ts w → IsBegun ts
begun_in true ts w h =
    let s : Span = record { start = 0; end = 0 } in
    let y : Token = record { kind = kinds.Number; span = s } in
    shorter ts (y ∷ []) (begun_with h.context (Number s) (ts ++ y ∷ []) h.sound tt (omega (arith, room_seven h.context)) h.counted (ap (λ f. f ++ y ∷ []) h.front))
begun_in false ts w h = begun_with h.context h.tree ts h.sound h.proper (omega (arith, room_seven h.context, h.tight)) (single h.context h.tree h.tight h.counted) h.front

-- what is read begins an expression
pub begun : (ts : List Token) (x : State) → run ts start ≡ Some x → IsBegun ts
begun ts x e = begun_in x.wants ts x.work (reads_front ts x e)
