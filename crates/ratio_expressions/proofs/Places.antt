-- The numbers and the names of a text's tree are in the text, which begins with a token.
use Rattle.std.proofs.Common.{◌≡◌, ◌<◌, ◌≤◌, ℕ, List, [], ◌∷◌, ◌++◌, length, Option, sym, subst, arith, inl, inr, ⊎_elim}
use Rattle.std.specs.List.{All}
use Rattle.std.proofs.lemmas.List.Elements.{All-append, All-cons, All-nil}
use Rattle.ratio_expressions.specs.declared.token.Span.{Span}
use Rattle.ratio_expressions.specs.declared.token.Token.{Token}
use Rattle.ratio_expressions.specs.declared.step.Step.{Step}
use Rattle.ratio_expressions.specs.declared.step.Step.TheVariants as steps
use Rattle.ratio_expressions.specs.declared.token.Operator.TheVariants.{Equal}
use Rattle.ratio_expressions.specs.declared.refusal.Refusal.{Refusal}
use Rattle.ratio_expressions.specs.Expression.{IsExpression, IsRefusal}
use Rattle.ratio_expressions.specs.Grammar.{Tree, Number, Name, Signed, Between, Group, Call, Listed, arguments, spelling, postfix}
use Rattle.ratio_expressions.specs.Lines.{valued}
use Rattle.ratio_expressions.specs.Stacks.{IsStepWithin}
use Rattle.ratio_expressions.specs.Values.{HasRefusal}
use Rattle.ratio_expressions.specs.Worths.{Worth}
use Rattle.ratio_expressions.specs.Tokens.{BeginsWithToken, IsCutInto}
use Rattle.ratio_expressions.proofs.CutLaws.{first_begins}

behind_some : {A : Type 0} (xs ys : List A) (y : A) → 0 < length (xs ++ y ∷ ys)
behind_some [] ys y = omega arith
behind_some (x ∷ xs) ys y = omega arith

some_tokens : (t : Tree) → 0 < length (spelling t)
some_tokens (Number s) = omega arith
some_tokens (Name s) = omega arith
some_tokens (Signed m s t) = omega arith
some_tokens (Between o s a b) = behind_some (spelling a) (spelling b) _
some_tokens (Group s t e) = omega arith
some_tokens (Call n s t e) = omega arith
some_tokens (Listed a s b) = behind_some (spelling a) (spelling b) _

module _ (text : List ℕ) where
  -- a text with a tree begins with a token
  pub tree_begins : (t : Tree) → IsExpression text t → BeginsWithToken text
  tree_begins t h = first_begins text (length text) h.tokens h.cut (subst (λ (ts : List Token). 0 < length ts) h.has.spelled (some_tokens t))

  -- the place is in the text
  abbrev IsIn : Span → Type 0
  IsIn s = (s.start ≤ s.end) × (s.end ≤ length text)

  abbrev AreIn : List Token → Type 0
  AreIn [] = Unit {0}
  AreIn (t ∷ ts) = IsIn t.span × AreIn ts

  tokens_in : (from to : ℕ) (ts : List Token) → IsCutInto text from to ts → AreIn ts
  tokens_in from to [] h = tt
  tokens_in from to (t ∷ ts) h = ((omega (arith, h.1.end), h.1.within), tokens_in t.span.end to ts h.2)

  first_in : (ts us : List Token) → AreIn (ts ++ us) → AreIn ts
  first_in [] us h = tt
  first_in (t ∷ ts) us h = (h.0, first_in ts us h.1)

  second_in : (ts us : List Token) → AreIn (ts ++ us) → AreIn us
  second_in [] us h = h
  second_in (t ∷ ts) us h = second_in ts us h.1

  one : (x : Step) → IsStepWithin text x → All (IsStepWithin text) (x ∷ [])
  one x h = All-cons (IsStepWithin text) x [] h (All-nil (IsStepWithin text))

  tree_within : (t : Tree) → AreIn (spelling t) → All (IsStepWithin text) (postfix t)
  tree_within (Number s) h = one (steps.Number s) h.0
  tree_within (Name s) h = one (steps.Name s) h.0
  tree_within (Signed m s t) h = All-append (IsStepWithin text) (postfix t) (steps.Sign m s ∷ []) (tree_within t h.1) (one (steps.Sign m s) tt)
  tree_within (Between o s a b) h =
      All-append (IsStepWithin text) (postfix a) (postfix b ++ steps.Apply o s ∷ []) (tree_within a (first_in (spelling a) _ h))
      (All-append (IsStepWithin text) (postfix b) (steps.Apply o s ∷ []) (tree_within b (second_in (spelling a) _ h).1) (one (steps.Apply o s) tt))
  tree_within (Group s t e) h = All-append (IsStepWithin text) (postfix t) (steps.Group s e ∷ []) (tree_within t (first_in (spelling t) _ h.1)) (one (steps.Group s e) tt)
  tree_within (Call n s t e) h =
      let c : Step = steps.Call (record { name = n; opening = s; closing = e; arguments = arguments t }) in
      All-append (IsStepWithin text) (postfix t) (c ∷ []) (tree_within t (first_in (spelling t) _ h.1.1)) (one c h.0)
  tree_within (Listed a s b) h =
      All-append (IsStepWithin text) (postfix a) (postfix b ++ steps.Comma s ∷ []) (tree_within a (first_in (spelling a) _ h))
      (All-append (IsStepWithin text) (postfix b) (steps.Comma s ∷ []) (tree_within b (second_in (spelling a) _ h).1) (one (steps.Comma s) tt))

  -- so are those of its steps
  pub steps_within : (t : Tree) (written : List Step) → IsExpression text t → written ≡ postfix t → All (IsStepWithin text) written
  steps_within t written h e =
      subst (All (IsStepWithin text)) (sym e) (tree_within t (subst AreIn (sym h.has.spelled) (tokens_in 0 (length text) h.tokens h.cut)))

  begins_in : (s : Span) (n : ℕ) → IsIn s → n ≡ s.start → n ≤ length text
  begins_in s n h e = omega (arith, h.0, h.1)

  valued_in : (t : Tree) → AreIn (spelling t) → AreIn (spelling (valued t))
  valued_in (Between Equal s (Name n) b) h = h.1.1
  valued_in t h = h

  -- so is the place where a text goes on to no expression
  pub place_within : (at : ℕ) → IsRefusal text at → at ≤ length text
  place_within at h =
      ⊎_elim
      (λ p. omega (arith, p.1.end, p.1.within, p.2))
      (λ q. ⊎_elim (λ b. omega (arith, b.within)) (λ e. omega (arith, e.0)) q)
      h.refuses

  module _ (named : List ℕ → Option Worth) (r : Refusal) where
    place_in : (t : Tree) → AreIn (spelling t) → HasRefusal text named t r → r.place ≤ length text
    place_in (Number s) h g = begins_in s r.place h.0 g.1
    place_in (Name s) h g = begins_in s r.place h.0 g.1.1
    place_in (Signed m s t) h (inl g) = place_in t h.1 g
    place_in (Signed m s t) h (inr g) = begins_in s r.place h.0 g.3.1
    place_in (Between o s a b) h (inl g) = place_in a (first_in (spelling a) _ h) g
    place_in (Between o s a b) h (inr g) =
        ⊎_elim
        (λ p. place_in b (second_in (spelling a) _ h).1 p)
        (λ p. begins_in s r.place (second_in (spelling a) _ h).0 p.3)
        g.2
    place_in (Group s t e) h g = place_in t (first_in (spelling t) _ h.1) g
    place_in (Call n s t e) h (inl g) = place_in t (first_in (spelling t) _ h.1.1) g
    place_in (Call n s t e) h (inr g) = begins_in n r.place h.0 g.3
    place_in (Listed a s b) h (inl g) = place_in a (first_in (spelling a) _ h) g
    place_in (Listed a s b) h (inr g) = place_in b (second_in (spelling a) _ h).1 g.2

    -- so is the place of a refusal
    pub refusal_within : (t : Tree) → IsExpression text t → HasRefusal text named t r → r.place ≤ length text
    refusal_within t h g = place_in t (subst AreIn (sym h.has.spelled) (tokens_in 0 (length text) h.tokens h.cut)) g

    pub line_refusal_within : (t : Tree) → IsExpression text t → HasRefusal text named (valued t) r → r.place ≤ length text
    line_refusal_within t h g = place_in (valued t) (valued_in t (subst AreIn (sym h.has.spelled) (tokens_in 0 (length text) h.tokens h.cut))) g
