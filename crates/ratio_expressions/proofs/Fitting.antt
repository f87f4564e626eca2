-- Each step of an expression takes as many arguments as it needs: a call those that it says, and another step one of each operand.
use Rattle.std.proofs.Common.{◌≡◌, ◌≤◌, List, [], ◌∷◌, ◌++◌, Some, refl, ap, sym, ◌∙◌, subst, arith, append_assoc}
use Rattle.std.proofs.lemmas.List.{append-nil}
use Rattle.ratio_expressions.specs.declared.step.Step.{Step}
use Rattle.ratio_expressions.specs.declared.step.Step.TheVariants as steps
use Rattle.ratio_expressions.specs.Grammar.{Tree, Number, Name, Signed, Between, Group, Call, Listed, IsProper, Rank, Comparison, Sum, Quotient, Product, Slash, Raising, arguments, binds, left_level, postfix, rank, right_level}
use Rattle.ratio_expressions.specs.Stacks.{trees_by}

-- the trees that a step takes are one argument each, and those of a call as many as it says
abbrev pub Fits : Step → List Tree → Type 0
Fits (steps.Sign g s) (t ∷ ts) = arguments t ≡ 1
Fits (steps.Apply o s) (b ∷ (a ∷ ts)) = (arguments a ≡ 1) × (arguments b ≡ 1)
Fits (steps.Group s e) (t ∷ ts) = arguments t ≡ 1
Fits (steps.Comma s) (b ∷ (a ∷ ts)) = arguments b ≡ 1
Fits (steps.Call c) (t ∷ ts) = c.arguments ≡ arguments t
Fits x ts = Unit {0}

-- the same for each of the steps, one after another
abbrev pub AllFit : List Step → List Tree → Type 0
AllFit [] ts = Unit {0}
AllFit (x ∷ xs) ts = Fits x ts × ((us : List Tree) → trees_by x ts ≡ Some us → AllFit xs us)

-- what binds tighter than a comma is one argument
one_argument : (t : Tree) → 3 ≤ binds t → arguments t ≡ 1
one_argument (Listed a s b) tight = absurd (omega arith)
one_argument t tight = refl

left_tight : (r : Rank) → 3 ≤ left_level r
left_tight Comparison = omega arith
left_tight Sum = omega arith
left_tight Quotient = omega arith
left_tight Product = omega arith
left_tight Slash = omega arith
left_tight Raising = omega arith

right_tight : (r : Rank) → 3 ≤ right_level r
right_tight Comparison = omega arith
right_tight Sum = omega arith
right_tight Quotient = omega arith
right_tight Product = omega arith
right_tight Slash = omega arith
right_tight Raising = omega arith

-- one step fits, and those behind it do
begun : (x : Step) (xs : List Step) (ts us : List Tree) → Fits x ts → trees_by x ts ≡ Some us → AllFit xs us → AllFit (x ∷ xs) ts
begun x xs ts us first makes rest = (first, λ vs e. let both : Some us ≡ Some vs = sym makes ∙ e in let same : us ≡ vs = cc in subst (AllFit xs) same rest)

fit-postfix : (t : Tree) → IsProper t → (xs : List Step) (ts : List Tree) → AllFit xs (t ∷ ts) → AllFit (postfix t ++ xs) ts
fit-postfix (Number s) p xs ts h = begun (steps.Number s) xs ts (Number s ∷ ts) tt refl h
fit-postfix (Name s) p xs ts h = begun (steps.Name s) xs ts (Name s ∷ ts) tt refl h
fit-postfix (Signed g s t) p xs ts h =
    let x : Step = steps.Sign g s in
    subst (λ l. AllFit l ts) (sym (append_assoc (postfix t) (x ∷ []) xs))
    (fit-postfix t p.1 (x ∷ xs) ts (begun x xs (t ∷ ts) (Signed g s t ∷ ts) (one_argument t (omega (arith, p.0))) refl h))
fit-postfix (Group s t e) p xs ts h =
    let x : Step = steps.Group s e in
    subst (λ l. AllFit l ts) (sym (append_assoc (postfix t) (x ∷ []) xs))
    (fit-postfix t p.1 (x ∷ xs) ts (begun x xs (t ∷ ts) (Group s t e ∷ ts) (one_argument t p.0) refl h))
fit-postfix (Call n s t e) p xs ts h =
    let x : Step = steps.Call (record { name = n; opening = s; closing = e; arguments = arguments t }) in
    subst (λ l. AllFit l ts) (sym (append_assoc (postfix t) (x ∷ []) xs)) (fit-postfix t p.1 (x ∷ xs) ts (begun x xs (t ∷ ts) (Call n s t e ∷ ts) refl refl h))
fit-postfix (Between o s a b) p xs ts h =
    let x : Step = steps.Apply o s in
    let first : arguments a ≡ 1 = one_argument a (omega (arith, p.0, left_tight (rank o))) in
    let second : arguments b ≡ 1 = one_argument b (omega (arith, p.1, right_tight (rank o))) in
    subst (λ l. AllFit l ts) (sym (append_assoc (postfix a) (postfix b ++ x ∷ []) xs ∙ ap (λ l. postfix a ++ l) (append_assoc (postfix b) (x ∷ []) xs)))
    (fit-postfix a p.2 (postfix b ++ (x ∷ xs)) ts (fit-postfix b p.3 (x ∷ xs) (a ∷ ts) (begun x xs (b ∷ (a ∷ ts)) (Between o s a b ∷ ts) (first, second) refl h)))
fit-postfix (Listed a s b) p xs ts h =
    let x : Step = steps.Comma s in
    subst (λ l. AllFit l ts) (sym (append_assoc (postfix a) (postfix b ++ x ∷ []) xs ∙ ap (λ l. postfix a ++ l) (append_assoc (postfix b) (x ∷ []) xs)))
    (fit-postfix a p.2 (postfix b ++ (x ∷ xs)) ts (fit-postfix b p.3 (x ∷ xs) (a ∷ ts) (begun x xs (b ∷ (a ∷ ts)) (Listed a s b ∷ ts) (one_argument b p.1) refl h)))

-- the steps of an expression fit
pub fit-tree : (t : Tree) → IsProper t → AllFit (postfix t) []
fit-tree t p = subst (λ (l : List Step). AllFit l []) (append-nil (postfix t)) (fit-postfix t p [] [] tt)
