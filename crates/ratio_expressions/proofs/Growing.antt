-- The trees that steps make, one step after another.
use Rattle.std.proofs.Common.{◌≡◌, List, [], ◌∷◌, ◌++◌, Option, Some, None, refl, ap, sym, ◌∙◌, append_assoc}
use Rattle.std.proofs.lemmas.List.{append-nil}
use Rattle.ratio_expressions.specs.declared.step.Step.{Step}
use Rattle.ratio_expressions.specs.declared.step.Step.TheVariants as steps
use Rattle.ratio_expressions.specs.Grammar.{Tree, Number, Name, Signed, Between, Group, Call, Listed, arguments, postfix}
use Rattle.ratio_expressions.specs.Stacks.{grow, trees_by}

pub grow-postfix : (t : Tree) (xs : List Step) (ts : List Tree) → grow (postfix t ++ xs) (Some ts) ≡ grow xs (Some (t ∷ ts))
grow-postfix (Number s) xs ts = refl
grow-postfix (Name s) xs ts = refl
grow-postfix (Signed g s t) xs ts = ap (λ l. grow l (Some ts)) (append_assoc (postfix t) (steps.Sign g s ∷ []) xs) ∙ grow-postfix t (steps.Sign g s ∷ xs) ts
grow-postfix (Group s t e) xs ts = ap (λ l. grow l (Some ts)) (append_assoc (postfix t) (steps.Group s e ∷ []) xs) ∙ grow-postfix t (steps.Group s e ∷ xs) ts
grow-postfix (Call n s t e) xs ts =
    let c : Step = steps.Call (record { name = n; opening = s; closing = e; arguments = arguments t }) in
    ap (λ l. grow l (Some ts)) (append_assoc (postfix t) (c ∷ []) xs) ∙ grow-postfix t (c ∷ xs) ts
grow-postfix (Between o s a b) xs ts =
    ap (λ l. grow l (Some ts)) (append_assoc (postfix a) (postfix b ++ steps.Apply o s ∷ []) xs ∙ ap (λ l. postfix a ++ l) (append_assoc (postfix b) (steps.Apply o s ∷ []) xs))
    ∙ grow-postfix a (postfix b ++ (steps.Apply o s ∷ xs)) ts
    ∙ grow-postfix b (steps.Apply o s ∷ xs) (a ∷ ts)
grow-postfix (Listed a s b) xs ts =
    ap (λ l. grow l (Some ts)) (append_assoc (postfix a) (postfix b ++ steps.Comma s ∷ []) xs ∙ ap (λ l. postfix a ++ l) (append_assoc (postfix b) (steps.Comma s ∷ []) xs))
    ∙ grow-postfix a (postfix b ++ (steps.Comma s ∷ xs)) ts
    ∙ grow-postfix b (steps.Comma s ∷ xs) (a ∷ ts)

-- the steps of a tree make this tree
pub grow-tree : (t : Tree) → grow (postfix t) (Some []) ≡ Some (t ∷ [])
grow-tree t = ap (λ (l : List Step). grow l (Some [])) (sym (append-nil (postfix t))) ∙ grow-postfix t [] []

grow-none : (xs : List Step) → grow xs None ≡ None
grow-none [] = refl
grow-none (x ∷ xs) = refl

-- where too few trees are left, no tree comes of it
pub never : (xs : List Step) (us : List Tree) → grow xs None ≡ Some us → ⊥
never xs us e = let none = grow-none xs in cc

pub grow-append : (xs ys : List Step) (o : Option (List Tree)) → grow (xs ++ ys) o ≡ grow ys (grow xs o)
grow-append [] ys o = refl
grow-append (x ∷ xs) ys None = sym (grow-none ys)
grow-append (x ∷ xs) ys (Some ts) = grow-append xs ys (trees_by x ts)

-- a step that finds its trees leaves those below them as they are
record Leaves (x : Step) (ts below : List Tree) : Type 0 where
  trees : List Tree
  makes : trees_by x ts ≡ Some trees
  leaves : trees_by x (ts ++ below) ≡ Some (trees ++ below)

step_leaves : (x : Step) (ts below : List Tree) (xs : List Step) (us : List Tree) → grow xs (trees_by x ts) ≡ Some us → Leaves x ts below
step_leaves (steps.Number s) ts below xs us e = record { trees = Number s ∷ ts; makes = refl; leaves = refl }
step_leaves (steps.Name s) ts below xs us e = record { trees = Name s ∷ ts; makes = refl; leaves = refl }
step_leaves (steps.Sign g s) [] below xs us e = absurd (never xs us e)
step_leaves (steps.Sign g s) (t ∷ ts) below xs us e = record { trees = Signed g s t ∷ ts; makes = refl; leaves = refl }
step_leaves (steps.Apply o s) [] below xs us e = absurd (never xs us e)
step_leaves (steps.Apply o s) (b ∷ []) below xs us e = absurd (never xs us e)
step_leaves (steps.Apply o s) (b ∷ (a ∷ ts)) below xs us e = record { trees = Between o s a b ∷ ts; makes = refl; leaves = refl }
step_leaves (steps.Group s c) [] below xs us e = absurd (never xs us e)
step_leaves (steps.Group s c) (t ∷ ts) below xs us e = record { trees = Group s t c ∷ ts; makes = refl; leaves = refl }
step_leaves (steps.Comma s) [] below xs us e = absurd (never xs us e)
step_leaves (steps.Comma s) (b ∷ []) below xs us e = absurd (never xs us e)
step_leaves (steps.Comma s) (b ∷ (a ∷ ts)) below xs us e = record { trees = Listed a s b ∷ ts; makes = refl; leaves = refl }
step_leaves (steps.Call c) [] below xs us e = absurd (never xs us e)
step_leaves (steps.Call c) (t ∷ ts) below xs us e = record { trees = Call c.name c.opening t c.closing ∷ ts; makes = refl; leaves = refl }

-- and so do steps
pub grow-over : (xs : List Step) (ts us below : List Tree) → grow xs (Some ts) ≡ Some us → grow xs (Some (ts ++ below)) ≡ Some (us ++ below)
grow-over [] ts us below e = let same : ts ≡ us = cc in ap (λ (l : List Tree). Some (l ++ below)) same
grow-over (x ∷ xs) ts us below e =
    let q = step_leaves x ts below xs us e in
    ap (grow xs) q.leaves ∙ grow-over xs q.trees us below (sym (ap (grow xs) q.makes) ∙ e)
