-- The tree of a list of tokens is the only one, and what is refused has none.
use Rattle.std.proofs.Common.{◌≡◌, List, [], ◌∷◌, ◌++◌, Some, None, refl, ap, sym, ◌∙◌, append_assoc}
use Rattle.ratio_expressions.specs.declared.token.Token.{Token}
use Rattle.ratio_expressions.specs.declared.step.Step.{Step}
use Rattle.ratio_expressions.specs.declared.step.Step.TheVariants as steps
use Rattle.ratio_expressions.specs.Grammar.{Tree, Number, Name, Signed, Between, Group, Call, Listed, arguments, HasTree, IsBegun, postfix}
use Rattle.ratio_expressions.specs.Reading.{run, start, finish}
use Rattle.ratio_expressions.proofs.Completeness.{reads_all, run-append, run-none}

-- the trees that the steps make, the last first, behind others
abbrev grown : Step → List Tree → List Tree
grown (steps.Number s) ts = Number s ∷ ts
grown (steps.Name s) ts = Name s ∷ ts
grown (steps.Sign g s) [] = []
grown (steps.Sign g s) (t ∷ ts) = Signed g s t ∷ ts
grown (steps.Apply o s) [] = []
grown (steps.Apply o s) (b ∷ []) = []
grown (steps.Apply o s) (b ∷ (a ∷ ts)) = Between o s a b ∷ ts
grown (steps.Group s e) [] = []
grown (steps.Group s e) (t ∷ ts) = Group s t e ∷ ts
grown (steps.Call c) [] = []
grown (steps.Call c) (t ∷ ts) = Call c.name c.opening t c.closing ∷ ts
grown (steps.Comma s) [] = []
grown (steps.Comma s) (b ∷ []) = []
grown (steps.Comma s) (b ∷ (a ∷ ts)) = Listed a s b ∷ ts

abbrev decode : List Step → List Tree → List Tree
decode [] ts = ts
decode (x ∷ xs) ts = decode xs (grown x ts)

decode-postfix : (t : Tree) (xs : List Step) (ts : List Tree) → decode (postfix t ++ xs) ts ≡ decode xs (t ∷ ts)
decode-postfix (Number s) xs ts = refl
decode-postfix (Name s) xs ts = refl
decode-postfix (Signed g s t) xs ts = ap (λ l. decode l ts) (append_assoc (postfix t) (steps.Sign g s ∷ []) xs) ∙ decode-postfix t (steps.Sign g s ∷ xs) ts
decode-postfix (Group s t e) xs ts = ap (λ l. decode l ts) (append_assoc (postfix t) (steps.Group s e ∷ []) xs) ∙ decode-postfix t (steps.Group s e ∷ xs) ts
decode-postfix (Call n s t e) xs ts =
    let x : Step = steps.Call (record { name = n; opening = s; closing = e; arguments = arguments t }) in
    ap (λ l. decode l ts) (append_assoc (postfix t) (x ∷ []) xs) ∙ decode-postfix t (x ∷ xs) ts
decode-postfix (Listed a s b) xs ts =
    ap (λ l. decode l ts) (append_assoc (postfix a) (postfix b ++ steps.Comma s ∷ []) xs ∙ ap (λ l. postfix a ++ l) (append_assoc (postfix b) (steps.Comma s ∷ []) xs))
    ∙ decode-postfix a (postfix b ++ (steps.Comma s ∷ xs)) ts
    ∙ decode-postfix b (steps.Comma s ∷ xs) (a ∷ ts)
decode-postfix (Between o s a b) xs ts =
    ap (λ l. decode l ts) (append_assoc (postfix a) (postfix b ++ steps.Apply o s ∷ []) xs ∙ ap (λ l. postfix a ++ l) (append_assoc (postfix b) (steps.Apply o s ∷ []) xs))
    ∙ decode-postfix a (postfix b ++ (steps.Apply o s ∷ xs)) ts
    ∙ decode-postfix b (steps.Apply o s ∷ xs) (a ∷ ts)

-- no two trees have the same steps
pub one_of_steps : (t u : Tree) → postfix t ≡ postfix u → t ≡ u
one_of_steps t u e =
    let same : t ∷ [] ≡ u ∷ [] = sym (decode-postfix t [] []) ∙ ap (λ (l : List Step). decode (l ++ []) []) e ∙ decode-postfix u [] [] in
    cc

-- a list of tokens has at most one tree
pub one_of_tokens : (tokens : List Token) (t u : Tree) → HasTree tokens t → HasTree tokens u → t ≡ u
one_of_tokens tokens t u p q =
    let same : Some (postfix t) ≡ Some (postfix u) = sym (reads_all t p.proper p.single) ∙ ap (λ l. finish (run l start)) (p.spelled ∙ sym q.spelled) ∙ reads_all u q.proper q.single in
    one_of_steps t u (cc)

-- what has a tree is read as a whole
reads_tree : (tokens : List Token) (t : Tree) → HasTree tokens t → finish (run tokens start) ≡ Some (postfix t)
reads_tree tokens t p = sym (ap (λ l. finish (run l start)) p.spelled) ∙ reads_all t p.proper p.single

-- where reading stops, no expression goes on
pub not_begun : (ts : List Token) → run ts start ≡ None → ¬ IsBegun ts
not_begun ts e b =
    let read = reads_tree (ts ++ b.more) b.tree b.has in
    let none : run (ts ++ b.more) start ≡ None = run-append ts b.more start ∙ ap (run b.more) e ∙ run-none b.more in
    let end : finish (run (ts ++ b.more) start) ≡ None = ap finish none in
    cc

-- what isn't read as a whole has no tree
pub no_tree : (ts : List Token) (t : Tree) → finish (run ts start) ≡ None → ¬ HasTree ts t
no_tree ts t e p = let read = reads_tree ts t p in cc
