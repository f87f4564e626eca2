-- Whether steps make one tree, by how many trees they make.
use Rattle.std.proofs.Common.{◌≡◌, ◌<◌, ◌≤◌, ◌+◌, ◌-◌, ℕ, suc, List, [], ◌∷◌, ◌++◌, length, take, drop, get_or, Some, None, refl, ap, sym, ◌∙◌, subst, arith}
use Rattle.std.proofs.lemmas.List.{take-append-drop, take_all, take_more}
use Rattle.std.proofs.Math.Seq.{drop-cons}
use Rattle.ratio_expressions.specs.declared.step.Step.{Step}
use Rattle.ratio_expressions.specs.declared.step.Step.TheVariants as steps
use Rattle.ratio_expressions.specs.Grammar.{Tree, Number, Name, Signed, Between, Group, Call, Listed}
use Rattle.ratio_expressions.specs.Stacks.{MakeOneTree, grow, trees_by, operands}
use Rattle.ratio_expressions.proofs.Growing.{grow-append, never}

-- the steps make so many trees
pub record HasTrees (written : List Step) (count : ℕ) : Type 0 where
  pub trees : List Tree
  pub makes : grow written (Some []) ≡ Some trees
  pub number : length trees ≡ count

-- a step that finds its trees makes one of them
grown_number : (x : Step) (ts : List Tree) → operands x ≤ length ts → (us : List Tree) × (trees_by x ts ≡ Some us) × (length us ≡ length ts - operands x + 1)
grown_number (steps.Number s) ts some = (Number s ∷ ts, refl, omega arith)
grown_number (steps.Name s) ts some = (Name s ∷ ts, refl, omega arith)
grown_number (steps.Sign g s) [] some = absurd (omega arith)
grown_number (steps.Sign g s) (t ∷ ts) some = (Signed g s t ∷ ts, refl, omega arith)
grown_number (steps.Group s e) [] some = absurd (omega arith)
grown_number (steps.Group s e) (t ∷ ts) some = (Group s t e ∷ ts, refl, omega arith)
grown_number (steps.Call c) [] some = absurd (omega arith)
grown_number (steps.Call c) (t ∷ ts) some = (Call c.name c.opening t c.closing ∷ ts, refl, omega arith)
grown_number (steps.Apply o s) [] some = absurd (omega arith)
grown_number (steps.Apply o s) (b ∷ []) some = absurd (omega arith)
grown_number (steps.Apply o s) (b ∷ (a ∷ ts)) some = (Between o s a b ∷ ts, refl, omega arith)
grown_number (steps.Comma s) [] some = absurd (omega arith)
grown_number (steps.Comma s) (b ∷ []) some = absurd (omega arith)
grown_number (steps.Comma s) (b ∷ (a ∷ ts)) some = (Listed a s b ∷ ts, refl, omega arith)

-- one step more
with_step : (xs : List Step) (n : ℕ) (x : Step) → HasTrees xs n → operands x ≤ n → HasTrees (xs ++ x ∷ []) (n - operands x + 1)
with_step xs n x h some =
    let q = grown_number x h.trees (omega (arith, h.number)) in
    record {
      trees = q.0;
      makes = grow-append xs (x ∷ []) (Some []) ∙ ap (grow (x ∷ [])) h.makes ∙ q.1;
      number = q.2 ∙ ap (λ m. m - operands x + 1) h.number;
    }

pub goes_on : (written : List Step) (i n : ℕ) (d : Step) → i < length written → HasTrees (take i written) n → operands (get_or written i d) ≤ n → HasTrees (take (i + 1) written) (n - operands (get_or written i d) + 1)
goes_on written i n d within h some =
    subst (λ l. HasTrees l (n - operands (get_or written i d) + 1)) (sym (take_more written i d within)) (with_step (take i written) n (get_or written i d) h some)

whole_of : (ts : List Tree) (xs : List Step) → grow xs (Some []) ≡ Some ts → length ts ≡ 1 → MakeOneTree xs
whole_of [] xs made one = absurd (omega arith)
whole_of (t ∷ []) xs made one = record { tree = t; makes = made }
whole_of (t ∷ (u ∷ ts)) xs made one = absurd (omega arith)

one_tree : (xs : List Step) (n : ℕ) → HasTrees xs n → MakeOneTree xs → n ≡ 1
one_tree xs n h a =
    let one : Some h.trees ≡ Some (a.tree ∷ []) = sym h.makes ∙ a.makes in
    let same : h.trees ≡ a.tree ∷ [] = cc in
    sym h.number ∙ ap length same

-- steps that make one tree are whole, and steps that make another number of trees are not
pub whole : (xs : List Step) (n i : ℕ) → length xs ≤ i → HasTrees (take i xs) n → (n ≡ 1 → MakeOneTree xs) × (MakeOneTree xs → n ≡ 1)
whole xs n i past h = let all = subst (λ l. HasTrees l n) (take_all i xs past) h in ((λ e. whole_of all.trees xs all.makes (all.number ∙ e)), one_tree xs n all)

pub few : (ts : List Tree) (x : Step) → length ts < operands x → trees_by x ts ≡ None
few [] (steps.Sign g s) h = refl
few [] (steps.Group s e) h = refl
few [] (steps.Call c) h = refl
few [] (steps.Apply o s) h = refl
few [] (steps.Comma s) h = refl
few (b ∷ []) (steps.Apply o s) h = refl
few (b ∷ []) (steps.Comma s) h = refl
few (b ∷ (a ∷ ts)) (steps.Apply o s) h = absurd (omega arith)
few (b ∷ (a ∷ ts)) (steps.Comma s) h = absurd (omega arith)
few (t ∷ ts) (steps.Sign g s) h = absurd (omega arith)
few (t ∷ ts) (steps.Group s e) h = absurd (omega arith)
few (t ∷ ts) (steps.Call c) h = absurd (omega arith)
few ts (steps.Number s) h = absurd (omega arith)
few ts (steps.Name s) h = absurd (omega arith)

-- a step that wants more trees than there are makes none
pub too_few : (written : List Step) (i n : ℕ) (d : Step) → i < length written → HasTrees (take i written) n → n < operands (get_or written i d) → ¬ MakeOneTree written
too_few written i n d within h less a =
    let x = get_or written i d in
    let rest = drop (suc i) written in
    let cut : take i written ++ (x ∷ rest) ≡ written = ap (λ l. take i written ++ l) (sym (drop-cons written i d within)) ∙ take-append-drop i written in
    let none : grow (take i written ++ (x ∷ rest)) (Some []) ≡ grow rest None =
    grow-append (take i written) (x ∷ rest) (Some []) ∙ ap (grow (x ∷ rest)) h.makes ∙ ap (grow rest) (few h.trees x (omega (arith, h.number))) in
    let all : grow rest None ≡ Some (a.tree ∷ []) = sym none ∙ ap (λ l. grow l (Some [])) cut ∙ a.makes in
    never rest (a.tree ∷ []) all
