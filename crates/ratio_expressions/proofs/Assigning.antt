-- When a line gives its value a name.
use Rattle.std.proofs.Common.{◌≡◌, ◌≤◌, ◌+◌, ◌-◌, ℕ, suc, List, [], ◌∷◌, ◌++◌, length, take, drop, get_or, reverse, Some, None, refl, ap, sym, ◌∙◌, subst, arith, inl, inr, ◌⊎◌, ⊎_elim, length-append}
use Rattle.std.proofs.lemmas.List.{reverse-append, reverse-reverse, take_all, take_more}
use Rattle.ratio_expressions.specs.declared.token.Span.{Span}
use Rattle.ratio_expressions.specs.declared.token.Operator.TheVariants.{Equal}
use Rattle.ratio_expressions.specs.declared.step.Step.{Step}
use Rattle.ratio_expressions.specs.declared.step.Step.TheVariants as steps
use Rattle.ratio_expressions.specs.Grammar.{Tree, Name, Between, postfix}
use Rattle.ratio_expressions.specs.Lines.{target, valued}
use Rattle.ratio_expressions.specs.Stacks.{IsEqualSign, MakeOneTree, grow}
use Rattle.ratio_expressions.proofs.Growing.{grow-append, grow-over, grow-tree}

-- the tree of an assignment
record IsAssigned (t : Tree) : Type 0 where
  sign : Span
  name : Span
  right : Tree
  same : t ≡ Between Equal sign (Name name) right

target_cases : (t : Tree) → (target t ≡ None) ⊎ IsAssigned t
target_cases (Between Equal s (Name n) b) = inr (record { sign = s; name = n; right = b; same = refl })
target_cases t = inl refl

-- without a name, the line's expression is the whole
valued_whole : (t : Tree) → target t ≡ None → valued t ≡ t
valued_whole (Between Equal s (Name n) b) none = absurd (cc)
valued_whole t none = refl

equal_sign : (x : Step) → IsEqualSign x → (s : Span) × (x ≡ steps.Apply Equal s)
equal_sign (steps.Apply Equal s) h = (s, refl)
equal_sign x h = absurd h

last_same : (m p : List Step) (y z : Step) → m ++ y ∷ [] ≡ p ++ z ∷ [] → (m ≡ p) × (y ≡ z)
last_same m p y z e =
    let turned : y ∷ reverse m ≡ z ∷ reverse p = sym (reverse-append m (y ∷ [])) ∙ ap reverse e ∙ reverse-append p (z ∷ []) in
    let fronts : reverse m ≡ reverse p = cc in
    (sym (reverse-reverse m) ∙ ap reverse fronts ∙ reverse-reverse p, cc)

-- the middle of a list
abbrev pub middle : List Step → List Step
middle xs = take (length xs - 1 - 1) (drop 1 xs)

with_last : (l : List Step) (d : Step) → 1 ≤ length l → l ≡ take (length l - 1) l ++ get_or l (length l - 1) d ∷ []
with_last l d some =
    let all : take (length l - 1 + 1) l ≡ l = take_all (length l - 1 + 1) l (omega arith) in
    sym all ∙ take_more l (length l - 1) d (omega arith)

-- a list is its first element, its middle and its last element
cut : (xs : List Step) (d : Step) → 2 ≤ length xs → xs ≡ get_or xs 0 d ∷ (middle xs ++ get_or xs (length xs - 1) d ∷ [])
cut [] d some = absurd (omega arith)
cut (x ∷ []) d some = absurd (omega arith)
cut (x ∷ (y ∷ l)) d some =
    let k : List Step = y ∷ l in
    let m : ℕ = length k - 1 in
    let front : m ≡ length (x ∷ k) - 1 - 1 = omega arith in
    let place : suc m ≡ length (x ∷ k) - 1 = omega arith in
    ap (λ (r : List Step). x ∷ r) (with_last k d (omega arith)) ∙ ap (λ n. x ∷ (take n k ++ get_or k m d ∷ [])) front
    ∙ ap (λ n. x ∷ (take (length (x ∷ k) - 1 - 1) k ++ get_or (x ∷ k) n d ∷ [])) place

module _ (xs : List Step) (d : Step) where
  -- the line gives its value this name
  pub gives_name : (n : Span) → 2 ≤ length xs → get_or xs 0 d ≡ steps.Name n → IsEqualSign (get_or xs (length xs - 1) d) → MakeOneTree (middle xs)
      → (t : Tree) → xs ≡ postfix t → (target t ≡ Some n) × (middle xs ≡ postfix (valued t))
  gives_name n some first sign whole t e =
      let last = equal_sign (get_or xs (length xs - 1) d) sign in
      let sign_step : Step = steps.Apply Equal last.0 in
      let u : Tree = Between Equal last.0 (Name n) whole.tree in
      let shape : xs ≡ steps.Name n ∷ (middle xs ++ sign_step ∷ []) =
      cut xs d some ∙ ap (λ x. x ∷ (middle xs ++ get_or xs (length xs - 1) d ∷ [])) first ∙ ap (λ x. steps.Name n ∷ (middle xs ++ x ∷ [])) last.1 in
      let makes : grow xs (Some []) ≡ Some (u ∷ []) =
      ap (λ l. grow l (Some [])) shape ∙ grow-append (middle xs) (sign_step ∷ []) (Some (Name n ∷ []))
      ∙ ap (grow (sign_step ∷ [])) (grow-over (middle xs) [] (whole.tree ∷ []) (Name n ∷ []) whole.makes) in
      let both : Some (t ∷ []) ≡ Some (u ∷ []) = sym (ap (λ l. grow l (Some [])) e ∙ grow-tree t) ∙ makes in
      let same : t ≡ u = cc in
      let joined : steps.Name n ∷ (middle xs ++ sign_step ∷ []) ≡ steps.Name n ∷ (postfix whole.tree ++ sign_step ∷ []) = sym shape ∙ e ∙ ap postfix same in
      let rest : middle xs ++ sign_step ∷ [] ≡ postfix whole.tree ++ sign_step ∷ [] = cc in
      (ap target same, (last_same (middle xs) (postfix whole.tree) sign_step sign_step rest).0 ∙ sym (ap (λ v. postfix (valued v)) same))

  -- it gives none, unless all this holds, and its expression is the whole
  pub gives_none : ((n : Span) → 2 ≤ length xs → get_or xs 0 d ≡ steps.Name n → IsEqualSign (get_or xs (length xs - 1) d) → MakeOneTree (middle xs) → ⊥)
      → (t : Tree) → xs ≡ postfix t → (target t ≡ None) × (xs ≡ postfix (valued t))
  gives_none fails t e =
      ⊎_elim
      (λ none. (none, e ∙ ap postfix (sym (valued_whole t none))))
      (λ (a : IsAssigned t).
      let shape : xs ≡ steps.Name a.name ∷ (postfix a.right ++ steps.Apply Equal a.sign ∷ []) = e ∙ ap postfix a.same in
      let some : 2 ≤ length xs = omega (arith, ap length shape, length-append (postfix a.right) (steps.Apply Equal a.sign ∷ [])) in
      let both : get_or xs 0 d ∷ (middle xs ++ get_or xs (length xs - 1) d ∷ []) ≡ steps.Name a.name ∷ (postfix a.right ++ steps.Apply Equal a.sign ∷ []) = sym (cut xs d some) ∙ shape in
      let first : get_or xs 0 d ≡ steps.Name a.name = cc in
      let rest : middle xs ++ get_or xs (length xs - 1) d ∷ [] ≡ postfix a.right ++ steps.Apply Equal a.sign ∷ [] = cc in
      let ends = last_same (middle xs) (postfix a.right) (get_or xs (length xs - 1) d) (steps.Apply Equal a.sign) rest in
      absurd (fails a.name some first (subst IsEqualSign (sym ends.1) tt) (record { tree = a.right; makes = ap (λ l. grow l (Some [])) ends.0 ∙ grow-tree a.right })))
      (target_cases t)
