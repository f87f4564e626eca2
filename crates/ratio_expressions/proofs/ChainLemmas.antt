-- The chains that are taken whole, one step of an expression after another.
use Rattle.std.proofs.Common.{◌≡◌, ◌<◌, ◌≤◌, ◌+◌, ℕ, List, [], ◌∷◌, ◌++◌, length, map, drop, reverse, get_or, Some, refl, ap, sym, ◌∙◌, subst, arith, add-one, append_assoc, ⊎_elim}
use Rattle.std.proofs.lemmas.Bool.Decides.{leb_tells}
use Rattle.std.proofs.lemmas.List.{append-nil, drop_all, length-map, length-reverse}
use Rattle.std.proofs.Math.Seq.{drop-cons}
use Rattle.ratio_expressions.specs.declared.token.Span.{Span}
use Rattle.ratio_expressions.specs.declared.step.Step.{Step}
use Rattle.ratio_expressions.specs.declared.step.Step.TheVariants as steps
use Rattle.ratio_expressions.specs.declared.slashes.Part.{Part}
use Rattle.ratio_expressions.specs.Grammar.{Tree, postfix}
use Rattle.ratio_expressions.specs.Slashes.{chains_by, is_slashed, part_of, parts_by, place_of, whole_chains, whole_side}
use Rattle.ratio_expressions.specs.Stacks.{AreOfTree, grow, operands, trees_by}
use Rattle.ratio_expressions.proofs.Counting.{few}
use Rattle.ratio_expressions.proofs.Growing.{grow-tree, never}
use Rattle.ratio_expressions.proofs.ParserLaws.{one_of_steps}

-- the chains of trees, the last tree first
abbrev chains_in : List Tree → List Span
chains_in [] = []
chains_in (t ∷ ts) = chains_in ts ++ whole_chains t

-- so many steps of an expression are taken
pub record IsJoined (written : List Step) (at : ℕ) (parts : List Part) (chains : List Span) : Type 0 where
  pub tree : Tree
  pub whole : written ≡ postfix tree
  pub built : List Tree
  pub left : grow (drop at written) (Some built) ≡ Some (tree ∷ [])
  pub places : reverse parts ≡ map part_of built
  pub found : chains ≡ chains_in built

-- no step is taken
pub starts : (written : List Step) → AreOfTree written → IsJoined written 0 [] []
starts written h = record {
  tree = h.tree;
  whole = h.same;
  built = [];
  left = ap (λ l. grow l (Some [])) h.same ∙ grow-tree h.tree;
  places = refl;
  found = refl;
}

-- what a step does to the parts and the chains is what it does to the trees
record IsStepped (x : Step) (ts : List Tree) : Type 0 where
  trees : List Tree
  grows : trees_by x ts ≡ Some trees
  parts : parts_by x (map part_of ts) ≡ map part_of trees
  chains : chains_in trees ≡ chains_in ts ++ chains_by x (map part_of ts)

one_tree : (x : Step) (ts : List Tree) (t u : Tree) → trees_by x (t ∷ ts) ≡ Some (u ∷ ts) → parts_by x (map part_of (t ∷ ts)) ≡ map part_of (u ∷ ts) → chains_by x (map part_of (t ∷ ts)) ≡ [] → whole_chains u ≡ whole_chains t → IsStepped x (t ∷ ts)
one_tree x ts t u grows parts none same = record {
  trees = u ∷ ts;
  grows = grows;
  parts = parts;
  chains = ap (λ l. chains_in ts ++ l) same ∙ sym (append-nil (chains_in (t ∷ ts))) ∙ ap (λ l. chains_in (t ∷ ts) ++ l) (sym none);
}

two_trees : (ts : List Tree) (a b : Tree) (l : List Span) → chains_in ts ++ (whole_chains a ++ (whole_chains b ++ l)) ≡ chains_in (b ∷ (a ∷ ts)) ++ l
two_trees ts a b l =
    sym (append_assoc (chains_in (a ∷ ts)) (whole_chains b) l ∙ append_assoc (chains_in ts) (whole_chains a) (whole_chains b ++ l))

stepped : (x : Step) (ts : List Tree) (xs : List Step) (us : List Tree) → grow xs (trees_by x ts) ≡ Some us → IsStepped x ts
stepped (steps.Number s) ts xs us e = record { trees = _; grows = refl; parts = refl; chains = refl }
stepped (steps.Name s) ts xs us e = record { trees = _; grows = refl; parts = refl; chains = refl }
stepped (steps.Sign g s) [] xs us e = absurd (never xs us e)
stepped (steps.Sign g s) (t ∷ ts) xs us e = one_tree (steps.Sign g s) ts t _ refl refl refl refl
stepped (steps.Group s f) [] xs us e = absurd (never xs us e)
stepped (steps.Group s f) (t ∷ ts) xs us e = one_tree (steps.Group s f) ts t _ refl refl refl refl
stepped (steps.Call c) [] xs us e = absurd (never xs us e)
stepped (steps.Call c) (t ∷ ts) xs us e = one_tree (steps.Call c) ts t _ refl refl refl refl
stepped (steps.Apply o s) [] xs us e = absurd (never xs us e)
stepped (steps.Apply o s) (b ∷ []) xs us e = absurd (never xs us e)
stepped (steps.Apply o s) (b ∷ (a ∷ ts)) xs us e = record { trees = _; grows = refl; parts = refl; chains = two_trees ts a b (whole_side o (is_slashed b) (place_of b)) }
stepped (steps.Comma s) [] xs us e = absurd (never xs us e)
stepped (steps.Comma s) (b ∷ []) xs us e = absurd (never xs us e)
stepped (steps.Comma s) (b ∷ (a ∷ ts)) xs us e = record {
  trees = _;
  grows = refl;
  parts = refl;
  chains = ap (λ l. chains_in ts ++ (whole_chains a ++ l)) (sym (append-nil (whole_chains b))) ∙ two_trees ts a b [];
}

enough : (x : Step) (ts : List Tree) (xs : List Step) (us : List Tree) → grow xs (trees_by x ts) ≡ Some us → operands x ≤ length ts
enough x ts xs us e = ⊎_elim
    (λ p. p.1)
    (λ p. absurd (never xs us (ap (grow xs) (sym (few ts x p.1)) ∙ e)))
    (leb_tells (operands x) (length ts))

module _ (written : List Step) (at : ℕ) (parts : List Part) (chains : List Span) (d : Step) (so : IsJoined written at parts chains) (within : at < length written) where
  next : grow (drop (at + 1) written) (trees_by (get_or written at d) so.built) ≡ Some (so.tree ∷ [])
  next = ap (λ n. grow (drop n written) (trees_by (get_or written at d) so.built)) (add-one at) ∙ sym (ap (λ l. grow l (Some so.built)) (drop-cons written at d within)) ∙ so.left

  -- there are enough parts for the next step
  pub has_enough : operands (get_or written at d) ≤ length parts
  has_enough =
      omega (arith, enough (get_or written at d) so.built (drop (at + 1) written) (so.tree ∷ []) next, ap length so.places, length-reverse parts, length-map so.built part_of)

  -- one step more is taken
  pub goes_on : (after : List Part) (more : List Span) → reverse after ≡ parts_by (get_or written at d) (reverse parts) → more ≡ chains ++ chains_by (get_or written at d) (reverse parts) → IsJoined written (at + 1) after more
  goes_on after more e f =
      let q = stepped (get_or written at d) so.built (drop (at + 1) written) (so.tree ∷ []) next in
      record {
        tree = so.tree;
        whole = so.whole;
        built = q.trees;
        left = sym (ap (grow (drop (at + 1) written)) q.grows) ∙ next;
        places = e ∙ ap (parts_by (get_or written at d)) so.places ∙ q.parts;
        found = f ∙ ap (λ l. chains ++ chains_by (get_or written at d) l) so.places ∙ ap (λ l. l ++ chains_by (get_or written at d) (map part_of so.built)) so.found ∙ sym q.chains;
      }

-- all steps are taken
pub ends : (written : List Step) (at : ℕ) (parts : List Part) (chains : List Span) → IsJoined written at parts chains → length written ≤ at → (t : Tree) → written ≡ postfix t → chains ≡ whole_chains t
ends written at parts chains so past t same =
    let all : Some so.built ≡ Some (so.tree ∷ []) = sym (ap (λ l. grow l (Some so.built)) (drop_all at written past)) ∙ so.left in
    let built : so.built ≡ so.tree ∷ [] = cc in
    so.found ∙ ap chains_in built ∙ ap whole_chains (one_of_steps so.tree t (sym so.whole ∙ same))
