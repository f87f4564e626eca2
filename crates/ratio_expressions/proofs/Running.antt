-- The steps of an expression, taken one after another, make its value, or its refusal.
use Rattle.std.proofs.Common.{◌≡◌, ◌<◌, ◌≤◌, ◌+◌, ℕ, List, [], ◌∷◌, ◌++◌, length, take, drop, reverse, get_or, Option, Some, refl, ap, sym, ◌∙◌, subst, arith, inl, inr, add-one, length-append}
use Rattle.std.proofs.lemmas.List.{drop_all, length-reverse, reverse-append, reverse-reverse}
use Rattle.std.proofs.Math.Seq.{drop-append_seam, drop-cons, take-append_seam}
use Rattle.ratio_expressions.specs.declared.step.Step.{Step}
use Rattle.ratio_expressions.specs.declared.step.Step.TheVariants as steps
use Rattle.ratio_expressions.specs.declared.refusal.Refusal.{Refusal}
use Rattle.ratio_expressions.specs.Calls.{GivesCall, RefusesCall}
use Rattle.ratio_expressions.specs.Grammar.{Tree, Number, Name, Signed, Between, Group, Call, Listed, IsProper, arguments, postfix}
use Rattle.ratio_expressions.specs.Stacks.{TakesStep, StopsAtStep, grow, trees_by, values_taken}
use Rattle.ratio_expressions.specs.Values.{AreWorth, HasRefusal, IsWorth, piece}
use Rattle.ratio_expressions.specs.Worths.{Worth}
use Rattle.ratio_expressions.proofs.Fitting.{AllFit, Fits, fit-tree}
use Rattle.ratio_expressions.proofs.Growing.{grow-tree, never}
use Rattle.ratio_expressions.proofs.ParserLaws.{one_of_steps}

not_nil : (us ts : List Tree) (u : Tree) → us ++ (u ∷ ts) ≡ [] → ⊥
not_nil [] ts u e = cc
not_nil (a ∷ us) ts u e = cc

one_value : (us : List Worth) → length us ≡ 1 → (w : Worth) × (us ≡ w ∷ [])
one_value [] one = absurd (omega arith)
one_value (w ∷ []) one = (w, refl)
one_value (w ∷ (v ∷ us)) one = absurd (omega arith)

module _ (text : List ℕ) (named : List ℕ → Option Worth) where
  -- an expression is worth one value, and arguments are worth one each
  worth_each : (t : Tree) (us : List Worth) → AreWorth text named t us → length us ≡ arguments t
  worth_each (Number s) (w ∷ []) h = omega arith
  worth_each (Name s) (w ∷ []) h = omega arith
  worth_each (Signed g s t) (w ∷ []) h = omega arith
  worth_each (Between o s a b) (w ∷ []) h = omega arith
  worth_each (Group s t e) (w ∷ []) h = omega arith
  worth_each (Call n s t e) (w ∷ []) h = omega arith
  worth_each (Listed a s b) us h = omega (arith, ap length h.4, length-append h.0 (h.1 ∷ []), worth_each a h.0 h.2)
  worth_each t us h = absurd h

  -- each tree is worth what the stack has: as many values as it has arguments, the last one first
  abbrev pub AreStacked : List Tree → List Worth → Type 0
  AreStacked [] ws = ws ≡ []
  AreStacked (t ∷ ts) ws = (us : List Worth) × (rest : List Worth) × AreWorth text named t us × AreStacked ts rest × (ws ≡ reverse us ++ rest)

  -- so many steps of an expression are taken
  pub record IsRunning (written : List Step) (at : ℕ) (ws : List Worth) : Type 0 where
    pub tree : Tree
    pub whole : written ≡ postfix tree
    pub single : arguments tree ≡ 1
    pub built : List Tree
    pub left : grow (drop at written) (Some built) ≡ Some (tree ∷ [])
    pub fits : AllFit (drop at written) built
    pub stacked : AreStacked built ws

  -- no step is taken
  pub starts : (t : Tree) (written : List Step) → IsProper t → arguments t ≡ 1 → written ≡ postfix t → IsRunning written 0 []
  starts t written proper single e = record {
    tree = t;
    whole = e;
    single = single;
    built = [];
    left = ap (λ l. grow l (Some [])) e ∙ grow-tree t;
    fits = subst (λ l. AllFit l []) (sym e) (fit-tree t proper);
    stacked = refl;
  }

  -- the last tree, if it is no list of arguments, is worth the last value
  record HasTop (t : Tree) (ts : List Tree) (ws : List Worth) : Type 0 where
    top : Worth
    rest : List Worth
    is : IsWorth text named t top
    below : AreStacked ts rest
    same : ws ≡ top ∷ rest

  popped : (t : Tree) (ts : List Tree) (ws : List Worth) → AreStacked (t ∷ ts) ws → arguments t ≡ 1 → HasTop t ts ws
  popped t ts ws h one =
      let k = one_value h.0 (worth_each t h.0 h.2 ∙ one) in
      record { top = k.0; rest = h.1; is = subst (AreWorth text named t) k.1 h.2; below = h.3; same = h.4 ∙ ap (λ us. reverse us ++ h.1) k.1 }

  pushed : (t : Tree) (ts : List Tree) (w : Worth) (ws : List Worth) → IsWorth text named t w → AreStacked ts ws → AreStacked (t ∷ ts) (w ∷ ws)
  pushed t ts w ws is below = (w ∷ [], ws, is, below, refl)

  -- a call takes what its arguments are worth
  record HasArguments (n : ℕ) (ws us rest : List Worth) : Type 0 where
    count : n ≤ length ws
    taken : reverse (take n ws) ≡ us
    below : drop n ws ≡ rest

  arguments_of : (t : Tree) (n : ℕ) (ws us rest : List Worth) → n ≡ arguments t → AreWorth text named t us → ws ≡ reverse us ++ rest → HasArguments n ws us rest
  arguments_of t n ws us rest fits is same =
      let k : n ≡ length (reverse us) = fits ∙ sym (worth_each t us is) ∙ sym (length-reverse us) in
      record {
        count = omega (arith, k, ap length same, length-append (reverse us) rest);
        taken = ap (λ m. reverse (take m ws)) k ∙ ap (λ l. reverse (take (length (reverse us)) l)) same ∙ ap reverse (take-append_seam (reverse us) rest) ∙ reverse-reverse us;
        below = ap (λ m. drop m ws) k ∙ ap (drop (length (reverse us))) same ∙ drop-append_seam (reverse us) rest;
      }

  enough_values : (x : Step) (ts : List Tree) (ws : List Worth) (xs : List Step) (us : List Tree) → grow xs (trees_by x ts) ≡ Some us → Fits x ts → AreStacked ts ws → values_taken x ≤ length ws
  enough_values (steps.Sign g s) [] ws xs us e f h = absurd (never xs us e)
  enough_values (steps.Sign g s) (t ∷ ts) ws xs us e f h = let q = popped t ts ws h f in omega (arith, ap length q.same)
  enough_values (steps.Apply o s) [] ws xs us e f h = absurd (never xs us e)
  enough_values (steps.Apply o s) (b ∷ []) ws xs us e f h = absurd (never xs us e)
  enough_values (steps.Apply o s) (b ∷ (a ∷ ts)) ws xs us e f h =
      let q = popped b (a ∷ ts) ws h f.1 in
      let r = popped a ts q.rest q.below f.0 in
      omega (arith, ap length q.same, ap length r.same)
  enough_values (steps.Call c) [] ws xs us e f h = absurd (never xs us e)
  enough_values (steps.Call c) (t ∷ ts) ws xs us e f h = let q = arguments_of t c.arguments ws h.0 h.1 f h.2 h.4 in q.count
  enough_values x ts ws xs us e f h = omega arith

  -- what the trees are worth after a step
  record IsStepped (x : Step) (ts : List Tree) (vs : List Worth) : Type 0 where
    trees : List Tree
    grows : trees_by x ts ≡ Some trees
    stacked : AreStacked trees vs

  with_top : (x : Step) (ts us : List Tree) (t : Tree) (w : Worth) (ws vs : List Worth) → trees_by x ts ≡ Some (t ∷ us) → IsWorth text named t w → AreStacked us ws → vs ≡ w ∷ ws → IsStepped x ts vs
  with_top x ts us t w ws vs grows is below same = record { trees = t ∷ us; grows = grows; stacked = subst (AreStacked (t ∷ us)) (sym same) (pushed t us w ws is below) }

  stepped : (x : Step) (ts : List Tree) (ws vs : List Worth) (xs : List Step) (us : List Tree) → grow xs (trees_by x ts) ≡ Some us → Fits x ts → AreStacked ts ws → TakesStep text named x ws vs → IsStepped x ts vs
  stepped (steps.Number s) ts ws vs xs us e f h p = with_top (steps.Number s) ts ts (Number s) _ ws vs refl (p.0, p.1, refl) h p.2
  stepped (steps.Name s) ts ws vs xs us e f h p = with_top (steps.Name s) ts ts (Name s) p.0 ws vs refl p.1 h p.2
  stepped (steps.Sign g s) [] ws vs xs us e f h p = absurd (never xs us e)
  stepped (steps.Sign g s) (t ∷ ts) ws vs xs us e f h p =
      let q = popped t ts ws h f in
      let k = subst (λ l. TakesStep text named (steps.Sign g s) l vs) q.same p in
      with_top (steps.Sign g s) (t ∷ ts) ts (Signed g s t) k.0 q.rest vs refl (q.top, q.is, k.1) q.below k.2
  stepped (steps.Apply o s) [] ws vs xs us e f h p = absurd (never xs us e)
  stepped (steps.Apply o s) (b ∷ []) ws vs xs us e f h p = absurd (never xs us e)
  stepped (steps.Apply o s) (b ∷ (a ∷ ts)) ws vs xs us e f h p =
      let q = popped b (a ∷ ts) ws h f.1 in
      let r = popped a ts q.rest q.below f.0 in
      let k = subst (λ l. TakesStep text named (steps.Apply o s) l vs) (q.same ∙ ap (λ l. q.top ∷ l) r.same) p in
      with_top (steps.Apply o s) (b ∷ (a ∷ ts)) ts (Between o s a b) k.0 r.rest vs refl (r.top, q.top, r.is, q.is, k.1) r.below k.2
  stepped (steps.Group s e) [] ws vs xs us g f h p = absurd (never xs us g)
  stepped (steps.Group s e) (t ∷ ts) ws vs xs us g f h p =
      let q = popped t ts ws h f in
      with_top (steps.Group s e) (t ∷ ts) ts (Group s t e) q.top q.rest vs refl q.is q.below (p ∙ q.same)
  stepped (steps.Comma s) [] ws vs xs us e f h p = absurd (never xs us e)
  stepped (steps.Comma s) (b ∷ []) ws vs xs us e f h p = absurd (never xs us e)
  stepped (steps.Comma s) (b ∷ (a ∷ ts)) ws vs xs us e f h p =
      let q = popped b (a ∷ ts) ws h f in
      let k = q.below in
      record {
        trees = Listed a s b ∷ ts;
        grows = refl;
        stacked = (
          k.0 ++ q.top ∷ [],
          k.1,
          (k.0, q.top, k.2, q.is, refl),
          k.3,
          p ∙ q.same ∙ ap (λ l. q.top ∷ l) k.4 ∙ sym (ap (λ l. l ++ k.1) (reverse-append k.0 (q.top ∷ []))),
        );
      }
  stepped (steps.Call c) [] ws vs xs us e f h p = absurd (never xs us e)
  stepped (steps.Call c) (t ∷ ts) ws vs xs us e f h p =
      let q = arguments_of t c.arguments ws h.0 h.1 f h.2 h.4 in
      with_top (steps.Call c) (t ∷ ts) ts (Call c.name c.opening t c.closing) p.0 h.1 vs refl
      (h.0, h.2, subst (λ l. GivesCall (piece text c.name) l p.0) q.taken p.1) h.3 (p.2 ∙ ap (λ l. p.0 ∷ l) q.below)

  -- a tree that a step makes is refused, and those before it are worth something
  record IsStopped (x : Step) (ts : List Tree) (r : Refusal) : Type 0 where
    tree : Tree
    before : List Tree
    values : List Worth
    grows : trees_by x ts ≡ Some (tree ∷ before)
    refused : HasRefusal text named tree r
    stacked : AreStacked before values

  stopped : (x : Step) (ts : List Tree) (ws : List Worth) (xs : List Step) (us : List Tree) (r : Refusal) → grow xs (trees_by x ts) ≡ Some us → Fits x ts → AreStacked ts ws → StopsAtStep text named x ws r → IsStopped x ts r
  stopped (steps.Number s) ts ws xs us r e f h p = record { tree = Number s; before = ts; values = ws; grows = refl; refused = p; stacked = h }
  stopped (steps.Name s) ts ws xs us r e f h p = record { tree = Name s; before = ts; values = ws; grows = refl; refused = p; stacked = h }
  stopped (steps.Sign g s) [] ws xs us r e f h p = absurd (never xs us e)
  stopped (steps.Sign g s) (t ∷ ts) ws xs us r e f h p =
      let q = popped t ts ws h f in
      let k = subst (λ l. StopsAtStep text named (steps.Sign g s) l r) q.same p in
      record { tree = Signed g s t; before = ts; values = q.rest; grows = refl; refused = inr (q.top, q.is, k.0, k.1); stacked = q.below }
  stopped (steps.Apply o s) [] ws xs us r e f h p = absurd (never xs us e)
  stopped (steps.Apply o s) (b ∷ []) ws xs us r e f h p = absurd (never xs us e)
  stopped (steps.Apply o s) (b ∷ (a ∷ ts)) ws xs us r e f h p =
      let q = popped b (a ∷ ts) ws h f.1 in
      let l = popped a ts q.rest q.below f.0 in
      let k = subst (λ m. StopsAtStep text named (steps.Apply o s) m r) (q.same ∙ ap (λ m. q.top ∷ m) l.same) p in
      record { tree = Between o s a b; before = ts; values = l.rest; grows = refl; refused = inr (l.top, l.is, inr (q.top, q.is, k.0, k.1)); stacked = l.below }
  stopped (steps.Group s e) ts ws xs us r g f h p = absurd p
  stopped (steps.Comma s) ts ws xs us r e f h p = absurd p
  stopped (steps.Call c) [] ws xs us r e f h p = absurd (never xs us e)
  stopped (steps.Call c) (t ∷ ts) ws xs us r e f h p =
      let q = arguments_of t c.arguments ws h.0 h.1 f h.2 h.4 in
      let k = subst (λ l. RefusesCall (piece text c.name) l r.reason) q.taken p.0 in
      record { tree = Call c.name c.opening t c.closing; before = ts; values = h.1; grows = refl; refused = inr (h.0, h.2, k, p.1); stacked = h.3 }

  -- what has a refused tree in it is refused
  refused_in : (xs : List Step) (us : List Tree) (u : Tree) (ts : List Tree) (ws : List Worth) (t : Tree) (r : Refusal) → grow xs (Some (us ++ (u ∷ ts))) ≡ Some (t ∷ []) → AllFit xs (us ++ (u ∷ ts)) → AreStacked ts ws → HasRefusal text named u r → HasRefusal text named t r
  refused_in [] [] u ts ws t r e f h p = let same : u ≡ t = cc in subst (λ v. HasRefusal text named v r) same p
  refused_in [] (a ∷ us) u ts ws t r e f h p = absurd (not_nil us ts u (cc))
  refused_in (steps.Number s ∷ xs) us u ts ws t r e f h p = refused_in xs (Number s ∷ us) u ts ws t r e (f.1 _ refl) h p
  refused_in (steps.Name s ∷ xs) us u ts ws t r e f h p = refused_in xs (Name s ∷ us) u ts ws t r e (f.1 _ refl) h p
  refused_in (steps.Sign g s ∷ xs) [] u ts ws t r e f h p = refused_in xs [] (Signed g s u) ts ws t r e (f.1 _ refl) h (inl p)
  refused_in (steps.Sign g s ∷ xs) (a ∷ us) u ts ws t r e f h p = refused_in xs (Signed g s a ∷ us) u ts ws t r e (f.1 _ refl) h p
  refused_in (steps.Group s c ∷ xs) [] u ts ws t r e f h p = refused_in xs [] (Group s u c) ts ws t r e (f.1 _ refl) h p
  refused_in (steps.Group s c ∷ xs) (a ∷ us) u ts ws t r e f h p = refused_in xs (Group s a c ∷ us) u ts ws t r e (f.1 _ refl) h p
  refused_in (steps.Apply o s ∷ xs) [] u [] ws t r e f h p = absurd (never xs (t ∷ []) e)
  refused_in (steps.Apply o s ∷ xs) [] u (b ∷ ts) ws t r e f h p =
      let q = popped b ts ws h f.0.0 in
      refused_in xs [] (Between o s b u) ts q.rest t r e (f.1 _ refl) q.below (inr (q.top, q.is, inl p))
  refused_in (steps.Apply o s ∷ xs) (a ∷ []) u ts ws t r e f h p = refused_in xs [] (Between o s u a) ts ws t r e (f.1 _ refl) h (inl p)
  refused_in (steps.Apply o s ∷ xs) (a ∷ (b ∷ us)) u ts ws t r e f h p = refused_in xs (Between o s b a ∷ us) u ts ws t r e (f.1 _ refl) h p
  refused_in (steps.Comma s ∷ xs) [] u [] ws t r e f h p = absurd (never xs (t ∷ []) e)
  refused_in (steps.Comma s ∷ xs) [] u (b ∷ ts) ws t r e f h p = refused_in xs [] (Listed b s u) ts h.1 t r e (f.1 _ refl) h.3 (inr (h.0, h.2, p))
  refused_in (steps.Comma s ∷ xs) (a ∷ []) u ts ws t r e f h p = refused_in xs [] (Listed u s a) ts ws t r e (f.1 _ refl) h (inl p)
  refused_in (steps.Comma s ∷ xs) (a ∷ (b ∷ us)) u ts ws t r e f h p = refused_in xs (Listed b s a ∷ us) u ts ws t r e (f.1 _ refl) h p
  refused_in (steps.Call c ∷ xs) [] u ts ws t r e f h p = refused_in xs [] (Call c.name c.opening u c.closing) ts ws t r e (f.1 _ refl) h (inl p)
  refused_in (steps.Call c ∷ xs) (a ∷ us) u ts ws t r e f h p = refused_in xs (Call c.name c.opening a c.closing ∷ us) u ts ws t r e (f.1 _ refl) h p

  module _ (written : List Step) (at : ℕ) (ws : List Worth) (d : Step) (run : IsRunning written at ws) (within : at < length written) where
    next : grow (drop (at + 1) written) (trees_by (get_or written at d) run.built) ≡ Some (run.tree ∷ [])
    next = ap (λ n. grow (drop n written) (trees_by (get_or written at d) run.built)) (add-one at) ∙ sym (ap (λ l. grow l (Some run.built)) (drop-cons written at d within)) ∙ run.left

    here : AllFit (get_or written at d ∷ drop (at + 1) written) run.built
    here = subst (λ n. AllFit (get_or written at d ∷ drop n written) run.built) (sym (add-one at)) (subst (λ l. AllFit l run.built) (drop-cons written at d within) run.fits)

    -- the stack has enough values for the next step
    pub has_enough : values_taken (get_or written at d) ≤ length ws
    has_enough = enough_values (get_or written at d) run.built ws (drop (at + 1) written) (run.tree ∷ []) next here.0 run.stacked

    -- one step more is taken
    pub goes_on : (vs : List Worth) → TakesStep text named (get_or written at d) ws vs → IsRunning written (at + 1) vs
    goes_on vs p =
        let q = stepped (get_or written at d) run.built ws vs (drop (at + 1) written) (run.tree ∷ []) next here.0 run.stacked p in
        record {
          tree = run.tree;
          whole = run.whole;
          single = run.single;
          built = q.trees;
          left = sym (ap (grow (drop (at + 1) written)) q.grows) ∙ next;
          fits = here.1 q.trees q.grows;
          stacked = q.stacked;
        }

    -- the next step is refused, and so is the tree
    pub stops : (r : Refusal) → StopsAtStep text named (get_or written at d) ws r → (t : Tree) → written ≡ postfix t → HasRefusal text named t r
    stops r p t same =
        let q = stopped (get_or written at d) run.built ws (drop (at + 1) written) (run.tree ∷ []) r next here.0 run.stacked p in
        subst (λ u. HasRefusal text named u r) (one_of_steps run.tree t (sym run.whole ∙ same))
        (refused_in (drop (at + 1) written) [] q.tree q.before q.values run.tree r (sym (ap (grow (drop (at + 1) written)) q.grows) ∙ next) (here.1 (q.tree ∷ q.before) q.grows) q.stacked q.refused)

  -- all steps are taken: then one value is left, which the tree is worth
  pub ends : (written : List Step) (at : ℕ) (ws : List Worth) → IsRunning written at ws → length written ≤ at → (t : Tree) → written ≡ postfix t → (w : Worth) × (ws ≡ w ∷ []) × IsWorth text named t w
  ends written at ws run past t same =
      let all : Some run.built ≡ Some (run.tree ∷ []) = sym (ap (λ l. grow l (Some run.built)) (drop_all at written past)) ∙ run.left in
      let built : run.built ≡ run.tree ∷ [] = cc in
      let q = popped run.tree [] ws (subst (λ ts. AreStacked ts ws) built run.stacked) run.single in
      (q.top, q.same ∙ ap (λ l. q.top ∷ l) q.below, subst (λ u. IsWorth text named u q.top) (one_of_steps run.tree t (sym run.whole ∙ same)) q.is)
