-- The rounds of a comparison: how many there are, and the result of each.
use Rattle.std.specs.Prelude.{◌≡◌, ◌≢◌, ◌⊎◌, ◌+◌, ◌*◌, ◌^◌, ◌<◌, ◌≤◌, ◌≤ℤ◌, ◌<ℤ◌, ◌+ℤ◌, ◌*ℤ◌, ◌||◌, ℕ, ℤ, zero, suc, pos, negsuc, unsigned_abs, min, Bool, true, false, cond, not, List, [], ◌∷◌, length}
use Rattle.std.proofs.Common.{refl, sym, ap, arith, subst, inl, inr, ◌∙◌}
use Rattle.std.proofs.lemmas.Bool.{true≢false}
use Rattle.std.proofs.lemmas.Bool.Decides.{Decides-int_eq}
use Rattle.std.proofs.lemmas.Int.{ints}
use Rattle.std.specs.Ordering.{int_eq, ordering_reverse}
use Rattle.std.specs.declared.cmp.Ordering.{Ordering}
use Rattle.std.specs.declared.cmp.Ordering.TheVariants.{Less, Equal, Greater}
use Rattle.ratio_integer.specs.Division.{IsAboveMax, IsFloored}
use Rattle.ratio_integer.specs.Range.{IsHeld, IsRange}
use Rattle.ratio_core.specs.ContinuedFraction.{Compares, IsCompared, IsOrderStepCount, IsPartialQuotients, IsRoundsUnless, IsWithinBits, rounds}
use Rattle.ratio_core.specs.Order.{AreProductsHeld, DoHalvesDecide, DoNumeratorsDecide, HaveUnlikeSigns, IsOrderOfParts}
use Rattle.ratio_core.proofs.CrossOrder.{divided-greater, divided-less, tied-both, tied-first, tied-rest, tied-second, top-equal, top-greater, top-less}
use Rattle.ratio_core.proofs.Quotients.{Goes, goes_ends, goes_on, quotients_exist, quotients_known, quotients_short}

-- ---- tests of quotients

different : (p q : ℤ) (b : Bool) → (b ≡ true → p ≡ q) → p ≢ q → b ≡ false
different p q true f k = absurd (k (f refl))
different p q false f k = refl

pub apart : (p q : ℤ) → p ≢ q → int_eq p q ≡ false
apart p q h = different p q (int_eq p q) (Decides-int_eq p q).0 h

pub same : (p q : ℤ) → p ≡ q → int_eq p q ≡ true
same p q h = (Decides-int_eq p q).1 h

pub not_top : (hi q : ℤ) → q ≤ℤ hi → q ≢ hi +ℤ pos 1
not_top hi q h e = omega (arith, ints)

-- ---- the number of rounds

no_second : (top : ℤ) (ps : List ℤ) → rounds top ps [] ≡ 0
no_second top [] = refl
no_second top (p ∷ ps) = refl

nothing_at : (b c : Bool) (k : ℕ) → b ≡ true → k ≡ 0 → cond b 0 1 + cond c k 0 ≡ 0
nothing_at true true k h z = omega arith
nothing_at true false k h z = refl
nothing_at false c k h z = absurd (true≢false (sym h))

true_or : (b c : Bool) → b ≡ true → (b || c) ≡ true
true_or true c h = refl
true_or false c h = absurd (true≢false (sym h))

or_true : (b c : Bool) → c ≡ true → (b || c) ≡ true
or_true true c h = refl
or_true false c h = h

none_at_first : (top : ℤ) (qs : List ℤ) → rounds top (top ∷ []) qs ≡ 0
none_at_first top [] = refl
none_at_first top (q ∷ qs) = nothing_at (int_eq top top || int_eq q top) (int_eq top q) 0 (true_or (int_eq top top) (int_eq q top) (same top top refl)) refl

none_at_second : (top : ℤ) (ps : List ℤ) → rounds top ps (top ∷ []) ≡ 0
none_at_second top [] = refl
none_at_second top (p ∷ ps) = nothing_at (int_eq p top || int_eq top top) (int_eq p top) (rounds top ps []) (or_true (int_eq p top) (int_eq top top) (same top top refl)) (no_second top ps)

one_at : (b b' c : Bool) (k : ℕ) → b ≡ false → b' ≡ false → cond (b || b') 0 1 + cond c k 0 ≡ 1 + cond c k 0
one_at true b' c k h h' = absurd (true≢false h)
one_at false true c k h h' = absurd (true≢false h')
one_at false false c k h h' = refl

round_at : (top p q : ℤ) (ps qs : List ℤ) → p ≢ top → q ≢ top → rounds top (p ∷ ps) (q ∷ qs) ≡ 1 + cond (int_eq p q) (rounds top ps qs) 0
round_at top p q ps qs a b = one_at (int_eq p top) (int_eq q top) (int_eq p q) (rounds top ps qs) (apart p top a) (apart q top b)

ended : (c : Bool) (k : ℕ) → k ≡ 0 → 1 + cond c k 0 ≡ 1
ended true k h = omega arith
ended false k h = refl

abbrev RoundsAre : ℤ → ℤ → ℤ → ℤ → ℤ → ℕ → Type 0
RoundsAre top n d m e k = (ps qs : List ℤ) → IsPartialQuotients n d ps → IsPartialQuotients m e qs → k ≡ rounds top ps qs

-- -hi-1 over -1 has the single quotient hi+1
above_floored : (hi n d : ℤ) → IsAboveMax hi n d → IsFloored n d (hi +ℤ pos 1) (pos 0)
above_floored hi n d top =
    let numer = top.numer in
    let denom = top.denom in
    let k : (hi +ℤ pos 1) *ℤ d ≡ (hi +ℤ pos 1) *ℤ negsuc 0 = ap (λ x. (hi +ℤ pos 1) *ℤ x) denom in
    record { sum = omega (arith, ints); rest = inr (omega (arith, ints), omega (arith, ints)) }

pub above_quotients : (hi n d : ℤ) → IsAboveMax hi n d → IsPartialQuotients n d ((hi +ℤ pos 1) ∷ [])
above_quotients hi n d top = (pos 0, above_floored hi n d top, inl (refl, refl))

above_known : (hi n d : ℤ) (ps : List ℤ) → IsAboveMax hi n d → IsPartialQuotients n d ps → ps ≡ (hi +ℤ pos 1) ∷ []
above_known hi n d ps top h =
    let f : (rest : List ℤ) × (ps ≡ (hi +ℤ pos 1) ∷ rest) × Goes d (pos 0) rest = quotients_known n d (hi +ℤ pos 1) (pos 0) ps (above_floored hi n d top) h in
    f.1 ∙ ap (λ x. (hi +ℤ pos 1) ∷ x) (goes_ends d (pos 0) f.0 f.2 refl)

none-first_above : (hi n d m e : ℤ) → IsAboveMax hi n d → RoundsAre (hi +ℤ pos 1) n d m e 0
none-first_above hi n d m e top ps qs f g = sym (ap (λ x. rounds (hi +ℤ pos 1) x qs) (above_known hi n d ps top f) ∙ none_at_first (hi +ℤ pos 1) qs)

none-second_above : (hi n d m e : ℤ) → IsAboveMax hi m e → RoundsAre (hi +ℤ pos 1) n d m e 0
none-second_above hi n d m e top ps qs f g = sym (ap (λ x. rounds (hi +ℤ pos 1) ps x) (above_known hi m e qs top g) ∙ none_at_second (hi +ℤ pos 1) ps)

module _ (top n d q r m e p s : ℤ) (f : IsFloored n d q r) (g : IsFloored m e p s) (qt : q ≢ top) (pt : p ≢ top) where
  split : (ps qs : List ℤ) → IsPartialQuotients n d ps → IsPartialQuotients m e qs
      → (ps' : List ℤ) × (qs' : List ℤ) × Goes d r ps' × Goes e s qs' × (rounds top ps qs ≡ 1 + cond (int_eq q p) (rounds top ps' qs') 0)
  split ps qs h k =
      let a : (rest : List ℤ) × (ps ≡ q ∷ rest) × Goes d r rest = quotients_known n d q r ps f h in
      let b : (rest : List ℤ) × (qs ≡ p ∷ rest) × Goes e s rest = quotients_known m e p s qs g k in
      (a.0, b.0, a.2, b.2, ap (λ x. rounds top x qs) a.1 ∙ ap (λ x. rounds top (q ∷ a.0) x) b.1 ∙ round_at top q p a.0 b.0 qt pt)

  one-apart : q ≢ p → RoundsAre top n d m e 1
  one-apart h ps qs a b =
      let w = split ps qs a b in
      sym (w.4 ∙ ap (λ x. 1 + cond x (rounds top w.0 w.1) 0) (apart q p h))

  one-first_ends : r ≡ pos 0 → RoundsAre top n d m e 1
  one-first_ends h ps qs a b =
      let w = split ps qs a b in
      sym (w.4 ∙ ended (int_eq q p) (rounds top w.0 w.1) (ap (λ x. rounds top x w.1) (goes_ends d r w.0 w.2 h)))

  one-second_ends : s ≡ pos 0 → RoundsAre top n d m e 1
  one-second_ends h ps qs a b =
      let w = split ps qs a b in
      sym (w.4 ∙ ended (int_eq q p) (rounds top w.0 w.1) (ap (λ x. rounds top w.0 x) (goes_ends e s w.1 w.3 h) ∙ no_second top w.0))

  one_more : (k : ℕ) → q ≡ p → r ≢ pos 0 → s ≢ pos 0 → RoundsAre top d r e s k → RoundsAre top n d m e (1 + k)
  one_more k h rn sn next ps qs a b =
      let w = split ps qs a b in
      let z : k ≡ rounds top w.0 w.1 = next w.0 w.1 (goes_on d r w.0 w.2 rn) (goes_on e s w.1 w.3 sn) in
      ap (λ x. 1 + x) z ∙ sym (w.4 ∙ ap (λ x. 1 + cond x (rounds top w.0 w.1) 0) (same q p h))

-- ---- the cases of a round

module _ (lo hi n d m e : ℤ) (range : IsRange lo hi) (n_held : IsHeld lo hi n) (m_held : IsHeld lo hi m) (dn : d ≢ pos 0) (en : e ≢ pos 0) where
  pub above-both : IsAboveMax hi n d → IsAboveMax hi m e → IsCompared (hi +ℤ pos 1) n d m e Equal 0
  above-both x y = record { order = sym (top-equal lo hi n d m e range n_held m_held dn en x y); rounds_are = none-first_above hi n d m e x }

  pub above-first : IsAboveMax hi n d → ¬ (IsAboveMax hi m e) → IsCompared (hi +ℤ pos 1) n d m e Greater 0
  above-first x y = record { order = sym (top-greater lo hi n d m e range n_held m_held dn en x y); rounds_are = none-first_above hi n d m e x }

  pub above-second : ¬ (IsAboveMax hi n d) → IsAboveMax hi m e → IsCompared (hi +ℤ pos 1) n d m e Less 0
  above-second x y = record { order = sym (top-less lo hi n d m e range n_held m_held dn en x y); rounds_are = none-second_above hi n d m e y }

-- n/d is q + r/d, and m/e is p + s/e
module _ (hi n d q r m e p s : ℤ) (f : IsFloored n d q r) (g : IsFloored m e p s) (q_below : q ≤ℤ hi) (p_below : p ≤ℤ hi) where
  qt : q ≢ hi +ℤ pos 1
  qt = not_top hi q q_below

  pt : p ≢ hi +ℤ pos 1
  pt = not_top hi p p_below

  pub round_ends : (o : Ordering) → IsOrderOfParts q r p s o → IsCompared (hi +ℤ pos 1) n d m e o 1
  round_ends Less (inl h) = record {
    order = sym (divided-less n d q r m e p s f g h);
    rounds_are = one-apart (hi +ℤ pos 1) n d q r m e p s f g qt pt (λ z. omega (arith, ints));
  }
  round_ends Less (inr h) = record {
    order = sym (tied-first n d q r m e p s f g h.0 h.1 h.2);
    rounds_are = one-first_ends (hi +ℤ pos 1) n d q r m e p s f g qt pt h.1;
  }
  round_ends Equal h = record {
    order = sym (tied-both n d q r m e p s f g h.0 h.1 h.2);
    rounds_are = one-first_ends (hi +ℤ pos 1) n d q r m e p s f g qt pt h.1;
  }
  round_ends Greater (inl h) = record {
    order = sym (divided-greater n d q r m e p s f g h);
    rounds_are = one-apart (hi +ℤ pos 1) n d q r m e p s f g qt pt (λ z. omega (arith, ints));
  }
  round_ends Greater (inr h) = record {
    order = sym (tied-second n d q r m e p s f g h.0 h.1 h.2);
    rounds_are = one-second_ends (hi +ℤ pos 1) n d q r m e p s f g qt pt h.2;
  }

  round_goes_on : (answer : Ordering) (k : ℕ) → q ≡ p → r ≢ pos 0 → s ≢ pos 0 → IsCompared (hi +ℤ pos 1) d r e s answer k → IsCompared (hi +ℤ pos 1) n d m e (ordering_reverse answer) (1 + k)
  round_goes_on answer k h rn sn next = record {
    order = ap ordering_reverse next.order ∙ sym (tied-rest n d q r m e p s f g h rn sn);
    rounds_are = one_more (hi +ℤ pos 1) n d q r m e p s f g qt pt k h rn sn next.rounds_are;
  }

-- ---- rounds in a loop, with a flag in place of reversals

-- the order of a/b and c/f, with the flag, gives the order of n/d and m/e
pub record AnswersFor (top n d m e : ℤ) (left right : ℕ) (reversed : Bool) (a b c f : ℤ) (left' right' : ℕ) : Type 0 where
  pub done : ℕ
  pub left_rose : left' ≡ left + done
  pub right_rose : right' ≡ right + done
  pub carried : (answer : Ordering) (k : ℕ) → IsCompared top a b c f answer k → IsCompared top n d m e (cond reversed (ordering_reverse answer) answer) (done + k)

pub rounds_begin : (top n d m e : ℤ) (l r : ℕ) → AnswersFor top n d m e l r false n d m e l r
rounds_begin top n d m e l r = record { done = 0; left_rose = omega arith; right_rose = omega arith; carried = λ answer k h. subst (IsCompared top n d m e answer) (omega arith) h }

pub rounds_end : {top n d m e : ℤ} {l r : ℕ} {reversed : Bool} {a b c f : ℤ} {l' r' : ℕ} {answer turned : Ordering} {k l'' r'' : ℕ} → AnswersFor top n d m e l r reversed a b c f l' r' → turned ≡ cond reversed (ordering_reverse answer) answer
    → IsCompared top a b c f answer k → l'' ≡ l' + k → r'' ≡ r' + k → Compares top n d m e turned l l'' r r''
rounds_end {top} {n} {d} {m} {e} {answer = answer} {k = k} h t is left right = record {
  count = h.done + k;
  left_rose = (let rose = h.left_rose in omega arith);
  right_rose = (let rose = h.right_rose in omega arith);
  compared = subst (λ o. IsCompared top n d m e o (h.done + k)) (sym t) (h.carried answer k is);
}

turned_twice : (b : Bool) (o : Ordering) → cond b (ordering_reverse (ordering_reverse o)) (ordering_reverse o) ≡ cond (not b) (ordering_reverse o) o
turned_twice true Less = refl
turned_twice true Equal = refl
turned_twice true Greater = refl
turned_twice false Less = refl
turned_twice false Equal = refl
turned_twice false Greater = refl

pub rounds_go_on : {hi n d m e : ℤ} {l r : ℕ} {reversed : Bool} {a b c f q x p y : ℤ} {l' r' l'' r'' : ℕ} → AnswersFor (hi +ℤ pos 1) n d m e l r reversed a b c f l' r'
    → IsFloored a b q x → IsFloored c f p y → q ≤ℤ hi → p ≤ℤ hi → q ≡ p → x ≢ pos 0 → y ≢ pos 0 → l'' ≡ l' + 1 → r'' ≡ r' + 1
    → AnswersFor (hi +ℤ pos 1) n d m e l r (not reversed) b x f y l'' r''
rounds_go_on {hi} {n} {d} {m} {e} {reversed = reversed} {a} {b} {c} {f} {q} {x} {p} {y} h first second q_below p_below tie xn yn left right = record {
  done = h.done + 1;
  left_rose = (let rose = h.left_rose in omega arith);
  right_rose = (let rose = h.right_rose in omega arith);
  carried = λ answer k is.
      let one : h.done + (1 + k) ≡ h.done + 1 + k = omega arith in
      let whole = h.carried (ordering_reverse answer) (1 + k) (round_goes_on hi a b q x c f p y first second q_below p_below answer k tie xn yn is) in
      subst (λ o. IsCompared (hi +ℤ pos 1) n d m e o (h.done + 1 + k)) (turned_twice reversed answer) (subst (IsCompared (hi +ℤ pos 1) n d m e (cond reversed (ordering_reverse (ordering_reverse answer)) (ordering_reverse answer))) one whole);
}

-- ---- the bound

at_most : (b c : Bool) (k m : ℕ) → k ≤ m → cond b 0 1 + cond c k 0 ≤ suc m
at_most true true k m h = omega arith
at_most true false k m h = omega arith
at_most false true k m h = omega arith
at_most false false k m h = omega arith

rounds_le_first : (top : ℤ) (ps qs : List ℤ) → rounds top ps qs ≤ length ps
rounds_le_first top [] qs = omega arith
rounds_le_first top (p ∷ ps) [] = omega arith
rounds_le_first top (p ∷ ps) (q ∷ qs) = at_most (int_eq p top || int_eq q top) (int_eq p q) (rounds top ps qs) (length ps) (rounds_le_first top ps qs)

rounds_le_second : (top : ℤ) (ps qs : List ℤ) → rounds top ps qs ≤ length qs
rounds_le_second top [] qs = omega arith
rounds_le_second top (p ∷ ps) [] = omega arith
rounds_le_second top (p ∷ ps) (q ∷ qs) = at_most (int_eq p top || int_eq q top) (int_eq p q) (rounds top ps qs) (length qs) (rounds_le_second top ps qs)

by_least : (a b t k j : ℕ) → min a b < t → (a < t → k ≤ j) → (b < t → k ≤ j) → k ≤ j
by_least a b t k j h f g = grind arith

rounds_within : (top n d m e : ℤ) (ps qs : List ℤ) → IsPartialQuotients n d ps → IsPartialQuotients m e qs → IsWithinBits (min (unsigned_abs d) (unsigned_abs e)) (rounds top ps qs)
rounds_within top n d m e ps qs f g j h = by_least (unsigned_abs d) (unsigned_abs e) (2 ^ j) (rounds top ps qs) (2 * j) h
    (λ b. let a : length ps ≤ 2 * j = quotients_short j n d ps f b in omega (arith, rounds_le_first top ps qs))
    (λ b. let a : length qs ≤ 2 * j = quotients_short j m e qs g b in omega (arith, rounds_le_second top ps qs))

pub steps-by_rounds : {Settled : Type 0} {hi n d m e : ℤ} {answer : Ordering} {l l' r r' : ℕ} → d ≢ pos 0 → e ≢ pos 0 → ¬ Settled → Compares (hi +ℤ pos 1) n d m e answer l l' r r'
    → (k : ℕ) × (l' ≡ l + k) × (r' ≡ r + k) × IsRoundsUnless Settled hi n d m e k
steps-by_rounds {hi = hi} {n} {d} {m} {e} dn en unsettled h =
    let f = quotients_exist n d dn in
    let g = quotients_exist m e en in
    let top : ℤ = hi +ℤ pos 1 in
    let count : h.count ≡ rounds top f.list g.list = h.compared.rounds_are f.list g.list f.are g.are in (
      h.count,
      h.left_rose,
      h.right_rose,
      record {
        exact = inr (unsettled, record { left = f.list; right = g.list; left_are = f.are; right_are = g.are; count = count });
        bound = subst (IsWithinBits (min (unsigned_abs d) (unsigned_abs e))) (sym count) (rounds_within top n d m e f.list g.list f.are g.are);
      },
    )

-- if the fact settles the comparison, there are no steps
pub steps_none : {Settled : Type 0} {hi n d m e : ℤ} (l r : ℕ) → Settled → (k : ℕ) × (l ≡ l + k) × (r ≡ r + k) × IsRoundsUnless Settled hi n d m e k
steps_none l r settled = (0, omega arith, omega arith, record { exact = inl (settled, refl); bound = λ j h. omega arith })

still_unsettled : {Held Settled Rounds : Type 0} {k : ℕ} → ¬ Held → ¬ Settled → (Held × (k ≡ 0)) ⊎ ((¬ Held) × Rounds) → (Settled × (k ≡ 0)) ⊎ ((¬ Settled) × Rounds)
still_unsettled out unsettled (inl h) = absurd (out h.0)
still_unsettled out unsettled (inr h) = inr (unsettled, h.1)

-- if neither of two facts settles it, both have the same count
pub unsettled_by_both : {Held Settled : Type 0} {hi n d m e : ℤ} {k : ℕ} → ¬ Held → ¬ Settled → IsRoundsUnless Held hi n d m e k → IsRoundsUnless Settled hi n d m e k
unsettled_by_both out unsettled is = record { exact = still_unsettled out unsettled is.exact; bound = is.bound }

-- if no test of a sparing comparison decides, nothing settles it
pub nothing_settles : {lo hi n d m e : ℤ} → ¬ ((d ≡ e) × (pos 0 <ℤ d)) → ¬ ((pos 0 <ℤ d) × (pos 0 <ℤ e) × HaveUnlikeSigns n m) → ¬ (AreProductsHeld lo hi n d m e)
    → ¬ (DoNumeratorsDecide n d m e ⊎ AreProductsHeld lo hi n d m e)
nothing_settles shared split held (inr h) = held h
nothing_settles shared split held (inl h) = elim h.2 [ inl same ↦ shared (same, h.0) | inr unlike ↦ split (h.0, h.1, unlike) ]

-- ---- the steps of an order that may be told by half digits

-- eight steps, if both denominators have four binary digits
eight_within : (m : ℕ) → 8 ≤ m → IsWithinBits m 8
eight_within m large zero h = absurd (omega arith)
eight_within m large (suc zero) h = absurd (omega arith)
eight_within m large (suc (suc zero)) h = absurd (omega arith)
eight_within m large (suc (suc (suc zero))) h = absurd (omega arith)
eight_within m large (suc (suc (suc (suc j)))) h = omega arith

pub eight_steps : (d e : ℤ) → pos 8 ≤ℤ d → pos 8 ≤ℤ e → IsWithinBits (min (unsigned_abs d) (unsigned_abs e)) 8
eight_steps (pos d) (pos e) first second = eight_within (min d e) (omega (arith, ints))
eight_steps (negsuc d) e first second = absurd (omega (arith, ints))
eight_steps (pos d) (negsuc e) first second = absurd (omega (arith, ints))

pub order_at_once : {halved : Bool} {lo hi n d m e : ℤ} (l r : ℕ) → DoNumeratorsDecide n d m e ⊎ AreProductsHeld lo hi n d m e
    → (k : ℕ) × (l ≡ l + k) × (r ≡ r + k) × IsOrderStepCount halved lo hi n d m e k
order_at_once l r settled = (0, omega arith, omega arith, record { exact = inl (settled, refl); bound = λ j h. omega arith })

module _ (halved : Bool) (lo hi n d m e : ℤ) (unsettled : ¬ (DoNumeratorsDecide n d m e ⊎ AreProductsHeld lo hi n d m e)) where
  pub order_by_halves : (l l' r r' : ℕ) → DoHalvesDecide halved hi n d m e → l' ≡ l + 8 → r' ≡ r + 8
      → (k : ℕ) × (l' ≡ l + k) × (r' ≡ r + k) × IsOrderStepCount halved lo hi n d m e k
  order_by_halves l l' r r' decided left right = (
    8,
    left,
    right,
    record {
      exact = inr (unsettled, inl (decided, refl));
      bound = eight_steps d e decided.left_long decided.right_long;
    },
  )

  pub order_by_rounds : {answer : Ordering} {l l' r r' : ℕ} → ¬ (DoHalvesDecide halved hi n d m e) → d ≢ pos 0 → e ≢ pos 0
      → Compares (hi +ℤ pos 1) n d m e answer l l' r r'
      → (k : ℕ) × (l' ≡ l + k) × (r' ≡ r + k) × IsOrderStepCount halved lo hi n d m e k
  order_by_rounds undecided dn en h =
      let counted = steps-by_rounds {Settled = ⊥} {hi = hi} dn en (λ never. never) h in (
        counted.0,
        counted.1,
        counted.2,
        record {
          exact = inr (unsettled, inr (undecided, elim counted.3.exact [ inl never ↦ absurd never.0 | inr rounds ↦ rounds.1 ]));
          bound = counted.3.bound;
        },
      )
