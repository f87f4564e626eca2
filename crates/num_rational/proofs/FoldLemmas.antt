-- Folds over the items of an iterator: when the next step meets its condition, and what the steps so far gave.
use Rattle.std.proofs.Common.{◌≡◌, ◌∙◌, ℕ, ◌+◌, ◌<◌, ℤ, pos, List, [], ◌∷◌, ◌++◌, Option, Some, ap, subst, sym, refl, map, take, drop, length, get_or, take-append-drop}
use Rattle.std.proofs.lemmas.Fn.{FoldsTo-push}
use Rattle.std.proofs.lemmas.Iterator.{YieldsList, items_from_drains}
use Rattle.std.proofs.lemmas.Iterator.Consumers.{YieldsList-so_far}
use Rattle.std.proofs.lemmas.List.{take_more}
use Rattle.std.proofs.lemmas.List.Elements.{All-cons, All-head, All-nil, All-tail, All-take}
use Rattle.std.specs.Iterator.{DrainsIf, HoldsAlong, Yields}
use Rattle.std.specs.List.{FoldsTo}
use Rattle.std.specs.Prelude.{◌<ℤ◌, All}
use Rattle.ratio_integer.proofs.LowestTerms.{lowest_unique, over_one}
use Rattle.ratio_core.specs.Laws.{IsProduct, IsSum}
use Rattle.num_rational.specs.Folds.{AnswersFrom, ArePositive}

-- ---- the calls of an iterator

module _ {S A : Type 0} (steps : S → Option A → S → Type 0) where
  -- one more call after those that gave xs
  yields_more : (xs : List A) (s t u : S) (x : A) → Yields steps s xs t → steps t (Some x) u → Yields steps s (xs ++ x ∷ []) u
  yields_more [] s t u x gave last = (u, subst (λ w. steps w (Some x) u) (sym gave) last, refl)
  yields_more (y ∷ xs) s t u x gave last = (gave.0, gave.1, yields_more xs gave.0 t u x gave.2 last)

  -- the calls gave the items so far and one more
  pub gave_more : {s i t u : S} (xs : List A) {x : A} → i ≡ s → Yields steps i xs t → steps t (Some x) u → Yields steps s (xs ++ x ∷ []) u
  gave_more {i = i} {t = t} {u = u} xs {x} same gave last = subst (λ w. Yields steps w (xs ++ x ∷ []) u) same (yields_more xs i t u x gave last)

  -- what holds along the calls holds of the items so far and one more
  along_more : {P : List A → Type 0} {s i t u : S} (xs : List A) {x : A} → HoldsAlong steps s P → i ≡ s → Yields steps i xs t → steps t (Some x) u → P (xs ++ x ∷ [])
  along_more {u = u} xs {x} holds same gave last = holds (xs ++ x ∷ []) u (gave_more xs same gave last)

last_of_all : {A : Type 0} (P : A → Type 0) (xs : List A) (x : A) → All P (xs ++ x ∷ []) → P x
last_of_all P [] x all = All-head P x [] all
last_of_all P (y ∷ xs) x all = last_of_all P xs x (All-tail P y (xs ++ x ∷ []) all)

-- if the denominators of all items are positive, so is the one of the next item's pair
pub next_positive : {S A : Type 0} (view : A → ℤ × ℤ) (steps : S → Option A → S → Type 0) {s i t u : S} (xs : List A) {x : A} {pair : ℤ × ℤ} → pair ≡ view x → HoldsAlong steps s (ArePositive view) → i ≡ s → Yields steps i xs t → steps t (Some x) u → pos 0 <ℤ pair.1
next_positive view steps xs {x} seen positive same gave last =
    let all : ArePositive view (xs ++ x ∷ []) = along_more steps xs positive same gave last in
    subst (λ p. pos 0 <ℤ p.1) (sym seen) (last_of_all (λ y. pos 0 <ℤ (view y).1) xs x all)

-- ---- the steps of a fold, if a step gives at most one total

same_pair : (p q : ℤ × ℤ) → p.0 ≡ q.0 → p.1 ≡ q.1 → p ≡ q
same_pair p q first second = λ k. (first k, second k)

pub one_sum : (p x q r : ℤ × ℤ) → IsSum p x q → IsSum p x r → q ≡ r
one_sum p x q r first second =
    let same = lowest_unique _ _ q.0 q.1 r.0 r.1 first second in
    same_pair q r same.0 same.1

pub one_product : (p x q r : ℤ × ℤ) → IsProduct p x q → IsProduct p x r → q ≡ r
one_product p x q r first second =
    let same = lowest_unique _ _ q.0 q.1 r.0 r.1 first second in
    same_pair q r same.0 same.1

-- each step over the items so far met its condition, they gave this total, and its denominator is positive
pub record StepsSoFar {A : Type 0} (view : A → ℤ × ℤ) (Can : ℤ × ℤ → ℤ × ℤ → Type 0) (Gives : ℤ × ℤ → ℤ × ℤ → ℤ × ℤ → Type 0) (start : ℤ × ℤ) (xs : List A) (q : ℤ × ℤ) : Type 0 where
  pub answered : AnswersFrom view Can Gives start xs
  pub total : FoldsTo (λ p x q. Gives p (view x) q) start xs q
  pub positive : pos 0 <ℤ q.1

module _ {A : Type 0} (view : A → ℤ × ℤ) (Can : ℤ × ℤ → ℤ × ℤ → Type 0) (Gives : ℤ × ℤ → ℤ × ℤ → ℤ × ℤ → Type 0) where
  -- if all steps meet their condition, so do the total before the last item and this item
  next_answered : (xs : List A) (x : A) (p q : ℤ × ℤ) → AnswersFrom view Can Gives p (xs ++ x ∷ []) → FoldsTo (λ p x q. Gives p (view x) q) p xs q → Can q (view x)
  next_answered [] x p q answered total = subst (λ w. Can w (view x)) total answered.0
  next_answered (y ∷ xs) x p q answered total = next_answered xs x total.0 q (answered.1 total.0 total.1) total.2

  -- if all steps meet their condition, so do those over the first items
  pub beginning : (xs more : List A) (p : ℤ × ℤ) → AnswersFrom view Can Gives p (xs ++ more) → AnswersFrom view Can Gives p xs
  beginning [] more p answered = tt
  beginning (y ∷ ys) more p answered = (answered.0, λ q gives. beginning ys more q (answered.1 q gives))

  -- the same for an iterator, if each step along its calls meets its condition
  pub next_along : {S : Type 0} (steps : S → Option A → S → Type 0) {s i t u : S} (start : ℤ × ℤ) (xs : List A) {x : A} {q pair : ℤ × ℤ} → pair ≡ view x → HoldsAlong steps s (AnswersFrom view Can Gives start) → i ≡ s → Yields steps i xs t → steps t (Some x) u → FoldsTo (λ p x q. Gives p (view x) q) start xs q → Can q pair
  next_along steps start xs {x} {q} seen can same gave last total = subst (Can q) (sym seen) (next_answered xs x start q (along_more steps xs can same gave last) total)

  -- if the step over an item does not meet its condition, not all steps up to this item do
  pub step_refused : (start : ℤ × ℤ) (xs : List A) (x : A) (q : ℤ × ℤ) {pair : ℤ × ℤ} → pair ≡ view x → FoldsTo (λ p x q. Gives p (view x) q) start xs q → ¬ (Can q pair) → ¬ (AnswersFrom view Can Gives start (xs ++ x ∷ []))
  step_refused start xs x q seen total cannot answered = cannot (subst (Can q) (sym seen) (next_answered xs x start q answered total))

  pub no_steps : (start q : ℤ × ℤ) → q.0 ≡ start.0 → q.1 ≡ start.1 → start.1 ≡ pos 1 → StepsSoFar view Can Gives start [] q
  no_steps start q numer denom one = record {
    answered = tt;
    total = sym (same_pair q start numer denom);
    positive = (over_one q.0 q.1 (denom ∙ one)).positive;
  }

  module _ (one : (p x q r : ℤ × ℤ) → Gives p x q → Gives p x r → q ≡ r) where
    pub one_total : (xs : List A) (p q r : ℤ × ℤ) → FoldsTo (λ p x q. Gives p (view x) q) p xs q → FoldsTo (λ p x q. Gives p (view x) q) p xs r → q ≡ r
    one_total [] p q r first second = sym first ∙ second
    one_total (x ∷ xs) p q r first second =
        let same = one p (view x) second.0 first.0 second.1 first.1 in
        one_total xs first.0 q r first.2 (subst (λ w. FoldsTo (λ p x q. Gives p (view x) q) w xs r) same second.2)

    -- one more step meets its condition, if every total of the items before meets it with the new item
    answered_more : (xs : List A) (x : A) (p : ℤ × ℤ) → AnswersFrom view Can Gives p xs → ((q : ℤ × ℤ) → FoldsTo (λ p x q. Gives p (view x) q) p xs q → Can q (view x)) → AnswersFrom view Can Gives p (xs ++ x ∷ [])
    answered_more [] x p answered can = (can p refl, λ next gives. tt)
    answered_more (y ∷ xs) x p answered can = (answered.0, λ next gives. answered_more xs x next (answered.1 next gives) (λ q total. can q (next, gives, total)))

    pub step_more : (start : ℤ × ℤ) (xs : List A) (x : A) (q r : ℤ × ℤ) {pair : ℤ × ℤ} → pair ≡ view x → StepsSoFar view Can Gives start xs q → Can q pair → Gives q pair r → pos 0 <ℤ r.1 → StepsSoFar view Can Gives start (xs ++ x ∷ []) r
    step_more start xs x q r seen before can gives positive = record {
      answered = answered_more xs x start before.answered (λ p also. subst (λ w. Can w (view x)) (one_total xs start q p before.total also) (subst (Can q) seen can));
      total = FoldsTo-push _ _ xs q x r before.total (subst (λ w. Gives q w r) seen gives);
      positive = positive;
    }

-- ---- a list that is read one item at a time

module _ {A : Type 0} (view : A → ℤ × ℤ) (Can : ℤ × ℤ → ℤ × ℤ → Type 0) (Gives : ℤ × ℤ → ℤ × ℤ → ℤ × ℤ → Type 0) (start : ℤ × ℤ) (all : List A) (i : ℕ) (x : A) (below : i < length all) (is : x ≡ get_or all i x) where
  one_further : take (i + 1) all ≡ take i all ++ x ∷ []
  one_further = take_more all i x below ∙ ap (λ y. take i all ++ y ∷ []) (sym is)

  -- if the step over the next item does not meet its condition, not all steps over the list do
  pub list_refused : (q : ℤ × ℤ) {pair : ℤ × ℤ} → pair ≡ view x → FoldsTo (λ p x q. Gives p (view x) q) start (take i all) q → ¬ (Can q pair) → ¬ (AnswersFrom view Can Gives start all)
  list_refused q seen total cannot answered =
      let whole : AnswersFrom view Can Gives start (take (i + 1) all ++ drop (i + 1) all) = subst (AnswersFrom view Can Gives start) (sym (take-append-drop (i + 1) all)) answered in
      step_refused view Can Gives start (take i all) x q seen total cannot (subst (AnswersFrom view Can Gives start) one_further (beginning view Can Gives (take (i + 1) all) (drop (i + 1) all) start whole))

  pub list_more : ((p x q r : ℤ × ℤ) → Gives p x q → Gives p x r → q ≡ r) → (q r : ℤ × ℤ) {pair : ℤ × ℤ} → pair ≡ view x → StepsSoFar view Can Gives start (take i all) q → Can q pair → Gives q pair r → pos 0 <ℤ r.1 → StepsSoFar view Can Gives start (take (i + 1) all) r
  list_more one q r seen before can gives positive = subst (λ xs. StepsSoFar view Can Gives start xs r) (sym one_further) (step_more view Can Gives one start (take i all) x q r seen before can gives positive)

-- ---- an iterator that gives a list

module _ {A B : Type 0} (view : B → ℤ × ℤ) (v : A → B) (Can : ℤ × ℤ → ℤ × ℤ → Type 0) (Gives : ℤ × ℤ → ℤ × ℤ → ℤ × ℤ → Type 0) where
  -- if all steps over a list meet their condition, so do those over a front of it that v reads
  front_answered : (xs : List A) (more : List B) (p : ℤ × ℤ) → AnswersFrom view Can Gives p (map v xs ++ more) → AnswersFrom (λ x. view (v x)) Can Gives p xs
  front_answered [] more p answered = tt
  front_answered (x ∷ xs) more p answered = (answered.0, λ q gives. front_answered xs more q (answered.1 q gives))

  -- if each step over the list meets its condition, so does each step along the calls
  pub along_front : {S : Type 0} {steps : S → Option A → S → Type 0} {s : S} (all : List B) (p : ℤ × ℤ) → YieldsList steps v s all → AnswersFrom view Can Gives p all → HoldsAlong steps s (AnswersFrom (λ x. view (v x)) Can Gives p)
  along_front all p given answered xs t gave =
      let whole : AnswersFrom view Can Gives p (take (length xs) all ++ drop (length xs) all) = subst (AnswersFrom view Can Gives p) (sym (take-append-drop (length xs) all)) answered in
      front_answered xs (drop (length xs) all) p (subst (λ w. AnswersFrom view Can Gives p (w ++ drop (length xs) all)) (sym (YieldsList-so_far given xs t gave)) whole)

  -- if each step of a whole run meets its condition, so does each step over the list
  answered_map : (xs : List A) (p : ℤ × ℤ) → AnswersFrom (λ x. view (v x)) Can Gives p xs → AnswersFrom view Can Gives p (map v xs)
  answered_map [] p answered = tt
  answered_map (x ∷ xs) p answered = (answered.0, λ q gives. answered_map xs q (answered.1 q gives))

  pub whole_answered : {S : Type 0} {steps : S → Option A → S → Type 0} {s : S} (xs : List A) (all : List B) (p : ℤ × ℤ) → DrainsIf steps (Unit {0}) s xs → YieldsList steps v s all → AnswersFrom (λ x. view (v x)) Can Gives p xs → AnswersFrom view Can Gives p all
  whole_answered xs all p drained given answered = subst (AnswersFrom view Can Gives p) (items_from_drains xs drained given) (answered_map xs p answered)

module _ {A B : Type 0} (view : B → ℤ × ℤ) (v : A → B) where
  positive_unmap : (xs : List A) → ArePositive view (map v xs) → ArePositive (λ x. view (v x)) xs
  positive_unmap [] all = All-nil (λ x. pos 0 <ℤ (view (v x)).1)
  positive_unmap (x ∷ xs) all = All-cons (λ x. pos 0 <ℤ (view (v x)).1) x xs (All-head (λ y. pos 0 <ℤ (view y).1) (v x) (map v xs) all) (positive_unmap xs (All-tail (λ y. pos 0 <ℤ (view y).1) (v x) (map v xs) all))

  -- if each denominator of the list is positive, so is each one along the calls
  pub positive_along : {S : Type 0} {steps : S → Option A → S → Type 0} {s : S} (all : List B) → YieldsList steps v s all → ArePositive view all → HoldsAlong steps s (ArePositive (λ x. view (v x)))
  positive_along all given positive xs t gave =
      positive_unmap xs (subst (ArePositive view) (sym (YieldsList-so_far given xs t gave)) (All-take (λ y. pos 0 <ℤ (view y).1) (length xs) all positive))
