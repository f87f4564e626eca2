-- The codes of a fraction, taken one quotient at a time.
use Rattle.std.specs.Prelude.{◌≡◌, ◌≢◌, ◌+◌, ◌≤◌, ◌≤ℤ◌, ◌+ℤ◌, ℕ, ℤ, suc, pos, Bool, true, false, cond, fold, length, List, [], ◌∷◌, ◌++◌}
use Rattle.std.proofs.Common.{refl, sym, ap, arith, inl, inr, subst, append_assoc, ◌∙◌}
use Rattle.std.proofs.lemmas.Bool.{true≢false}
use Rattle.std.proofs.lemmas.Grind.{fold-append}
use Rattle.std.proofs.lemmas.List.{length_push}
use Rattle.std.specs.Ordering.{int_eq}
use Rattle.ratio_integer.specs.Division.{IsAboveMax, IsFloored}
use Rattle.ratio_core.specs.ContinuedFraction.{AreCodesCounted, IsCodeCount, IsCodesOf, codes_of_quotients, count_below}
use Rattle.ratio_core.proofs.Quotients.{Goes, quotients_short}
use Rattle.ratio_core.proofs.Rounds.{above_quotients, apart, not_top, same}

cond_yes : {A : Type 0} (b : Bool) (x y : A) → b ≡ true → cond b x y ≡ x
cond_yes true x y h = refl
cond_yes false x y h = absurd (true≢false (sym h))

cond_no : {A : Type 0} (b : Bool) (x y : A) → b ≡ false → cond b x y ≡ y
cond_no true x y h = absurd (true≢false h)
cond_no false x y h = refl

-- ---- the cases of a round

pub coded-above : (lo hi n d : ℤ) → IsAboveMax hi n d → AreCodesCounted lo hi n d (lo ∷ lo ∷ pos 0 ∷ []) 0
coded-above lo hi n d top =
    let t : ℤ = hi +ℤ pos 1 in
    let yes : int_eq t t ≡ true = same t t refl in
    record {
      quotients = t ∷ [];
      are = above_quotients hi n d top;
      list_is = sym (cond_yes (int_eq t t) (lo ∷ lo ∷ pos 0 ∷ []) (t ∷ pos 0 ∷ []) yes);
      count = sym (ap (λ x. x + 0) (cond_yes (int_eq t t) 0 1 yes));
    }

module _ (lo hi n d q r : ℤ) (f : IsFloored n d q r) (below : q ≤ℤ hi) where
  no : int_eq q (hi +ℤ pos 1) ≡ false
  no = apart q (hi +ℤ pos 1) (not_top hi q below)

  with_rest : (qs : List ℤ) → Goes d r qs → AreCodesCounted lo hi n d (q ∷ codes_of_quotients lo (hi +ℤ pos 1) qs) (1 + count_below (hi +ℤ pos 1) qs)
  with_rest qs g = record {
    quotients = q ∷ qs;
    are = (r, f, g);
    list_is = sym (cond_no (int_eq q (hi +ℤ pos 1)) (lo ∷ lo ∷ codes_of_quotients lo (hi +ℤ pos 1) qs) (q ∷ codes_of_quotients lo (hi +ℤ pos 1) qs) no);
    count = sym (ap (λ x. x + count_below (hi +ℤ pos 1) qs) (cond_no (int_eq q (hi +ℤ pos 1)) 0 1 no));
  }

  pub coded-last : r ≡ pos 0 → AreCodesCounted lo hi n d (q ∷ pos 0 ∷ []) 1
  coded-last z = with_rest [] (inl (z, refl))

  pub coded-more : (list : List ℤ) (k : ℕ) → r ≢ pos 0 → AreCodesCounted lo hi d r list k → AreCodesCounted lo hi n d (q ∷ list) (1 + k)
  coded-more list k left next =
      subst (λ j. AreCodesCounted lo hi n d (q ∷ list) (1 + j)) (sym next.count)
      (subst (λ l. AreCodesCounted lo hi n d (q ∷ l) (1 + count_below (hi +ℤ pos 1) next.quotients)) (sym next.list_is) (with_rest next.quotients (inr (left, next.are))))

-- ---- rounds in a loop

-- the codes taken so far, and then those of a/b, are the codes of n/d
pub record IsBegun {S : Type 0} (after : S → ℤ → S) (lo hi n d : ℤ) (start : S) (left : ℕ) (a b : ℤ) (now : S) (left' : ℕ) : Type 0 where
  pub front : List ℤ
  pub now_is : now ≡ fold after start front
  pub rose : left' ≡ left + length front
  pub carried : (list : List ℤ) (k : ℕ) → AreCodesCounted lo hi a b list k → AreCodesCounted lo hi n d (front ++ list) (length front + k)

module _ {S : Type 0} (after : S → ℤ → S) (lo hi n d : ℤ) (start : S) (left : ℕ) where
  pub hashing_begins : IsBegun after lo hi n d start left n d start left
  hashing_begins = record { front = []; now_is = refl; rose = omega arith; carried = λ list k h. subst (AreCodesCounted lo hi n d list) (omega arith) h }

  pub hashing_ends : (a b : ℤ) (now last : S) (left' left'' : ℕ) (list : List ℤ) (k : ℕ) → IsBegun after lo hi n d start left a b now left' → AreCodesCounted lo hi a b list k → last ≡ fold after now list → left'' ≡ left' + k
      → (codes : List ℤ) × (k : ℕ) × AreCodesCounted lo hi n d codes k × (last ≡ fold after start codes) × (left'' ≡ left + k)
  hashing_ends a b now last left' left'' list k h is e more = (
    h.front ++ list,
    length h.front + k,
    h.carried list k is,
    e ∙ ap (λ s. fold after s list) h.now_is ∙ sym (fold-append after start h.front list),
    (let rose = h.rose in omega arith),
  )

  pub hashing_goes_on : (a b q r : ℤ) (now next : S) (left' left'' : ℕ) → IsBegun after lo hi n d start left a b now left' → IsFloored a b q r → q ≤ℤ hi → r ≢ pos 0 → next ≡ after now q → left'' ≡ left' + 1
      → IsBegun after lo hi n d start left b r next left''
  hashing_goes_on a b q r now next left' left'' h f below rest e more = record {
    front = h.front ++ q ∷ [];
    now_is = e ∙ ap (λ s. after s q) h.now_is ∙ sym (fold-append after start h.front (q ∷ []));
    rose = (let rose = h.rose in omega (arith, longer));
    carried = λ list k is.
        let whole = h.carried (q ∷ list) (1 + k) (coded-more lo hi a b q r f below list k rest is) in
        subst (λ l. AreCodesCounted lo hi n d l (length (h.front ++ q ∷ []) + k)) (sym (append_assoc h.front (q ∷ []) list))
        (subst (AreCodesCounted lo hi n d (h.front ++ q ∷ list)) (omega (arith, longer)) whole);
  }
    where
      longer : length (h.front ++ q ∷ []) ≡ length h.front + 1
      longer = length_push h.front q

-- a list after it took two numbers, or three
pub took_two : {S : Type 0} (after : S → ℤ → S) {s s' s'' : S} {a b x y : ℤ} → s' ≡ after s a → s'' ≡ after s' b → a ≡ x → b ≡ y → s'' ≡ fold after s (x ∷ y ∷ [])
took_two after e f g h = cc

pub took_three : {S : Type 0} (after : S → ℤ → S) {s s' s'' : S} {a b c x y z : ℤ} → s' ≡ after (after s a) b → s'' ≡ after s' c → a ≡ x → b ≡ y → c ≡ z → s'' ≡ fold after s (x ∷ y ∷ z ∷ [])
took_three after e f g h k = cc

-- ---- what the clauses say

pub codes_alone : {lo hi n d : ℤ} {list : List ℤ} {k : ℕ} → AreCodesCounted lo hi n d list k → IsCodesOf lo hi n d list
codes_alone h = record { quotients = h.quotients; are = h.are; list_is = h.list_is }

at_most : (b : Bool) (k m : ℕ) → k ≤ m → cond b 0 1 + k ≤ suc m
at_most true k m h = omega arith
at_most false k m h = omega arith

count_within : (top : ℤ) (qs : List ℤ) → count_below top qs ≤ length qs
count_within top [] = omega arith
count_within top (q ∷ qs) = at_most (int_eq q top) (count_below top qs) (length qs) (count_within top qs)

pub count_alone : {lo hi n d : ℤ} {list : List ℤ} {k : ℕ} → AreCodesCounted lo hi n d list k → IsCodeCount hi n d k
count_alone {hi = hi} {n} {d} {k = k} h = record {
  quotients = h.quotients;
  are = h.are;
  exact = h.count;
  bound = λ j b. (let short = quotients_short j n d h.quotients h.are b in let count = h.count in omega (arith, count_within (hi +ℤ pos 1) h.quotients));
}
