-- How often the search divides: what each round adds, and what its first division says.
use Rattle.std.specs.Prelude.{◌≡◌, ◌≢◌, ◌⊎◌, ◌+◌, ◌*◌, ◌≤ℤ◌, ◌<ℤ◌, ◌+ℤ◌, ◌-ℤ◌, ◌*ℤ◌, ℕ, ℤ, zero, suc, pos, negsuc, Bool, true, false, cond, List, [], ◌∷◌, length}
use Rattle.std.specs.Ordering.{int_eq}
use Rattle.std.proofs.Common.{◌∙◌, refl, sym, ap, subst, arith, inl, inr}
use Rattle.std.proofs.lemmas.Bool.{false≢true}
use Rattle.std.proofs.lemmas.Bool.Decides.{Decides-int_eq}
use Rattle.std.proofs.lemmas.Int.{ints}
use Rattle.ratio_core.proofs.Rounds.{apart, same}
use Rattle.ratio_approximation.specs.Enclosing.{IsLastBelow, IsRoom}
use Rattle.ratio_approximation.specs.SearchCount.{IsContinuedFraction, IsSearchCount, common_start, count_without_one, one_ends}
use Rattle.ratio_approximation.proofs.QuotientLists.{BeginsFrom, IsEvenList, IsOddList, even_before, even_exists, even_more, none_even, odd_before, odd_behind, odd_exists, odd_more, room_leaves}

-- ---- the common start, by the first quotients

start_same : (p : ℤ) (ps qs : List ℤ) → common_start (p ∷ ps) (p ∷ qs) ≡ p ∷ common_start ps qs
start_same p ps qs = ap (λ b. cond b (p ∷ common_start ps qs) []) (same p p refl)

start_apart : (p q : ℤ) (ps qs : List ℤ) → p ≢ q → common_start (p ∷ ps) (q ∷ qs) ≡ []
start_apart p q ps qs other = ap (λ b. cond b (p ∷ common_start ps qs) []) (apart p q other)

ends_same : (p : ℤ) (ps qs : List ℤ) → one_ends (p ∷ ps) (p ∷ qs) ≡ one_ends ps qs
ends_same p ps qs = ap (λ b. cond b (one_ends ps qs) 0) (same p p refl)

ends_apart : (p q : ℤ) (ps qs : List ℤ) → p ≢ q → one_ends (p ∷ ps) (q ∷ qs) ≡ 0
ends_apart p q ps qs other = ap (λ b. cond b (one_ends ps qs) 0) (apart p q other)

same_or : (p q : ℤ) → (p ≡ q) ⊎ (p ≢ q)
same_or p q = by (int_eq p q) refl
  where
    by : (b : Bool) → b ≡ int_eq p q → (p ≡ q) ⊎ (p ≢ q)
    by true is = inl ((Decides-int_eq p q).0 (sym is))
    by false is = inr (λ equal. false≢true (is ∙ same p q equal))

start_turned : (ps qs : List ℤ) → length (common_start ps qs) ≡ length (common_start qs ps)
start_turned [] [] = refl
start_turned [] (q ∷ qs) = refl
start_turned (p ∷ ps) [] = refl
start_turned (p ∷ ps) (q ∷ qs) = elim (same_or p q) [
  | inl equal ↦ subst (λ (t : ℤ). length (common_start (p ∷ ps) (t ∷ qs)) ≡ length (common_start (t ∷ qs) (p ∷ ps))) equal
      (ap length (start_same p ps qs) ∙ ap suc (start_turned ps qs) ∙ sym (ap length (start_same p qs ps)))
  | inr other ↦ ap length (start_apart p q ps qs other) ∙ sym (ap length (start_apart q p qs ps (λ e. other (sym e))))
]

ends_turned : (ps qs : List ℤ) → one_ends ps qs ≡ one_ends qs ps
ends_turned [] [] = refl
ends_turned [] (q ∷ qs) = refl
ends_turned (p ∷ ps) [] = refl
ends_turned (p ∷ ps) (q ∷ qs) = elim (same_or p q) [
  | inl equal ↦ subst (λ (t : ℤ). one_ends (p ∷ ps) (t ∷ qs) ≡ one_ends (t ∷ qs) (p ∷ ps)) equal (ends_same p ps qs ∙ ends_turned ps qs ∙ sym (ends_same p qs ps))
  | inr other ↦ ends_apart p q ps qs other ∙ sym (ends_apart q p qs ps (λ e. other (sym e)))
]

-- the first quotient counts, whatever it is
one_at_least : (qs : List ℤ) (p : ℤ) → count_without_one (p ∷ qs) ≡ count_without_one (pos 0 ∷ qs)
one_at_least [] p = refl
one_at_least (q ∷ qs) p = refl

-- ---- a count from its lists

search_count : (n d m e p q : ℤ) (ps qs : List ℤ) (k l : ℕ) → IsOddList n d (p ∷ ps) → IsEvenList m e (q ∷ qs) → k ≡ 1 + count_without_one (common_start (p ∷ ps) (q ∷ qs)) → k ≡ l + one_ends (p ∷ ps) (q ∷ qs) → IsSearchCount n d m e k l
search_count n d m e p q ps qs k l low high left right = record {
  low = p ∷ ps;
  high = q ∷ qs;
  low_are = record { are = low.later; value = low.value };
  high_are = record { are = high.later; value = high.value };
  low_odd = low.odd;
  high_even = high.even;
  left_is = left;
  right_is = right;
}

-- ---- the rounds

-- ps is a list of o/f, by which the moving neighbour goes on, and qs is one of t/c, up to which it may
pub record AreRests (o t c f : ℤ) (ps qs : List ℤ) : Type 0 where
  pub odd : IsOddList o f ps
  pub even : IsEvenList t c qs
  pub odd_up : BeginsFrom (pos 0) ps
  pub even_up : BeginsFrom (pos 0) qs
  pub odd_some : f ≤ℤ o → BeginsFrom (pos 1) ps
  pub even_some : c <ℤ t → BeginsFrom (pos 1) qs

-- after a number of rounds, the lists of what is left say what the whole search counts on both sides, if the first divisions count too
pub record HasCounted (Counts : ℕ → ℕ → Type 0) (rounds : ℕ) (o t c f : ℤ) : Type 0 where
  pub counts : (ps qs : List ℤ) (k l : ℕ) → AreRests o t c f ps qs → k ≡ rounds + 2 + length (common_start ps qs) → k ≡ l + one_ends ps qs → Counts k l

-- one more round
pub counted_more : (Counts : ℕ → ℕ → Type 0) (rounds : ℕ) (o t c f w r s : ℤ) → pos 1 ≤ℤ w → o ≡ w *ℤ f +ℤ r → t ≡ w *ℤ c +ℤ s → r <ℤ f → s ≤ℤ c → HasCounted Counts rounds o t c f → HasCounted Counts (rounds + 1) c f r s
counted_more Counts rounds o t c f w r s some own other less most counted = record {
  counts = λ ps qs k l rests k-is l-is. counted.counts (w ∷ qs) (w ∷ ps) k l
      (record {
        odd = odd_before o f w r qs own (rests.even_some less) rests.even;
        even = even_before t c w s ps other (rests.odd_some most) rests.odd;
        odd_up = omega (arith, ints);
        even_up = omega (arith, ints);
        odd_some = λ h. some;
        even_some = λ h. some;
      })
      (let one : length (common_start (w ∷ qs) (w ∷ ps)) ≡ length (w ∷ common_start qs ps) = ap length (start_same w qs ps) in
      let turned : length (common_start qs ps) ≡ length (common_start ps qs) = start_turned qs ps in
      omega arith)
      (l-is ∙ ap (λ (t : ℕ). l + t) (ends_turned ps qs ∙ sym (ends_same w qs ps)));
}

-- the last round, at the first difference
pub counted_apart : (Counts : ℕ → ℕ → Type 0) (rounds : ℕ) (o t c f w r z : ℤ) → pos 0 ≤ℤ w → pos 0 ≤ℤ z → o ≡ w *ℤ f +ℤ r → pos 0 ≤ℤ r → r <ℤ f → (f ≤ℤ o → pos 1 ≤ℤ w) → (c <ℤ t → pos 1 ≤ℤ z) → IsRoom t c z → w ≢ z → HasCounted Counts rounds o t c f → Counts (rounds + 1 + 1) (rounds + 1 + 1)
counted_apart Counts rounds o t c f w r z w_up z_up own r_up less w_some z_some room other counted =
    let left = room_leaves t c z room in
    let rest = even_exists f r r_up less in
    let gap = odd_exists c (t -ℤ c *ℤ z) left.some left.most in
    counted.counts (w ∷ rest.list) (z ∷ gap.list) (rounds + 1 + 1) (rounds + 1 + 1)
    (record {
      odd = odd_before o f w r rest.list own rest.first rest.is;
      even = even_before t c z (t -ℤ c *ℤ z) gap.list left.sum gap.first gap.is;
      odd_up = w_up;
      even_up = z_up;
      odd_some = w_some;
      even_some = z_some;
    })
    (let none : length (common_start (w ∷ rest.list) (z ∷ gap.list)) ≡ 0 = ap length (start_apart w z rest.list gap.list other) in omega arith)
    (let none : one_ends (w ∷ rest.list) (z ∷ gap.list) ≡ 0 = ends_apart w z rest.list gap.list other in omega arith)

-- the last round, at the end of a list
pub counted_ended : (Counts : ℕ → ℕ → Type 0) (rounds : ℕ) (o t c f w r : ℤ) → pos 0 ≤ℤ w → o ≡ w *ℤ f +ℤ r → pos 0 ≤ℤ r → r <ℤ f → (f ≤ℤ o → pos 1 ≤ℤ w) → c ≡ pos 0 → HasCounted Counts rounds o t c f → Counts (rounds + 1 + 1) (rounds + 1)
counted_ended Counts rounds o t c f w r w_up own r_up less w_some none counted =
    let rest = even_exists f r r_up less in
    counted.counts (w ∷ rest.list) [] (rounds + 1 + 1) (rounds + 1)
    (record {
      odd = odd_before o f w r rest.list own rest.first rest.is;
      even = none_even t c none;
      odd_up = w_up;
      even_up = tt;
      odd_some = w_some;
      even_some = λ h. tt;
    })
    (omega arith) (omega arith)

-- ---- the beginning of the search

-- with the gaps o and t of the left neighbour, c and f of the right one, the search divides as the one between o/(o + f) and t/(t + c)
module _ (o t c f : ℤ) where
  -- the left neighbour moves first: the second quotient of n/d is 1
  module _ (less : f ≤ℤ o) where
    low_list : (ps : List ℤ) → BeginsFrom (pos 1) ps → IsOddList o f ps → IsOddList o (o +ℤ f) (pos 0 ∷ pos 1 ∷ ps)
    low_list ps first is = odd_before o (o +ℤ f) (pos 0) o (pos 1 ∷ ps) (omega (arith, ints)) (omega (arith, ints)) (even_before (o +ℤ f) o (pos 1) f ps (omega (arith, ints)) first is)

    high_list : (qs : List ℤ) → BeginsFrom (pos 1) qs → IsEvenList t c qs → IsEvenList t (t +ℤ c) (pos 0 ∷ pos 1 ∷ qs)
    high_list qs first is = even_before t (t +ℤ c) (pos 0) t (pos 1 ∷ qs) (omega (arith, ints)) (omega (arith, ints)) (odd_before (t +ℤ c) t (pos 1) c qs (omega (arith, ints)) first is)

    both_long : (ps qs : List ℤ) (k l : ℕ) → BeginsFrom (pos 1) ps → BeginsFrom (pos 1) qs → IsOddList o f ps → IsEvenList t c qs → k ≡ 0 + 2 + length (common_start ps qs) → k ≡ l + one_ends ps qs → IsSearchCount o (o +ℤ f) t (t +ℤ c) k l
    both_long ps qs k l first second odd even k-is l-is =
        let start : common_start (pos 0 ∷ pos 1 ∷ ps) (pos 0 ∷ pos 1 ∷ qs) ≡ pos 0 ∷ pos 1 ∷ common_start ps qs = start_same (pos 0) (pos 1 ∷ ps) (pos 1 ∷ qs) ∙ ap (λ (l : List ℤ). pos 0 ∷ l) (start_same (pos 1) ps qs) in
        let count : count_without_one (common_start (pos 0 ∷ pos 1 ∷ ps) (pos 0 ∷ pos 1 ∷ qs)) ≡ 1 + length (common_start ps qs) = ap count_without_one start ∙ ap (λ b. cond b 1 2 + length (common_start ps qs)) (same (pos 1) (pos 1) refl) in
        let ends : one_ends (pos 0 ∷ pos 1 ∷ ps) (pos 0 ∷ pos 1 ∷ qs) ≡ one_ends ps qs = ends_same (pos 0) (pos 1 ∷ ps) (pos 1 ∷ qs) ∙ ends_same (pos 1) ps qs in
        search_count o (o +ℤ f) t (t +ℤ c) (pos 0) (pos 0) (pos 1 ∷ ps) (pos 1 ∷ qs) k l (low_list ps first odd) (high_list qs second even) (omega arith) (omega arith)

    pub counted_left : HasCounted (IsSearchCount o (o +ℤ f) t (t +ℤ c)) 0 o t c f
    counted_left = record { counts = by }
      where
        by : (ps qs : List ℤ) (k l : ℕ) → AreRests o t c f ps qs → k ≡ 0 + 2 + length (common_start ps qs) → k ≡ l + one_ends ps qs → IsSearchCount o (o +ℤ f) t (t +ℤ c) k l
        by ps [] k l rests k-is l-is = both_long ps [] k l (rests.odd_some less) tt rests.odd rests.even k-is l-is
        by ps (pos (suc q) ∷ qs) k l rests k-is l-is = both_long ps (pos (suc q) ∷ qs) k l (rests.odd_some less) (omega (arith, ints)) rests.odd rests.even k-is l-is
        by ps (negsuc q ∷ qs) k l rests k-is l-is = absurd (let up = rests.even_up in omega (arith, ints))
        by ps (pos zero ∷ []) k l rests k-is l-is = absurd (let even = rests.even.even.1 in omega arith)
        by [] (pos zero ∷ q ∷ qs) k l rests k-is l-is = absurd (let odd = rests.odd.odd.1 in omega arith)
        by (p ∷ ps) (pos zero ∷ q ∷ qs) k l rests k-is l-is =
            let p_some : pos 1 ≤ℤ p = rests.odd_some less in
            let q_some : pos 1 ≤ℤ q = rests.even.later.0 in
            let other : p ≢ pos 0 = λ e. omega (arith, ints) in
            let second : pos 1 ≢ q +ℤ pos 1 = λ e. omega (arith, ints) in
            let none : common_start (p ∷ ps) (pos 0 ∷ q ∷ qs) ≡ [] = start_apart p (pos 0) ps (q ∷ qs) other in
            let end : one_ends (p ∷ ps) (pos 0 ∷ q ∷ qs) ≡ 0 = ends_apart p (pos 0) ps (q ∷ qs) other in
            let high : IsEvenList t (t +ℤ c) (pos 0 ∷ (q +ℤ pos 1) ∷ qs) = even_before t (t +ℤ c) (pos 0) t ((q +ℤ pos 1) ∷ qs) (omega (arith, ints)) (omega (arith, ints)) (odd_more c t (pos 1) q (t +ℤ c) qs (omega (arith, ints)) (odd_behind t c q qs rests.even)) in
            let start : common_start (pos 0 ∷ pos 1 ∷ p ∷ ps) (pos 0 ∷ (q +ℤ pos 1) ∷ qs) ≡ pos 0 ∷ [] = start_same (pos 0) (pos 1 ∷ p ∷ ps) ((q +ℤ pos 1) ∷ qs) ∙ ap (λ (l : List ℤ). pos 0 ∷ l) (start_apart (pos 1) (q +ℤ pos 1) (p ∷ ps) qs second) in
            let count : count_without_one (common_start (pos 0 ∷ pos 1 ∷ p ∷ ps) (pos 0 ∷ (q +ℤ pos 1) ∷ qs)) ≡ 1 = ap count_without_one start in
            let ends : one_ends (pos 0 ∷ pos 1 ∷ p ∷ ps) (pos 0 ∷ (q +ℤ pos 1) ∷ qs) ≡ 0 = ends_same (pos 0) (pos 1 ∷ p ∷ ps) ((q +ℤ pos 1) ∷ qs) ∙ ends_apart (pos 1) (q +ℤ pos 1) (p ∷ ps) qs second in
            let length-is : length (common_start (p ∷ ps) (pos 0 ∷ q ∷ qs)) ≡ 0 = ap length none in
            search_count o (o +ℤ f) t (t +ℤ c) (pos 0) (pos 0) (pos 1 ∷ p ∷ ps) ((q +ℤ pos 1) ∷ qs) k l (low_list (p ∷ ps) p_some rests.odd) high (omega arith) (omega arith)

  -- the right neighbour moves first: the second quotient of n/d is not 1
  module _ (less : o <ℤ f) where
    high_more : (p : ℤ) (ps : List ℤ) → pos 0 ≤ℤ p → IsOddList c t (p ∷ ps) → IsEvenList t (t +ℤ c) (pos 0 ∷ (p +ℤ pos 1) ∷ ps)
    high_more p ps up is = even_before t (t +ℤ c) (pos 0) t ((p +ℤ pos 1) ∷ ps) (omega (arith, ints)) (omega (arith, ints)) (odd_more c t (pos 1) p (t +ℤ c) ps (omega (arith, ints)) is)

    low_more : (q : ℤ) (qs : List ℤ) → pos 0 ≤ℤ q → IsEvenList f o (q ∷ qs) → IsOddList o (o +ℤ f) (pos 0 ∷ (q +ℤ pos 1) ∷ qs)
    low_more q qs up is = odd_before o (o +ℤ f) (pos 0) o ((q +ℤ pos 1) ∷ qs) (omega (arith, ints)) (omega (arith, ints)) (even_more f o (pos 1) q (o +ℤ f) qs (omega (arith, ints)) is)

    low_alone : IsEvenList f o [] → IsOddList o (o +ℤ f) (pos 0 ∷ [])
    low_alone is =
        let value = is.value in
        odd_before o (o +ℤ f) (pos 0) o [] (omega (arith, ints)) tt (none_even (o +ℤ f) o (omega (arith, ints)))

    pub counted_right : HasCounted (IsSearchCount o (o +ℤ f) t (t +ℤ c)) 0 c f o t
    counted_right = record { counts = by }
      where
        same_first : (p : ℤ) (ps qs : List ℤ) (k l : ℕ) → pos 1 ≤ℤ p → IsOddList c t (p ∷ ps) → IsEvenList f o (p ∷ qs) → k ≡ 0 + 2 + length (common_start (p ∷ ps) (p ∷ qs)) → k ≡ l + one_ends (p ∷ ps) (p ∷ qs) → IsSearchCount o (o +ℤ f) t (t +ℤ c) k l
        same_first p ps qs k l some odd even k-is l-is =
            let more : p +ℤ pos 1 ≢ pos 1 = λ e. omega (arith, ints) in
            let start : common_start (pos 0 ∷ (p +ℤ pos 1) ∷ qs) (pos 0 ∷ (p +ℤ pos 1) ∷ ps) ≡ pos 0 ∷ (p +ℤ pos 1) ∷ common_start qs ps = start_same (pos 0) ((p +ℤ pos 1) ∷ qs) ((p +ℤ pos 1) ∷ ps) ∙ ap (λ (l : List ℤ). pos 0 ∷ l) (start_same (p +ℤ pos 1) qs ps) in
            let count : count_without_one (common_start (pos 0 ∷ (p +ℤ pos 1) ∷ qs) (pos 0 ∷ (p +ℤ pos 1) ∷ ps)) ≡ 2 + length (common_start qs ps) = ap count_without_one start ∙ ap (λ b. cond b 1 2 + length (common_start qs ps)) (apart (p +ℤ pos 1) (pos 1) more) in
            let turned : length (common_start qs ps) ≡ length (common_start ps qs) = start_turned qs ps in
            let here : length (common_start (p ∷ ps) (p ∷ qs)) ≡ length (p ∷ common_start ps qs) = ap length (start_same p ps qs) in
            let ends : one_ends (pos 0 ∷ (p +ℤ pos 1) ∷ qs) (pos 0 ∷ (p +ℤ pos 1) ∷ ps) ≡ one_ends qs ps = ends_same (pos 0) ((p +ℤ pos 1) ∷ qs) ((p +ℤ pos 1) ∷ ps) ∙ ends_same (p +ℤ pos 1) qs ps in
            let before : one_ends (p ∷ ps) (p ∷ qs) ≡ one_ends ps qs = ends_same p ps qs in
            let both : one_ends ps qs ≡ one_ends qs ps = ends_turned ps qs in
            search_count o (o +ℤ f) t (t +ℤ c) (pos 0) (pos 0) ((p +ℤ pos 1) ∷ qs) ((p +ℤ pos 1) ∷ ps) k l (low_more p qs (omega (arith, ints)) even) (high_more p ps (omega (arith, ints)) odd) (omega arith) (omega arith)

        other_first : (p q : ℤ) (ps qs : List ℤ) (k l : ℕ) → pos 0 ≤ℤ p → pos 0 ≤ℤ q → p ≢ q → IsOddList c t (p ∷ ps) → IsEvenList f o (q ∷ qs) → k ≡ 0 + 2 + length (common_start (p ∷ ps) (q ∷ qs)) → k ≡ l + one_ends (p ∷ ps) (q ∷ qs) → IsSearchCount o (o +ℤ f) t (t +ℤ c) k l
        other_first p q ps qs k l p_up q_up other odd even k-is l-is =
            let second : q +ℤ pos 1 ≢ p +ℤ pos 1 = λ e. other (omega (arith, ints)) in
            let none : length (common_start (p ∷ ps) (q ∷ qs)) ≡ 0 = ap length (start_apart p q ps qs other) in
            let end : one_ends (p ∷ ps) (q ∷ qs) ≡ 0 = ends_apart p q ps qs other in
            let start : common_start (pos 0 ∷ (q +ℤ pos 1) ∷ qs) (pos 0 ∷ (p +ℤ pos 1) ∷ ps) ≡ pos 0 ∷ [] = start_same (pos 0) ((q +ℤ pos 1) ∷ qs) ((p +ℤ pos 1) ∷ ps) ∙ ap (λ (l : List ℤ). pos 0 ∷ l) (start_apart (q +ℤ pos 1) (p +ℤ pos 1) qs ps second) in
            let count : count_without_one (common_start (pos 0 ∷ (q +ℤ pos 1) ∷ qs) (pos 0 ∷ (p +ℤ pos 1) ∷ ps)) ≡ 1 = ap count_without_one start in
            let ends : one_ends (pos 0 ∷ (q +ℤ pos 1) ∷ qs) (pos 0 ∷ (p +ℤ pos 1) ∷ ps) ≡ 0 = ends_same (pos 0) ((q +ℤ pos 1) ∷ qs) ((p +ℤ pos 1) ∷ ps) ∙ ends_apart (q +ℤ pos 1) (p +ℤ pos 1) qs ps second in
            search_count o (o +ℤ f) t (t +ℤ c) (pos 0) (pos 0) ((q +ℤ pos 1) ∷ qs) ((p +ℤ pos 1) ∷ ps) k l (low_more q qs q_up even) (high_more p ps p_up odd) (omega arith) (omega arith)

        by : (ps qs : List ℤ) (k l : ℕ) → AreRests c f o t ps qs → k ≡ 0 + 2 + length (common_start ps qs) → k ≡ l + one_ends ps qs → IsSearchCount o (o +ℤ f) t (t +ℤ c) k l
        by [] qs k l rests k-is l-is = absurd (let odd = rests.odd.odd.1 in omega arith)
        by (p ∷ ps) [] k l rests k-is l-is = search_count o (o +ℤ f) t (t +ℤ c) (pos 0) (pos 0) [] ((p +ℤ pos 1) ∷ ps) k l (low_alone rests.even) (high_more p ps rests.odd_up rests.odd)
            (let count : count_without_one (common_start (pos 0 ∷ []) (pos 0 ∷ (p +ℤ pos 1) ∷ ps)) ≡ 1 = ap count_without_one (start_same (pos 0) [] ((p +ℤ pos 1) ∷ ps)) in omega arith)
            (let ends : one_ends (pos 0 ∷ []) (pos 0 ∷ (p +ℤ pos 1) ∷ ps) ≡ 1 = ends_same (pos 0) [] ((p +ℤ pos 1) ∷ ps) in omega arith)
        by (p ∷ ps) (q ∷ qs) k l rests k-is l-is = elim (same_or q p) [
          | inl equal ↦ same_first p ps qs k l (subst (λ (x : ℤ). pos 1 ≤ℤ x) equal (rests.even_some less)) rests.odd (subst (λ (x : ℤ). IsEvenList f o (x ∷ qs)) equal rests.even)
              (subst (λ (x : ℤ). k ≡ 0 + 2 + length (common_start (p ∷ ps) (x ∷ qs))) equal k-is) (subst (λ (x : ℤ). k ≡ l + one_ends (p ∷ ps) (x ∷ qs)) equal l-is)
          | inr other ↦ other_first p q ps qs k l rests.odd_up rests.even_up (λ e. other (sym e)) rests.odd rests.even k-is l-is
        ]

-- ---- the first divisions

-- the whole numbers below both ends differ
pub counted_once : (n d f r m e g s : ℤ) → n ≡ f *ℤ d +ℤ r → pos 0 ≤ℤ r → r <ℤ d → IsLastBelow m e g s → f ≢ g → IsSearchCount n d m e 1 1
counted_once n d f r m e g s sum r_up less last other =
    let low = even_exists d r r_up less in
    let high = odd_exists e s last.some last.most in
    search_count n d m e f g low.list high.list 1 1 (odd_before n d f r low.list sum low.first low.is) (even_before m e g s high.list last.sum high.first high.is)
    (let count : count_without_one (common_start (f ∷ low.list) (g ∷ high.list)) ≡ 0 = ap count_without_one (start_apart f g low.list high.list other) in omega arith)
    (let ends : one_ends (f ∷ low.list) (g ∷ high.list) ≡ 0 = ends_apart f g low.list high.list other in omega arith)

-- both ends lie beside the same whole number f
pub counted_beside : (r d s e f n m : ℤ) (k l : ℕ) → n ≡ r +ℤ f *ℤ d → m ≡ s +ℤ f *ℤ e → IsSearchCount r d s e k l → IsSearchCount n d m e k l
counted_beside r d s e f n m k l n-is m-is is = by is.low is.high is.low_are is.high_are is.low_odd is.high_even is.left_is is.right_is
  where
    by : (low high : List ℤ) → IsContinuedFraction r d low → IsContinuedFraction s e high → (i : ℕ) × (length low ≡ 2 * i + 1) → (i : ℕ) × (length high ≡ 2 * i) → k ≡ 1 + count_without_one (common_start low high) → k ≡ l + one_ends low high → IsSearchCount n d m e k l
    by [] high low_are high_are odd even left right = absurd low_are.are
    by (p ∷ ps) [] low_are high_are odd even left right = absurd high_are.are
    by (p ∷ ps) (q ∷ qs) low_are high_are odd even left right =
        let low = odd_more r d f p n ps n-is (record { later = low_are.are; value = low_are.value; odd = odd }) in
        let high = even_more s e f q m qs m-is (record { later = high_are.are; value = high_are.value; even = even }) in
        search_count n d m e (p +ℤ f) (q +ℤ f) ps qs k l low high (left ∙ ap (λ (x : ℕ). 1 + x) (counts p q (same_or p q))) (right ∙ ap (λ (x : ℕ). l + x) (ends p q (same_or p q)))
      where
        counts : (p q : ℤ) → (p ≡ q) ⊎ (p ≢ q) → count_without_one (common_start (p ∷ ps) (q ∷ qs)) ≡ count_without_one (common_start ((p +ℤ f) ∷ ps) ((q +ℤ f) ∷ qs))
        counts p q (inl equal) = subst (λ (x : ℤ). count_without_one (common_start (p ∷ ps) (x ∷ qs)) ≡ count_without_one (common_start ((p +ℤ f) ∷ ps) ((x +ℤ f) ∷ qs))) equal
            (ap count_without_one (start_same p ps qs) ∙ one_at_least (common_start ps qs) p ∙ sym (one_at_least (common_start ps qs) (p +ℤ f)) ∙ sym (ap count_without_one (start_same (p +ℤ f) ps qs)))
        counts p q (inr other) = ap count_without_one (start_apart p q ps qs other ∙ sym (start_apart (p +ℤ f) (q +ℤ f) ps qs (λ e. other (omega (arith, ints)))))

        ends : (p q : ℤ) → (p ≡ q) ⊎ (p ≢ q) → one_ends (p ∷ ps) (q ∷ qs) ≡ one_ends ((p +ℤ f) ∷ ps) ((q +ℤ f) ∷ qs)
        ends p q (inl equal) = subst (λ (x : ℤ). one_ends (p ∷ ps) (x ∷ qs) ≡ one_ends ((p +ℤ f) ∷ ps) ((x +ℤ f) ∷ qs)) equal (ends_same p ps qs ∙ sym (ends_same (p +ℤ f) ps qs))
        ends p q (inr other) = ends_apart p q ps qs other ∙ sym (ends_apart (p +ℤ f) (q +ℤ f) ps qs (λ e. other (omega (arith, ints))))
