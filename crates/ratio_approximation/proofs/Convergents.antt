-- The search for the nearest fraction passes exactly the convergents with a denominator within the bound.
use Rattle.std.specs.Prelude.{◌≡◌, ◌≢◌, ◌⊎◌, ◌+◌, ◌≤ℤ◌, ◌<ℤ◌, ◌+ℤ◌, ◌-ℤ◌, ◌*ℤ◌, ℕ, ℤ, zero, suc, pos, negsuc, true, false, cond, int_le, List, [], ◌∷◌}
use Rattle.std.proofs.Common.{◌∙◌, refl, sym, ap, subst, arith, inl, inr}
use Rattle.std.proofs.lemmas.Int.{ints}
use Rattle.ratio_integer.specs.Division.{IsFloored}
use Rattle.ratio_integer.proofs.Whole.{mul-add}
use Rattle.ratio_core.specs.ContinuedFraction.{IsPartialQuotients}
use Rattle.ratio_approximation.specs.Convergents.{IsConvergentCount, count_within, denominators}
use Rattle.ratio_core.proofs.Codes.{second_quotient}
use Rattle.ratio_core.proofs.Quotients.{quotients_exist}
use Rattle.ratio_approximation.proofs.Shares.{IsShare, times_up}

-- ---- tests of denominators

le_yes : (a b : ℤ) → a ≤ℤ b → int_le a b ≡ true
le_yes a b h = elim (int_le a b) as (λ v. int_le a b ≡ v → v ≡ true) [
  | true ↦ λ e. refl
  | false ↦ λ e. absurd (omega (arith, ints))
] refl

le_no : (a b : ℤ) → b <ℤ a → int_le a b ≡ false
le_no a b h = elim (int_le a b) as (λ v. int_le a b ≡ v → v ≡ false) [
  | true ↦ λ e. absurd (omega (arith, ints))
  | false ↦ λ e. refl
] refl

-- ---- products

pub next_multiple : (b k : ℤ) → b *ℤ (k +ℤ pos 1) ≡ b *ℤ k +ℤ b
next_multiple b k = let sum : b *ℤ (k +ℤ pos 1) ≡ b *ℤ k +ℤ b *ℤ pos 1 = mul-add b k (pos 1) in omega (arith, ints)

turned_product : (b k : ℤ) → b *ℤ k ≡ k *ℤ b
turned_product b k = omega (arith, ints)

-- ---- how many denominators count

nothing_and : (k : ℕ) → 0 + k ≡ k
nothing_and k = omega arith

one_more : (most q r : ℤ) (qs : List ℤ) → q ≤ℤ most → count_within most (q ∷ r ∷ qs) ≡ 1 + count_within most (r ∷ qs)
one_more most q r qs within = ap (λ b. cond b 1 0 + count_within most (r ∷ qs)) (le_yes q most within)

none_more : (most q r : ℤ) (qs : List ℤ) → most <ℤ q → count_within most (q ∷ r ∷ qs) ≡ count_within most (r ∷ qs)
none_more most q r qs beyond = ap (λ b. cond b 1 0 + count_within most (r ∷ qs)) (le_no q most beyond) ∙ nothing_and (count_within most (r ∷ qs))

-- a quotient of at least 1 gives a denominator that is no smaller
grows : (b e p : ℤ) → pos 0 ≤ℤ b → pos 0 ≤ℤ e → pos 1 ≤ℤ p → e ≤ℤ (p *ℤ e +ℤ b)
grows b e p b_up e_up p_up =
    let more : (e *ℤ pos 1) ≤ℤ (e *ℤ p) = times_up e (pos 1) p e_up p_up in
    let same : e *ℤ p ≡ p *ℤ e = turned_product e p in
    omega (arith, ints)

-- from a denominator beyond the bound on, none counts
none_beyond : (most b e n d q r : ℤ) (qs : List ℤ) → IsFloored n d q r → r ≢ pos 0 → IsPartialQuotients d r qs → pos 0 ≤ℤ b → pos 0 ≤ℤ e → most <ℤ e → count_within most (e ∷ denominators b e qs) ≡ 0
none_beyond most b e n d q r [] f left are b_up e_up beyond = absurd are
none_beyond most b e n d q r (p ∷ ps) f left are b_up e_up beyond =
    let p_up : pos 1 ≤ℤ p = second_quotient n d q r p are.0 f left are.1 in
    let next : e ≤ℤ (p *ℤ e +ℤ b) = grows b e p b_up e_up p_up in
    none_more most e (p *ℤ e +ℤ b) (denominators e (p *ℤ e +ℤ b) ps) beyond ∙ elim are.2 [
      | inl ends ↦ ap (λ (l : List ℤ). count_within most ((p *ℤ e +ℤ b) ∷ denominators e (p *ℤ e +ℤ b) l)) ends.1
      | inr on ↦ none_beyond most e (p *ℤ e +ℤ b) d r p are.0 ps are.1 on.0 on.1 e_up (omega (arith, ints)) (omega (arith, ints))
    ]

-- ---- as the search passes them

-- k convergents of n/d were passed. The last has the denominator e, and the one before it `before`; size/h is the rest of n/d.
-- The other neighbour has the denominator p and the gap g. It is the convergent before or, at the beginning, one step from it
pub record HavePassed (n d most : ℤ) (k : ℕ) (p g e h : ℤ) : Type 0 where
  pub before : ℤ
  pub size : ℤ
  pub before_up : pos 0 ≤ℤ before
  pub divided : (w z : ℤ) → IsShare g h w → pos 0 ≤ℤ z → z ≡ g -ℤ h *ℤ w → (a : ℤ) × IsFloored size h a z × (a *ℤ e +ℤ before ≡ p +ℤ e *ℤ w)
  pub carried : (qs : List ℤ) → IsPartialQuotients size h qs → IsConvergentCount n d most (k + count_within most (e ∷ denominators before e qs))

begun_floored : (d g h w z : ℤ) → g ≡ d -ℤ h → IsShare g h w → pos 0 ≤ℤ z → z ≡ g -ℤ h *ℤ w → IsFloored d h (w +ℤ pos 1) z
begun_floored d g h w z g-is is up z-is =
    let next : h *ℤ (w +ℤ pos 1) ≡ h *ℤ w +ℤ h = next_multiple h w in
    let turned : h *ℤ (w +ℤ pos 1) ≡ (w +ℤ pos 1) *ℤ h = turned_product h (w +ℤ pos 1) in
    record { sum = omega (arith, ints); rest = inl (up, rw z-is is.rest) }

going_floored : (g h w z : ℤ) → IsShare g h w → pos 0 ≤ℤ z → z ≡ g -ℤ h *ℤ w → IsFloored g h w z
going_floored g h w z is up z-is =
    let turned : h *ℤ w ≡ w *ℤ h = turned_product h w in
    record { sum = omega (arith, ints); rest = inl (up, rw z-is is.rest) }

first_denominator : (f : ℤ) → f *ℤ pos 0 +ℤ pos 1 ≡ pos 1
first_denominator f = omega (arith, ints)

-- the first quotient leaves the rest r
pub passed_first : (n d most f r p g e : ℤ) → p ≡ pos 1 → e ≡ pos 1 → g ≡ d -ℤ r → IsFloored n d f r → r ≢ pos 0 → HavePassed n d most 0 p g e r
passed_first n d most f r p g e p-is e-is g-is floored left = rw (p-is, e-is) (record {
  before = pos 0;
  size = d;
  before_up = omega (arith, ints);
  divided = λ w z is up z-is. (w +ℤ pos 1, begun_floored d g r w z g-is is up z-is, omega (arith, ints));
  carried = λ qs are. record {
    quotients = f ∷ qs;
    are = (r, floored, inr (left, are));
    count = nothing_and (count_within most (pos 1 ∷ denominators (pos 0) (pos 1) qs)) ∙ ap (λ (x : ℤ). count_within most (x ∷ denominators (pos 0) x qs)) (sym (first_denominator f));
  };
})

-- one more convergent, with the rest z
pub passed_more : (n d most : ℤ) (k : ℕ) (p g e h w p' z : ℤ) → e ≤ℤ most → pos 0 ≤ℤ e → IsShare g h w → pos 0 ≤ℤ z → p' ≡ p +ℤ e *ℤ w → z ≡ g -ℤ h *ℤ w → z ≢ pos 0 → HavePassed n d most k p g e h → HavePassed n d most (k + 1) e h p' z
passed_more n d most k p g e h w p' z within e_up is up p-is z-is left passed =
    let next = passed.divided w z is up z-is in
    record {
      before = e;
      size = h;
      before_up = e_up;
      divided = λ w' z' is' up' z-is'. (w', going_floored h z w' z' is' up' z-is', (let turned : p' *ℤ w' ≡ w' *ℤ p' = turned_product p' w' in omega (arith, ints)));
      carried = λ qs are.
          let counted = passed.carried (next.0 ∷ qs) (z, next.1, inr (left, are)) in
          let one = one_more most e (next.0 *ℤ e +ℤ passed.before) (denominators e (next.0 *ℤ e +ℤ passed.before) qs) within in
          let moved : count_within most ((next.0 *ℤ e +ℤ passed.before) ∷ denominators e (next.0 *ℤ e +ℤ passed.before) qs) ≡ count_within most (p' ∷ denominators e p' qs) = ap (λ (x : ℤ). count_within most (x ∷ denominators e x qs)) (next.2 ∙ sym p-is) in
          subst (IsConvergentCount n d most) (omega (arith, one, moved)) counted;
    }

zero_or : (z : ℤ) → (z ≡ pos 0) ⊎ (z ≢ pos 0)
zero_or (pos zero) = inl refl
zero_or (pos (suc z)) = inr (λ e. omega (arith, ints))
zero_or (negsuc z) = inr (λ e. omega (arith, ints))

-- the last convergent: it is n/d, or its denominator is beyond the bound
pub passed_last : (n d most : ℤ) (k : ℕ) (p g e h w z : ℤ) → e ≤ℤ most → pos 0 ≤ℤ e → IsShare g h w → z ≡ g -ℤ h *ℤ w → (z ≡ pos 0) ⊎ (most <ℤ (p +ℤ e *ℤ w)) → HavePassed n d most k p g e h → IsConvergentCount n d most (k + 1)
passed_last n d most k p g e h w z within e_up is z-is end passed =
    let fits = is.fits in
    let next = passed.divided w z is (omega (arith, ints)) z-is in
    let x : ℤ = next.0 *ℤ e +ℤ passed.before in
    let x-is : x ≡ p +ℤ e *ℤ w = next.2 in
    elim (zero_or z) [
      | inl exact ↦
          let one : count_within most (e ∷ x ∷ []) ≡ 1 + 0 = one_more most e x [] within in
          subst (IsConvergentCount n d most) (omega (arith, one)) (passed.carried (next.0 ∷ []) (z, next.1, inl (exact, refl)))
      | inr left ↦
          let beyond : most <ℤ x = rw x-is (elim end [ inl exact ↦ absurd (left exact) | inr past ↦ past ]) in
          let rest = quotients_exist h z left in
          let none : count_within most (x ∷ denominators e x rest.list) ≡ 0 = none_beyond most e x passed.size h next.0 z rest.list next.1 left rest.are e_up (omega (arith, ints)) beyond in
          let one = one_more most e x (denominators e x rest.list) within in
          subst (IsConvergentCount n d most) (omega (arith, one, none)) (passed.carried (next.0 ∷ rest.list) (z, next.1, inr (left, rest.are)))
    ]

-- no convergent is passed if the first quotient leaves no rest
pub passed_none : (n d most f r : ℤ) → IsFloored n d f r → r ≡ pos 0 → IsConvergentCount n d most 0
passed_none n d most f r floored exact = record { quotients = f ∷ []; are = (r, floored, inl (exact, refl)); count = refl }
