-- Of two neighbours around n/d, the left one comes before all fractions on its left, and the right one before all on its right.
use Rattle.std.specs.Prelude.{◌≡◌, ◌⊎◌, ◌+◌, ◌*◌, ◌<◌, ◌≤◌, ◌<ℤ◌, ◌+ℤ◌, ◌-ℤ◌, ◌*ℤ◌, ℕ, ℤ, zero, suc, pos, negsuc, unsigned_abs}
use Rattle.std.proofs.Common.{refl, sym, ap, arith, inl, inr, ◌∙◌}
use Rattle.std.proofs.Math.Nat.{mul-le-mul, mul-le-mul_left}
use Rattle.std.proofs.lemmas.Int.{ints}
use Rattle.ratio_integer.proofs.Whole.{mul_cancel}
use Rattle.ratio_approximation.specs.Nearest.{ComesFirst, gap}
use Rattle.ratio_core.proofs.Neighbours.{AreAround, between, beyond_left, beyond_right, compared, denom_made, further_left, further_right, left_moved, never_left, never_right, right_moved}
use Rattle.ratio_approximation.proofs.NearestPreference.{first_chained, itself_first}

-- ---- gaps

pub gap_above : (n m : ℤ) (d e h : ℕ) → n *ℤ pos e ≡ m *ℤ pos d +ℤ pos h → gap n (pos d) m (pos e) ≡ h
gap_above n m d e h away = ap unsigned_abs difference
  where
    difference : n *ℤ pos e -ℤ m *ℤ pos d ≡ pos h
    difference = omega (arith, ints)

pub gap_below : (n m : ℤ) (d e h : ℕ) → m *ℤ pos d ≡ n *ℤ pos e +ℤ pos h → gap n (pos d) m (pos e) ≡ h
gap_below n m d e h away = size (n *ℤ pos e -ℤ m *ℤ pos d) (omega (arith, ints))
  where
    size : (z : ℤ) → z +ℤ pos h ≡ pos 0 → unsigned_abs z ≡ h
    size (pos k) s = omega (arith, ints)
    size (negsuc k) s = omega (arith, ints)

-- ---- multiples

product_positive : (a b : ℕ) → 0 < a → 0 < b → 0 < a * b
product_positive a b p q = mul-le-mul p q

-- if e is q * y and not 0, then q < e, or q = e
multiple : (e q y : ℕ) → 0 < e → e ≡ q * y → (q < e) ⊎ (q ≡ e)
multiple e q zero up is = absurd (omega arith)
multiple e q (suc zero) up is = inr (omega arith)
multiple e zero (suc (suc y)) up is = absurd (omega arith)
multiple e (suc q) (suc (suc y)) up is = inl (omega arith)

same_numer : (p m : ℤ) (q e : ℕ) → 0 < e → q ≡ e → p *ℤ pos e ≡ m *ℤ pos q +ℤ pos 0 → p ≡ m
same_numer p m q e up same is =
    let alike : m *ℤ pos q ≡ m *ℤ pos e = ap (λ (t : ℕ). m *ℤ pos t) same in
    mul_cancel p m (pos e) (λ z. omega (arith, ints)) (omega (arith, ints))

-- of two fractions of the same value, the one whose denominator divides the other comes first
tied : (p m : ℤ) (q e g h y : ℕ) → 0 < e → e ≡ q * y → p *ℤ pos e ≡ m *ℤ pos q +ℤ pos 0 → g * e ≡ h * q → ComesFirst g p (pos q) h m (pos e)
tied p m q e g h y up is same near = elim (multiple e q y up is) [
  | inl less ↦ inr (near, inl (omega (arith, ints)))
  | inr alike ↦ inr (near, inr (ap pos alike, (let k : p ≡ m = same_numer p m q e up alike same in omega (arith, ints))))
]

-- ---- the four places of m/e

module _ (n : ℤ) (d : ℕ) (lp : ℤ) (lq lg : ℕ) (rp : ℤ) (rq rg : ℕ) (around : AreAround n d lp lq lg rp rq rg) (d_up : 0 < d) (lq_up : 0 < lq) (rq_up : 0 < rq) (m : ℤ) (e : ℕ) (e_up : 0 < e) where
  -- m/e has the value of the left one
  left_tied : (h : ℕ) → lp *ℤ pos e ≡ m *ℤ pos lq +ℤ pos 0 → h * lq ≡ lg * e → ComesFirst lg lp (pos lq) h m (pos e)
  left_tied h beside near = elim (compared rp m e rq) [
    | inl below ↦ tied lp m lq e lg h below.0 e_up (let s : e + rq * 0 ≡ lq * below.0 = beyond_left n d lp lq lg rp rq rg around m e 0 below.0 beside below.1 in omega arith) beside (sym near)
    | inr above ↦ absurd (let s : e + lq * suc above.0 ≡ rq * 0 = beyond_right n d lp lq lg rp rq rg around m e 0 (suc above.0) above.1 (omega (arith, ints)) in omega arith)
  ]

  right_tied : (h : ℕ) → m *ℤ pos rq ≡ rp *ℤ pos e +ℤ pos 0 → h * rq ≡ rg * e → ComesFirst rg rp (pos rq) h m (pos e)
  right_tied h beside near = elim (compared m lp lq e) [
    | inl above ↦ tied rp m rq e rg h above.0 e_up (let s : e + lq * 0 ≡ rq * above.0 = beyond_right n d lp lq lg rp rq rg around m e above.0 0 beside above.1 in omega arith) (omega (arith, ints)) (sym near)
    | inr below ↦ absurd (let s : e + rq * suc below.0 ≡ lq * 0 = beyond_left n d lp lq lg rp rq rg around m e (suc below.0) 0 below.1 (omega (arith, ints)) in omega arith)
  ]

  left_further : (t h : ℕ) → lp *ℤ pos e ≡ m *ℤ pos lq +ℤ pos t → h * lq ≡ lg * e + d * t → ComesFirst lg lp (pos lq) h m (pos e)
  left_further zero h beside away = left_tied h beside (omega arith)
  left_further (suc t) h beside away = inl (let more : 0 < d * suc t = product_positive d (suc t) d_up (omega arith) in omega arith)

  right_further : (t h : ℕ) → m *ℤ pos rq ≡ rp *ℤ pos e +ℤ pos t → h * rq ≡ rg * e + d * t → ComesFirst rg rp (pos rq) h m (pos e)
  right_further zero h beside away = right_tied h beside (omega arith)
  right_further (suc t) h beside away = inl (let more : 0 < d * suc t = product_positive d (suc t) d_up (omega arith) in omega arith)

  -- m/e is on the left of both
  pub left_first : (t : ℕ) → lp *ℤ pos e ≡ m *ℤ pos lq +ℤ pos t → ComesFirst lg lp (pos lq) (gap n (pos d) m (pos e)) m (pos e)
  left_first t beside = elim (compared n m e d) [
    | inl away ↦ rw (gap_above n m d e away.0 away.1) (left_further t away.0 beside (further_left n d lp lq lg rp rq rg around m e t away.0 beside away.1))
    | inr turned ↦ absurd (let none : suc turned.0 * lq + (lg * e + d * t) ≡ 0 = never_left n d lp lq lg rp rq rg around m e t (suc turned.0) beside turned.1 in let more : 0 < suc turned.0 * lq = product_positive (suc turned.0) lq (omega arith) lq_up in omega arith)
  ]

  -- m/e is on the right of both
  pub right_first : (t : ℕ) → m *ℤ pos rq ≡ rp *ℤ pos e +ℤ pos t → ComesFirst rg rp (pos rq) (gap n (pos d) m (pos e)) m (pos e)
  right_first t beside = elim (compared m n d e) [
    | inl away ↦ rw (gap_below n m d e away.0 away.1) (right_further t away.0 beside (further_right n d lp lq lg rp rq rg around m e t away.0 beside away.1))
    | inr turned ↦ absurd (let none : suc turned.0 * rq + (rg * e + d * t) ≡ 0 = never_right n d lp lq lg rp rq rg around m e t (suc turned.0) beside turned.1 in let more : 0 < suc turned.0 * rq = product_positive (suc turned.0) rq (omega arith) rq_up in omega arith)
  ]

  -- a fraction between them has a denominator of at least the sum of theirs
  between_two : (x y : ℕ) → m *ℤ pos lq ≡ lp *ℤ pos e +ℤ pos (suc x) → rp *ℤ pos e ≡ m *ℤ pos rq +ℤ pos (suc y) → lq + rq ≤ e
  between_two x y above below =
      let made : e ≡ lq * suc y + rq * suc x = between n d lp lq lg rp rq rg around m e (suc x) (suc y) above below in
      omega arith

-- ---- what comes before both neighbours comes before all fractions

module _ (n : ℤ) (d : ℕ) (lp : ℤ) (lq lg : ℕ) (rp : ℤ) (rq rg : ℕ) (around : AreAround n d lp lq lg rp rq rg) (d_up : 0 < d) (lq_up : 0 < lq) (rq_up : 0 < rq) where
  -- if the denominator of m/e is below the sum of theirs
  pub before_all : (c : ℕ) (p q : ℤ) → pos 0 <ℤ q → ComesFirst c p q lg lp (pos lq) → ComesFirst c p q rg rp (pos rq) → (m : ℤ) (e : ℕ) → 0 < e → e < lq + rq → ComesFirst c p q (gap n (pos d) m (pos e)) m (pos e)
  before_all c p q q_up left right m e e_up room = elim (compared m lp lq e) [
    | inl above ↦ after_left above.0 above.1
    | inr below ↦ by_left (suc below.0) below.1
  ]
    where
      by_left : (t : ℕ) → lp *ℤ pos e ≡ m *ℤ pos lq +ℤ pos t → ComesFirst c p q (gap n (pos d) m (pos e)) m (pos e)
      by_left t beside = first_chained c p q lg lp (pos lq) _ m (pos e) q_up (omega (arith, ints)) (omega (arith, ints)) left (left_first n d lp lq lg rp rq rg around d_up lq_up rq_up m e e_up t beside)

      by_right : (t : ℕ) → m *ℤ pos rq ≡ rp *ℤ pos e +ℤ pos t → ComesFirst c p q (gap n (pos d) m (pos e)) m (pos e)
      by_right t beside = first_chained c p q rg rp (pos rq) _ m (pos e) q_up (omega (arith, ints)) (omega (arith, ints)) right (right_first n d lp lq lg rp rq rg around d_up lq_up rq_up m e e_up t beside)

      after_left : (x : ℕ) → m *ℤ pos lq ≡ lp *ℤ pos e +ℤ pos x → ComesFirst c p q (gap n (pos d) m (pos e)) m (pos e)
      after_left zero above = by_left 0 (omega (arith, ints))
      after_left (suc x) above = elim (compared rp m e rq) [
        | inl below ↦ before_right below.0 below.1
        | inr past ↦ by_right (suc past.0) past.1
      ]
        where
          before_right : (y : ℕ) → rp *ℤ pos e ≡ m *ℤ pos rq +ℤ pos y → ComesFirst c p q (gap n (pos d) m (pos e)) m (pos e)
          before_right zero below = by_right 0 (omega (arith, ints))
          before_right (suc y) below = absurd (let far : lq + rq ≤ e = between_two n d lp lq lg rp rq rg around d_up lq_up rq_up m e e_up x y above below in omega arith)

-- if one neighbour is n/d, it comes before all
module _ (n : ℤ) (d : ℕ) (lp : ℤ) (lq lg : ℕ) (rp : ℤ) (rq rg : ℕ) (around : AreAround n d lp lq lg rp rq rg) (d_up : 0 < d) (lq_up : 0 < lq) (rq_up : 0 < rq) (m : ℤ) (e : ℕ) (e_up : 0 < e) where
  nonzero_factor : (q g : ℕ) → 0 < q * g → 0 < g
  nonzero_factor q zero h = absurd (omega arith)
  nonzero_factor q (suc g) h = omega arith

  pub exact_right : rg ≡ 0 → ComesFirst rg rp (pos rq) (gap n (pos d) m (pos e)) m (pos e)
  exact_right exact =
      let made : d ≡ lq * rg + rq * lg = denom_made n d lp lq lg rp rq rg around in
      let none : lq * rg ≡ 0 = ap (λ t. lq * t) exact ∙ (let z : lq * 0 ≡ 0 = omega arith in z) in
      let none_far : e * rg ≡ 0 = ap (λ t. e * t) exact ∙ (let z : e * 0 ≡ 0 = omega arith in z) in
      let up : 0 < lg = nonzero_factor rq lg (omega arith) in
      let far : e * 1 ≤ e * rq = mul-le-mul_left e rq_up in
      let less : 0 < lg * rq = product_positive lg rq up rq_up in
      let none_left : rg * (lq + e * rq) ≡ 0 = ap (λ t. t * (lq + e * rq)) exact ∙ (let z : 0 * (lq + e * rq) ≡ 0 = omega arith in z) in
      before_all n d (lp +ℤ rp *ℤ pos e) (lq + e * rq) lg rp rq rg (left_moved n d lp lq lg rp rq rg around (lp +ℤ rp *ℤ pos e) e lg refl (omega arith)) d_up (omega arith) rq_up
      rg rp (pos rq) (omega (arith, ints)) (inl (omega arith)) (itself_first rg rp (pos rq)) m e e_up (omega arith)

  pub exact_left : lg ≡ 0 → ComesFirst lg lp (pos lq) (gap n (pos d) m (pos e)) m (pos e)
  exact_left exact =
      let made : d ≡ lq * rg + rq * lg = denom_made n d lp lq lg rp rq rg around in
      let none : rq * lg ≡ 0 = ap (λ t. rq * t) exact ∙ (let z : rq * 0 ≡ 0 = omega arith in z) in
      let none_far : e * lg ≡ 0 = ap (λ t. e * t) exact ∙ (let z : e * 0 ≡ 0 = omega arith in z) in
      let up : 0 < rg = nonzero_factor lq rg (omega arith) in
      let far : e * 1 ≤ e * lq = mul-le-mul_left e lq_up in
      let less : 0 < rg * lq = product_positive rg lq up lq_up in
      let none_right : lg * (rq + e * lq) ≡ 0 = ap (λ t. t * (rq + e * lq)) exact ∙ (let z : 0 * (rq + e * lq) ≡ 0 = omega arith in z) in
      before_all n d lp lq lg (rp +ℤ lp *ℤ pos e) (rq + e * lq) rg (right_moved n d lp lq lg rp rq rg around (rp +ℤ lp *ℤ pos e) e rg refl (omega arith)) d_up lq_up (omega arith)
      lg lp (pos lq) (omega (arith, ints)) (itself_first lg lp (pos lq)) (inl (omega arith)) m e e_up (omega arith)
