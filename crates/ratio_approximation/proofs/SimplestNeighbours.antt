-- Two neighbours around both ends, with whole numbers as the type has them, and how one moves towards the other.
use Rattle.std.specs.Prelude.{◌≡◌, ◌⊎◌, ◌+◌, ◌*◌, ◌<◌, ◌≤◌, ◌≤ℤ◌, ◌<ℤ◌, ◌+ℤ◌, ◌*ℤ◌, ℕ, ℤ, zero, suc, pos, negsuc, unsigned_abs}
use Rattle.std.proofs.Common.{refl, sym, ap, arith, inl, inr, ◌∙◌}
use Rattle.std.proofs.lemmas.Int.{ints}
use Rattle.std.proofs.Math.Nat.{mul-le-mul_right}
use Rattle.ratio_integer.specs.Range.{IsHeld, IsRange}
use Rattle.ratio_core.proofs.Around.{made, up_product}
use Rattle.ratio_approximation.proofs.HeldAround.{between_held}
use Rattle.ratio_approximation.proofs.NearestMoves.{natural_held}
use Rattle.ratio_core.proofs.Neighbours.{AreAround, numer_made, denom_made, left_moved, right_moved}
use Rattle.ratio_approximation.specs.Enclosing.{Encloses, IsOnOneSide}
use Rattle.ratio_approximation.proofs.SimplestHalving.{IsHalved, halved_begun, halved_more}

pub natural : (z : ℤ) → pos 0 ≤ℤ z → pos (unsigned_abs z) ≡ z
natural (pos z) h = refl
natural (negsuc z) h = absurd (omega (arith, ints))

-- what the search requires, and that its numbers are in range
pub record AreAsked (lo hi n d m e : ℤ) : Type 0 where
  pub range : IsRange lo hi
  pub n_held : IsHeld lo hi n
  pub d_held : IsHeld lo hi d
  pub m_held : IsHeld lo hi m
  pub e_held : IsHeld lo hi e
  pub d_up : pos 0 <ℤ d
  pub e_up : pos 0 <ℤ e

-- two neighbours around both ends after k rounds
pub record Stands (k : ℕ) (n d m e lp lq lo lt rp rq ro rt : ℤ) : Type 0 where
  pub left_denom : pos 0 <ℤ lq
  pub right_denom : pos 0 <ℤ rq
  pub left_own : pos 0 ≤ℤ lo
  pub right_own : pos 0 ≤ℤ ro
  pub left_other : pos 0 <ℤ lt
  pub right_other : pos 0 <ℤ rt
  pub side : IsOnOneSide lp rp
  pub low : AreAround n (unsigned_abs d) lp (unsigned_abs lq) (unsigned_abs lo) rp (unsigned_abs rq) (unsigned_abs rt)
  pub high : AreAround m (unsigned_abs e) lp (unsigned_abs lq) (unsigned_abs lt) rp (unsigned_abs rq) (unsigned_abs ro)
  pub low_halved : IsHalved (unsigned_abs d) k (unsigned_abs lo * unsigned_abs rt)
  pub high_halved : IsHalved (unsigned_abs e) k (unsigned_abs lt * unsigned_abs ro)

-- the moving one is on the left, or the fixed one is
abbrev pub Inside : ℕ → ℤ → ℤ → ℤ → ℤ → ℤ → ℤ → ℤ → ℤ → ℤ → ℤ → ℤ → ℤ → Type 0
Inside k n d m e p q o t a b c f = Stands k n d m e p q o t a b c f ⊎ Stands k n d m e a b c f p q o t

-- ---- from the contract's form

sum_within : (lq lg rq rg d : ℕ) → 0 < lq → 0 < rq → d ≡ lq * rg + rq * lg → lg + rg ≤ d
sum_within zero lg rq rg d lq_up rq_up made = absurd (omega arith)
sum_within lq lg zero rg d lq_up rq_up made = absurd (omega arith)
sum_within (suc lq) lg (suc rq) rg d lq_up rq_up made = omega arith

pub stood : (n d m e lp lq lo lt rp rq ro rt : ℤ) → pos 0 <ℤ d → pos 0 <ℤ e → Encloses n d m e lp lq lo lt rp rq ro rt → Stands 0 n d m e lp lq lo lt rp rq ro rt
stood n d m e lp lq lo lt rp rq ro rt d_up e_up is = record {
  left_denom = is.left_denom;
  right_denom = is.right_denom;
  left_own = is.left_own;
  right_own = is.right_own;
  left_other = is.left_other;
  right_other = is.right_other;
  side = is.side;
  low = low;
  high = high;
  low_halved = halved_begun _ _ _ (sum_within (unsigned_abs lq) (unsigned_abs lo) (unsigned_abs rq) (unsigned_abs rt) (unsigned_abs d) (above lq is.left_denom) (above rq is.right_denom) (denom_made n _ lp _ _ rp _ _ low));
  high_halved = halved_begun _ _ _ (sum_within (unsigned_abs lq) (unsigned_abs lt) (unsigned_abs rq) (unsigned_abs ro) (unsigned_abs e) (above lq is.left_denom) (above rq is.right_denom) (denom_made m _ lp _ _ rp _ _ high));
}
  where
    above : (z : ℤ) → pos 0 <ℤ z → 0 < unsigned_abs z
    above z up = omega (arith, ints)

    weak : (z : ℤ) → pos 0 <ℤ z → pos 0 ≤ℤ z
    weak z up = omega (arith, ints)

    nlq : pos (unsigned_abs lq) ≡ lq
    nlq = natural lq (weak lq is.left_denom)

    nrq : pos (unsigned_abs rq) ≡ rq
    nrq = natural rq (weak rq is.right_denom)

    nd : pos (unsigned_abs d) ≡ d
    nd = natural d (weak d d_up)

    ne : pos (unsigned_abs e) ≡ e
    ne = natural e (weak e e_up)

    low : AreAround n (unsigned_abs d) lp (unsigned_abs lq) (unsigned_abs lo) rp (unsigned_abs rq) (unsigned_abs rt)
    low = record {
      left = ap (λ (t : ℤ). n *ℤ t) nlq ∙ is.low_left ∙ sym (ap (λ (t : ℤ). lp *ℤ t +ℤ pos (unsigned_abs lo)) nd ∙ ap (λ (t : ℤ). lp *ℤ d +ℤ t) (natural lo is.left_own));
      right = ap (λ (t : ℤ). rp *ℤ t) nd ∙ is.low_right ∙ sym (ap (λ (t : ℤ). n *ℤ t +ℤ pos (unsigned_abs rt)) nrq ∙ ap (λ (t : ℤ). n *ℤ rq +ℤ t) (natural rt (weak rt is.right_other)));
      unit = ap (λ (t : ℤ). rp *ℤ t) nlq ∙ is.unit ∙ sym (ap (λ (t : ℤ). lp *ℤ t +ℤ pos 1) nrq);
    }

    high : AreAround m (unsigned_abs e) lp (unsigned_abs lq) (unsigned_abs lt) rp (unsigned_abs rq) (unsigned_abs ro)
    high = record {
      left = ap (λ (t : ℤ). m *ℤ t) nlq ∙ is.high_left ∙ sym (ap (λ (t : ℤ). lp *ℤ t +ℤ pos (unsigned_abs lt)) ne ∙ ap (λ (t : ℤ). lp *ℤ e +ℤ t) (natural lt (weak lt is.left_other)));
      right = ap (λ (t : ℤ). rp *ℤ t) ne ∙ is.high_right ∙ sym (ap (λ (t : ℤ). m *ℤ t +ℤ pos (unsigned_abs ro)) nrq ∙ ap (λ (t : ℤ). m *ℤ rq +ℤ t) (natural ro is.right_own));
      unit = ap (λ (t : ℤ). rp *ℤ t) nlq ∙ is.unit ∙ sym (ap (λ (t : ℤ). lp *ℤ t +ℤ pos 1) nrq);
    }

-- ---- signs of numerators

pub along_times : (p a k : ℤ) → IsOnOneSide p a → pos 0 ≤ℤ k → IsOnOneSide (p +ℤ a *ℤ k) a
along_times p a (negsuc k) side up = absurd (omega (arith, ints))
along_times p (pos a) (pos k) (inl s) up = inl ((let s0 = s.0 in omega (arith, ints)), s.1)
along_times p (negsuc a) (pos k) (inl s) up = absurd (let below = s.1 in omega (arith, ints))
along_times p (pos zero) (pos k) (inr s) up = inr ((let s0 = s.0 in omega (arith, ints)), s.1)
along_times p (pos (suc a)) (pos k) (inr s) up = absurd (let below = s.1 in omega (arith, ints))
along_times p (negsuc a) (pos k) (inr s) up = inr ((let s0 = s.0 in omega (arith, ints)), s.1)

pub turned_side : (p a : ℤ) → IsOnOneSide p a → IsOnOneSide a p
turned_side p a (inl s) = inl (s.1, s.0)
turned_side p a (inr s) = inr (s.1, s.0)

-- n is made of a and b, which are on one side
part_between : (n a b : ℤ) (u v : ℕ) → IsOnOneSide a b → n ≡ a *ℤ pos u +ℤ b *ℤ pos v → 0 < v → ((pos 0 ≤ℤ b) × (b ≤ℤ n)) ⊎ ((n ≤ℤ b) × (b ≤ℤ pos 0))
part_between n a b u zero side sum up = absurd (omega arith)
part_between n (pos a) (pos b) u (suc v) side sum up = inl (omega (arith, ints), omega (arith, ints))
part_between n (pos zero) (negsuc b) u (suc v) side sum up = inr (omega (arith, ints), omega (arith, ints))
part_between n (pos (suc a)) (negsuc b) u (suc v) side sum up = absurd (grind (arith, ints))
part_between n (negsuc a) (pos zero) u (suc v) side sum up = inr (omega (arith, ints), omega (arith, ints))
part_between n (negsuc a) (pos (suc b)) u (suc v) side sum up = absurd (grind (arith, ints))
part_between n (negsuc a) (negsuc b) u (suc v) side sum up = inr (omega (arith, ints), omega (arith, ints))

-- ---- what is in range

module _ {lo hi n d m e lp lq lo' lt rp rq ro rt : ℤ} {k : ℕ} (asked : AreAsked lo hi n d m e) (is : Stands k n d m e lp lq lo' lt rp rq ro rt) where
  pub left_numer_held : IsHeld lo hi lp
  left_numer_held =
      let parts = numer_made n _ lp _ _ rp _ _ is.low in
      let up = is.right_other in
      between_held lo hi n lp asked.range asked.n_held (part_between n rp lp (unsigned_abs lo') (unsigned_abs rt) (turned_side lp rp is.side) (omega (arith, ints)) (omega (arith, ints)))

  pub right_numer_held : IsHeld lo hi rp
  right_numer_held =
      let up = is.left_other in
      between_held lo hi m rp asked.range asked.m_held (part_between m lp rp (unsigned_abs ro) (unsigned_abs lt) is.side (numer_made m _ lp _ _ rp _ _ is.high) (omega (arith, ints)))

  pub left_denom_held : IsHeld lo hi lq
  left_denom_held =
      let up = is.left_denom in
      natural_held lo hi d lq asked.range asked.d_held (omega (arith, ints)) (part_most d lq rt lo' rq asked.d_up is.left_denom is.right_other (denom_made n _ lp _ _ rp _ _ is.low))
    where
      part_most : (d a b u v : ℤ) → pos 0 <ℤ d → pos 0 <ℤ a → pos 0 <ℤ b → unsigned_abs d ≡ unsigned_abs a * unsigned_abs b + unsigned_abs v * unsigned_abs u → a ≤ℤ d
      part_most (negsuc d) a b u v d_up a_up b_up sum = absurd (omega (arith, ints))
      part_most d (negsuc a) b u v d_up a_up b_up sum = absurd (omega (arith, ints))
      part_most d a (negsuc b) u v d_up a_up b_up sum = absurd (omega (arith, ints))
      part_most d a (pos zero) u v d_up a_up b_up sum = absurd (omega (arith, ints))
      part_most (pos d) (pos a) (pos (suc b)) u v d_up a_up b_up sum = omega (arith, ints)

  pub right_denom_held : IsHeld lo hi rq
  right_denom_held =
      let up = is.right_denom in
      natural_held lo hi e rq asked.range asked.e_held (omega (arith, ints)) (part_most e lq ro rq lt asked.e_up is.right_denom is.left_other (denom_made m _ lp _ _ rp _ _ is.high))
    where
      part_most : (d u v a b : ℤ) → pos 0 <ℤ d → pos 0 <ℤ a → pos 0 <ℤ b → unsigned_abs d ≡ unsigned_abs u * unsigned_abs v + unsigned_abs a * unsigned_abs b → a ≤ℤ d
      part_most (negsuc d) u v a b d_up a_up b_up sum = absurd (omega (arith, ints))
      part_most d u v (negsuc a) b d_up a_up b_up sum = absurd (omega (arith, ints))
      part_most d u v a (negsuc b) d_up a_up b_up sum = absurd (omega (arith, ints))
      part_most d u v a (pos zero) d_up a_up b_up sum = absurd (omega (arith, ints))
      part_most (pos d) u v (pos a) (pos (suc b)) d_up a_up b_up sum = omega (arith, ints)

  gap_most : (d a b u v : ℤ) → pos 0 <ℤ d → pos 0 <ℤ a → pos 0 <ℤ b → pos 0 ≤ℤ u → pos 0 ≤ℤ v → unsigned_abs u + unsigned_abs v ≤ unsigned_abs d → (u ≤ℤ d) × (v ≤ℤ d)
  gap_most d a b u v d_up a_up b_up u_up v_up sum = (omega (arith, ints), omega (arith, ints))

  pub left_other_held : IsHeld lo hi lt
  left_other_held =
      let up = is.left_other in
      let q = is.left_denom in
      let r = is.right_denom in
      let sum = sum_within (unsigned_abs lq) (unsigned_abs lt) (unsigned_abs rq) (unsigned_abs ro) (unsigned_abs e) (omega (arith, ints)) (omega (arith, ints)) (denom_made m _ lp _ _ rp _ _ is.high) in
      natural_held lo hi e lt asked.range asked.e_held (omega (arith, ints)) (gap_most e lq rq lt ro asked.e_up q r (omega (arith, ints)) is.right_own sum).0

  pub right_other_held : IsHeld lo hi rt
  right_other_held =
      let up = is.right_other in
      let q = is.left_denom in
      let r = is.right_denom in
      let sum = sum_within (unsigned_abs lq) (unsigned_abs lo') (unsigned_abs rq) (unsigned_abs rt) (unsigned_abs d) (omega (arith, ints)) (omega (arith, ints)) (denom_made n _ lp _ _ rp _ _ is.low) in
      natural_held lo hi d rt asked.range asked.d_held (omega (arith, ints)) (gap_most d lq rq lo' rt asked.d_up q r is.left_own (omega (arith, ints)) sum).1

-- ---- w steps of the moving one p/q, after which the gaps r to its own end and s to the other one are left

pub record IsTurn (q o t b c f w r s : ℤ) : Type 0 where
  pub w_up : pos 0 ≤ℤ w
  pub r_up : pos 0 ≤ℤ r
  pub s_up : pos 0 <ℤ s
  pub rest : o ≡ r +ℤ f *ℤ w
  pub left : t ≡ s +ℤ c *ℤ w

module _ (n d m e p q o t a b c f : ℤ) (k : ℕ) (w r s p' q' : ℤ) (turn : IsTurn q o t b c f w r s) (p-is : p' ≡ p +ℤ a *ℤ w) (q-is : q' ≡ q +ℤ b *ℤ w) where
  numer-moved : p' ≡ p +ℤ a *ℤ pos (unsigned_abs w)
  numer-moved = p-is ∙ ap (λ (t : ℤ). p +ℤ a *ℤ t) (sym (natural w turn.w_up))

  own-moved : pos 0 ≤ℤ f → unsigned_abs o ≡ unsigned_abs w * unsigned_abs f + unsigned_abs r
  own-moved f_up = (let sum : unsigned_abs o ≡ unsigned_abs r + unsigned_abs w * unsigned_abs f = made r f w o turn.r_up f_up turn.w_up turn.rest in omega arith)

  other-moved : pos 0 ≤ℤ c → unsigned_abs t ≡ unsigned_abs w * unsigned_abs c + unsigned_abs s
  other-moved c_up =
      let up = turn.s_up in
      let sum : unsigned_abs t ≡ unsigned_abs s + unsigned_abs w * unsigned_abs c = made s c w t (omega (arith, ints)) c_up turn.w_up turn.left in
      omega arith

  denom-moved : pos 0 <ℤ q → pos 0 <ℤ b → unsigned_abs q' ≡ unsigned_abs q + unsigned_abs w * unsigned_abs b
  denom-moved q_up b_up = made q b w q' (omega (arith, ints)) (omega (arith, ints)) turn.w_up q-is

  -- both ends after the moves
  pub left_lows : (is : Stands k n d m e p q o t a b c f) → AreAround n (unsigned_abs d) p' (unsigned_abs q') (unsigned_abs r) a (unsigned_abs b) (unsigned_abs f)
  left_lows is = rw (denom-moved is.left_denom is.right_denom) (left_moved n _ p _ _ a _ _ is.low p' (unsigned_abs w) (unsigned_abs r) numer-moved (own-moved (let u = is.right_other in omega (arith, ints))))

  pub left_highs : (is : Stands k n d m e p q o t a b c f) → AreAround m (unsigned_abs e) p' (unsigned_abs q') (unsigned_abs s) a (unsigned_abs b) (unsigned_abs c)
  left_highs is = rw (denom-moved is.left_denom is.right_denom) (left_moved m _ p _ _ a _ _ is.high p' (unsigned_abs w) (unsigned_abs s) numer-moved (other-moved is.right_own))

  pub right_lows : (is : Stands k n d m e a b c f p q o t) → AreAround n (unsigned_abs d) a (unsigned_abs b) (unsigned_abs c) p' (unsigned_abs q') (unsigned_abs s)
  right_lows is = rw (denom-moved is.right_denom is.left_denom) (right_moved n _ a _ _ p _ _ is.low p' (unsigned_abs w) (unsigned_abs s) numer-moved (other-moved is.left_own))

  pub right_highs : (is : Stands k n d m e a b c f p q o t) → AreAround m (unsigned_abs e) a (unsigned_abs b) (unsigned_abs f) p' (unsigned_abs q') (unsigned_abs r)
  right_highs is = rw (denom-moved is.right_denom is.left_denom) (right_moved m _ a _ _ p _ _ is.high p' (unsigned_abs w) (unsigned_abs r) numer-moved (own-moved (let u = is.left_other in omega (arith, ints))))

  positive-moved : pos 0 <ℤ q → pos 0 <ℤ b → pos 0 <ℤ q'
  positive-moved q_up b_up =
      let add : pos 0 ≤ℤ (b *ℤ w) = up_product b w (omega (arith, ints)) turn.w_up in
      rw q-is (omega (arith, ints))

  -- a product of gaps is at least halved
  halves : (g h w r : ℕ) → 0 < w → r ≤ h → g ≡ w * h + r → 2 * (r * h) ≤ g * h
  halves g h zero r some less sum = absurd (omega arith)
  halves g h (suc w) r some less sum =
      let twice : 2 * r ≤ g = omega arith in
      let product : (2 * r) * h ≤ g * h = mul-le-mul_right h twice in
      omega arith

  some_product : (g h : ℕ) → 0 < g → 0 < h → 0 < g * h
  some_product zero h g_up h_up = absurd (omega arith)
  some_product (suc g) zero g_up h_up = absurd (omega arith)
  some_product (suc g) (suc h) g_up h_up = omega arith

  own-halves : pos 0 <ℤ w → r ≤ℤ f → pos 0 <ℤ f → 2 * (unsigned_abs r * unsigned_abs f) ≤ unsigned_abs o * unsigned_abs f
  own-halves w_up less f_up =
      let r_up = turn.r_up in
      halves _ _ (unsigned_abs w) (unsigned_abs r) (omega (arith, ints)) (omega (arith, ints)) (own-moved (omega (arith, ints)))

  other-halves : pos 0 <ℤ w → s ≤ℤ c → 2 * (unsigned_abs s * unsigned_abs c) ≤ unsigned_abs t * unsigned_abs c
  other-halves w_up less =
      let s_up = turn.s_up in
      halves _ _ (unsigned_abs w) (unsigned_abs s) (omega (arith, ints)) (omega (arith, ints)) (other-moved (omega (arith, ints)))

  own-some : pos 0 <ℤ w → pos 0 <ℤ f → 0 < unsigned_abs o * unsigned_abs f
  own-some w_up f_up =
      let r_up = turn.r_up in
      some_product (unsigned_abs o) (unsigned_abs f) (some (unsigned_abs w) (unsigned_abs f) (unsigned_abs o) (unsigned_abs r) (omega (arith, ints)) (omega (arith, ints)) (own-moved (omega (arith, ints)))) (omega (arith, ints))
    where
      some : (w f o r : ℕ) → 0 < w → 0 < f → o ≡ w * f + r → 0 < o
      some zero f o r w_up f_up sum = absurd (omega arith)
      some (suc w) f o r w_up f_up sum = omega arith

  other-some : pos 0 <ℤ t → pos 0 <ℤ c → 0 < unsigned_abs t * unsigned_abs c
  other-some t_up c_up = some_product (unsigned_abs t) (unsigned_abs c) (omega (arith, ints)) (omega (arith, ints))

  -- after a whole round the fixed one is to move
  module _ (w_up : pos 0 <ℤ w) (r_less : r <ℤ f) (s_less : s ≤ℤ c) (c_up : pos 0 <ℤ c) where
    pub turned_inside : Inside k n d m e p q o t a b c f → Inside (k + 1) n d m e a b c f p' q' r s
    turned_inside (inl is) = inr (record {
      left_denom = positive-moved is.left_denom is.right_denom;
      right_denom = is.right_denom;
      left_own = turn.r_up;
      right_own = is.right_own;
      left_other = turn.s_up;
      right_other = is.right_other;
      side = rw p-is (along_times p a w is.side turn.w_up);
      low = left_lows is;
      high = left_highs is;
      low_halved = halved_more _ _ (unsigned_abs o * unsigned_abs f) _ (own-some w_up is.right_other) (own-halves w_up (omega (arith, ints)) is.right_other) is.low_halved;
      high_halved = halved_more _ _ (unsigned_abs t * unsigned_abs c) _ (other-some is.left_other c_up) (other-halves w_up s_less) is.high_halved;
    })
    turned_inside (inr is) = inl (record {
      left_denom = is.left_denom;
      right_denom = positive-moved is.right_denom is.left_denom;
      left_own = is.left_own;
      right_own = turn.r_up;
      left_other = is.left_other;
      right_other = turn.s_up;
      side = turned_side _ _ (rw p-is (along_times p a w (turned_side _ _ is.side) turn.w_up));
      low = right_lows is;
      high = right_highs is;
      low_halved = halved_more _ _ (unsigned_abs c * unsigned_abs t) _ (let x = other-some is.right_other c_up in omega arith) (let x = other-halves w_up s_less in omega arith) is.low_halved;
      high_halved = halved_more _ _ (unsigned_abs f * unsigned_abs o) _ (let x = own-some w_up is.left_other in omega arith) (let x = own-halves w_up (omega (arith, ints)) is.left_other in omega arith) is.high_halved;
    })
