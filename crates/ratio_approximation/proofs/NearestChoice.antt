-- The last choice between two neighbours.
use Rattle.std.specs.Prelude.{◌≡◌, ◌⊎◌, ◌*◌, ◌<◌, ◌≤ℤ◌, ◌<ℤ◌, ◌+ℤ◌, ◌*ℤ◌, ℕ, ℤ, pos, negsuc, unsigned_abs, Bool}
use Rattle.std.specs.Ordering.{MatchOrdering, int_cmp, is_le, ordering_then}
use Rattle.std.specs.declared.cmp.Ordering.{Ordering}
use Rattle.std.specs.declared.cmp.Ordering.TheVariants.{Less, Equal, Greater}
use Rattle.std.specs.Cmp.{int_ranks}
use Rattle.std.proofs.Common.{refl, sym, ap, arith, inl, inr, ◌∙◌}
use Rattle.std.proofs.lemmas.Int.{ints}
use Rattle.ratio_integer.specs.Comparison.{Tells}
use Rattle.ratio_approximation.specs.Moving.{CanCompare}
use Rattle.ratio_approximation.specs.Nearest.{ComesFirst, IsNearest, gap}
use Rattle.ratio_core.proofs.Around.{StandAround, Surround}
use Rattle.ratio_approximation.proofs.NearestPreference.{itself_first}
use Rattle.ratio_approximation.proofs.TwoNearest.{before_all, exact_left, exact_right, gap_above, gap_below}

-- ---- the gaps of both

left_gap_is : (n d most lp lq lg rp rq rg : ℤ) → pos 0 <ℤ d → StandAround n d most lp lq lg rp rq rg → gap n d lp lq ≡ unsigned_abs lg
left_gap_is n (negsuc d) most lp lq lg rp rq rg d_up stand = absurd (omega (arith, ints))
left_gap_is n (pos d) most lp (negsuc lq) lg rp rq rg d_up stand = absurd (let a = stand.left.positive in omega (arith, ints))
left_gap_is n (pos d) most lp (pos lq) lg rp rq rg d_up stand = gap_above n lp d lq (unsigned_abs lg) stand.around.left

right_gap_is : (n d most lp lq lg rp rq rg : ℤ) → pos 0 <ℤ d → StandAround n d most lp lq lg rp rq rg → gap n d rp rq ≡ unsigned_abs rg
right_gap_is n (negsuc d) most lp lq lg rp rq rg d_up stand = absurd (omega (arith, ints))
right_gap_is n (pos d) most lp lq lg rp (negsuc rq) rg d_up stand = absurd (let a = stand.right.positive in omega (arith, ints))
right_gap_is n (pos d) most lp lq lg rp (pos rq) rg d_up stand = gap_below n rp d rq (unsigned_abs rg) stand.around.right

-- ---- what comes before both neighbours comes before all fractions

module _ (n : ℤ) (d : ℕ) (most lp : ℤ) (lq : ℕ) (lg rp : ℤ) (rq : ℕ) (rg : ℤ) (d_up : pos 0 <ℤ pos d) (stand : StandAround n (pos d) most lp (pos lq) lg rp (pos rq) rg) where
  lq_up : 0 < lq
  lq_up = let a = stand.left.positive in omega (arith, ints)

  rq_up : 0 < rq
  rq_up = let a = stand.right.positive in omega (arith, ints)

  natural_before : most <ℤ (pos lq +ℤ pos rq) → (c : ℕ) (p q : ℤ) → pos 0 <ℤ q → ComesFirst c p q (unsigned_abs lg) lp (pos lq) → ComesFirst c p q (unsigned_abs rg) rp (pos rq) → (m e : ℤ) → pos 0 <ℤ e → e ≤ℤ most → ComesFirst c p q (gap n (pos d) m e) m e
  natural_before room c p q q_up left right m (negsuc e) e_up within = absurd (omega (arith, ints))
  natural_before room c p q q_up left right m (pos e) e_up within = before_all n d lp lq (unsigned_abs lg) rp rq (unsigned_abs rg) stand.around (omega (arith, ints)) lq_up rq_up c p q q_up left right m e (omega (arith, ints)) (omega (arith, ints))

  natural_exact_left : lg ≡ pos 0 → (m e : ℤ) → pos 0 <ℤ e → ComesFirst (unsigned_abs lg) lp (pos lq) (gap n (pos d) m e) m e
  natural_exact_left exact m (negsuc e) e_up = absurd (omega (arith, ints))
  natural_exact_left exact m (pos e) e_up = exact_left n d lp lq (unsigned_abs lg) rp rq (unsigned_abs rg) stand.around (omega (arith, ints)) lq_up rq_up m e (omega (arith, ints)) (ap unsigned_abs exact)

  natural_exact_right : rg ≡ pos 0 → (m e : ℤ) → pos 0 <ℤ e → ComesFirst (unsigned_abs rg) rp (pos rq) (gap n (pos d) m e) m e
  natural_exact_right exact m (negsuc e) e_up = absurd (omega (arith, ints))
  natural_exact_right exact m (pos e) e_up = exact_right n d lp lq (unsigned_abs lg) rp rq (unsigned_abs rg) stand.around (omega (arith, ints)) lq_up rq_up m e (omega (arith, ints)) (ap unsigned_abs exact)

stand_before : (n d most lp lq lg rp rq rg : ℤ) → pos 0 <ℤ d → StandAround n d most lp lq lg rp rq rg → most <ℤ (lq +ℤ rq) → (c : ℕ) (p q : ℤ) → pos 0 <ℤ q → ComesFirst c p q (unsigned_abs lg) lp lq → ComesFirst c p q (unsigned_abs rg) rp rq → (m e : ℤ) → pos 0 <ℤ e → e ≤ℤ most → ComesFirst c p q (gap n d m e) m e
stand_before n (negsuc d) most lp lq lg rp rq rg d_up stand room c p q q_up left right m e e_up within = absurd (omega (arith, ints))
stand_before n (pos d) most lp (negsuc lq) lg rp rq rg d_up stand room c p q q_up left right m e e_up within = absurd (let a = stand.left.positive in omega (arith, ints))
stand_before n (pos d) most lp (pos lq) lg rp (negsuc rq) rg d_up stand room c p q q_up left right m e e_up within = absurd (let a = stand.right.positive in omega (arith, ints))
stand_before n (pos d) most lp (pos lq) lg rp (pos rq) rg d_up stand room c p q q_up left right m e e_up within = natural_before n d most lp lq lg rp rq rg d_up stand room c p q q_up left right m e e_up within

stand_exact_left : (n d most lp lq lg rp rq rg : ℤ) → pos 0 <ℤ d → StandAround n d most lp lq lg rp rq rg → lg ≡ pos 0 → (m e : ℤ) → pos 0 <ℤ e → ComesFirst (unsigned_abs lg) lp lq (gap n d m e) m e
stand_exact_left n (negsuc d) most lp lq lg rp rq rg d_up stand exact m e e_up = absurd (omega (arith, ints))
stand_exact_left n (pos d) most lp (negsuc lq) lg rp rq rg d_up stand exact m e e_up = absurd (let a = stand.left.positive in omega (arith, ints))
stand_exact_left n (pos d) most lp (pos lq) lg rp (negsuc rq) rg d_up stand exact m e e_up = absurd (let a = stand.right.positive in omega (arith, ints))
stand_exact_left n (pos d) most lp (pos lq) lg rp (pos rq) rg d_up stand exact m e e_up = natural_exact_left n d most lp lq lg rp rq rg d_up stand exact m e e_up

stand_exact_right : (n d most lp lq lg rp rq rg : ℤ) → pos 0 <ℤ d → StandAround n d most lp lq lg rp rq rg → rg ≡ pos 0 → (m e : ℤ) → pos 0 <ℤ e → ComesFirst (unsigned_abs rg) rp rq (gap n d m e) m e
stand_exact_right n (negsuc d) most lp lq lg rp rq rg d_up stand exact m e e_up = absurd (omega (arith, ints))
stand_exact_right n (pos d) most lp (negsuc lq) lg rp rq rg d_up stand exact m e e_up = absurd (let a = stand.left.positive in omega (arith, ints))
stand_exact_right n (pos d) most lp (pos lq) lg rp (negsuc rq) rg d_up stand exact m e e_up = absurd (let a = stand.right.positive in omega (arith, ints))
stand_exact_right n (pos d) most lp (pos lq) lg rp (pos rq) rg d_up stand exact m e e_up = natural_exact_right n d most lp lq lg rp rq rg d_up stand exact m e e_up

-- ---- the nearest one

module _ (n d most : ℤ) (d_up : pos 0 <ℤ d) (p q g m e h : ℤ) where
  -- if nothing between the two is within the bound, the one that comes first is nearest
  pub nearest_first : Surround n d most p q g m e h → most <ℤ (q +ℤ e) → ComesFirst (unsigned_abs g) p q (unsigned_abs h) m e → IsNearest n d most p q
  nearest_first (inl stand) room first = record {
    positive = stand.left.positive;
    within = stand.left.within;
    first = rw (left_gap_is n d most p q g m e h d_up stand) (stand_before n d most p q g m e h d_up stand room (unsigned_abs g) p q stand.left.positive (itself_first (unsigned_abs g) p q) first);
  }
  nearest_first (inr stand) room first = record {
    positive = stand.right.positive;
    within = stand.right.within;
    first = rw (right_gap_is n d most m e h p q g d_up stand) (stand_before n d most m e h p q g d_up stand (omega (arith, ints)) (unsigned_abs g) p q stand.right.positive first (itself_first (unsigned_abs g) p q));
  }

  -- a neighbour that is n/d itself is nearest
  pub nearest_exact : Surround n d most p q g m e h → g ≡ pos 0 → IsNearest n d most p q
  nearest_exact (inl stand) exact = record {
    positive = stand.left.positive;
    within = stand.left.within;
    first = rw (left_gap_is n d most p q g m e h d_up stand) (λ k s up within. stand_exact_left n d most p q g m e h d_up stand exact k s up);
  }
  nearest_exact (inr stand) exact = record {
    positive = stand.right.positive;
    within = stand.right.within;
    first = rw (right_gap_is n d most m e h p q g d_up stand) (λ k s up within. stand_exact_right n d most m e h p q g d_up stand exact k s up);
  }

-- ---- the order that tells which one comes first

far : (g e : ℤ) → pos 0 ≤ℤ g → pos 0 ≤ℤ e → g *ℤ e ≡ pos (unsigned_abs g * unsigned_abs e)
far (negsuc g) e g_up e_up = absurd (omega (arith, ints))
far g (negsuc e) g_up e_up = absurd (omega (arith, ints))
far (pos g) (pos e) g_up e_up = refl

-- by the distances, then the denominators, then the numerators
by_orders : (u w : ℕ) (p q m e : ℤ) (a b c : Ordering) → MatchOrdering a (pos u <ℤ pos w) (pos u ≡ pos w) (pos w <ℤ pos u) → MatchOrdering b (q <ℤ e) (q ≡ e) (e <ℤ q) → MatchOrdering c (p <ℤ m) (p ≡ m) (m <ℤ p) → (t : Bool) → t ≡ is_le (ordering_then (ordering_then a b) c) → Tells t ((u < w) ⊎ ((u ≡ w) × ((q <ℤ e) ⊎ ((q ≡ e) × (p ≤ℤ m))))) ((w < u) ⊎ ((w ≡ u) × ((e <ℤ q) ⊎ ((e ≡ q) × (m ≤ℤ p)))))
by_orders u w p q m e Less b c x y z t is = inl (is, inl (omega (arith, ints)))
by_orders u w p q m e Greater b c x y z t is = inr (is, inl (omega (arith, ints)))
by_orders u w p q m e Equal Less c x y z t is = inl (is, inr (omega (arith, ints), inl y))
by_orders u w p q m e Equal Greater c x y z t is = inr (is, inr (omega (arith, ints), inl y))
by_orders u w p q m e Equal Equal Less x y z t is = inl (is, inr (omega (arith, ints), inr (y, omega (arith, ints))))
by_orders u w p q m e Equal Equal Equal x y z t is = inl (is, inr (omega (arith, ints), inr (y, omega (arith, ints))))
by_orders u w p q m e Equal Equal Greater x y z t is = inr (is, inr (omega (arith, ints), inr (sym y, omega (arith, ints))))

pub told_first : (lo hi g p q h m e x y : ℤ) → CanCompare lo hi g q h e → x ≡ g *ℤ e → y ≡ h *ℤ q → (t : Bool) → t ≡ is_le (ordering_then (ordering_then (int_cmp x y) (int_cmp q e)) (int_cmp p m)) → Tells t (ComesFirst (unsigned_abs g) p q (unsigned_abs h) m e) (ComesFirst (unsigned_abs h) m e (unsigned_abs g) p q)
told_first lo hi g p q h m e x y can x-is y-is t is =
    let left : x ≡ pos (unsigned_abs g * unsigned_abs e) = x-is ∙ far g e can.left_gap (let a = can.right_denom in omega (arith, ints)) in
    let right : y ≡ pos (unsigned_abs h * unsigned_abs q) = y-is ∙ far h q can.right_gap (let a = can.left_denom in omega (arith, ints)) in
    by_orders (unsigned_abs g * unsigned_abs e) (unsigned_abs h * unsigned_abs q) p q m e _ _ _
    (int_ranks (pos (unsigned_abs g * unsigned_abs e)) (pos (unsigned_abs h * unsigned_abs q))) (int_ranks q e) (int_ranks p m) t (rw (left, right) at is)
