-- Where the search begins: the whole numbers around both ends.
use Rattle.std.specs.Prelude.{◌≡◌, ◌≢◌, ◌⊎◌, ◌+◌, ◌*◌, ◌<◌, ◌≤◌, ◌≤ℤ◌, ◌<ℤ◌, ◌+ℤ◌, ◌-ℤ◌, ◌*ℤ◌, ℕ, ℤ, zero, suc, pos, negsuc, unsigned_abs, min}
use Rattle.std.proofs.Common.{refl, ap, subst, arith, inl, inr}
use Rattle.std.proofs.lemmas.Int.{ints}
use borrow.Author.Differences.{up, down}
use Rattle.ratio_integer.specs.Range.{IsHeld, IsRange}
use Rattle.ratio_integer.specs.Division.{IsFloored}
use Rattle.ratio_core.specs.ContinuedFraction.{IsWithinBits}
use Rattle.ratio_approximation.proofs.NearestCounting.{once}
use Rattle.ratio_approximation.proofs.NearestMoves.{above_zero, natural_held}
use Rattle.ratio_approximation.proofs.Shares.{times_up}
use Rattle.ratio_approximation.specs.Enclosing.{Encloses, IsLastBelow, IsNearestZero, IsOnOneSide}
use Rattle.ratio_approximation.specs.SearchCount.{IsSearchCount}
use Rattle.ratio_approximation.specs.Simplest.{HoldsNoneBetween, IsBetween, IsSimplest}
use Rattle.ratio_core.proofs.Floored.{floored_exists}
use Rattle.ratio_approximation.proofs.QuotientLists.{zero_or}
use Rattle.ratio_approximation.proofs.SearchCounting.{counted_beside, counted_once}
use Rattle.ratio_approximation.proofs.SimplestEnclosing.{excess}
use Rattle.ratio_approximation.proofs.SimplestNeighbours.{right_numer_held, stood}

-- by how much one whole number is at most another
pub difference : (u w : ℤ) → u ≤ℤ w → (t : ℕ) × (w ≡ u +ℤ pos t)
difference u w less = by (w -ℤ u) refl
  where
    by : (z : ℤ) → z ≡ w -ℤ u → (t : ℕ) × (w ≡ u +ℤ pos t)
    by (pos t) e = (t, omega (arith, ints))
    by (negsuc t) e = absurd (omega (arith, ints))

not_over : (n f a : ℤ) (d r b t h : ℕ) → n ≡ f *ℤ pos d +ℤ pos r → f *ℤ pos b ≡ a +ℤ pos t → a *ℤ pos d ≡ n *ℤ pos b +ℤ pos (suc h) → ⊥
not_over n f a d r b t h sum less above =
    let s : up n + down f * d ≡ down n + up f * d + r = omega (arith, ints) in
    let u : up f * b + down a ≡ down f * b + up a + t = omega (arith, ints) in
    let w : up a * d + down n * b ≡ down a * d + up n * b + suc h = omega (arith, ints) in
    omega (arith, ap (λ z. z * b) s, ap (λ z. z * d) u)

-- a fraction above n/d is above each whole number that is at most n/d
pub over_floor : (n d f r a b : ℤ) → pos 0 <ℤ d → pos 0 <ℤ b → pos 0 ≤ℤ r → n ≡ f *ℤ d +ℤ r → (n *ℤ b) <ℤ (a *ℤ d) → (f *ℤ b) <ℤ a
over_floor n (negsuc d) f r a b d_up b_up r_up sum above = absurd (omega (arith, ints))
over_floor n (pos d) f r a (negsuc b) d_up b_up r_up sum above = absurd (omega (arith, ints))
over_floor n (pos d) f (negsuc r) a (pos b) d_up b_up r_up sum above = absurd (omega (arith, ints))
over_floor n (pos d) f (pos r) a (pos b) d_up b_up r_up sum above = by (a -ℤ f *ℤ pos b) refl
  where
    by : (z : ℤ) → z ≡ a -ℤ f *ℤ pos b → (f *ℤ pos b) <ℤ a
    by (pos (suc t)) e = omega (arith, ints)
    by (pos zero) e = absurd (let over = excess (a *ℤ pos d) (n *ℤ pos b) above in not_over n f a d r b 0 over.0 sum (omega (arith, ints)) over.1)
    by (negsuc t) e = absurd (let over = excess (a *ℤ pos d) (n *ℤ pos b) above in not_over n f a d r b (suc t) over.0 sum (omega (arith, ints)) over.1)

not_under : (m c a : ℤ) (e s b t h : ℕ) → c *ℤ pos e ≡ m +ℤ pos s → a ≡ c *ℤ pos b +ℤ pos t → m *ℤ pos b ≡ a *ℤ pos e +ℤ pos (suc h) → ⊥
not_under m c a e s b t h sum less below =
    let s_ : up c * e + down m ≡ down c * e + up m + s = omega (arith, ints) in
    let u : up a + down c * b ≡ down a + up c * b + t = omega (arith, ints) in
    let w : up m * b + down a * e ≡ down m * b + up a * e + suc h = omega (arith, ints) in
    omega (arith, ap (λ z. z * b) s_, ap (λ z. z * e) u)

pub under_ceiling : (m e c a b : ℤ) → pos 0 <ℤ e → pos 0 <ℤ b → m ≤ℤ (c *ℤ e) → (a *ℤ e) <ℤ (m *ℤ b) → a <ℤ (c *ℤ b)
under_ceiling m (negsuc e) c a b e_up b_up most below = absurd (omega (arith, ints))
under_ceiling m (pos e) c a (negsuc b) e_up b_up most below = absurd (omega (arith, ints))
under_ceiling m (pos e) c a (pos b) e_up b_up most below = by (c *ℤ pos b -ℤ a) refl
  where
    by : (z : ℤ) → z ≡ c *ℤ pos b -ℤ a → a <ℤ (c *ℤ pos b)
    by (pos (suc t)) e' = omega (arith, ints)
    by (pos zero) e' = absurd (let gap = difference m (c *ℤ pos e) most in let over = excess (m *ℤ pos b) (a *ℤ pos e) below in not_under m c a e gap.0 b 0 over.0 gap.1 (omega (arith, ints)) over.1)
    by (negsuc t) e' = absurd (let gap = difference m (c *ℤ pos e) most in let over = excess (m *ℤ pos b) (a *ℤ pos e) below in not_under m c a e gap.0 b (suc t) over.0 gap.1 (omega (arith, ints)) over.1)

-- ---- what the two divisions tell

-- f and r are the floor of n/d and the rest, g and s the last whole number below m/e and what m is above it
pub record AreEnds (n d m e f r g s : ℤ) : Type 0 where
  pub d_up : pos 0 <ℤ d
  pub e_up : pos 0 <ℤ e
  pub low : n ≡ f *ℤ d +ℤ r
  pub r_up : pos 0 ≤ℤ r
  pub r_less : r <ℤ d
  pub high : IsLastBelow m e g s

pub ends : {n d m e f r g s : ℤ} → pos 0 <ℤ d → pos 0 <ℤ e → IsFloored n d f r → IsLastBelow m e g s → AreEnds n d m e f r g s
ends d_up e_up low high = record {
  d_up = d_up;
  e_up = e_up;
  low = low.sum;
  r_up = (let rest = low.rest in grind (arith, ints));
  r_less = (let rest = low.rest in grind (arith, ints));
  high = high;
}

one_more : (c f : ℤ) (d : ℤ) → pos 0 <ℤ d → c ≡ f +ℤ pos 1 → c *ℤ d ≡ f *ℤ d +ℤ d
one_more c f (negsuc d) d_up is = absurd (omega (arith, ints))
one_more c f (pos d) d_up is =
    let s : up c + down f ≡ down c + up f + 1 = omega (arith, ints) in
    omega (arith, ints, ap (λ z. z * d) s)

pub times_less : (b f g : ℤ) → pos 0 <ℤ b → g ≤ℤ f → (g *ℤ b) ≤ℤ (f *ℤ b)
times_less b f g up less = (let h = times_up b g f (omega (arith, ints)) less in omega (arith, ints))

-- if m/e is at most a whole number that is at most n/d, no fraction lies between
pub none_under : (n d m e f r c : ℤ) → pos 0 <ℤ d → pos 0 <ℤ e → IsFloored n d f r → m ≤ℤ (c *ℤ e) → c ≤ℤ f → (lo hi : ℤ) → HoldsNoneBetween lo hi n d m e
none_under n d m e f r c d_up e_up floored most less lo hi = record {
  each = λ a b a_held b_held between. (
      let r_up : pos 0 ≤ℤ r = (let rest = floored.rest in grind (arith, ints)) in
      let first = over_floor n d f r a b d_up between.positive r_up floored.sum between.above in
      let last = under_ceiling m e c a b e_up between.positive most between.below in
      let over = times_less b f c between.positive less in
      omega (arith, ints, first, last, over));
}

module _ {n d m e f r g s : ℤ} (is : AreEnds n d m e f r g s) where
  pub above_floor : (a b : ℤ) → IsBetween n d m e a b → (f *ℤ b) <ℤ a
  above_floor a b between = over_floor n d f r a b is.d_up between.positive is.r_up is.low between.above

  most_next : m ≤ℤ ((g +ℤ pos 1) *ℤ e)
  most_next = rw is.high.sum (rw (one_more (g +ℤ pos 1) g e is.e_up refl) (let most = is.high.most in omega (arith, ints)))

  below_next : (a b : ℤ) → IsBetween n d m e a b → a <ℤ ((g +ℤ pos 1) *ℤ b)
  below_next a b between = under_ceiling m e (g +ℤ pos 1) a b is.e_up between.positive most_next between.below

  last_below : (g *ℤ e) <ℤ m
  last_below =
      let some = is.high.some in
      let sum = is.high.sum in
      omega (arith, ints)

  pub none_below : g <ℤ f → (lo hi : ℤ) → HoldsNoneBetween lo hi n d m e
  none_below less lo hi = record {
    each = λ a b a_held b_held between. (
        let first = above_floor a b between in
        let last = below_next a b between in
        let over = times_less b f (g +ℤ pos 1) between.positive (omega (arith, ints)) in
        omega (arith, ints, first, last, over));
  }

  -- both ends lie between two neighbouring whole numbers
  sides : (f c : ℤ) → c ≡ f +ℤ pos 1 → IsOnOneSide f c
  sides (pos f) c is = inl (omega (arith, ints), omega (arith, ints))
  sides (negsuc f) c is = inr (omega (arith, ints), omega (arith, ints))

  pub both_inside : f ≡ g → (c one one' t o : ℤ) → c ≡ f +ℤ pos 1 → one ≡ pos 1 → one' ≡ pos 1 → o ≡ e -ℤ s → t ≡ d -ℤ r → Encloses n d m e f one r s c one' o t
  both_inside same c one one' t o c-is one-is other-is o-is t-is =
      let low = is.low in
      let r_up = is.r_up in
      let r_less = is.r_less in
      let some = is.high.some in
      let most = is.high.most in
      let first = one_more c f d is.d_up c-is in
      let second = one_more c f e is.e_up c-is in
      let high : m ≡ f *ℤ e +ℤ s = rw same is.high.sum in
      rw (one-is, other-is, o-is, t-is) (record {
        low_left = omega (arith, ints);
        low_right = omega (arith, ints);
        high_left = omega (arith, ints);
        high_right = omega (arith, ints);
        unit = omega (arith, ints);
        left_denom = omega (arith, ints);
        right_denom = omega (arith, ints);
        left_own = r_up;
        right_own = omega (arith, ints);
        left_other = some;
        right_other = omega (arith, ints);
        side = sides f c c-is;
      })

  next_inside : (lo hi : ℤ) → IsRange lo hi → IsHeld lo hi n → IsHeld lo hi d → IsHeld lo hi m → IsHeld lo hi e → f ≡ g → IsHeld lo hi (f +ℤ pos 1)
  next_inside lo hi range n_held d_held m_held e_held same =
      right_numer_held (record { range = range; n_held = n_held; d_held = d_held; m_held = m_held; e_held = e_held; d_up = is.d_up; e_up = is.e_up })
      (stood n d m e _ _ _ _ _ _ _ _ is.d_up is.e_up (both_inside same (f +ℤ pos 1) (pos 1) (pos 1) (d -ℤ r) (e -ℤ s) refl refl refl refl refl))

  -- the next whole number after f is in range: it is at most g, or lies beside m/e
  pub next_held : (lo hi : ℤ) → IsRange lo hi → IsHeld lo hi n → IsHeld lo hi d → IsHeld lo hi m → IsHeld lo hi e → IsHeld lo hi f → IsHeld lo hi g → f ≤ℤ g → IsHeld lo hi (f +ℤ pos 1)
  next_held lo hi range n_held d_held m_held e_held f_held g_held less = by (g -ℤ f) refl
    where
      by : (z : ℤ) → z ≡ g -ℤ f → IsHeld lo hi (f +ℤ pos 1)
      by (pos zero) z-is = next_inside lo hi range n_held d_held m_held e_held (omega (arith, ints))
      by (pos (suc z)) z-is = one_more_held lo hi f g f_held g_held (omega (arith, ints))
        where
          one_more_held : (lo hi f g : ℤ) → IsHeld lo hi f → IsHeld lo hi g → f <ℤ g → IsHeld lo hi (f +ℤ pos 1)
          one_more_held lo hi f g first second less = grind (arith, ints)
      by (negsuc z) z-is = absurd (omega (arith, ints))

  pub part_held : (lo hi : ℤ) → IsRange lo hi → IsHeld lo hi d → IsHeld lo hi (d -ℤ r)
  part_held lo hi range held =
      let up = is.r_up in
      let less = is.r_less in
      natural_held lo hi d (d -ℤ r) range held (omega (arith, ints)) (omega (arith, ints))

  pub last_part_held : (lo hi : ℤ) → IsRange lo hi → IsHeld lo hi e → IsHeld lo hi (e -ℤ s)
  last_part_held lo hi range held =
      let some = is.high.some in
      let most = is.high.most in
      natural_held lo hi e (e -ℤ s) range held (omega (arith, ints)) (omega (arith, ints))

  -- ---- whole numbers between

  from_zero : (f b : ℤ) → pos 0 ≤ℤ f → pos 0 <ℤ b → f ≤ℤ (f *ℤ b)
  from_zero (negsuc f) b f_up b_up = absurd (omega (arith, ints))
  from_zero (pos f) (negsuc b) f_up b_up = absurd (omega (arith, ints))
  from_zero (pos f) (pos zero) f_up b_up = absurd (omega (arith, ints))
  from_zero (pos f) (pos (suc b)) f_up b_up = omega (arith, ints)

  to_zero : (c b : ℤ) → c ≤ℤ pos 0 → pos 0 <ℤ b → (c *ℤ b) ≤ℤ c
  to_zero (pos zero) (pos b) c_down b_up = omega (arith, ints)
  to_zero (pos (suc c)) b c_down b_up = absurd (omega (arith, ints))
  to_zero c (negsuc b) c_down b_up = absurd (omega (arith, ints))
  to_zero c (pos zero) c_down b_up = absurd (omega (arith, ints))
  to_zero (negsuc c) (pos (suc b)) c_down b_up = omega (arith, ints)

  nearer : (w z a : ℤ) → unsigned_abs w ≤ unsigned_abs z → ((pos 0 ≤ℤ z) × (z ≤ℤ a)) ⊎ ((a ≤ℤ z) × (z ≤ℤ pos 0)) → unsigned_abs w ≤ unsigned_abs a
  nearer w z a most side = grind (arith, ints)

  pub whole_simplest : (first w : ℤ) → first ≡ f +ℤ pos 1 → IsNearestZero first g w → IsSimplest n d m e w (pos 1)
  whole_simplest first w first-is nearest = record {
    between = record {
      positive = omega (arith, ints);
      above = (let over = times_less d w first is.d_up nearest.first in let more = one_more first f d is.d_up first-is in let low = is.low in let less = is.r_less in omega (arith, ints));
      below = (let under = times_less e g w is.e_up nearest.last in let less = last_below in omega (arith, ints));
    };
    denom = λ a b between. (let positive = between.positive in omega (arith, ints, positive));
    numer = numer;
  }
    where
      numer : (a b : ℤ) → IsBetween n d m e a b → unsigned_abs w ≤ unsigned_abs a
      numer a b between = by first g refl refl
        where
          over : (f *ℤ b) <ℤ a
          over = above_floor a b between

          under : a <ℤ ((g +ℤ pos 1) *ℤ b)
          under = below_next a b between

          none : unsigned_abs w ≤ unsigned_abs (pos 0) → unsigned_abs w ≤ unsigned_abs a
          none h = omega (arith, ints)

          by : (x y : ℤ) → x ≡ first → y ≡ g → unsigned_abs w ≤ unsigned_abs a
          by (pos (suc x)) y x-is y-is =
              let o = over in
              let less = from_zero f b (omega (arith, ints)) between.positive in
              let lo = nearest.first in
              let hi = nearest.last in
              nearer w first a (nearest.nearest first (omega (arith, ints)) (omega (arith, ints))) (inl (omega (arith, ints), omega (arith, ints)))
          by x (negsuc y) x-is y-is =
              let u = under in
              let less = to_zero (g +ℤ pos 1) b (omega (arith, ints)) between.positive in
              let lo = nearest.first in
              let hi = nearest.last in
              nearer w g a (nearest.nearest g (omega (arith, ints)) (omega (arith, ints))) (inr (omega (arith, ints), omega (arith, ints)))
          by (pos zero) (pos y) x-is y-is = none (nearest.nearest (pos 0) (omega (arith, ints)) (omega (arith, ints)))
          by (negsuc x) (pos y) x-is y-is = none (nearest.nearest (pos 0) (omega (arith, ints)) (omega (arith, ints)))

pub next_most : (f g c : ℤ) → f <ℤ g → c ≡ f +ℤ pos 1 → c ≤ℤ g
next_most f g c less c-is = omega (arith, ints)

pub same_floor : (f g : ℤ) → f ≤ℤ g → g ≤ℤ f → f ≡ g
same_floor f g less more = omega (arith, ints)

-- ---- the last whole number below m/e

pub last_whole : (m e g r w : ℤ) → pos 0 <ℤ e → IsFloored m e g r → r ≡ pos 0 → w ≡ g -ℤ pos 1 → IsLastBelow m e w e
last_whole m e g r w e_up floored none w-is =
    let more = one_more g w e e_up (omega (arith, ints)) in
    let sum = floored.sum in
    record { sum = omega (arith, ints); some = e_up; most = omega (arith, ints) }

pub last_part : (m e g r : ℤ) → pos 0 <ℤ e → IsFloored m e g r → r ≢ pos 0 → IsLastBelow m e g r
last_part m e g r e_up floored some =
    let rest : (pos 0 ≤ℤ r) × (r <ℤ e) = (let rest = floored.rest in grind (arith, ints)) in
    let less = rest.1 in
    record { sum = floored.sum; some = above_zero r rest.0 some; most = omega (arith, ints) }

pub no_last : (lo hi m e g r : ℤ) → pos 0 <ℤ e → IsHeld lo hi g → IsFloored m e g r → r ≡ pos 0 → ¬ (IsHeld lo hi (g -ℤ pos 1)) → m ≤ℤ (lo *ℤ e)
no_last lo hi m e g r e_up held floored none out =
    let least : g ≤ℤ lo = grind (arith, ints) in
    let product = times_less e lo g e_up least in
    let sum = floored.sum in
    omega (arith, ints)

-- ---- the counts

pub one_each : (d e : ℤ) → pos 0 <ℤ d → pos 0 <ℤ e → IsWithinBits (min (unsigned_abs d) (unsigned_abs e)) 1
one_each d e d_up e_up = once _ (let a : 0 < unsigned_abs d = omega (arith, ints) in let b : 0 < unsigned_abs e = omega (arith, ints) in omega arith)

pub rose_once : (d e : ℤ) (old new : ℕ) → pos 0 <ℤ d → pos 0 <ℤ e → new ≡ old + 1 → (k : ℕ) × (new ≡ old + k) × IsWithinBits (min (unsigned_abs d) (unsigned_abs e)) k
rose_once d e old new d_up e_up is = (1, is, one_each d e d_up e_up)

pub rose_more : (b old mid new : ℕ) → mid ≡ old + 1 → (k : ℕ) × (new ≡ mid + k) × IsWithinBits b (k + 1) → (k : ℕ) × (new ≡ old + k) × IsWithinBits b k
rose_more b old mid new first (k, rose, within) = (k + 1, (omega arith), within)

-- the exact counts, as a contract says them
abbrev HaveRisen : ℕ → ℕ → ℕ → ℕ → (ℕ → ℕ → Type 0) → Type 0
HaveRisen left left' right right' Counts = (k : ℕ) × (l : ℕ) × (left' ≡ left + k) × (right' ≡ right + l) × Counts k l

last_exists : (m e : ℤ) → pos 0 <ℤ e → (g : ℤ) × (s : ℤ) × IsLastBelow m e g s
last_exists m e e_up =
    let divided = floored_exists m e (λ none. omega (arith, ints)) in
    elim (zero_or divided.rest) [
      | inl none ↦ (divided.quotient -ℤ pos 1, e, last_whole m e divided.quotient divided.rest (divided.quotient -ℤ pos 1) e_up divided.floored none refl)
      | inr some ↦ (divided.quotient, divided.rest, last_part m e divided.quotient divided.rest e_up divided.floored some)
    ]

module _ (n d m e : ℤ) (left left' right right' : ℕ) (left-is : left' ≡ left + 1) (right-is : right' ≡ right + 1) where
  -- the first divisions alone: the whole numbers below both ends differ
  pub steps_once : (f r g s : ℤ) → AreEnds n d m e f r g s → f ≢ g → HaveRisen left left' right right' (IsSearchCount n d m e)
  steps_once f r g s is other = (1, 1, left-is, right-is, counted_once n d f r m e g s is.low is.r_up is.r_less is.high other)

  -- the first divisions alone: no number of the type is below m/e
  pub steps_under : (f r c : ℤ) → pos 0 <ℤ d → pos 0 <ℤ e → IsFloored n d f r → m ≤ℤ (c *ℤ e) → c ≤ℤ f → HaveRisen left left' right right' (IsSearchCount n d m e)
  steps_under f r c d_up e_up floored most less =
      let last = last_exists m e e_up in
      let is = ends d_up e_up floored last.2 in
      steps_once f r last.0 last.1 is (λ same. (
      let up = times_less e f c e_up less in
      let sum = last.2.sum in
      let some = last.2.some in
      let equal : f *ℤ e ≡ last.0 *ℤ e = ap (λ (t : ℤ). t *ℤ e) same in
      omega (arith, ints)))

  -- with the search
  pub steps_more : (f r g s t o : ℤ) (left'' right'' : ℕ) → AreEnds n d m e f r g s → f ≡ g → o ≡ e -ℤ s → t ≡ d -ℤ r → (k : ℕ) × (l : ℕ) × (left'' ≡ left' + k) × (right'' ≡ right' + l) × IsSearchCount r (r +ℤ t) s (s +ℤ o) (k + 1) (l + 1) → HaveRisen left left'' right right'' (IsSearchCount n d m e)
  steps_more f r g s t o left'' right'' is same o-is t-is more =
      let rose = more.2 in
      let rose' = more.3 in
      let low = is.low in
      let high : m ≡ f *ℤ e +ℤ s = rw same is.high.sum in
      let d-is : r +ℤ t ≡ d = omega (arith, ints) in
      let e-is : s +ℤ o ≡ e = omega (arith, ints) in
      let counts : IsSearchCount r d s e (more.0 + 1) (more.1 + 1) = subst (λ (z : ℤ). IsSearchCount r d s z (more.0 + 1) (more.1 + 1)) e-is (subst (λ (z : ℤ). IsSearchCount r z s (s +ℤ o) (more.0 + 1) (more.1 + 1)) d-is more.4) in
      (more.0 + 1, more.1 + 1, omega arith, omega arith, counted_beside r d s e f n m (more.0 + 1) (more.1 + 1) (omega (arith, ints)) (omega (arith, ints)) counts)
