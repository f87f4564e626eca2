-- What each step of the search requires, and what it keeps.
use Rattle.std.specs.Prelude.{◌≡◌, ◌≢◌, ◌≤ℤ◌, ◌<ℤ◌, ◌+ℤ◌, ◌-ℤ◌, ◌*ℤ◌, ◌<◌, ℤ, pos, unsigned_abs}
use Rattle.std.proofs.Common.{refl, arith, inl, inr}
use Rattle.std.proofs.lemmas.Int.{ints}
use Rattle.ratio_integer.specs.Division.{IsAboveMax, IsFloored, IsFlooredQuotient}
use Rattle.ratio_integer.specs.Range.{IsHeld, IsRange}
use Rattle.ratio_approximation.specs.Moving.{CanCompare, CanMove}
use Rattle.ratio_approximation.specs.Nearest.{ComesFirst, IsNearest}
use Rattle.ratio_core.proofs.Around.{IsAlong, IsNeighbour, Surround, along_product, begin, surround_moved, up_product}
use Rattle.ratio_approximation.proofs.Convergents.{next_multiple}
use Rattle.ratio_approximation.proofs.HeldAround.{between_held, left_far_held, left_gap_held, left_numer_held, right_far_held, right_gap_held, right_numer_held}
use Rattle.ratio_approximation.proofs.Shares.{IsShare, share, times_up}
use Rattle.ratio_approximation.proofs.NearestChoice.{nearest_first}

pub turned : {n d most p q g m e h : ℤ} → Surround n d most p q g m e h → Surround n d most m e h p q g
turned (inl stand) = inr stand
turned (inr stand) = inl stand

-- what the call requires, and that its numbers are in range
pub record IsAsked (lo hi n d most : ℤ) : Type 0 where
  pub range : IsRange lo hi
  pub n_held : IsHeld lo hi n
  pub d_held : IsHeld lo hi d
  pub most_held : IsHeld lo hi most
  pub positive : pos 0 <ℤ d
  pub room : pos 0 <ℤ most

pub above_zero : (z : ℤ) → pos 0 ≤ℤ z → z ≢ pos 0 → pos 0 <ℤ z
above_zero z up nonzero = grind (arith, ints)

pub smaller : (z h : ℤ) → pos 0 ≤ℤ z → z <ℤ h → unsigned_abs z < unsigned_abs h
smaller z h up less = omega (arith, ints)

-- if p + z is in range, and p and z are on one side of 0, then z is in range
part_held : (lo hi n p z : ℤ) → IsRange lo hi → IsAlong n p → IsAlong n z → IsHeld lo hi (p +ℤ z) → IsHeld lo hi z
part_held lo hi n p z range first second held = grind (arith, ints)

pub natural_held : (lo hi a z : ℤ) → IsRange lo hi → IsHeld lo hi a → pos 0 ≤ℤ z → z ≤ℤ a → IsHeld lo hi z
natural_held lo hi a z range held up less = between_held lo hi a z range held (inl (up, less))

-- if d is above 0, n/d is not -hi-1 over -1
pub not_above_max : (hi n d : ℤ) → pos 0 <ℤ d → ¬ (IsAboveMax hi n d)
not_above_max hi n d up top = let minus_one = top.denom in omega (arith, ints)

module _ {lo hi n d most p q g m e h : ℤ} (asked : IsAsked lo hi n d most) where
  pub moving_is : Surround n d most p q g m e h → IsNeighbour n most p q g
  moving_is (inl stand) = stand.left
  moving_is (inr stand) = stand.right

  pub fixed_is : Surround n d most p q g m e h → IsNeighbour n most m e h
  fixed_is (inl stand) = stand.right
  fixed_is (inr stand) = stand.left

  pub moving_gap_held : Surround n d most p q g m e h → IsHeld lo hi g
  moving_gap_held (inl stand) = left_gap_held lo hi n d most p q g m e h asked.range asked.n_held asked.d_held asked.positive stand
  moving_gap_held (inr stand) = right_gap_held lo hi n d most m e h p q g asked.range asked.n_held asked.d_held asked.positive stand

  moving_far_held : Surround n d most p q g m e h → IsHeld lo hi (g *ℤ e)
  moving_far_held (inl stand) = left_far_held lo hi n d most p q g m e h asked.range asked.n_held asked.d_held asked.positive stand
  moving_far_held (inr stand) = right_far_held lo hi n d most m e h p q g asked.range asked.n_held asked.d_held asked.positive stand

  pub moving_numer_held : Surround n d most p q g m e h → pos 0 <ℤ h → IsHeld lo hi p
  moving_numer_held (inl stand) up = left_numer_held lo hi n d most p q g m e h asked.range asked.n_held asked.d_held asked.positive stand up
  moving_numer_held (inr stand) up = right_numer_held lo hi n d most m e h p q g asked.range asked.n_held asked.d_held asked.positive stand up

module _ {lo hi n d most p q g m e h : ℤ} (asked : IsAsked lo hi n d most) (around : Surround n d most p q g m e h) where
  pub can_compare : CanCompare lo hi g q h e
  can_compare =
      let moving = moving_is asked around in
      let fixed = fixed_is asked around in
      record {
        left_gap = moving.gap_up;
        left_denom = moving.positive;
        right_gap = fixed.gap_up;
        right_denom = fixed.positive;
        left_far = moving_far_held asked around;
        right_far = moving_far_held asked (turned around);
      }

  pub room_held : IsHeld lo hi (most -ℤ q)
  room_held =
      let moving = moving_is asked around in
      let first = moving.positive in
      let within = moving.within in
      natural_held lo hi most (most -ℤ q) asked.range asked.most_held (omega (arith, ints)) (omega (arith, ints))

  pub denom_held : IsHeld lo hi q
  denom_held =
      let moving = moving_is asked around in
      let first = moving.positive in
      natural_held lo hi most q asked.range asked.most_held (omega (arith, ints)) moving.within

  -- after k steps towards the other one
  module _ (k : ℤ) (k_up : pos 0 ≤ℤ k) (h_up : pos 0 <ℤ h) (fits : (h *ℤ k) ≤ℤ g) (room : (q +ℤ e *ℤ k) ≤ℤ most) where
    pub after : (p' q' g' : ℤ) → p' ≡ p +ℤ m *ℤ k → q' ≡ q +ℤ e *ℤ k → g' ≡ g -ℤ h *ℤ k → Surround n d most m e h p' q' g'
    after p' q' g' numer denom gap =
        surround_moved n d most p q g m e h k p' q' g' k_up numer denom gap (omega (arith, ints)) (omega (arith, ints)) around

    pub can_move : CanMove lo hi p q g m e h k
    can_move =
        let moving = moving_is asked around in
        let fixed = fixed_is asked around in
        let numer_held : IsHeld lo hi (p +ℤ m *ℤ k) = moving_numer_held asked (turned (after _ _ _ refl refl refl)) h_up in
        let denom_up : pos 0 ≤ℤ (e *ℤ k) = up_product e k (let a = fixed.positive in omega (arith, ints)) k_up in
        let gap_up : pos 0 ≤ℤ (h *ℤ k) = up_product h k (omega (arith, ints)) k_up in
        let first = moving.positive in
        let gap_held = moving_gap_held asked around in
        record {
          numer_part = part_held lo hi n p (m *ℤ k) asked.range moving.along (along_product n m k fixed.along k_up) numer_held;
          numer = numer_held;
          denom_part = natural_held lo hi most (e *ℤ k) asked.range asked.most_held denom_up (omega (arith, ints));
          denom = natural_held lo hi most (q +ℤ e *ℤ k) asked.range asked.most_held (omega (arith, ints)) room;
          gap_part = natural_held lo hi g (h *ℤ k) asked.range gap_held gap_up fits;
          gap = natural_held lo hi g (g -ℤ h *ℤ k) asked.range gap_held (omega (arith, ints)) (omega (arith, ints));
        }

-- ---- the two counts of steps: how many the gap has room for, and how many the bound

pub record AreSteps (most q g e h whole room : ℤ) : Type 0 where
  pub gap_up : pos 0 <ℤ h
  pub of_gap : IsShare g h whole
  pub of_room : IsShare (most -ℤ q) e room

module _ {most q g e h whole room : ℤ} (steps : AreSteps most q g e h whole room) where
  pub room_fits : room <ℤ whole → (h *ℤ room) ≤ℤ g
  room_fits less =
      let gap_up = steps.gap_up in
      let fewer = times_up h room whole (omega (arith, ints)) (omega (arith, ints)) in
      let fits = steps.of_gap.fits in
      omega (arith, ints)

  pub room_within : (q +ℤ e *ℤ room) ≤ℤ most
  room_within = let fits = steps.of_room.fits in omega (arith, ints)

  pub room_used : most <ℤ ((q +ℤ e *ℤ room) +ℤ e)
  room_used = let rest = steps.of_room.rest in omega (arith, ints)

  -- if the gap has room for more steps than the bound, all of them lead beyond the bound
  pub room_passed : pos 0 <ℤ e → room <ℤ whole → most <ℤ (q +ℤ e *ℤ whole)
  room_passed up less =
      let more = times_up e (room +ℤ pos 1) whole (omega (arith, ints)) (omega (arith, ints)) in
      let next : e *ℤ (room +ℤ pos 1) ≡ e *ℤ room +ℤ e = next_multiple e room in
      let rest = steps.of_room.rest in
      omega (arith, ints)

  pub whole_within : pos 0 <ℤ e → whole ≤ℤ room → (q +ℤ e *ℤ whole) ≤ℤ most
  whole_within up less =
      let fewer = times_up e whole room (omega (arith, ints)) less in
      let fits = steps.of_room.fits in
      omega (arith, ints)

pub steps_are : {lo hi n d most p q g m e h : ℤ} (asked : IsAsked lo hi n d most) (around : Surround n d most p q g m e h) (whole room : ℤ) → pos 0 <ℤ h → IsFlooredQuotient g h whole → IsFlooredQuotient (most -ℤ q) e room → AreSteps most q g e h whole room
steps_are {most = most} {q = q} {g = g} {e = e} {h = h} asked around whole room up of_gap of_room =
    let moving = moving_is asked around in
    let fixed = fixed_is asked around in
    let within = moving.within in
    record {
      gap_up = up;
      of_gap = share g h whole moving.gap_up up of_gap;
      of_room = share (most -ℤ q) e room (omega (arith, ints)) fixed.positive of_room;
    }

-- ---- the beginning

pub begun : {lo hi n d most : ℤ} (asked : IsAsked lo hi n d most) (f r one other c g : ℤ) → one ≡ pos 1 → other ≡ pos 1 → c ≡ f +ℤ pos 1 → g ≡ d -ℤ r → IsFloored n d f r → Surround n d most c other g f one r
begun {n = n} {d = d} {most = most} asked f r one other c g is also c-is g-is floored = rw (is, also, c-is, g-is) (inr (begin n d most f r asked.positive asked.room floored))

-- ---- the end

-- if no more steps fit, the one of the two that comes first is nearest
pub last_nearest : {lo hi n d most p q g m e h : ℤ} (asked : IsAsked lo hi n d most) (around : Surround n d most p q g m e h) (used : most <ℤ (q +ℤ e)) → ComesFirst (unsigned_abs g) p q (unsigned_abs h) m e → IsNearest n d most p q
last_nearest asked around used first = nearest_first _ _ _ asked.positive _ _ _ _ _ _ around used first
