-- The search: what it keeps, requires and returns.
use Rattle.std.specs.Prelude.{◌≡◌, ◌≢◌, ◌⊎◌, ◌+◌, ◌*◌, ◌<◌, ◌≤◌, ◌≤ℤ◌, ◌<ℤ◌, ◌+ℤ◌, ◌-ℤ◌, ◌*ℤ◌, ℕ, ℤ, zero, suc, pos, negsuc, unsigned_abs, min, Option, Some, None}
use Rattle.std.proofs.Common.{refl, sym, arith, inl, inr}
use Rattle.std.proofs.lemmas.Int.{ints}
use Rattle.ratio_integer.specs.Range.{IsHeld, IsRange}
use Rattle.ratio_integer.specs.Division.{IsFloored}
use Rattle.ratio_core.specs.ContinuedFraction.{IsWithinBits}
use Rattle.ratio_core.proofs.Around.{up_product}
use Rattle.ratio_approximation.proofs.HeldAround.{between_held}
use Rattle.ratio_approximation.proofs.NearestMoves.{natural_held}
use Rattle.ratio_approximation.proofs.Shares.{times_up}
use Rattle.ratio_approximation.specs.Enclosing.{ChecksStep, Encloses, IsOnOneSide, IsRoom}
use Rattle.ratio_approximation.specs.Moving.{CanMove}
use Rattle.ratio_approximation.specs.SearchCount.{IsSearchCount}
use Rattle.ratio_approximation.specs.Simplest.{ChecksSimplest, IsBetween, IsSimplest}
use Rattle.ratio_approximation.proofs.QuotientLists.{room_leaves, some_first, some_room}
use Rattle.ratio_approximation.proofs.SearchCounting.{HasCounted, counted_apart, counted_ended, counted_left, counted_more, counted_right}
use Rattle.ratio_approximation.proofs.SimplestHalving.{halved_bound, within_both}
use Rattle.ratio_approximation.proofs.SimplestEnclosing.{IsToward, none_past_left, none_past_right, sum_simplest, sum_toward}
use Rattle.ratio_approximation.proofs.SimplestSteps.{part_held}
use Rattle.ratio_approximation.proofs.SimplestNeighbours.{AreAsked, Inside, IsTurn, along_times, stood, left_denom_held, left_highs, left_lows, left_numer_held, left_other_held, natural, right_denom_held, right_highs, right_lows, right_numer_held, right_other_held, turned_inside, turned_side}

-- ---- what is known of both neighbours, on either side

pub record AreFacts (p q o t a b c f : ℤ) : Type 0 where
  pub q_up : pos 0 <ℤ q
  pub b_up : pos 0 <ℤ b
  pub o_up : pos 0 ≤ℤ o
  pub c_up : pos 0 ≤ℤ c
  pub t_up : pos 0 <ℤ t
  pub f_up : pos 0 <ℤ f
  pub side : IsOnOneSide p a

pub facts : {n d m e p q o t a b c f : ℤ} {k : ℕ} → Inside k n d m e p q o t a b c f → AreFacts p q o t a b c f
facts (inl is) = record { q_up = is.left_denom; b_up = is.right_denom; o_up = is.left_own; c_up = is.right_own; t_up = is.left_other; f_up = is.right_other; side = is.side }
facts (inr is) = record { q_up = is.right_denom; b_up = is.left_denom; o_up = is.right_own; c_up = is.left_own; t_up = is.right_other; f_up = is.left_other; side = turned_side _ _ is.side }

-- ---- how many steps

pub record AreSteps (o f w r : ℤ) : Type 0 where
  pub w_up : pos 0 ≤ℤ w
  pub r_up : pos 0 ≤ℤ r
  pub r_less : r <ℤ f
  pub rest : o ≡ r +ℤ f *ℤ w

pub steps_are : (o f w r : ℤ) → pos 0 ≤ℤ o → pos 0 <ℤ f → IsFloored o f w r → AreSteps o f w r
steps_are (negsuc o) f w r o_up f_up is = absurd (omega (arith, ints))
steps_are o (negsuc f) w r o_up f_up is = absurd (omega (arith, ints))
steps_are (pos o) (pos f) (negsuc w) r o_up f_up is = absurd (let sum = is.sum in let rest = is.rest in grind (arith, ints))
steps_are (pos o) (pos f) (pos w) (negsuc r) o_up f_up is = absurd (let rest = is.rest in grind (arith, ints))
steps_are (pos o) (pos f) (pos w) (pos r) o_up f_up is =
    let sum = is.sum in
    let less : pos r <ℤ pos f = (let rest = is.rest in grind (arith, ints)) in
    record { w_up = omega (arith, ints); r_up = omega (arith, ints); r_less = less; rest = omega (arith, ints) }

-- as many as there is room for
pub turn_equal : (p q o t a b c f w r z s : ℤ) → AreFacts p q o t a b c f → AreSteps o f w r → IsRoom t c z → w ≡ z → s ≡ t -ℤ c *ℤ w → IsTurn q o t b c f w r s
turn_equal p q o t a b c f w r z s known steps room same s-is =
    let left = room.left in
    record { w_up = steps.w_up; r_up = steps.r_up; s_up = rw (s-is, same) (omega (arith, ints)); rest = steps.rest; left = rw s-is (omega (arith, ints)) }

pub room_used : (t c w z s : ℤ) → IsRoom t c z → w ≡ z → s ≡ t -ℤ c *ℤ w → s ≤ℤ c
room_used t c w z s room same s-is = (let next = room.next in rw (s-is, same) (omega (arith, ints)))

-- fewer than there is room for
pub room_left : (t c w z : ℤ) → pos 0 ≤ℤ c → pos 0 ≤ℤ w → IsRoom t c z → w <ℤ z → (c *ℤ w +ℤ c) <ℤ t
room_left t c w z c_up w_up room less =
    let up = times_up c (w +ℤ pos 1) z c_up (omega (arith, ints)) in
    let one : c *ℤ (w +ℤ pos 1) ≡ c *ℤ w +ℤ c = one_more c w w_up in
    let left = room.left in
    let up' : (c *ℤ w +ℤ c) ≤ℤ (c *ℤ z) = rw (sym one) up in
    omega (arith, ints)
  where
    one_more : (c w : ℤ) → pos 0 ≤ℤ w → c *ℤ (w +ℤ pos 1) ≡ c *ℤ w +ℤ c
    one_more c (pos w) up = omega (arith, ints)
    one_more c (negsuc w) up = absurd (omega (arith, ints))

pub turn_short : (p q o t a b c f w r : ℤ) → AreFacts p q o t a b c f → AreSteps o f w r → (c *ℤ w +ℤ c) <ℤ t → IsTurn q o t b c f w r (t -ℤ c *ℤ w)
turn_short p q o t a b c f w r known steps less =
    let c_up = known.c_up in
    record { w_up = steps.w_up; r_up = steps.r_up; s_up = omega (arith, ints); rest = steps.rest; left = omega (arith, ints) }

-- some step fits
pub some_steps : (o t c f w r z : ℤ) → pos 0 <ℤ f → pos 0 <ℤ c → AreSteps o f w r → IsRoom t c z → w ≡ z → (f ≤ℤ o) ⊎ (c <ℤ t) → pos 0 <ℤ w
some_steps o t c f (negsuc w) r z f_up c_up steps room same near = absurd (let up = steps.w_up in omega (arith, ints))
some_steps o t c f (pos (suc w)) r z f_up c_up steps room same near = omega (arith, ints)
some_steps o t c f (pos zero) r z f_up c_up steps room same (inl h) = absurd (let rest = steps.rest in let less = steps.r_less in omega (arith, ints))
some_steps o t c f (pos zero) r z f_up c_up steps room same (inr h) =
    absurd (let next : t ≤ℤ (c *ℤ pos zero +ℤ c) = rw same room.next in omega (arith, ints))

-- ---- the search

-- `Counts` says what the whole search counts on both sides, if the first divisions count too
pub record Searches (lo hi n d m e p q o t a b c f : ℤ) (left left' right right' : ℕ) (Counts : ℕ → ℕ → Type 0) : Type 0 where
  pub asked : AreAsked lo hi n d m e
  pub rounds : ℕ
  pub inside : Inside rounds n d m e p q o t a b c f
  pub near : (f ≤ℤ o) ⊎ (c <ℤ t)
  pub left_rose : left' ≡ left + rounds
  pub right_rose : right' ≡ right + rounds
  pub counted : HasCounted Counts rounds o t c f

-- one more round
module _ {lo hi n d m e p q o t a b c f : ℤ} {left left' right right' : ℕ} {Counts : ℕ → ℕ → Type 0} (at : Searches lo hi n d m e p q o t a b c f left left' right right' Counts) (w r z : ℤ) (c_some : pos 0 <ℤ c) (floored : IsFloored o f w r) (room : IsRoom t c z) (more : z ≤ℤ w) (less : w ≤ℤ z) where
  known : AreFacts p q o t a b c f
  known = facts at.inside

  steps : AreSteps o f w r
  steps = steps_are o f w r known.o_up known.f_up floored

  same : w ≡ z
  same = omega (arith, ints)

  pub next_inside : (p' q' s : ℤ) → p' ≡ p +ℤ a *ℤ w → q' ≡ q +ℤ b *ℤ w → s ≡ t -ℤ c *ℤ w → Inside (at.rounds + 1) n d m e a b c f p' q' r s
  next_inside p' q' s p-is q-is s-is =
      turned_inside n d m e p q o t a b c f at.rounds w r s p' q' (turn_equal p q o t a b c f w r z s known steps room same s-is) p-is q-is
      (some_steps o t c f w r z known.f_up c_some steps room same at.near) steps.r_less (room_used t c w z s room same s-is) c_some at.inside

  pub next_searches : (p' q' r' s : ℤ) (left'' right'' : ℕ) → p' ≡ p +ℤ a *ℤ w → q' ≡ q +ℤ b *ℤ w → r' ≡ r → s ≡ t -ℤ c *ℤ w → left'' ≡ left' + 1 → right'' ≡ right' + 1 → Searches lo hi n d m e a b c f p' q' r' s left left'' right right'' Counts
  next_searches p' q' r' s left'' right'' p-is q-is r-is s-is left-is right-is =
      let rose = at.left_rose in
      let rose' = at.right_rose in
      let some = some_steps o t c f w r z known.f_up c_some steps room same at.near in
      let own = steps.rest in
      record {
        asked = at.asked;
        rounds = at.rounds + 1;
        inside = rw r-is (next_inside p' q' s p-is q-is s-is);
        near = inl (room_used t c w z s room same s-is);
        left_rose = omega arith;
        right_rose = omega arith;
        counted = rw r-is (counted_more Counts at.rounds o t c f w r s (omega (arith, ints)) (omega (arith, ints)) (omega (arith, ints)) steps.r_less (room_used t c w z s room same s-is) at.counted);
      }

  pub next_smaller : (r' s : ℤ) → r' ≡ r → s ≡ t -ℤ c *ℤ w → unsigned_abs c + unsigned_abs f + unsigned_abs r' + unsigned_abs s < unsigned_abs o + unsigned_abs t + unsigned_abs c + unsigned_abs f
  next_smaller r' s r-is s-is =
      let turn = turn_equal p q o t a b c f w r z s known steps room same s-is in
      rw r-is (shrinks o t c f w r s (some_steps o t c f w r z known.f_up c_some steps room same at.near) c_some known.f_up turn.r_up turn.s_up turn.rest turn.left)
    where
      shrinks : (o t c f w r s : ℤ) → pos 0 <ℤ w → pos 0 <ℤ c → pos 0 <ℤ f → pos 0 ≤ℤ r → pos 0 <ℤ s → o ≡ r +ℤ f *ℤ w → t ≡ s +ℤ c *ℤ w → unsigned_abs c + unsigned_abs f + unsigned_abs r + unsigned_abs s < unsigned_abs o + unsigned_abs t + unsigned_abs c + unsigned_abs f
      shrinks o t c f (negsuc w) r s w_up c_up f_up r_up s_up rest left = absurd (omega (arith, ints))
      shrinks o t c f (pos zero) r s w_up c_up f_up r_up s_up rest left = absurd (omega (arith, ints))
      shrinks o t (negsuc c) f (pos (suc w)) r s w_up c_up f_up r_up s_up rest left = absurd (omega (arith, ints))
      shrinks o t (pos c) (negsuc f) (pos (suc w)) r s w_up c_up f_up r_up s_up rest left = absurd (omega (arith, ints))
      shrinks o t (pos c) (pos f) (pos (suc w)) (negsuc r) s w_up c_up f_up r_up s_up rest left = absurd (omega (arith, ints))
      shrinks o t (pos c) (pos f) (pos (suc w)) (pos r) (negsuc s) w_up c_up f_up r_up s_up rest left = absurd (omega (arith, ints))
      shrinks o t (pos c) (pos f) (pos (suc w)) (pos r) (pos s) w_up c_up f_up r_up s_up rest left = rw (rest, left) (omega (arith, ints))

  pub can_move : CanMove lo hi p q t a b c w
  can_move =
      let turn = turn_equal p q o t a b c f w r z _ known steps room same refl in
      let next = next_inside _ _ _ refl refl refl in
      let part : pos 0 ≤ℤ (b *ℤ w) = up_product b w (let b_up = known.b_up in omega (arith, ints)) turn.w_up in
      let taken : pos 0 ≤ℤ (c *ℤ w) = up_product c w known.c_up turn.w_up in
      let q_up = known.q_up in
      let s_up = turn.s_up in
      let held : IsHeld lo hi (p +ℤ a *ℤ w) = fixed_numer_held next in
      let denom : IsHeld lo hi (q +ℤ b *ℤ w) = fixed_denom_held next in
      record {
        numer_part = part_held lo hi p a w at.asked.range known.side turn.w_up held;
        numer = held;
        denom_part = natural_held lo hi (q +ℤ b *ℤ w) (b *ℤ w) at.asked.range denom part (omega (arith, ints));
        denom = denom;
        gap_part = natural_held lo hi t (c *ℤ w) at.asked.range (moving_other_held at.inside) taken (omega (arith, ints));
        gap = natural_held lo hi t (t -ℤ c *ℤ w) at.asked.range (moving_other_held at.inside) (omega (arith, ints)) (omega (arith, ints));
      }
    where
      fixed_numer_held : {k : ℕ} {p q o t a b c f : ℤ} → Inside k n d m e p q o t a b c f → IsHeld lo hi a
      fixed_numer_held (inl is) = right_numer_held at.asked is
      fixed_numer_held (inr is) = left_numer_held at.asked is

      fixed_denom_held : {k : ℕ} {p q o t a b c f : ℤ} → Inside k n d m e p q o t a b c f → IsHeld lo hi b
      fixed_denom_held (inl is) = right_denom_held at.asked is
      fixed_denom_held (inr is) = left_denom_held at.asked is

      moving_other_held : {k : ℕ} {p q o t a b c f : ℤ} → Inside k n d m e p q o t a b c f → IsHeld lo hi t
      moving_other_held (inl is) = left_other_held at.asked is
      moving_other_held (inr is) = right_other_held at.asked is

-- ---- the results

one_step : (p a w : ℤ) → pos 0 ≤ℤ w → p +ℤ a *ℤ (w +ℤ pos 1) ≡ (p +ℤ a *ℤ w) +ℤ a
one_step p a (pos w) up = omega (arith, ints)
one_step p a (negsuc w) up = absurd (omega (arith, ints))

-- the fraction one step beyond
pub record IsBeyond (n d m e p q : ℤ) : Type 0 where
  pub simplest : IsSimplest n d m e p q
  pub toward : (a b : ℤ) → IsBetween n d m e a b → IsToward p a

weak : {z : ℤ} → pos 0 <ℤ z → pos 0 ≤ℤ z
weak {z = z} up = omega (arith, ints)

size_up : (z : ℤ) → pos 0 <ℤ z → 0 < unsigned_abs z
size_up z up = omega (arith, ints)

sizes_less : (y z : ℤ) → pos 0 ≤ℤ y → y <ℤ z → unsigned_abs y < unsigned_abs z
sizes_less y z up less = omega (arith, ints)

size_sum : (y z : ℤ) → pos 0 <ℤ y → pos 0 <ℤ z → pos (unsigned_abs y + unsigned_abs z) ≡ y +ℤ z
size_sum y z y_up z_up = omega (arith, ints)

moved_up : (q b w : ℤ) → pos 0 <ℤ q → pos 0 <ℤ b → pos 0 ≤ℤ w → pos 0 <ℤ (q +ℤ b *ℤ w)
moved_up q b w q_up b_up w_up = (let part : pos 0 ≤ℤ (b *ℤ w) = up_product b w (weak b_up) w_up in omega (arith, ints))

swapped : (y z : ℤ) → y +ℤ z ≡ z +ℤ y
swapped y z = omega (arith, ints)

less_left : (c w t : ℤ) → (c *ℤ w +ℤ c) <ℤ t → c <ℤ (t -ℤ c *ℤ w)
less_left c w t short = omega (arith, ints)

module _ {n d m e p q o t a b c f : ℤ} {k : ℕ} (d_up : pos 0 <ℤ d) (e_up : pos 0 <ℤ e) (w r : ℤ) (steps : AreSteps o f w r) (short : (c *ℤ w +ℤ c) <ℤ t) where
  pub beyond_is : Inside k n d m e p q o t a b c f → IsBeyond n d m e (p +ℤ a *ℤ (w +ℤ pos 1)) (q +ℤ b *ℤ (w +ℤ pos 1))
  beyond_is (inl is) =
      let turn = turn_short p q o t a b c f w r (facts (inl is)) steps short in
      let lows = left_lows n d m e p q o t a b c f k w r _ _ _ turn refl refl is in
      let highs = left_highs n d m e p q o t a b c f k w r _ _ _ turn refl refl is in
      let side = along_times p a w is.side turn.w_up in
      let q_up = moved_up q b w is.left_denom is.right_denom turn.w_up in
      let simplest = sum_simplest n (unsigned_abs d) m (unsigned_abs e) _ _ _ _ _ _ _ _ lows highs (size_up _ q_up) (size_up b is.right_denom) side (sizes_less r f steps.r_up steps.r_less) (sizes_less c _ is.right_own (less_left c w t short)) _ refl in
      rw (one_step p a w steps.w_up, one_step q b w steps.w_up) (record {
        simplest = rw (natural d (weak d_up), natural e (weak e_up), size_sum (q +ℤ b *ℤ w) b q_up is.right_denom) at simplest;
        toward = λ x y between. sum_toward n (unsigned_abs d) m (unsigned_abs e) _ _ _ _ _ _ _ _ lows highs (size_up _ q_up) (size_up b is.right_denom) side _ refl x y (rw (natural d (weak d_up), natural e (weak e_up)) between);
      })
  beyond_is (inr is) =
      let turn = turn_short p q o t a b c f w r (facts (inr is)) steps short in
      let lows = right_lows n d m e p q o t a b c f k w r _ _ _ turn refl refl is in
      let highs = right_highs n d m e p q o t a b c f k w r _ _ _ turn refl refl is in
      let side = turned_side _ _ (along_times p a w (turned_side _ _ is.side) turn.w_up) in
      let q_up = moved_up q b w is.right_denom is.left_denom turn.w_up in
      let simplest = sum_simplest n (unsigned_abs d) m (unsigned_abs e) _ _ _ _ _ _ _ _ lows highs (size_up b is.left_denom) (size_up _ q_up) side (sizes_less c _ is.left_own (less_left c w t short)) (sizes_less r f steps.r_up steps.r_less) ((p +ℤ a *ℤ w) +ℤ a) (swapped (p +ℤ a *ℤ w) a) in
      rw (one_step p a w steps.w_up, one_step q b w steps.w_up) (record {
        simplest = rw (natural d (weak d_up), natural e (weak e_up), size_sum b (q +ℤ b *ℤ w) is.left_denom q_up, swapped b (q +ℤ b *ℤ w)) at simplest;
        toward = λ x y between. sum_toward n (unsigned_abs d) m (unsigned_abs e) _ _ _ _ _ _ _ _ lows highs (size_up b is.left_denom) (size_up _ q_up) side ((p +ℤ a *ℤ w) +ℤ a) (swapped (p +ℤ a *ℤ w) a) x y (rw (natural d (weak d_up), natural e (weak e_up)) between);
      })

toward_held : (lo hi p a : ℤ) → IsRange lo hi → IsToward p a → IsHeld lo hi a → IsHeld lo hi p
toward_held lo hi p a range side held = between_held lo hi a p range held side

-- the step is the result; if it is out of range, so is every fraction between
pub beyond_checks : {T : Type 0} (value : T → ℤ) (lo hi n d m e p q a b k : ℤ) → IsRange lo hi → IsBeyond n d m e (p +ℤ a *ℤ k) (q +ℤ b *ℤ k) → (answer : Option (T × T)) → ChecksStep value lo hi p q a b k answer → ChecksSimplest value lo hi n d m e answer
beyond_checks value lo hi n d m e p q a b k range is None out = record {
  each = λ x y x_held y_held between. (
      let up = is.simplest.between.positive in
      out (toward_held lo hi _ x range (is.toward x y between) x_held, natural_held lo hi y _ range y_held (weak up) (is.simplest.denom x y between)));
}
beyond_checks value lo hi n d m e p q a b k range is (Some r) answers = rw (answers.0, answers.1) is.simplest

times_over : (o f w r z : ℤ) → pos 0 <ℤ f → pos 0 ≤ℤ z → AreSteps o f w r → z <ℤ w → (unsigned_abs z + 1) * unsigned_abs f ≤ unsigned_abs o
times_over o (negsuc f) w r z f_up z_up steps over = absurd (omega (arith, ints))
times_over o (pos f) (negsuc w) r z f_up z_up steps over = absurd (let up = steps.w_up in omega (arith, ints))
times_over o (pos f) (pos w) r (negsuc z) f_up z_up steps over = absurd (omega (arith, ints))
times_over o (pos f) (pos w) r (pos z) f_up z_up steps over =
    let rest = steps.rest in
    let up = steps.r_up in
    let most = times_up (pos f) (pos (z + 1)) (pos w) (omega (arith, ints)) (omega (arith, ints)) in
    omega (arith, ints)

times_under : (t c z : ℤ) → pos 0 <ℤ c → pos 0 <ℤ t → IsRoom t c z → unsigned_abs t ≤ (unsigned_abs z + 1) * unsigned_abs c
times_under (negsuc t) c z c_up t_up room = absurd (omega (arith, ints))
times_under (pos t) (negsuc c) z c_up t_up room = absurd (omega (arith, ints))
times_under (pos t) (pos c) (negsuc z) c_up t_up room = absurd (let up = room.up in omega (arith, ints))
times_under (pos t) (pos c) (pos z) c_up t_up room = (let next = room.next in omega (arith, ints))

-- one step more than there is room for: the low end is not below the high one
module _ {n d m e p q o t a b c f : ℤ} {k : ℕ} (d_up : pos 0 <ℤ d) (e_up : pos 0 <ℤ e) (w r z : ℤ) (steps : AreSteps o f w r) (room : IsRoom t c z) (c_some : pos 0 <ℤ c) (over : z <ℤ w) where
  pub order_none : Inside k n d m e p q o t a b c f → (x y : ℤ) → ¬ (IsBetween n d m e x y)
  order_none (inl is) x y between =
      none_past_left n (unsigned_abs d) m (unsigned_abs e) _ _ _ _ _ _ _ _ is.low is.high (size_up q is.left_denom) (size_up b is.right_denom) (size_up c c_some) (unsigned_abs z + 1)
      (times_over o f w r z is.right_other room.up steps over) (times_under t c z c_some is.left_other room) x y (rw (natural d (weak d_up), natural e (weak e_up)) between)
  order_none (inr is) x y between =
      none_past_right n (unsigned_abs d) m (unsigned_abs e) _ _ _ _ _ _ _ _ is.low is.high (size_up b is.left_denom) (size_up q is.right_denom) (size_up t is.right_other) (unsigned_abs z + 1)
      (times_over o f w r z is.left_other room.up steps over) (times_under t c z c_some is.right_other room) x y (rw (natural d (weak d_up), natural e (weak e_up)) between)

-- ---- the counts

inside_bound : {n d m e p q o t a b c f : ℤ} {k : ℕ} → pos 0 <ℤ d → pos 0 <ℤ e → Inside k n d m e p q o t a b c f → IsWithinBits (min (unsigned_abs d) (unsigned_abs e)) (k + 2)
inside_bound {d = d} {e = e} {k = k} d_up e_up (inl is) = within_both _ _ _ (halved_bound _ k _ (size_up d d_up) is.low_halved) (halved_bound _ k _ (size_up e e_up) is.high_halved)
inside_bound {d = d} {e = e} {k = k} d_up e_up (inr is) = within_both _ _ _ (halved_bound _ k _ (size_up d d_up) is.low_halved) (halved_bound _ k _ (size_up e e_up) is.high_halved)

module _ {lo hi n d m e p q o t a b c f : ℤ} {left left' right right' : ℕ} {Counts : ℕ → ℕ → Type 0} (at : Searches lo hi n d m e p q o t a b c f left left' right right' Counts) where
  bits : IsWithinBits (min (unsigned_abs d) (unsigned_abs e)) (at.rounds + 2)
  bits = inside_bound at.asked.d_up at.asked.e_up at.inside

  pub left_ended : (next : ℕ) → next ≡ left' + 1 → (k : ℕ) × (next ≡ left + k) × IsWithinBits (min (unsigned_abs d) (unsigned_abs e)) (k + 1)
  left_ended next is = (at.rounds + 1, (let rose = at.left_rose in omega arith), λ j less. (let most : at.rounds + 2 ≤ 2 * j = bits j less in omega arith))

  pub right_ended : (next : ℕ) → next ≡ right' + 1 → (k : ℕ) × (next ≡ right + k) × IsWithinBits (min (unsigned_abs d) (unsigned_abs e)) (k + 1)
  right_ended next is = (at.rounds + 1, (let rose = at.right_rose in omega arith), λ j less. (let most : at.rounds + 2 ≤ 2 * j = bits j less in omega arith))

  pub right_stayed : (next : ℕ) → next ≡ right' → (k : ℕ) × (next ≡ right + k) × IsWithinBits (min (unsigned_abs d) (unsigned_abs e)) (k + 1)
  right_stayed next is = (at.rounds, (let rose = at.right_rose in omega arith), λ j less. (let most : at.rounds + 2 ≤ 2 * j = bits j less in omega arith))

  -- the exact counts, where the steps are not as many as there is room for
  pub steps_apart : (w r z : ℤ) (left'' right'' : ℕ) → AreSteps o f w r → pos 0 <ℤ c → IsRoom t c z → w ≢ z → left'' ≡ left' + 1 → right'' ≡ right' + 1 → (k : ℕ) × (l : ℕ) × (left'' ≡ left + k) × (right'' ≡ right + l) × Counts (k + 1) (l + 1)
  steps_apart w r z left'' right'' steps c_some room other left-is right-is =
      let rose = at.left_rose in
      let rose' = at.right_rose in
      let own : o ≡ w *ℤ f +ℤ r = (let rest = steps.rest in omega (arith, ints)) in (
        at.rounds + 1,
        at.rounds + 1,
        omega arith,
        omega arith,
        counted_apart Counts at.rounds o t c f w r z steps.w_up room.up own steps.r_up steps.r_less (λ h. some_first o f w r (facts at.inside).f_up h own steps.r_less) (λ h. some_room t c z (t -ℤ c *ℤ z) c_some h (room_leaves t c z room)) room other at.counted,
      )

  -- the exact counts, where there is room for any number of steps
  pub steps_unbounded : (w r : ℤ) (left'' right'' : ℕ) → AreSteps o f w r → c ≡ pos 0 → left'' ≡ left' + 1 → right'' ≡ right' → (k : ℕ) × (l : ℕ) × (left'' ≡ left + k) × (right'' ≡ right + l) × Counts (k + 1) (l + 1)
  steps_unbounded w r left'' right'' steps none left-is right-is =
      let rose = at.left_rose in
      let rose' = at.right_rose in
      let own : o ≡ w *ℤ f +ℤ r = (let rest = steps.rest in omega (arith, ints)) in (
        at.rounds + 1,
        at.rounds,
        omega arith,
        omega arith,
        counted_ended Counts at.rounds o t c f w r steps.w_up own steps.r_up steps.r_less (λ h. some_first o f w r (facts at.inside).f_up h own steps.r_less) none at.counted,
      )

-- ---- the beginning of the search

pub unbounded : (c w t : ℤ) → pos 0 <ℤ t → c ≡ pos 0 → (c *ℤ w +ℤ c) <ℤ t
unbounded c (pos w) t up none = rw none (omega (arith, ints))
unbounded c (negsuc w) t up none = rw none (omega (arith, ints))

pub begun_left : {lo hi n d m e p q o t a b c f : ℤ} → IsRange lo hi → IsHeld lo hi n → IsHeld lo hi d → IsHeld lo hi m → IsHeld lo hi e → pos 0 <ℤ d → pos 0 <ℤ e → Encloses n d m e p q o t a b c f → f ≤ℤ o → (left right : ℕ) → Searches lo hi n d m e p q o t a b c f left left right right (IsSearchCount o (o +ℤ f) t (t +ℤ c))
begun_left {o = o} {t = t} {c = c} {f = f} range n_held d_held m_held e_held d_up e_up is less left right = record {
  asked = record { range = range; n_held = n_held; d_held = d_held; m_held = m_held; e_held = e_held; d_up = d_up; e_up = e_up };
  rounds = 0;
  inside = inl (stood _ _ _ _ _ _ _ _ _ _ _ _ d_up e_up is);
  near = inl less;
  left_rose = omega arith;
  right_rose = omega arith;
  counted = counted_left o t c f less;
}

pub begun_right : {lo hi n d m e p q o t a b c f : ℤ} → IsRange lo hi → IsHeld lo hi n → IsHeld lo hi d → IsHeld lo hi m → IsHeld lo hi e → pos 0 <ℤ d → pos 0 <ℤ e → Encloses n d m e p q o t a b c f → o <ℤ f → (left right : ℕ) → Searches lo hi n d m e a b c f p q o t left left right right (IsSearchCount o (o +ℤ f) t (t +ℤ c))
begun_right {o = o} {t = t} {c = c} {f = f} range n_held d_held m_held e_held d_up e_up is less left right = record {
  asked = record { range = range; n_held = n_held; d_held = d_held; m_held = m_held; e_held = e_held; d_up = d_up; e_up = e_up };
  rounds = 0;
  inside = inr (stood _ _ _ _ _ _ _ _ _ _ _ _ d_up e_up is);
  near = inr less;
  left_rose = omega arith;
  right_rose = omega arith;
  counted = counted_right o t c f less;
}
