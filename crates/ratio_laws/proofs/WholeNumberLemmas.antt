-- The laws of whole numbers near a fraction, from the values of pairs.
use Rattle.std.specs.Prelude.{◌≡◌, ◌≢◌, ◌⊎◌, ◌*◌, ◌≤ℤ◌, ◌<ℤ◌, ◌+ℤ◌, ◌-ℤ◌, ◌*ℤ◌, ℤ, pos, neg_ℤ, unsigned_abs, None, Some}
use Rattle.std.specs.Cmp.{int_ranks}
use Rattle.std.specs.Ordering.{MatchOrdering, int_cmp}
use Rattle.std.specs.declared.cmp.Ordering.{Ordering}
use Rattle.std.specs.declared.cmp.Ordering.TheVariants.{Less, Equal, Greater}
use Rattle.std.proofs.Common.{refl, sym, subst, arith, inl, inr, ◌∙◌}
use Rattle.std.proofs.lemmas.Int.{ints}
use lib.IntN.{zero-*ℤ}
use Rattle.ratio_integer.specs.Fraction.{Fits, SameValue}
use Rattle.ratio_integer.specs.Range.{IsHeld, IsRange}
use Rattle.ratio_integer.proofs.DivisionLemmas.{low_below}
use Rattle.ratio_integer.proofs.Whole.{add-mul, mul_positive, neg-mul}
use Rattle.ratio_core.specs.Order.{cross_cmp}
use Rattle.ratio_core.specs.Rounding.{IsCeiling, IsFloor, IsWithinHalf}
use Rattle.ratio_decimal.specs.declared.rounding_rule.Rounding.TheVariants.{Floor, Ceil}
use Rattle.ratio_core.proofs.CancellingLemmas.{one_held}
use Rattle.ratio_core.proofs.NumbersExist.{positive_fits}
use Rattle.ratio_core.proofs.ProductOrder.{down_times, up_times, whole_at_most}
use Rattle.ratio_core.proofs.RoundingLawLemmas.{one_ceiling, one_floor, same_ceiling, same_floor, same_half}
use Rattle.ratio_decimal.proofs.RoundingRuleLaws.{rounded_monotone, rounded_near}
use Rattle.num_rational.specs.declared.reduced.Reduced.{Reduced}
use Rattle.num_rational.specs.Ratio.{denominator, numerator}
use Rattle.num_rational.proofs.ValueLemmas.{at_most_not_greater, cross_positive, same_numbers}
use Rattle.ratio_laws.specs.RoundingLaws.{AddsWhole, IsCeilingOfNegative, IsNearFloor, IsNearRounded, KeepsWhole, RoundsInOrder}
use Rattle.ratio_laws.proofs.ResultLemmas.{denominator_nonzero, one_value, product_nonzero}

-- ---- the order, and whole numbers

at_most_by : (x y : ℤ) (o : Ordering) → MatchOrdering o (x <ℤ y) (x ≡ y) (y <ℤ x) → o ≢ Greater → x ≤ℤ y
at_most_by x y Less h k = omega (arith, ints)
at_most_by x y Equal h k = omega (arith, ints)
at_most_by x y Greater h k = absurd (k refl)

at_most_of : (n d m e : ℤ) → pos 0 <ℤ d → pos 0 <ℤ e → cross_cmp n d m e ≢ Greater → (n *ℤ e) ≤ℤ (m *ℤ d)
at_most_of n d m e up above h = at_most_by (n *ℤ e) (m *ℤ d) (int_cmp (n *ℤ e) (m *ℤ d)) (int_ranks (n *ℤ e) (m *ℤ d)) (λ k. h (cross_positive n d m e up above ∙ k))

over_ones : (a b c d : ℤ) → b ≡ pos 1 → d ≡ pos 1 → a ≤ℤ c → (a *ℤ d) ≤ℤ (c *ℤ b)
over_ones a b c d one other h = rw (one, other) (omega (arith, ints))

pub rounds_in_order : {T : _} {i : _} {o : _} {e : _} {p : _} {h : _} → (x y : Reduced T i o e p h) → RoundsInOrder x y
rounds_in_order x y rule left right below by_left by_right =
    at_most_not_greater (numerator left.ratio) (denominator left.ratio) (numerator right.ratio) (denominator right.ratio) left.lowest.positive right.lowest.positive
    (over_ones (numerator left.ratio) (denominator left.ratio) (numerator right.ratio) (denominator right.ratio) by_left.1 by_right.1
    (rounded_monotone rule (numerator x.ratio) (denominator x.ratio) (numerator y.ratio) (denominator y.ratio) (numerator left.ratio) (numerator right.ratio) x.lowest.positive y.lowest.positive
    (at_most_of (numerator x.ratio) (denominator x.ratio) (numerator y.ratio) (denominator y.ratio) x.lowest.positive y.lowest.positive below) by_left.0 by_right.0))

next_to_whole : (n r : ℤ) → (r *ℤ pos 1 -ℤ pos 1) <ℤ n → n <ℤ (r *ℤ pos 1 +ℤ pos 1) → r ≡ n
next_to_whole n r a b = omega (arith, ints)

pub keeps_whole : {T : _} {i : _} {o : _} {e : _} {p : _} {h : _} → (x : Reduced T i o e p h) → KeepsWhole x
keeps_whole x rule r one by =
    let n = numerator x.ratio in
    let z = numerator r.ratio in
    let near = subst (λ (t : ℤ). ((z *ℤ t -ℤ t) <ℤ n) × (n <ℤ (z *ℤ t +ℤ t))) one (rounded_near rule n (denominator x.ratio) z x.lowest.positive by.0) in
    (next_to_whole n z near.0 near.1, by.1 ∙ sym one)

-- ---- the distance

shifted_half : (n d r one : ℤ) → one ≡ pos 1 → IsWithinHalf n d r → IsWithinHalf (n *ℤ one -ℤ r *ℤ d) (d *ℤ one) (pos 0)
shifted_half n d r one is near =
    let a = near.above in
    let b = near.below in
    rw is (record { above = omega (arith, ints); below = omega (arith, ints) })

at_most_half : (p q : ℤ) → IsWithinHalf p q (pos 0) → pos (2 * unsigned_abs p) ≤ℤ q
at_most_half p q near = let a = near.above in let b = near.below in omega (arith, ints)

pub is_near_rounded : {T : _} {i : _} {o : _} {e : _} {p : _} {h : _} → (x : Reduced T i o e p h) → IsNearRounded x
is_near_rounded x rounded rest by told =
    let n = numerator x.ratio in
    let d = denominator x.ratio in
    let r = numerator rounded.ratio in
    let one = denominator rounded.ratio in
    at_most_half (numerator rest.ratio) (denominator rest.ratio)
    (same_half (n *ℤ one -ℤ r *ℤ d) (d *ℤ one) (numerator rest.ratio) (denominator rest.ratio) (pos 0)
    (mul_positive d one x.lowest.positive rounded.lowest.positive) rest.lowest.positive told.terms.same (shifted_half n d r one by.1 by.0.near))

shifted_floor : (n d f one : ℤ) → one ≡ pos 1 → IsFloor n d f → IsFloor (n *ℤ one -ℤ f *ℤ d) (d *ℤ one) (pos 0)
shifted_floor n d f one is floor =
    let a = floor.at_most in
    let b = floor.next_above in
    rw is (record { at_most = omega (arith, ints); next_above = omega (arith, ints) })

from_zero : (p q : ℤ) → IsFloor p q (pos 0) → (pos 0 ≤ℤ p) × (p <ℤ q)
from_zero p q floor = let a = floor.at_most in let b = floor.next_above in (omega (arith, ints), omega (arith, ints))

-- a fraction from 0 up to 1 whose denominator is in range fits
part_fits : (lo hi u v : ℤ) → IsRange lo hi → pos 0 <ℤ v → v ≤ℤ hi → IsFloor u v (pos 0) → Fits lo hi u v
part_fits lo hi u v range up within floor =
    let low = low_below lo hi range in
    let sides = from_zero u v floor in
    let first = sides.0 in
    let second = sides.1 in
    positive_fits lo hi u v range
    (record { above = omega (arith, ints); below = omega (arith, ints) })
    (record { above = omega (arith, ints); below = omega (arith, ints) })
    up

times_one_within : (d one hi : ℤ) → one ≡ pos 1 → d ≤ℤ hi → (d *ℤ one) ≤ℤ hi
times_one_within d one hi is h = rw is (omega (arith, ints))

pub is_near_floor : {T : _} {i : _} {o : _} {e : _} {p : _} {h : _} → (x : Reduced T i o e p h) → IsRange i.lo i.hi → IsHeld i.lo i.hi (denominator x.ratio) → IsNearFloor x
is_near_floor {i = i} x range held floor None by out =
    let n = numerator x.ratio in
    let d = denominator x.ratio in
    let f = numerator floor.ratio in
    let one = denominator floor.ratio in
    out (part_fits i.lo i.hi (n *ℤ one -ℤ f *ℤ d) (d *ℤ one) range (mul_positive d one x.lowest.positive floor.lowest.positive)
    (times_one_within d one i.hi by.1 held.below) (shifted_floor n d f one by.1 by.0))
is_near_floor x range held floor (Some rest) by told =
    let n = numerator x.ratio in
    let d = denominator x.ratio in
    let f = numerator floor.ratio in
    let one = denominator floor.ratio in
    from_zero (numerator rest.ratio) (denominator rest.ratio)
    (same_floor (n *ℤ one -ℤ f *ℤ d) (d *ℤ one) (numerator rest.ratio) (denominator rest.ratio) (pos 0)
    (mul_positive d one x.lowest.positive floor.lowest.positive) rest.lowest.positive told.terms.same (shifted_floor n d f one by.1 by.0))

-- ---- a floor and a ceiling lie between 0 and the numerator, so they are in range

module _ (lo hi s t w : ℤ) (range : IsRange lo hi) (held : IsHeld lo hi s) (up : pos 0 <ℤ t) where
  sides : (z : ℤ) → (z <ℤ pos 0) ⊎ (pos 0 ≤ℤ z)
  sides z = grind (arith, ints)

  between_up : pos 0 ≤ℤ w → w ≤ℤ s → IsHeld lo hi w
  between_up first second = let low = low_below lo hi range in let high = held.below in record { above = omega (arith, ints); below = omega (arith, ints) }

  between_down : s ≤ℤ w → w ≤ℤ pos 0 → IsHeld lo hi w
  between_down first second = let low = held.above in let high = range.high in record { above = omega (arith, ints); below = omega (arith, ints) }

  floor_held : IsFloor s t w → IsHeld lo hi w
  floor_held is = go (sides s)
    where
      go : (s <ℤ pos 0) ⊎ (pos 0 ≤ℤ s) → IsHeld lo hi w
      go (inl h) =
          let a = is.at_most in
          let b = is.next_above in
          let c = down_times s t (omega (arith, ints)) up in
          between_down (whole_at_most s w t up (omega (arith, ints))) (whole_at_most w (pos 0) t up (omega (arith, ints, zero-*ℤ t)))
      go (inr h) =
          let a = is.at_most in
          let b = is.next_above in
          let c : pos 0 ≤ℤ w = whole_at_most (pos 0) w t up (omega (arith, ints, zero-*ℤ t)) in
          let k = up_times w t c up in
          between_up c (omega (arith, ints))

  ceiling_held : IsCeiling s t w → IsHeld lo hi w
  ceiling_held is = go (sides s)
    where
      go : (s <ℤ pos 0) ⊎ (pos 0 ≤ℤ s) → IsHeld lo hi w
      go (inl h) =
          let a = is.at_least in
          let b = is.last_below in
          let c : w ≤ℤ pos 0 = whole_at_most w (pos 0) t up (omega (arith, ints, zero-*ℤ t)) in
          let k = down_times w t c up in
          between_down (omega (arith, ints)) c
      go (inr h) =
          let a = is.at_least in
          let b = is.last_below in
          let c = up_times s t h up in
          between_up (whole_at_most (pos 0) w t up (omega (arith, ints, zero-*ℤ t))) (whole_at_most w s t up (omega (arith, ints)))

-- ---- plus a whole number

pub more_floor : (a b c one f : ℤ) → one ≡ pos 1 → IsFloor a b f → IsFloor (a *ℤ one +ℤ c *ℤ b) (b *ℤ one) (f +ℤ c)
more_floor a b c one f is floor =
    let low = floor.at_most in
    let high = floor.next_above in
    rw is (rw (whole b) (record { at_most = omega (arith, ints, add-mul f c b); next_above = omega (arith, ints, add-mul f c b) }))
  where
    whole : (z : ℤ) → z *ℤ pos 1 ≡ z
    whole z = omega (arith, ints)

pub more_ceiling : (a b c one f : ℤ) → one ≡ pos 1 → IsCeiling a b f → IsCeiling (a *ℤ one +ℤ c *ℤ b) (b *ℤ one) (f +ℤ c)
more_ceiling a b c one f is ceiling =
    let low = ceiling.last_below in
    let high = ceiling.at_least in
    rw is (rw (whole b) (record { last_below = omega (arith, ints, add-mul f c b); at_least = omega (arith, ints, add-mul f c b) }))
  where
    whole : (z : ℤ) → z *ℤ pos 1 ≡ z
    whole z = omega (arith, ints)

sum_over_ones : (f one c e w unit : ℤ) → one ≡ pos 1 → e ≡ pos 1 → unit ≡ pos 1 → w ≡ f +ℤ c → SameValue (f *ℤ e +ℤ c *ℤ one) (one *ℤ e) w unit
sum_over_ones f one c e w unit first second third is = rw (first, second, third, is) (omega (arith, ints))

module _ {T : _} {i : _} {o : _} {e : _} {p : _} {h : _} (x n : Reduced T i o e p h) (range : IsRange i.lo i.hi) where
  pub adds_whole_to_floor : AddsWhole Floor x n
  adds_whole_to_floor sum rounded whole total one told by by_sum other =
      let a = numerator x.ratio in
      let b = denominator x.ratio in
      let c = numerator n.ratio in
      let e = denominator n.ratio in
      let s = numerator sum.ratio in
      let t = denominator sum.ratio in
      let f = numerator rounded.ratio in
      let w = numerator whole.ratio in
      let moved = same_floor (a *ℤ e +ℤ c *ℤ b) (b *ℤ e) s t (f +ℤ c) (mul_positive b e x.lowest.positive n.lowest.positive) sum.lowest.positive told.terms.same (more_floor a b c e f one by.0) in
      one_value _ _ whole total (product_nonzero rounded n)
      (sum_over_ones f (denominator rounded.ratio) c e w (denominator whole.ratio) by.1 one by_sum.1 (one_floor s t w (f +ℤ c) sum.lowest.positive by_sum.0 moved))
      (floor_held i.lo i.hi s t w range told.numer_held sum.lowest.positive by_sum.0) (one_held i.lo i.hi (denominator whole.ratio) range by_sum.1) other

  pub adds_whole_to_ceiling : AddsWhole Ceil x n
  adds_whole_to_ceiling sum rounded whole total one told by by_sum other =
      let a = numerator x.ratio in
      let b = denominator x.ratio in
      let c = numerator n.ratio in
      let e = denominator n.ratio in
      let s = numerator sum.ratio in
      let t = denominator sum.ratio in
      let f = numerator rounded.ratio in
      let w = numerator whole.ratio in
      let moved = same_ceiling (a *ℤ e +ℤ c *ℤ b) (b *ℤ e) s t (f +ℤ c) (mul_positive b e x.lowest.positive n.lowest.positive) sum.lowest.positive told.terms.same (more_ceiling a b c e f one by.0) in
      one_value _ _ whole total (product_nonzero rounded n)
      (sum_over_ones f (denominator rounded.ratio) c e w (denominator whole.ratio) by.1 one by_sum.1 (one_ceiling s t w (f +ℤ c) sum.lowest.positive by_sum.0 moved))
      (ceiling_held i.lo i.hi s t w range told.numer_held sum.lowest.positive by_sum.0) (one_held i.lo i.hi (denominator whole.ratio) range by_sum.1) other

-- ---- the other side of 0

pub turned_floor : (n d f : ℤ) → IsFloor (neg_ℤ n) d f → IsCeiling n d (neg_ℤ f)
turned_floor n d f floor =
    let a = floor.at_most in
    let b = floor.next_above in
    record { last_below = omega (arith, ints, neg-mul f d); at_least = omega (arith, ints, neg-mul f d) }

pub is_ceiling_of_negative : {T : _} {i : _} {o : _} {e : _} {p : _} {h : _} → (x : Reduced T i o e p h) → IsRange i.lo i.hi → IsHeld i.lo i.hi (numerator x.ratio) → IsCeilingOfNegative x
is_ceiling_of_negative {i = i} x range held negative floor ceiling back turned by by_ceiling told =
    let n = numerator x.ratio in
    let d = denominator x.ratio in
    let f = numerator floor.ratio in
    let c = numerator ceiling.ratio in
    let below = same_floor (numerator negative.ratio) (denominator negative.ratio) (neg_ℤ n) d f negative.lowest.positive x.lowest.positive (sym turned.terms.same) by.0 in
    one_value _ _ ceiling back (denominator_nonzero floor)
    (same_numbers (neg_ℤ f) (denominator floor.ratio) c (denominator ceiling.ratio) (one_ceiling n d (neg_ℤ f) c x.lowest.positive (turned_floor n d f below) by_ceiling.0) (by.1 ∙ sym by_ceiling.1))
    (ceiling_held i.lo i.hi n d c range held x.lowest.positive by_ceiling.0) (one_held i.lo i.hi (denominator ceiling.ratio) range by_ceiling.1) told
