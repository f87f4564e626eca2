-- Comparing a number q with the floored quotient of n/d, by the product q * d.
use Rattle.std.specs.Prelude.{◌≢◌, ◌≤ℤ◌, ◌<ℤ◌, ◌+ℤ◌, ◌-ℤ◌, ◌*ℤ◌, ℕ, ℤ, pos, negsuc}
use Rattle.std.proofs.Common.{◌≡◌, ap, arith, inl, refl, subst, sym}
use Rattle.std.proofs.lemmas.Int.{by_lt_z, ints}
use Rattle.std.specs.declared.cmp.Ordering.{Ordering}
use Rattle.std.specs.declared.cmp.Ordering.TheVariants.{Less, Equal, Greater}
use Rattle.std.specs.Cmp.{int_ranks}
use Rattle.std.specs.Ordering.{MatchOrdering, int_cmp}
use Rattle.ratio_integer.specs.Division.{IsAboveMax, IsFloored}
use Rattle.ratio_integer.specs.Range.{IsHeld, IsRange}
use Rattle.ratio_integer.proofs.FlooredDivision.{floored_held}
use Rattle.ratio_integer.proofs.Whole.{positive_nonzero}
use Rattle.ratio_core.specs.Order.{IsOrderOfParts, IsOrderOfQuotients}
use Rattle.ratio_core.proofs.Floored.{floored_exists, room}

below_if_not : (x y : ℤ) → (y ≤ℤ x → ⊥) → x <ℤ y
below_if_not x y h = grind (arith, ints)

-- if x ≤ y, then x*k ≤ y*k for a natural k
no_more : (x y : ℤ) (k : ℕ) → x ≤ℤ y → (x *ℤ pos k) ≤ℤ (y *ℤ pos k)
no_more x y k h = by_lt_z x y (λ less. let more = room x y k less in omega (arith, ints)) (λ above. let same : x ≡ y = omega (arith, ints) in let products : x *ℤ pos k ≡ y *ℤ pos k = ap (λ (t : ℤ). t *ℤ pos k) same in omega (arith, ints))

module _ (q n p s : ℤ) (k : ℕ) (is : IsFloored n (pos k) p s) where
  rest_above : pos 0 ≤ℤ s
  rest_above = let sides = is.rest in grind (arith, ints)

  rest_below : s <ℤ pos k
  rest_below = let sides = is.rest in grind (arith, ints)

  -- if n is below q * d, the quotient is below q
  quotient_below : n <ℤ (q *ℤ pos k) → p <ℤ q
  quotient_below less = below_if_not p q (λ h. let more = no_more q p k h in omega (arith, ints, is.sum, rest_above))

  -- if n is at least q * d + d, the quotient is above q
  quotient_above : (q *ℤ pos k +ℤ pos k) ≤ℤ n → q <ℤ p
  quotient_above more = below_if_not q p (λ h. let less = no_more p q k h in omega (arith, ints, is.sum, rest_below))

-- ---- the quotient of a fraction in range, over a positive denominator

module _ (lo hi q n : ℤ) (range : IsRange lo hi) (n_held : IsHeld lo hi n) where
  not_top : (k : ℕ) → ¬ (IsAboveMax hi n (pos k))
  not_top k top = let minus = top.denom in omega (arith, ints)

  apart : (k : ℕ) (o : Ordering) → IsHeld lo hi (pos k) → pos 0 <ℤ pos k → ((p s : ℤ) → IsFloored n (pos k) p s → MatchOrdering o (q <ℤ p) ⊥ (p <ℤ q)) → IsOrderOfQuotients hi q n (pos k) o
  apart k o d_held positive stands =
      let nonzero = positive_nonzero (pos k) positive in
      let f = floored_exists n (pos k) nonzero in
      record {
        quotient = f.quotient;
        rest = f.rest;
        floored = f.floored;
        below = ((floored_held lo hi n (pos k) range n_held d_held nonzero (not_top k)).each f.quotient f.rest f.floored).below;
        apart = stands f.quotient f.rest f.floored;
      }

  greater : (d : ℤ) → IsHeld lo hi d → pos 0 <ℤ d → n <ℤ (q *ℤ d) → IsOrderOfQuotients hi q n d Greater
  greater (pos k) d_held positive less = apart k Greater d_held positive (λ p s is. quotient_below q n p s k is less)
  greater (negsuc k) d_held positive less = absurd (omega (arith, ints))

  less : (d : ℤ) → IsHeld lo hi d → pos 0 <ℤ d → (q *ℤ d +ℤ d) ≤ℤ n → IsOrderOfQuotients hi q n d Less
  less (pos k) d_held positive more = apart k Less d_held positive (λ p s is. quotient_above q n p s k is more)
  less (negsuc k) d_held positive more = absurd (omega (arith, ints))

  low_zero : lo ≤ℤ pos 0
  low_zero = let low = range.low in let high = range.high in grind (arith, ints)

  product_positive : (d : ℤ) → pos 0 <ℤ d → pos 0 <ℤ q → pos 0 ≤ℤ (q *ℤ d)
  product_positive (pos k) positive q_positive = let more = room (pos 0) q k q_positive in omega (arith, ints)
  product_positive (negsuc k) positive q_positive = absurd (omega (arith, ints))

  -- if q is positive and the product is out of range, the product is above n
  pub unheld_greater : (d zero : ℤ) → IsHeld lo hi d → pos 0 <ℤ d → zero ≡ pos 0 → zero <ℤ q → ¬ (IsHeld lo hi (q *ℤ d)) → IsOrderOfQuotients hi q n d Greater
  unheld_greater d zero d_held positive is q_positive out =
      by_lt_z hi (q *ℤ d) (λ high. greater d d_held positive (let below = n_held.below in omega (arith, ints)))
      (λ low. absurd (out (record { above = (let least = low_zero in let product = product_positive d positive (omega (arith, ints)) in omega (arith, ints)); below = low })))

  pub product_greater : (d product : ℤ) → IsHeld lo hi d → pos 0 <ℤ d → product ≡ q *ℤ d → n <ℤ product → IsOrderOfQuotients hi q n d Greater
  product_greater d product d_held positive is below = greater d d_held positive (omega (arith, ints))

  pub product_same : (d product rest : ℤ) → product ≡ q *ℤ d → product ≤ℤ n → rest ≡ n -ℤ product → rest <ℤ d → IsFloored n d q rest
  product_same d product rest is above rest_is below = record { sum = omega (arith, ints); rest = inl (omega (arith, ints), below) }

  pub product_less : (d product rest : ℤ) → IsHeld lo hi d → pos 0 <ℤ d → product ≡ q *ℤ d → rest ≡ n -ℤ product → d ≤ℤ rest → IsOrderOfQuotients hi q n d Less
  product_less d product rest d_held positive is rest_is above = less d d_held positive (omega (arith, ints))

  -- if the rest is out of range, it is above the denominator
  pub unheld_less : (d product : ℤ) → IsHeld lo hi d → pos 0 <ℤ d → product ≡ q *ℤ d → product ≤ℤ n → ¬ (IsHeld lo hi (n -ℤ product)) → IsOrderOfQuotients hi q n d Less
  unheld_less d product d_held positive is above out =
      by_lt_z hi (n -ℤ product) (λ high. less d d_held positive (let below = d_held.below in omega (arith, ints)))
      (λ low. absurd (out (record { above = (let least = low_zero in omega (arith, ints)); below = low })))

-- ---- by a division

apart_at : (q p : ℤ) (o : Ordering) → o ≢ Equal → MatchOrdering o (q <ℤ p) (q ≡ p) (p <ℤ q) → MatchOrdering o (q <ℤ p) ⊥ (p <ℤ q)
apart_at q p Less unlike stands = stands
apart_at q p Equal unlike stands = absurd (unlike refl)
apart_at q p Greater unlike stands = stands

pub divided_apart : {hi q n d p s : ℤ} {o : Ordering} → IsFloored n d p s → p ≤ℤ hi → o ≡ int_cmp q p → o ≢ Equal → IsOrderOfQuotients hi q n d o
divided_apart {q = q} {p = p} {s} {o} is below order unlike = record {
  quotient = p;
  rest = s;
  floored = is;
  below = below;
  apart = apart_at q p o unlike (subst (λ x. MatchOrdering x (q <ℤ p) (q ≡ p) (p <ℤ q)) (sym order) (int_ranks q p));
}

pub divided_tied : {q n d p s : ℤ} → IsFloored n d p s → int_cmp q p ≡ Equal → IsFloored n d q s
divided_tied {q = q} {n} {d} {p} {s} is tied =
    let same : q ≡ p = subst (λ x. MatchOrdering x (q <ℤ p) (q ≡ p) (p <ℤ q)) tied (int_ranks q p) in
    subst (λ x. IsFloored n d x s) (sym same) is

-- if the quotients differ, they decide, whatever the rests are
pub parts_apart : (q r p s : ℤ) (o : Ordering) → MatchOrdering o (q <ℤ p) ⊥ (p <ℤ q) → IsOrderOfParts q r p s o
parts_apart q r p s Less stands = inl stands
parts_apart q r p s Equal stands = absurd stands
parts_apart q r p s Greater stands = inl stands
