-- The laws of the nearest float.
use Rattle.std.specs.Prelude.{◌≡◌, ◌≢◌, ◌+◌, ◌-◌, ◌*◌, ◌%◌, ◌^◌, ◌<◌, ◌≤◌, ◌≤ℤ◌, ◌<ℤ◌, ℕ, ℤ, zero, suc, pos, negsuc, unsigned_abs, Bool, true, false, T, not, ◌&&◌, ◌||◌, ◌⊎◌, eqb, ltb, leb}
use Rattle.std.specs.Float.{Float, Format, nan, inf, fin, ◌≤ᶠ◌}
use Rattle.std.specs.Float.Ieee.{below, down, emax, fits, le, level, low, neg, prec, round, up}
use Rattle.std.proofs.Common.{refl, sym, ap, arith, inl, inr, ◌∙◌, subst}
use Rattle.std.proofs.lemmas.Int.{ints}
use Rattle.std.proofs.lemmas.Nat.{pow-add, pow_pos}
use Rattle.std.proofs.Math.Nat.{eq-zero-or-pos, eq_of_mul-eq-mul_right, lt_of_mul-lt-mul_right, mul-lt-mul_of_pos_right, mul-pos, mul_assoc, mul_comm}
use borrow.Author.Tests.{eq-eqb, le-ltb, lt-ltb}
use lib.Dec.{eqb→eq, leb→le, ltb→lt}
use lib.Ieee.Exact.{HasValue, round_exact}
use lib.Ieee.Fits.{and_l, and_r, down_pos, round-fits, up_pos}
use lib.Ieee.Order.{round_mono}
use lib.Ieee.Scale.{round_same}
use lib.Pow.{pow_mono}
use Rattle.core.proofs.num.Values.{neg-round, round-zero, same_value}
use Rattle.core.specs.Float.Order.{le_trans}
use Rattle.ratio_decimal.specs.FloatLaws.{FloatsAreMonotone, FloatsComeBack, NearestOfZero, SameValueSameFloat}
use Rattle.ratio_core.specs.Signs.{with_sign}
use Rattle.ratio_core.proofs.SignedNumbers.{size_is, with_sign-mul}

-- ---- a fraction with a positive denominator, by its sign and its size

some : (d : ℕ) → pos 0 <ℤ pos d → 0 < d
some d above = omega (arith, ints, above)

pub zero_first : NearestOfZero
zero_first f (pos d) above = round-zero f false d (some d above)
zero_first f (negsuc d) above = absurd (omega (arith, ints, above))

same_sizes : (s : Bool) (a b : ℕ) → with_sign s a ≡ with_sign s b → a ≡ b
same_sizes s a b is = sym (size_is s a) ∙ ap unsigned_abs is ∙ size_is s b

pub other_signs : (a b : ℕ) → 0 < b → pos a ≢ with_sign true b
other_signs a zero above is = absurd (omega (arith, above))
other_signs a (suc b) above is = absurd (omega (arith, ints, is))

pub value_only : SameValueSameFloat
value_only f (pos n) (pos d) (pos m) (pos e) D E is = round_same f false n d m e (some d D) (some e E) (same_sizes false _ _ is)
value_only f (negsuc n) (pos d) (negsuc m) (pos e) D E is =
    round_same f true (suc n) d (suc m) e (some d D) (some e E) (same_sizes true _ _ (sym (with_sign-mul true (suc n) e) ∙ is ∙ with_sign-mul true (suc m) d))
value_only f (pos n) (pos d) (negsuc m) (pos e) D E is = absurd (other_signs (n * e) (suc m * d) (mul-pos (omega arith) (some d D)) (is ∙ with_sign-mul true (suc m) d))
value_only f (negsuc n) (pos d) (pos m) (pos e) D E is = absurd (other_signs (m * d) (suc n * e) (mul-pos (omega arith) (some e E)) (sym is ∙ with_sign-mul true (suc n) e))
value_only f n (negsuc d) m e D E is = absurd (omega (arith, ints, D))
value_only f n (pos d) m (negsuc e) D E is = absurd (omega (arith, ints, E))

-- ---- the float that has exactly the value of a fraction

fit_parts : (f : Format) (s : Bool) (k : ℕ) (e : ℤ) → T (fits f (fin s (suc k) e)) → (suc k < 2 ^ prec f) × (down e ≤ 2 ^ low f) × (suc k * up e < 2 ^ suc (emax f) * down e)
unfolding fits
fit_parts f s k e fit =
    let odd = eqb (suc k % 2) 1 in
    let short = ltb (suc k) (2 ^ prec f) in
    let high = leb (down e) (2 ^ low f) in
    let below = ltb (suc k * up e) (2 ^ suc (emax f) * down e) in
    let first = and_l (odd && short && high) below fit in
    (ltb→lt _ _ (and_r odd short (and_l (odd && short) high first)), leb→le _ _ (and_r (odd && short) high first), ltb→lt _ _ (and_r (odd && short && high) below fit))

exponent_fits : (i l : ℕ) → 2 ^ i ≤ 2 ^ l → i ≤ l
exponent_fits i l less = elim (eq-zero-or-pos (i - l)) [
  | inl z ↦ omega arith
  | inr p ↦ (let more : 2 ^ (l + 1) ≤ 2 ^ i = pow_mono (omega arith) in absurd (omega (arith, less, more, pow-add 2 l 1, pow_pos l)))
]

-- how many times 2 the unit of the float is the least one
place_of : (l : ℕ) (e : ℤ) → down e ≤ 2 ^ l → (j : ℕ) × (up e * 2 ^ l ≡ 2 ^ j * down e)
place_of l (pos i) high = (i + l, sym (pow-add 2 i l) ∙ omega arith)
place_of l (negsuc i) high =
    let all : l ≡ l - suc i + suc i = omega (arith, exponent_fits (suc i) l high) in
    (l - suc i, omega (arith) ∙ ap (λ x. 2 ^ x) all ∙ pow-add 2 (l - suc i) (suc i))

moved_value : (x : Float) (s : Bool) (n d w l : ℕ) → 0 < d → n * l ≡ w * d → HasValue x s n d → HasValue x s w l
moved_value nan s n d w l D is value = value
moved_value (inf t) s n d w l D is value = value
moved_value (fin t m e) s n d w l D is value =
    let first : m * up e * l * d ≡ m * up e * d * l = grind arith in
    let second : n * down e * l ≡ n * l * down e = grind arith in
    let third : w * d * down e ≡ w * down e * d = grind arith in
    (value.0, eq_of_mul-eq-mul_right d D _ _ (first ∙ ap (λ x. x * l) value.1 ∙ second ∙ ap (λ x. x * down e) is ∙ third))

module _ (f : Format) (s : Bool) (k : ℕ) (e : ℤ) (n d : ℕ) (fit : T (fits f (fin s (suc k) e))) (D : 0 < d) (is : n * down e ≡ suc k * up e * d) where
  pub exact : round f s n d ≡ fin s (suc k) e
  exact =
      let parts = fit_parts f s k e fit in
      let place = place_of (low f) e parts.1 in
      let j = place.0 in
      let m = suc k in
      let l = 2 ^ low f in
      let b = down e in
      let first : n * l * b ≡ n * b * l = grind arith in
      let second : m * up e * d * l ≡ m * d * (up e * l) = grind arith in
      let third : m * d * (2 ^ j * b) ≡ m * 2 ^ j * d * b = grind arith in
      let value : n * l ≡ m * 2 ^ j * d = eq_of_mul-eq-mul_right b (down_pos e) _ _ (first ∙ ap (λ x. x * l) is ∙ second ∙ ap (λ x. m * d * x) place.1 ∙ third) in
      let own : m * up e * l ≡ m * 2 ^ j * b = mul_assoc m (up e) l ∙ ap (λ x. m * x) place.1 ∙ sym (mul_assoc m (2 ^ j) b) in
      let power : 2 ^ (low f + suc (emax f)) ≡ 2 ^ suc (emax f) * l = pow-add 2 (low f) (suc (emax f)) ∙ mul_comm l (2 ^ suc (emax f)) in
      let turned : 2 ^ suc (emax f) * b * l ≡ 2 ^ suc (emax f) * l * b = grind arith in
      let scaled = mul-lt-mul_of_pos_right parts.2 (pow_pos (low f)) in
      let below : m * 2 ^ j < 2 ^ (low f + suc (emax f)) = rw power (lt_of_mul-lt-mul_right b (rw (← own, ← turned) scaled)) in
      let rounded = round_exact f s n d m j D parts.0 below value in
      same_value f _ _ s (m * 2 ^ j) (round-fits f s n d) fit (moved_value _ s n d (m * 2 ^ j) l D value rounded) (refl, own)

up_some : (k : ℕ) (e : ℤ) (d : ℕ) → 0 < d → 0 < suc k * up e * d
up_some k e d D = mul-pos (mul-pos (omega arith) (up_pos e)) D

pub come_back : FloatsComeBack
come_back f s zero e n d fit above D is = absurd (omega (arith, above))
come_back f false (suc k) e (pos n) (pos d) fit above D is = exact f false k e n d fit (some d D) (same_sizes false _ _ is)
come_back f true (suc k) e (negsuc n) (pos d) fit above D is =
    exact f true k e (suc n) d fit (some d D) (same_sizes true _ _ (sym (with_sign-mul true (suc n) (down e)) ∙ is ∙ with_sign-mul true (suc k * up e) d))
come_back f true (suc k) e (pos n) (pos d) fit above D is = absurd (other_signs (n * down e) (suc k * up e * d) (up_some k e d (some d D)) (is ∙ with_sign-mul true (suc k * up e) d))
come_back f false (suc k) e (negsuc n) (pos d) fit above D is =
    absurd (other_signs (suc k * up e * d) (suc n * down e) (mul-pos (omega arith) (down_pos e)) (sym is ∙ with_sign-mul true (suc n) (down e)))
come_back f s (suc k) e n (negsuc d) fit above D is = absurd (omega (arith, ints, D))

-- ---- the order

or_split : (a b : Bool) → T (a || b) → T a ⊎ T b
or_split true b h = inl tt
or_split false b h = inr h

-- `test` is a test of whether a and b are equal
at_most : (a b : ℕ) (test : Bool) → a ≤ b → (a ≡ b → test ≡ true) → T (ltb a b || (test && true))
at_most a b test less is = elim (eq-zero-or-pos (b - a)) [
  | inl z ↦ (let same : a ≡ b = omega (arith, less, z) in rw (is same, le-ltb a b (omega (arith, same))) tt)
  | inr p ↦ rw (lt-ltb a b (omega (arith, p))) tt
]

from_at_most : (a b : ℕ) (test : Bool) → (T test → a ≡ b) → T (ltb a b || (test && true)) → a ≤ b
from_at_most a b test is h = elim (or_split (ltb a b) (test && true) h) [
  | inl l ↦ omega (arith, ltb→lt a b l)
  | inr e ↦ omega (arith, is (and_l test true e))
]

across_zero : (a b : ℕ) → T (ltb 0 (a + b) || (eqb a b && eqb a 0))
across_zero a b = elim (eq-zero-or-pos (a + b)) [
  | inl z ↦ rw (eq-eqb a b (omega arith), eq-eqb a 0 (omega arith), le-ltb 0 (a + b) (omega arith)) tt
  | inr p ↦ rw (lt-ltb 0 (a + b) p) tt
]

turned_sizes : (s t : Bool) (a b : ℕ) → T (below t b s a || level t b s a) → T (below (not s) a (not t) b || level (not s) a (not t) b)
turned_sizes false false a b h = at_most b a (eqb a b) (from_at_most b a (eqb b a) (eqb→eq b a) h) (λ e. eq-eqb a b (sym e))
turned_sizes false true a b h = across_zero a b
turned_sizes true false a b h =
    let same : b ≡ a = eqb→eq b a (and_l (eqb b a) (eqb b 0) h) in
    let none : b ≡ 0 = eqb→eq b 0 (and_r (eqb b a) (eqb b 0) h) in
    rw (eq-eqb a b (sym same), eq-eqb a 0 (sym same ∙ none)) tt
turned_sizes true true a b h = at_most a b (eqb a b) (from_at_most a b (eqb b a) (λ e. sym (eqb→eq b a e)) h) (eq-eqb a b)

turned_le : (x y : Float) → T (le y x) → T (le (neg x) (neg y))
unfolding le neg
turned_le nan nan h = absurd h
turned_le nan (inf t) h = absurd h
turned_le nan (fin t n d) h = absurd h
turned_le (inf s) nan h = absurd h
turned_le (inf true) (inf true) h = tt
turned_le (inf true) (inf false) h = absurd h
turned_le (inf false) (inf true) h = tt
turned_le (inf false) (inf false) h = tt
turned_le (inf true) (fin t n d) h = absurd h
turned_le (inf false) (fin t n d) h = tt
turned_le (fin s m e) nan h = absurd h
turned_le (fin s m e) (inf true) h = tt
turned_le (fin s m e) (inf false) h = absurd h
turned_le (fin s m e) (fin t n d) h = turned_sizes s t (m * up e * down d) (n * up d * down e) h

zero_below : (f : Format) (n d : ℕ) → 0 < d → fin false 0 (pos 0) ≤ᶠ round f false n d
zero_below f n d D = subst (λ x. x ≤ᶠ round f false n d) (round-zero f false 1 (omega arith)) (round_mono f 0 1 n d (omega arith) D (omega arith))

zeros_level : neg (fin false 0 (pos 0)) ≤ᶠ fin false 0 (pos 0)
unfolding le neg
zeros_level = tt

turned_round : (f : Format) (n d m e : ℕ) → 0 < d → 0 < e → m * d ≤ n * e → round f true n d ≤ᶠ round f true m e
turned_round f n d m e D E less = rw (← neg-round f n d, ← neg-round f m e) (turned_le _ _ (round_mono f m e n d E D less))

across_round : (f : Format) (n d m e : ℕ) → 0 < d → 0 < e → round f true n d ≤ᶠ round f false m e
across_round f n d m e D E =
    let low_side : neg (round f false n d) ≤ᶠ neg (fin false 0 (pos 0)) = turned_le _ _ (zero_below f n d D) in
    rw (← neg-round f n d) (le_trans _ _ _ low_side (le_trans _ _ _ zeros_level (zero_below f m e E)))

turned_order : (a b : ℕ) → with_sign true a ≤ℤ with_sign true b → b ≤ a
turned_order zero zero less = omega arith
turned_order zero (suc b) less = absurd (omega (arith, ints, less))
turned_order (suc a) zero less = omega arith
turned_order (suc a) (suc b) less = omega (arith, ints, less)

not_across : (a b : ℕ) → 0 < b → ¬ (pos a ≤ℤ with_sign true b)
not_across a zero above less = omega (arith, above)
not_across a (suc b) above less = omega (arith, ints, less)

pub monotone : FloatsAreMonotone
monotone f (pos n) (pos d) (pos m) (pos e) D E less = round_mono f n d m e (some d D) (some e E) (omega (arith, ints, less))
monotone f (negsuc n) (pos d) (negsuc m) (pos e) D E less =
    turned_round f (suc n) d (suc m) e (some d D) (some e E) (turned_order (suc n * e) (suc m * d) (rw (with_sign-mul true (suc n) e, with_sign-mul true (suc m) d) at less))
monotone f (negsuc n) (pos d) (pos m) (pos e) D E less = across_round f (suc n) d m e (some d D) (some e E)
monotone f (pos n) (pos d) (negsuc m) (pos e) D E less =
    absurd (not_across (n * e) (suc m * d) (mul-pos (omega arith) (some d D)) (rw (with_sign-mul true (suc m) d) at less))
monotone f n (negsuc d) m e D E less = absurd (omega (arith, ints, D))
monotone f n (pos d) m (negsuc e) D E less = absurd (omega (arith, ints, E))
