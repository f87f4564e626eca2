-- Doublings and halvings: what one more does, and that they come to an end.
use Rattle.std.specs.Prelude.{◌≡◌, ◌≢◌, ◌⊎◌, ◌+◌, ◌*◌, ◌-◌, ◌^◌, ◌<◌, ◌≤◌, ◌≤ℤ◌, ◌<ℤ◌, ◌+ℤ◌, ◌*ℤ◌, ℕ, ℤ, pos, negsuc, unsigned_abs, Option, Some, None, IsSome}
use Rattle.std.specs.Int.{◌∣◌}
use Rattle.std.proofs.Common.{refl, sym, ap, subst, ◌∙◌, arith, inl, inr}
use Rattle.std.proofs.Math.Nat.{le_of_dvd, mul-le-mul_right}
use Rattle.std.proofs.Math.Pow.{pow-add}
use Rattle.std.proofs.lemmas.Int.{ints, unsigned_abs-mul}
use lib.IntN.{one, *ℤ_comm, *ℤ-one}
use Rattle.ratio_integer.specs.Fraction.{Fits, IsLowestTermsOf, SameValue}
use Rattle.ratio_integer.specs.Range.{IsHeld}
use Rattle.ratio_integer.specs.SignedBits.{Fits64}
use Rattle.ratio_integer.proofs.CrossCancelling.{denom_divides, numer_divides}
use Rattle.ratio_integer.proofs.DivisionLemmas.{abs_pos}
use Rattle.ratio_integer.proofs.LowestTerms.{lowest_exist, same_value_chained, same_value_products}
use Rattle.ratio_integer.proofs.Whole.{mul_assoc, mul_positive, positive_factor, positive_nonzero, unsigned_abs-products}
use Rattle.ratio_core.proofs.LawLemmas.{product_by_left}
use Rattle.ratio_core.proofs.ProductOrder.{more-times, times_le}
use Rattle.num_rational.specs.Ratio.{ChecksRatio}
use Rattle.num_rational.specs.Reduced.{ratio_in}
use Rattle.num_rational.specs.declared.reduced.Reduced.{Reduced}
use Rattle.num_rational.proofs.ValueLemmas.{product_out}
use Rattle.ratio_uses.specs.Units.{DoublingFails, IsDoubled, IsHalved, IsInOctave}

-- ---- fractions of one value compare with 1 alike

pub less_times : (a b d : ℤ) → a <ℤ b → pos 0 <ℤ d → (a *ℤ d) <ℤ (b *ℤ d)
less_times a b d less up =
    let next : (a +ℤ pos 1) ≤ℤ b = omega (arith, ints) in
    let sign : pos 0 ≤ℤ d = omega (arith, ints) in
    let times = times_le (a +ℤ pos 1) b d next sign in
    omega (arith, ints, more-times a d)

pub at_least_alike : (n d a b : ℤ) → pos 0 <ℤ d → pos 0 <ℤ b → n *ℤ b ≡ a *ℤ d → d ≤ℤ n → b ≤ℤ a
at_least_alike n d a b d_up b_up same at_least = cases (either a b)
  where
    either : (a b : ℤ) → (b ≤ℤ a) ⊎ (a <ℤ b)
    either a b = grind (arith, ints)

    cases : (b ≤ℤ a) ⊎ (a <ℤ b) → b ≤ℤ a
    cases (inl h) = h
    cases (inr less) =
        let sign : pos 0 ≤ℤ b = omega (arith, ints) in
        let up = times_le d n b at_least sign in
        let down = less_times a b d less d_up in
        absurd (omega (arith, ints, *ℤ_comm b d))

pub below_alike : (n d a b : ℤ) → pos 0 <ℤ d → pos 0 <ℤ b → n *ℤ b ≡ a *ℤ d → a <ℤ b → n <ℤ d
below_alike n d a b d_up b_up same less = cases (either n d)
  where
    either : (n d : ℤ) → (d ≤ℤ n) ⊎ (n <ℤ d)
    either n d = grind (arith, ints)

    cases : (d ≤ℤ n) ⊎ (n <ℤ d) → n <ℤ d
    cases (inr h) = h
    cases (inl at_least) = absurd (let k = at_least_alike n d a b d_up b_up same at_least in omega (arith, ints))

-- ---- one more step

double_power : (a : ℤ) (k : ℕ) → (a *ℤ pos (2 ^ k)) *ℤ pos 2 ≡ a *ℤ pos (2 ^ (k + 1))
double_power a k = mul_assoc a (pos (2 ^ k)) (pos 2) ∙ ap (λ n. a *ℤ pos n) (sym (pow-add 2 k 1))

times-one : (a : ℤ) → a *ℤ pos 1 ≡ a
unfolding one
times-one a = *ℤ-one a

pub no_doubling : (x : ℤ × ℤ) → IsLowestTermsOf x.0 x.1 x.0 x.1 → IsDoubled x x
no_doubling x low = record { doublings = 0; value = subst (λ n. IsLowestTermsOf n x.1 x.0 x.1) (sym (times-one x.0)) low }

pub doubled_more : (x y z : ℤ × ℤ) → IsDoubled x y → IsLowestTermsOf (y.0 *ℤ pos 2) (y.1 *ℤ pos 1) z.0 z.1 → IsDoubled x z
doubled_more x y z before next = record {
  doublings = before.doublings + 1;
  value = rw (double_power x.0 before.doublings, times-one x.1) at (product_by_left (x.0 *ℤ pos (2 ^ before.doublings)) x.1 y (pos 2, pos 1) z before.value next);
}

pub doubled_above : (y z : ℤ × ℤ) → pos 0 <ℤ y.0 → pos 0 <ℤ y.1 → IsLowestTermsOf (y.0 *ℤ pos 2) (y.1 *ℤ pos 1) z.0 z.1 → pos 0 <ℤ z.0
doubled_above y z numer_up denom_up next =
    let twice : pos 0 <ℤ (y.0 *ℤ pos 2) = omega (arith, ints) in
    positive_factor z.0 (y.1 *ℤ pos 1) (rw (times-one y.1) denom_up) (subst (λ n. pos 0 <ℤ n) next.same (mul_positive (y.0 *ℤ pos 2) z.1 twice next.lowest.positive))

pub doubling_out : (x y : ℤ × ℤ) → pos 0 <ℤ x.1 → IsDoubled x y → y.0 <ℤ y.1 → ¬ (Fits64 (y.0 *ℤ pos 2, y.1 *ℤ pos 1)) → DoublingFails x
doubling_out x y up before less out = record {
  doublings = before.doublings;
  below_one = below_alike (x.0 *ℤ pos (2 ^ before.doublings)) x.1 y.0 y.1 up before.value.lowest.positive before.value.same less;
  out = rw (double_power x.0 before.doublings, times-one x.1) at (product_out _ _ (x.0 *ℤ pos (2 ^ before.doublings), x.1) y (pos 2, pos 1) before.value (omega (arith, ints)) out);
}

pub no_halving : (x : ℤ × ℤ) → IsLowestTermsOf x.0 x.1 x.0 x.1 → x.1 ≤ℤ x.0 → IsHalved x x
no_halving x low at_least = record { halvings = 0; value = subst (λ d. IsLowestTermsOf x.0 d x.0 x.1) (sym (times-one x.1)) low; at_least_one = at_least }

pub halved_more : (x y z : ℤ × ℤ) → IsHalved x y → (pos 2 *ℤ y.1) ≤ℤ y.0 → IsLowestTermsOf (y.0 *ℤ pos 1) (y.1 *ℤ pos 2) z.0 z.1 → IsHalved x z
halved_more x y z before two next = record {
  halvings = before.halvings + 1;
  value = rw (double_power x.1 before.halvings, times-one x.0) at (product_by_left x.0 (x.1 *ℤ pos (2 ^ before.halvings)) y (pos 1, pos 2) z before.value next);
  at_least_one =
      let up = before.value.lowest.positive in
      let least : (y.1 *ℤ pos 2) ≤ℤ (y.0 *ℤ pos 1) = rw (times-one y.0) (omega (arith, ints)) in
      at_least_alike (y.0 *ℤ pos 1) (y.1 *ℤ pos 2) z.0 z.1 (omega (arith, ints)) next.lowest.positive next.same least;
}

-- ---- the two numbers come nearer to each other

crossed : (n g a b : ℕ) → 0 < n → 0 < g → b ≤ n + g → (n * 2) * b ≡ a * (n + g) → a + g ≤ b → ⊥
crossed n g a b n_up g_up within same far =
    let wide : (a + g) * (n + g) ≤ b * (n + g) = mul-le-mul_right (n + g) far in
    let narrow : b * g ≤ (n + g) * g = mul-le-mul_right g within in
    let some : 1 * b ≤ n * b = mul-le-mul_right b n_up in
    omega arith

nearer : (n d a b : ℕ) → 0 < n → n < d → b ≤ d → (n * 2) * b ≡ a * d → b - a < d - n
nearer n d a b n_up less within same = cases (either (b - a) (d - n))
  where
    either : (x y : ℕ) → (x < y) ⊎ (y ≤ x)
    either x y = grind arith

    whole : n + (d - n) ≡ d
    whole = omega arith

    cases : (b - a < d - n) ⊎ (d - n ≤ b - a) → b - a < d - n
    cases (inl h) = h
    cases (inr far) = absurd (crossed n (d - n) a b n_up (omega arith) (omega arith) (rw whole same) (omega arith))

-- the magnitudes before and after a doubling
step_sizes : (n d a b : ℤ) → (n *ℤ pos 2) *ℤ b ≡ a *ℤ (d *ℤ pos 1) → (unsigned_abs n * 2) * unsigned_abs b ≡ unsigned_abs a * unsigned_abs d
step_sizes n d a b same =
    ap (λ m. m * unsigned_abs b) (sym (unsigned_abs-mul n (pos 2)))
    ∙ unsigned_abs-products (n *ℤ pos 2) b a (d *ℤ pos 1) same
    ∙ ap (λ t. unsigned_abs a * unsigned_abs t) (times-one d)

-- a divisor of a number above 0 is at most that number
divisor_within : (a d : ℤ) → pos 0 <ℤ d → unsigned_abs a ∣ unsigned_abs d → unsigned_abs a ≤ unsigned_abs d
divisor_within a d up divides = le_of_dvd (abs_pos d (positive_nonzero d up)) divides

pub doubling_nearer : (y z : ℤ × ℤ) → pos 0 <ℤ y.0 → y.0 <ℤ y.1 → IsLowestTermsOf (y.0 *ℤ pos 2) (y.1 *ℤ pos 1) z.0 z.1 → unsigned_abs z.1 - unsigned_abs z.0 < unsigned_abs y.1 - unsigned_abs y.0
doubling_nearer y z up less next =
    nearer (unsigned_abs y.0) (unsigned_abs y.1) (unsigned_abs z.0) (unsigned_abs z.1) (omega (arith, ints)) (omega (arith, ints))
    (divisor_within z.1 y.1 (omega (arith, ints)) (rw (times-one y.1) at (denom_divides (y.0 *ℤ pos 2) (y.1 *ℤ pos 1) z.0 z.1 next)))
    (step_sizes y.0 y.1 z.0 z.1 next.same)

pub halving_nearer : (y z : ℤ × ℤ) → pos 0 <ℤ y.1 → (pos 2 *ℤ y.1) ≤ℤ y.0 → IsLowestTermsOf (y.0 *ℤ pos 1) (y.1 *ℤ pos 2) z.0 z.1 → unsigned_abs z.0 - unsigned_abs z.1 < unsigned_abs y.0 - unsigned_abs y.1
halving_nearer y z up two next =
    nearer (unsigned_abs y.1) (unsigned_abs y.0) (unsigned_abs z.1) (unsigned_abs z.0) (omega (arith, ints)) (omega (arith, ints))
    (divisor_within z.0 y.0 (omega (arith, ints)) (rw (times-one y.0) at (numer_divides (y.0 *ℤ pos 1) (y.1 *ℤ pos 2) z.0 z.1 next)))
    (step_sizes y.1 y.0 z.1 z.0 (*ℤ_comm (y.1 *ℤ pos 2) z.0 ∙ sym next.same ∙ *ℤ_comm (y.0 *ℤ pos 1) z.1))

-- ---- halves of a fraction that is at least 2 fit

held_by_size : (m : ℕ) (a : ℤ) → unsigned_abs a ≤ m → IsHeld (negsuc m) (pos m) a
held_by_size m a small = record { above = omega (arith, ints); below = omega (arith, ints) }

half_held : (m : ℕ) (y : ℤ × ℤ) (a b : ℤ) → pos 0 <ℤ y.1 → (pos 2 *ℤ y.1) ≤ℤ y.0 → y.0 ≤ℤ pos m → IsLowestTermsOf (y.0 *ℤ pos 1) (y.1 *ℤ pos 2) a b → Fits (negsuc m) (pos m) (y.0 *ℤ pos 1) (y.1 *ℤ pos 2)
half_held m y a b up two held low =
    let numer = divisor_within a y.0 (omega (arith, ints)) (rw (times-one y.0) at (numer_divides (y.0 *ℤ pos 1) (y.1 *ℤ pos 2) a b low)) in
    let denom = divisor_within b (y.1 *ℤ pos 2) (omega (arith, ints)) (denom_divides (y.0 *ℤ pos 1) (y.1 *ℤ pos 2) a b low) in
    record { numer = a; denom = b; low = record { terms = low; numer_held = held_by_size m a (omega (arith, ints)); denom_held = held_by_size m b (omega (arith, ints)) } }

pub half_fits : (m : ℕ) (y : ℤ × ℤ) → pos 0 <ℤ y.1 → (pos 2 *ℤ y.1) ≤ℤ y.0 → y.0 ≤ℤ pos m → Fits (negsuc m) (pos m) (y.0 *ℤ pos 1) (y.1 *ℤ pos 2)
half_fits m y up two held =
    let nonzero : y.1 *ℤ pos 2 ≢ pos 0 = positive_nonzero (y.1 *ℤ pos 2) (omega (arith, ints)) in
    let low = lowest_exist (y.0 *ℤ pos 1) (y.1 *ℤ pos 2) nonzero in
    half_held m y low.numer low.denom up two held low.terms

-- ---- both together

pub in_octave : (x y z : ℤ × ℤ) → IsDoubled x y → IsHalved y z → z.0 <ℤ (pos 2 *ℤ z.1) → IsInOctave x z
in_octave x y z up down below = record {
  doublings = up.doublings;
  halvings = down.halvings;
  same =
      let half = pos (2 ^ down.halvings) in
      let first : SameValue ((x.0 *ℤ pos (2 ^ up.doublings)) *ℤ pos 1) (x.1 *ℤ half) (y.0 *ℤ pos 1) (y.1 *ℤ half) = same_value_products (x.0 *ℤ pos (2 ^ up.doublings)) x.1 (pos 1) half y.0 y.1 (pos 1) half up.value.same refl in
      same_value_chained _ _ y.0 (y.1 *ℤ half) z.0 z.1 down.value.fraction (rw (times-one y.0, times-one (x.0 *ℤ pos (2 ^ up.doublings))) at first) down.value.same;
  at_least_one = down.at_least_one;
  below_two = below;
}

-- what fits has a result
pub answered : {T : _} {i : _} {o : _} {e : _} {p : _} {h : _} (x : ℤ × ℤ) (r : Option (Reduced T i o e p h)) → Fits i.lo i.hi x.0 x.1 → ChecksRatio x (ratio_in r) → IsSome r
answered x None fits out = absurd (out fits)
answered x (Some y) fits low = refl
