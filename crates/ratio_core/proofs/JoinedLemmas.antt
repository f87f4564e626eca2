-- The lowest terms of a sum over the product or the least common multiple of two denominators, and of a difference of 1 over the product.
use Rattle.std.specs.Prelude.{◌≡◌, ◌≢◌, ◌≤ℤ◌, ◌<ℤ◌, ◌+ℤ◌, ◌-ℤ◌, ◌*ℤ◌, ℤ, pos, neg_ℤ, unsigned_abs, int_div}
use Rattle.std.specs.Int.{◌∣◌}
use Rattle.std.proofs.Common.{refl, sym, ap, subst, inl, inr, arith, ◌∙◌}
use Rattle.std.proofs.lemmas.Int.{ints}
use Rattle.std.proofs.Math.Nat.{dvd_refl, eq-one_of_dvd-one, one-dvd}
use lib.IntN.{*ℤ-one, *ℤ_comm, one, zero-*ℤ}
use Rattle.ratio_integer.specs.Division.{IsGcdAboveMax, IsGcdOf, IsMultiple}
use Rattle.ratio_integer.specs.Fraction.{IsCancelledOf, IsHeldLowest, IsLowestTerms, IsLowestTermsOf}
use Rattle.ratio_integer.specs.Range.{IsHeld}
use Rattle.ratio_integer.proofs.CommonDivisors.{multiple_divides}
use Rattle.ratio_integer.proofs.LcmLemmas.{exact_quotient}
use Rattle.ratio_integer.proofs.LowestTerms.{lowest_own}
use Rattle.ratio_integer.proofs.Whole.{add-mul, mul_assoc, mul_cancel, mul_positive, mul-swap_inner, neg-mul, positive_nonzero, sub-mul, unsigned_abs-neg}
use Rattle.ratio_core.specs.Joined.{IsCutBy, IsOverProduct}
use Rattle.ratio_core.proofs.PartsSumLemmas.{are_shares, gcd_positive, lowest}

-- the gcd of a number and a positive one always fits
pub never_above : (hi n d : ℤ) → pos 2 ≤ℤ hi → pos 0 <ℤ d → ¬ (IsGcdAboveMax hi n d)
never_above hi n d high positive (inl (e, inl f)) = absurd (omega (arith, ints))
never_above hi n d high positive (inl (e, inr f)) = absurd (omega (arith, ints))
never_above hi n d high positive (inr (e, f)) = absurd (omega (arith, ints))

-- the gcd of a number and 1 is 1
pub gcd_of_one : (n d : ℤ) → d ≡ pos 1 → IsGcdOf n d d
gcd_of_one n d single = rw single (record { sign = omega (arith, ints); divisor = (one-dvd (unsigned_abs n), dvd_refl 1, λ k p q. q) })

pub times-one : (n d : ℤ) → d ≡ pos 1 → n *ℤ d ≡ n
unfolding one
times-one n d single = ap (λ (z : ℤ). n *ℤ z) single ∙ *ℤ-one n

pub exact_by : (n g q : ℤ) → unsigned_abs g ∣ unsigned_abs n → q ≡ int_div n g → q *ℤ g ≡ n
exact_by n g q divides q_is = ap (λ (z : ℤ). z *ℤ g) q_is ∙ exact_quotient n g divides

-- n/m is joined over b and d, and g is the greatest common divisor of b and d
module _ (n m b d g : ℤ) (joined : IsOverProduct n m b d) (is : IsGcdOf b d g) where
  abbrev x : ℤ
  x = int_div b g

  abbrev y : ℤ
  y = int_div d g

  divisor_positive : pos 0 <ℤ g
  divisor_positive = gcd_positive b d g joined.right_lowest.positive is

  x_is : x *ℤ g ≡ b
  x_is = exact_quotient b g is.divisor.0

  y_is : y *ℤ g ≡ d
  y_is = exact_quotient d g is.divisor.1

  abbrev s : ℤ
  s = joined.left *ℤ y +ℤ joined.right *ℤ x

  sum_is : s *ℤ g ≡ n
  sum_is =
      add-mul (joined.left *ℤ y) (joined.right *ℤ x) g
      ∙ ap (λ (z : ℤ). z +ℤ (joined.right *ℤ x) *ℤ g) (mul_assoc joined.left y g ∙ ap (λ (z : ℤ). joined.left *ℤ z) y_is)
      ∙ ap (λ (z : ℤ). joined.left *ℤ d +ℤ z) (mul_assoc joined.right x g ∙ ap (λ (z : ℤ). joined.right *ℤ z) x_is)
      ∙ sym joined.numer

  product_is : ((x *ℤ y) *ℤ g) *ℤ g ≡ m
  product_is = mul_assoc (x *ℤ y) g g ∙ mul-swap_inner x y g g ∙ ap (λ (z : ℤ). z *ℤ (y *ℤ g)) x_is ∙ ap (λ (z : ℤ). b *ℤ z) y_is ∙ sym joined.denom

  -- n and m divided by g, and then by the greatest common divisor h of the first quotient and g
  module _ (numer denom h u v : ℤ) (numer_is : numer *ℤ g ≡ n) (denom_is : denom *ℤ g ≡ m) (left : IsGcdOf numer g h) (u_is : u *ℤ h ≡ numer) (v_is : v *ℤ h ≡ denom) where
    g_nonzero : g ≢ pos 0
    g_nonzero = positive_nonzero g divisor_positive

    first : s ≡ numer
    first = mul_cancel s numer g g_nonzero (sum_is ∙ sym numer_is)

    abbrev f : ℤ
    f = int_div g h

    f_is : f *ℤ h ≡ g
    f_is = exact_quotient g h left.divisor.1

    cut : IsCancelledOf s g u f
    cut = record { divisor = h; greatest = rw first left; numer = u_is ∙ sym first; denom = f_is }

    h_positive : pos 0 <ℤ h
    h_positive = gcd_positive numer g h divisor_positive left

    second : (x *ℤ y) *ℤ g ≡ denom
    second = mul_cancel ((x *ℤ y) *ℤ g) denom g g_nonzero (product_is ∙ sym denom_is)

    third : (x *ℤ y) *ℤ f ≡ v
    third = mul_cancel ((x *ℤ y) *ℤ f) v h (positive_nonzero h h_positive) (mul_assoc (x *ℤ y) f h ∙ ap (λ (z : ℤ). (x *ℤ y) *ℤ z) f_is ∙ second ∙ sym v_is)

    no_whole : pos 0 *ℤ f +ℤ u ≡ u
    no_whole = omega (arith, ints, zero-*ℤ f)

    whole_rest : s ≡ pos 0 *ℤ g +ℤ s
    whole_rest = begun s (zero-*ℤ g)
      where
        begun : (s : ℤ) → pos 0 *ℤ g ≡ pos 0 → s ≡ pos 0 *ℤ g +ℤ s
        begun s none = omega (arith, ints)

    pub joined_lowest : IsLowestTermsOf n m u v
    unfolding cut
    joined_lowest =
        let low = lowest joined.left b joined.right d g x y (pos 0) s h u f
        (are_shares joined.left b joined.right d g x y joined.left_lowest joined.right_lowest is refl refl (pos 0) s u f whole_rest cut) in
        let over = subst (λ (z : ℤ). IsLowestTermsOf (joined.left *ℤ d +ℤ joined.right *ℤ b) (b *ℤ d) z ((x *ℤ y) *ℤ f)) no_whole low in
        let under = subst (λ (z : ℤ). IsLowestTermsOf (joined.left *ℤ d +ℤ joined.right *ℤ b) (b *ℤ d) u z) third over in
        rw (joined.numer, joined.denom) under

    joined_held : (lo hi : ℤ) → IsHeld lo hi u → IsHeld lo hi v → IsHeldLowest lo hi n m u v
    joined_held lo hi u_held v_held = record { terms = joined_lowest; numer_held = u_held; denom_held = v_held }

-- a number and its opposite have the same divisors
opposite_lowest : (a b : ℤ) → IsLowestTerms a b → IsLowestTerms (neg_ℤ a) b
opposite_lowest a b low = record { positive = low.positive; only_one = rw (unsigned_abs-neg a) low.only_one }

-- a difference is the sum with the opposite of the right side
joined_difference : (n m a b c d : ℤ) → IsLowestTerms a b → IsLowestTerms c d → n ≡ a *ℤ d -ℤ c *ℤ b → m ≡ b *ℤ d → IsOverProduct n m b d
joined_difference n m a b c d first second numer denom = record {
  left = a;
  right = neg_ℤ c;
  left_lowest = first;
  right_lowest = opposite_lowest c d second;
  numer = numer ∙ ap (λ (z : ℤ). a *ℤ d +ℤ z) (sym (neg-mul c b));
  denom = denom;
}

-- a difference of 1 or -1 over the product of the denominators is in lowest terms
pub one_apart : (a b c d n : ℤ) → IsLowestTerms a b → IsLowestTerms c d → n ≡ a *ℤ d -ℤ c *ℤ b → unsigned_abs n ≡ 1 → IsLowestTermsOf (a *ℤ d -ℤ c *ℤ b) (b *ℤ d) n (b *ℤ d)
one_apart a b c d n left right n_is one =
    let low : IsLowestTerms n (b *ℤ d) = record { positive = mul_positive b d left.positive right.positive; only_one = λ k p q. eq-one_of_dvd-one (rw one at p) } in
    subst (λ (z : ℤ). IsLowestTermsOf z (b *ℤ d) n (b *ℤ d)) n_is (lowest_own n (b *ℤ d) low)

-- ---- over the least common denominator

-- what divides g divides a multiple of it
pub multiple_cut : (n m g h q : ℤ) → IsMultiple m g → IsGcdOf n g h → q ≡ int_div m h → q *ℤ h ≡ m
multiple_cut n m g h q multiple is q_is =
    let part : int_div g h *ℤ h ≡ g = exact_quotient g h is.divisor.1 in
    let whole : m ≡ (multiple.0 *ℤ int_div g h) *ℤ h = multiple.1 ∙ ap (λ (z : ℤ). multiple.0 *ℤ z) (sym part) ∙ sym (mul_assoc multiple.0 (int_div g h) h) in
    exact_by m h q (multiple_divides m h (multiple.0 *ℤ int_div g h, whole)) q_is

-- b times y, where y is d over g, is a multiple of g
pub denom_multiple : (b d g y p : ℤ) → IsGcdOf b d g → p ≡ b *ℤ y → IsMultiple p g
denom_multiple b d g y p is p_is = (int_div b g *ℤ y, p_is ∙ ap (λ (z : ℤ). z *ℤ y) (sym (exact_quotient b g is.divisor.0)) ∙ mul_assoc (int_div b g) g y ∙ ap (λ (z : ℤ). int_div b g *ℤ z) (*ℤ_comm g y) ∙ sym (mul_assoc (int_div b g) y g))

module _ (lo hi a b c d g x y p u v : ℤ) (left_lowest : IsLowestTerms a b) (right_lowest : IsLowestTerms c d) (is : IsGcdOf b d g) (x_is : x ≡ int_div b g) (y_is : y ≡ int_div d g) (p_is : p ≡ b *ℤ y) where
  x_times : x *ℤ g ≡ b
  x_times = exact_by b g x is.divisor.0 x_is

  y_times : y *ℤ g ≡ d
  y_times = exact_by d g y is.divisor.1 y_is

  left_times : (a *ℤ y) *ℤ g ≡ a *ℤ d
  left_times = mul_assoc a y g ∙ ap (λ (z : ℤ). a *ℤ z) y_times

  right_times : (c *ℤ x) *ℤ g ≡ c *ℤ b
  right_times = mul_assoc c x g ∙ ap (λ (z : ℤ). c *ℤ z) x_times

  denom_times : p *ℤ g ≡ b *ℤ d
  denom_times = ap (λ (z : ℤ). z *ℤ g) p_is ∙ mul_assoc b y g ∙ ap (λ (z : ℤ). b *ℤ z) y_times

  pub least_common_sum : (n : ℤ) → n ≡ a *ℤ y +ℤ c *ℤ x → IsCutBy lo hi n p g u v → IsHeldLowest lo hi (a *ℤ d +ℤ c *ℤ b) (b *ℤ d) u v
  least_common_sum n n_is cut =
      let joined : IsOverProduct (a *ℤ d +ℤ c *ℤ b) (b *ℤ d) b d = record { left = a; right = c; left_lowest = left_lowest; right_lowest = right_lowest; numer = refl; denom = refl } in
      let times : n *ℤ g ≡ a *ℤ d +ℤ c *ℤ b =
      ap (λ (z : ℤ). z *ℤ g) n_is ∙ add-mul (a *ℤ y) (c *ℤ x) g ∙ ap (λ (z : ℤ). z +ℤ (c *ℤ x) *ℤ g) left_times ∙ ap (λ (z : ℤ). a *ℤ d +ℤ z) right_times in
      joined_held _ _ b d g joined is n p cut.shared u v times denom_times cut.gcd cut.numer cut.denom lo hi cut.numer_held cut.denom_held

  pub least_common_difference : (n : ℤ) → n ≡ a *ℤ y -ℤ c *ℤ x → IsCutBy lo hi n p g u v → IsHeldLowest lo hi (a *ℤ d -ℤ c *ℤ b) (b *ℤ d) u v
  least_common_difference n n_is cut =
      let joined : IsOverProduct (a *ℤ d -ℤ c *ℤ b) (b *ℤ d) b d = joined_difference _ _ a b c d left_lowest right_lowest refl refl in
      let times : n *ℤ g ≡ a *ℤ d -ℤ c *ℤ b =
      ap (λ (z : ℤ). z *ℤ g) n_is ∙ sub-mul (a *ℤ y) (c *ℤ x) g ∙ ap (λ (z : ℤ). z -ℤ (c *ℤ x) *ℤ g) left_times ∙ ap (λ (z : ℤ). a *ℤ d -ℤ z) right_times in
      joined_held _ _ b d g joined is n p cut.shared u v times denom_times cut.gcd cut.numer cut.denom lo hi cut.numer_held cut.denom_held
