-- The lowest terms of the sum of two parts, from the quotient and the rest of its numerator by the common divisor of the denominators.
use Rattle.std.specs.Prelude.{◌≡◌, ◌≢◌, ◌≤ℤ◌, ◌<ℤ◌, ◌+ℤ◌, ◌*ℤ◌, ◌+◌, ◌*◌, ℕ, ℤ, Bool, pos, neg_ℤ, unsigned_abs, int_div}
use Rattle.std.specs.Int.{◌∣◌}
use Rattle.std.proofs.Common.{refl, sym, ap, subst, inl, inr, arith, ◌∙◌}
use Rattle.std.proofs.lemmas.Int.{ints, unsigned_abs-mul}
use Rattle.std.proofs.Math.Nat.{dvd_refl}
use borrow.Author.Differences.{up, down, same_in, product_is}
use lib.IntN.{*ℤ_comm, *ℤ-one, one, zero-*ℤ}
use Rattle.ratio_integer.specs.Division.{IsGcdAboveMax, IsGcdOf, IsMultiple}
use Rattle.ratio_integer.specs.Fraction.{IsCancelledOf, IsLowestTerms, IsLowestTermsOf}
use Rattle.ratio_integer.specs.Range.{IsHeld, IsRange}
use Rattle.ratio_integer.proofs.CommonDivisors.{IsCoprime, coprime_divisors, coprime_gcd, coprime_product, coprime_turned, divides_multiple, gcd_exists, multiple_divides}
use Rattle.ratio_integer.proofs.DivisionLemmas.{low_below}
use Rattle.ratio_integer.proofs.GcdLemmas.{coprime-dvd}
use Rattle.ratio_integer.proofs.LcmLemmas.{divisor_nonzero, exact_quotient}
use Rattle.ratio_integer.proofs.LowestTerms.{cancelled_coprime, cancelled_quotients, lowest_unique}
use Rattle.ratio_integer.proofs.Whole.{add-mul, mul_assoc, mul_nonzero, mul_positive, mul-swap_last, neg-mul, positive_factor, positive_nonzero}
use Rattle.ratio_core.specs.Parts.{IsDenominatorOut, IsDivided, IsPart, IsPartsSum, carried}
use Rattle.ratio_core.proofs.Around.{up_product}
use Rattle.ratio_core.proofs.KeptLowest.{multiple_sum}
use Rattle.ratio_core.proofs.PartLemmas.{from_positive, from_zero_held, quotient_above, quotient_part, whole_above, whole_below}
use Rattle.ratio_core.proofs.ProductLemmas.{factor_held}
use Rattle.ratio_core.proofs.ProductOrder.{more-times, times_le}

up-mul : (a b : ℤ) → up (a *ℤ b) ≡ up a * up b + down a * down b
up-mul a b = (product_is a b).0

down-mul : (a b : ℤ) → down (a *ℤ b) ≡ up a * down b + down a * up b
down-mul a b = (product_is a b).1

-- ---- multiples

times_multiple : (n h m : ℤ) (k : ℕ) → IsMultiple n (pos k) → m ≡ n *ℤ h → IsMultiple m (pos k)
times_multiple n h m k (j, e) m-is = (j *ℤ h, m-is ∙ ap (λ (z : ℤ). z *ℤ h) e ∙ mul-swap_last j (pos k) h ∙ sym (mul_assoc j h (pos k)))

-- what divides a sum and a multiple of one part divides the other part
pub what_is_left : (m t f n : ℤ) (k : ℕ) → IsMultiple n (pos k) → IsMultiple f (pos k) → n ≡ t *ℤ f +ℤ m → IsMultiple m (pos k)
what_is_left m t f n k whole part sum =
    let e : neg_ℤ t *ℤ f ≡ neg_ℤ (t *ℤ f) = neg-mul t f in
    multiple_sum (neg_ℤ t) f n m (pos k) part whole (omega (arith, ints))

-- a number that divides p*y + r*x and x divides p, since it has nothing in common with y; so it is 1, since it divides b
by_share : (p y r x b g : ℤ) (k : ℕ) → IsMultiple (p *ℤ y +ℤ r *ℤ x) (pos k) → k ∣ unsigned_abs x → b ≡ x *ℤ g → IsCoprime (unsigned_abs x) (unsigned_abs y) → IsLowestTerms p b → k ≡ 1
by_share p y r x b g k whole divides b-is apart lowest =
    let part : IsMultiple x (pos k) = divides_multiple x (pos k) divides in
    let sum : p *ℤ y +ℤ r *ℤ x ≡ r *ℤ x +ℤ p *ℤ y = omega (arith, ints) in
    let first : k ∣ unsigned_abs p * unsigned_abs y = rw unsigned_abs-mul at (multiple_divides (p *ℤ y) (pos k) (what_is_left (p *ℤ y) r x _ k whole part sum)) in
    let over : IsCoprime k (unsigned_abs y) = coprime_divisors _ _ _ _ apart divides (dvd_refl (unsigned_abs y)) in
    lowest.only_one k
    (coprime-dvd k (unsigned_abs y) (unsigned_abs p) (coprime_gcd k (unsigned_abs y) over) first)
    (multiple_divides b (pos k) (times_multiple x g b k part b-is))

-- ---- the lowest terms

-- x and y are b and d divided by their greatest common divisor g; m and f are s and g divided by theirs; p*y + r*x is t*g + s
pub record AreShares (p b r d g x y t s h m f : ℤ) : Type 0 where
  pub b_is : x *ℤ g ≡ b
  pub d_is : y *ℤ g ≡ d
  pub s_is : m *ℤ h ≡ s
  pub g_is : f *ℤ h ≡ g
  pub sum : p *ℤ y +ℤ r *ℤ x ≡ t *ℤ g +ℤ s
  pub apart : IsCoprime (unsigned_abs x) (unsigned_abs y)
  pub rest : IsCoprime (unsigned_abs m) (unsigned_abs f)
  pub left : IsLowestTerms p b
  pub right : IsLowestTerms r d
  pub divisor : pos 0 <ℤ g
  pub rest_divisor : pos 0 <ℤ h

module _ (p b r d g x y t s h m f : ℤ) (is : AreShares p b r d g x y t s h m f) where
  -- the sum of the numerators is h times the new numerator
  total : (t *ℤ f +ℤ m) *ℤ h ≡ p *ℤ y +ℤ r *ℤ x
  total =
      add-mul (t *ℤ f) m h
      ∙ ap (λ (z : ℤ). z +ℤ m *ℤ h) (mul_assoc t f h ∙ ap (λ (z : ℤ). t *ℤ z) is.g_is)
      ∙ ap (λ (z : ℤ). t *ℤ g +ℤ z) is.s_is
      ∙ sym is.sum

  numers : p *ℤ d +ℤ r *ℤ b ≡ (p *ℤ y +ℤ r *ℤ x) *ℤ g
  numers =
      ap (λ (z : ℤ). p *ℤ z +ℤ r *ℤ b) (sym is.d_is)
      ∙ ap (λ (z : ℤ). p *ℤ (y *ℤ g) +ℤ r *ℤ z) (sym is.b_is)
      ∙ ap (λ (z : ℤ). z +ℤ r *ℤ (x *ℤ g)) (sym (mul_assoc p y g))
      ∙ ap (λ (z : ℤ). (p *ℤ y) *ℤ g +ℤ z) (sym (mul_assoc r x g))
      ∙ sym (add-mul (p *ℤ y) (r *ℤ x) g)

  pub same : (p *ℤ d +ℤ r *ℤ b) *ℤ ((x *ℤ y) *ℤ f) ≡ (t *ℤ f +ℤ m) *ℤ (b *ℤ d)
  same =
      ap (λ (z : ℤ). z *ℤ ((x *ℤ y) *ℤ f)) (numers ∙ ap (λ (z : ℤ). z *ℤ g) (sym total))
      ∙ factors (t *ℤ f +ℤ m) h g (x *ℤ y) f
      ∙ ap (λ (z : ℤ). (t *ℤ f +ℤ m) *ℤ ((z *ℤ g) *ℤ (x *ℤ y))) is.g_is
      ∙ ap (λ (z : ℤ). (t *ℤ f +ℤ m) *ℤ z) (shares x y g)
      ∙ ap (λ (z : ℤ). (t *ℤ f +ℤ m) *ℤ (z *ℤ (y *ℤ g))) is.b_is
      ∙ ap (λ (z : ℤ). (t *ℤ f +ℤ m) *ℤ (b *ℤ z)) is.d_is
    where
      factors : (n h g c f : ℤ) → ((n *ℤ h) *ℤ g) *ℤ (c *ℤ f) ≡ n *ℤ (((f *ℤ h) *ℤ g) *ℤ c)
      factors n h g c f = same_in _ _ (simp (up-mul, down-mul) (omega arith))

      shares : (x y g : ℤ) → (g *ℤ g) *ℤ (x *ℤ y) ≡ (x *ℤ g) *ℤ (y *ℤ g)
      shares x y g = same_in _ _ (simp (up-mul, down-mul) (omega arith))

  -- a divisor of the new numerator divides the sum of the old ones
  whole_total : (k : ℕ) → k ∣ unsigned_abs (t *ℤ f +ℤ m) → IsMultiple (p *ℤ y +ℤ r *ℤ x) (pos k)
  whole_total k q = times_multiple (t *ℤ f +ℤ m) h _ k (divides_multiple (t *ℤ f +ℤ m) (pos k) q) (sym total)

  -- so one that divides x divides p, and one that divides y divides r
  with_left : IsCoprime (unsigned_abs (t *ℤ f +ℤ m)) (unsigned_abs x)
  with_left k q n = by_share p y r x b g k (whole_total k q) n (sym is.b_is) is.apart is.left

  with_right : IsCoprime (unsigned_abs (t *ℤ f +ℤ m)) (unsigned_abs y)
  with_right k q n =
      let turned : p *ℤ y +ℤ r *ℤ x ≡ r *ℤ x +ℤ p *ℤ y = omega (arith, ints) in
      let whole : IsMultiple (r *ℤ x +ℤ p *ℤ y) (pos k) = rw turned at (whole_total k q) in
      by_share r x p y d g k whole n (sym is.d_is) (coprime_turned _ _ is.apart) is.right

  with_rest : IsCoprime (unsigned_abs (t *ℤ f +ℤ m)) (unsigned_abs f)
  with_rest k q n = is.rest k (multiple_divides m (pos k) (what_is_left m t f (t *ℤ f +ℤ m) k (divides_multiple (t *ℤ f +ℤ m) (pos k) q) (divides_multiple f (pos k) n) refl)) n

  x_positive : pos 0 <ℤ x
  x_positive = positive_factor x g is.divisor (rw is.b_is is.left.positive)

  y_positive : pos 0 <ℤ y
  y_positive = positive_factor y g is.divisor (rw is.d_is is.right.positive)

  pub factor_positive : pos 0 <ℤ f
  factor_positive = positive_factor f h is.rest_divisor (rw is.g_is is.divisor)

  pub lowest : IsLowestTermsOf (p *ℤ d +ℤ r *ℤ b) (b *ℤ d) (t *ℤ f +ℤ m) ((x *ℤ y) *ℤ f)
  lowest = record {
    fraction = mul_nonzero b d (positive_nonzero b is.left.positive) (positive_nonzero d is.right.positive);
    same = same;
    lowest = record {
      positive = mul_positive (x *ℤ y) f (mul_positive x y x_positive y_positive) factor_positive;
      only_one = rw (unsigned_abs-mul (x *ℤ y) f, unsigned_abs-mul x y) (coprime_product _ _ _ (coprime_product _ _ _ with_left with_right) with_rest);
    };
  }

-- ---- a denominator out of range

module _ (lo hi p b r d g x y t s h m f : ℤ) (range : IsRange lo hi) (is : AreShares p b r d g x y t s h m f) where
  pub denominator_out : ¬ (IsHeld lo hi ((x *ℤ y) *ℤ f)) → IsDenominatorOut lo hi (p *ℤ d +ℤ r *ℤ b, b *ℤ d)
  denominator_out out = record {
    each = λ n v terms held. out (rw (lowest_unique _ _ n v _ _ terms (lowest p b r d g x y t s h m f is)).1 at held);
  }

  pub common_out : ¬ (IsHeld lo hi (x *ℤ y)) → IsDenominatorOut lo hi (p *ℤ d +ℤ r *ℤ b, b *ℤ d)
  common_out out = denominator_out (λ held. out (factor_held lo hi (x *ℤ y) f range (factor_positive p b r d g x y t s h m f is) held))

-- ---- shares by the greatest common divisor

pub gcd_positive : (n d g : ℤ) → pos 0 <ℤ d → IsGcdOf n d g → pos 0 <ℤ g
gcd_positive n d g positive is =
    let sign = is.sign in
    let nonzero : g ≢ pos 0 = divisor_nonzero n d g (positive_nonzero d positive) is in
    above_zero g sign nonzero
  where
    above_zero : (g : ℤ) → pos 0 ≤ℤ g → g ≢ pos 0 → pos 0 <ℤ g
    above_zero g sign nonzero = grind (arith, ints)

pub never_gcd_above_max : (hi n d : ℤ) → pos 2 ≤ℤ hi → pos 0 ≤ℤ n → pos 0 <ℤ d → ¬ (IsGcdAboveMax hi n d)
never_gcd_above_max hi n d high some positive (inl t) = let e = t.0 in absurd (omega (arith, ints))
never_gcd_above_max hi n d high some positive (inr t) = let e = t.1 in absurd (omega (arith, ints))

-- x and y are b and d divided by g
pub record Shares (b d g x y : ℤ) : Type 0 where
  pub left : x *ℤ g ≡ b
  pub right : y *ℤ g ≡ d
  pub left_positive : pos 0 <ℤ x
  pub right_positive : pos 0 <ℤ y
  pub divisor : pos 0 <ℤ g

module _ (p b r d g x y : ℤ) (left : IsLowestTerms p b) (right : IsLowestTerms r d) (is : IsGcdOf b d g) (x-is : x ≡ int_div b g) (y-is : y ≡ int_div d g) where
  pub shares : Shares b d g x y
  shares =
      let first : x *ℤ g ≡ b = ap (λ (z : ℤ). z *ℤ g) x-is ∙ exact_quotient b g is.divisor.0 in
      let second : y *ℤ g ≡ d = ap (λ (z : ℤ). z *ℤ g) y-is ∙ exact_quotient d g is.divisor.1 in
      let divisor = gcd_positive b d g right.positive is in
      record {
        left = first;
        right = second;
        left_positive = positive_factor x g divisor (rw first left.positive);
        right_positive = positive_factor y g divisor (rw second right.positive);
        divisor = divisor;
      }

  pub are_shares : (t s m f : ℤ) → p *ℤ y +ℤ r *ℤ x ≡ t *ℤ g +ℤ s → (cut : IsCancelledOf s g m f) → AreShares p b r d g x y t s cut.divisor m f
  are_shares t s m f sum cut =
      let of = shares in
      record {
        b_is = of.left;
        d_is = of.right;
        s_is = cut.numer;
        g_is = cut.denom;
        sum = sum;
        apart = cancelled_coprime b d x y (positive_nonzero d right.positive) (cancelled_quotients b d g x y is x-is y-is);
        rest = cancelled_coprime s g m f (positive_nonzero g of.divisor) cut;
        left = left;
        right = right;
        divisor = of.divisor;
        rest_divisor = gcd_positive s g cut.divisor of.divisor cut.greatest;
      }

  -- if x*y is out of range, so is the denominator of the lowest terms
  pub shares_out : (lo hi : ℤ) → IsRange lo hi → ¬ (IsHeld lo hi (x *ℤ y)) → IsDenominatorOut lo hi (p *ℤ d +ℤ r *ℤ b, b *ℤ d)
  shares_out lo hi range out =
      let s = p *ℤ y +ℤ r *ℤ x in
      let found : (h : ℤ) × IsGcdOf s g h = gcd_exists s g in
      let cut : IsCancelledOf s g (int_div s found.0) (int_div g found.0) = cancelled_quotients s g found.0 _ _ found.1 refl refl in
      common_out lo hi p b r d g x y (pos 0) s cut.divisor _ _ range (are_shares (pos 0) s _ _ (sym (whole_rest s)) cut) out
    where
      whole_rest : (s : ℤ) → pos 0 *ℤ g +ℤ s ≡ s
      whole_rest s = omega (arith, ints, zero-*ℤ g)

-- ---- sizes

-- a part is still a part after both numbers are divided by a common divisor
pub rest_part : (s g h m f : ℤ) → IsPart s g → pos 0 <ℤ h → m *ℤ h ≡ s → f *ℤ h ≡ g → IsPart m f
rest_part s g h m f rest positive s-is g-is =
    let b = rest.below in
    quotient_part s h m (pos 0) f (record { sum = omega (arith, ints); rest = record { above = omega (arith, ints); below = positive } }) rest.above (omega (arith, ints))

pub share_fits : (hi x g b : ℤ) → x *ℤ g ≡ b → b ≤ℤ hi → (g *ℤ x) ≤ℤ hi
share_fits hi x g b is most = omega (arith, ints, *ℤ_comm g x)

-- if p/b is a part, then p*y is below x*y*g
pub scaled_below : (p b x y g common : ℤ) → IsPart p b → pos 0 <ℤ y → x *ℤ g ≡ b → common ≡ x *ℤ y → (p *ℤ y) <ℤ (common *ℤ g)
scaled_below p b x y g common part positive b-is common-is =
    let less = part.below in
    let up : ((p +ℤ pos 1) *ℤ y) ≤ℤ (b *ℤ y) = times_le (p +ℤ pos 1) b y (omega (arith, ints)) (omega (arith, ints)) in
    let e : b *ℤ y ≡ common *ℤ g = ap (λ (z : ℤ). z *ℤ y) (sym b-is) ∙ mul-swap_last x g y ∙ sym (mul_assoc x y g) ∙ ap (λ (z : ℤ). z *ℤ g) (sym common-is) in
    omega (arith, ints, more-times p y)

pub scaled_room : (hi n common g : ℤ) → n <ℤ (common *ℤ g) → common ≤ℤ hi → pos 0 <ℤ g → n <ℤ (hi *ℤ g)
scaled_room hi n common g less most positive =
    let up : (common *ℤ g) ≤ℤ (hi *ℤ g) = times_le common hi g most (omega (arith, ints)) in
    omega (arith, ints)

-- the quotient of the resulting numerator, and that numerator, are in range
pub quotient_held_by : (lo hi q common f : ℤ) → IsRange lo hi → IsPart q common → pos 0 <ℤ f → IsHeld lo hi (common *ℤ f) → IsHeld lo hi (q *ℤ f)
quotient_held_by lo hi q common f range quotient positive held =
    let less = quotient.below in
    from_zero_held lo hi (q *ℤ f) (common *ℤ f) range held (up_product q f quotient.above (omega (arith, ints))) (times_le q common f (omega (arith, ints)) (omega (arith, ints)))

pub numer_held_by : (lo hi q common f m product : ℤ) → IsRange lo hi → IsPart q common → IsPart m f → product ≡ q *ℤ f → IsHeld lo hi (common *ℤ f) → IsHeld lo hi (product +ℤ m)
numer_held_by lo hi q common f m product range quotient part product-is held =
    let above : pos 0 ≤ℤ (q *ℤ f +ℤ m) = whole_above q f m quotient.above part in
    let below : (q *ℤ f +ℤ m) <ℤ (common *ℤ f) = whole_below q f m common quotient.below part in
    from_zero_held lo hi (product +ℤ m) (common *ℤ f) range held (omega (arith, ints)) (omega (arith, ints))

-- ---- sums by quotients and rests

pub carried_total : (x0 x1 y0 y1 g common k s more carry q : ℤ) → x1 +ℤ y1 ≡ k *ℤ g +ℤ s → more ≡ y0 +ℤ k → x0 +ℤ more ≡ carry *ℤ common +ℤ q
    → (x0 *ℤ g +ℤ x1) +ℤ (y0 *ℤ g +ℤ y1) ≡ (carry *ℤ common +ℤ q) *ℤ g +ℤ s
carried_total x0 x1 y0 y1 g common k s more carry q rests more-is quotients =
    let all : (carry *ℤ common +ℤ q) *ℤ g ≡ x0 *ℤ g +ℤ (y0 *ℤ g +ℤ k *ℤ g) =
    ap (λ (z : ℤ). z *ℤ g) (sym quotients ∙ ap (λ (z : ℤ). x0 +ℤ z) more-is) ∙ add-mul x0 (y0 +ℤ k) g ∙ ap (λ (z : ℤ). x0 *ℤ g +ℤ z) (add-mul y0 k g) in
    omega (arith, ints)

pub scaled_divided : (n factor g q rest more left product sum : ℤ) → IsDivided n g q rest → IsDivided (rest *ℤ factor) g more left → product ≡ q *ℤ factor → sum ≡ product +ℤ more → IsDivided (n *ℤ factor) g sum left
scaled_divided n factor g q rest more left product sum first second product-is sum-is =
    let a = second.sum in
    let all : n *ℤ factor ≡ (q *ℤ factor) *ℤ g +ℤ rest *ℤ factor =
    ap (λ (z : ℤ). z *ℤ factor) first.sum ∙ add-mul (q *ℤ g) rest factor ∙ ap (λ (z : ℤ). z +ℤ rest *ℤ factor) (mul-swap_last q g factor ∙ sym (mul_assoc q factor g)) in
    let both : sum *ℤ g ≡ (q *ℤ factor) *ℤ g +ℤ more *ℤ g = ap (λ (z : ℤ). z *ℤ g) (sum-is ∙ ap (λ (z : ℤ). z +ℤ more) product-is) ∙ add-mul (q *ℤ factor) more g in
    record { sum = omega (arith, ints); rest = second.rest }

-- the quotient by parts is in range if the whole quotient is below the greatest number
module _ (lo hi n factor g q rest more left : ℤ) (range : IsRange lo hi) (some : pos 0 ≤ℤ n) (positive : pos 0 <ℤ factor) (room : (n *ℤ factor) <ℤ (hi *ℤ g)) (first : IsDivided n g q rest) (second : IsDivided (rest *ℤ factor) g more left) where
  whole_part : IsPart (q *ℤ factor +ℤ more) hi
  whole_part =
      quotient_part (n *ℤ factor) g (q *ℤ factor +ℤ more) left hi
      (scaled_divided n factor g q rest more left _ _ first second refl refl)
      (up_product n factor some (from_positive factor positive)) room

  first_above : pos 0 ≤ℤ (q *ℤ factor)
  first_above = up_product q factor (quotient_above n g q rest first some) (from_positive factor positive)

  more_above : pos 0 ≤ℤ more
  more_above = quotient_above (rest *ℤ factor) g more left second (up_product rest factor first.rest.above (from_positive factor positive))

  pub scaled_held : IsHeld lo hi (q *ℤ factor)
  scaled_held =
      let low = low_below lo hi range in
      let a = first_above in
      let b = more_above in
      let c = whole_part.below in
      record { above = omega (arith, ints); below = omega (arith, ints) }

  pub whole_held : (product : ℤ) → product ≡ q *ℤ factor → IsHeld lo hi (product +ℤ more)
  whole_held product is =
      let low = low_below lo hi range in
      let a = first_above in
      let b = more_above in
      let c = whole_part.below in
      record { above = omega (arith, ints); below = omega (arith, ints) }

pub divided_by_one : (n factor g q rest : ℤ) → factor ≡ pos 1 → IsDivided n g q rest → IsDivided (n *ℤ factor) g q rest
unfolding one
divided_by_one n factor g q rest single is = record { sum = ap (λ (z : ℤ). n *ℤ z) single ∙ *ℤ-one n ∙ is.sum; rest = is.rest }

-- ---- the result

-- the pair is the sum: the numerator over the denominators is k times common and q, as a quotient by g, and s
pub is_sum : (lo hi p b r d g x y s h m f q common denom u : ℤ) (carry : Bool) → AreShares p b r d g x y (carried carry *ℤ common +ℤ q) s h m f → common ≡ x *ℤ y → IsPart q common → IsPart s g
    → IsHeld lo hi (common *ℤ f) × (denom ≡ common *ℤ f) → u ≡ q *ℤ f +ℤ m → IsPartsSum lo hi (p *ℤ d +ℤ r *ℤ b, b *ℤ d) carry u denom
is_sum lo hi p b r d g x y s h m f q common denom u carry is common-is quotient rest denom-is u-is =
    let k = carried carry in
    let part : IsPart m f = rest_part s g h m f rest is.rest_divisor is.s_is is.g_is in
    let numer : (k *ℤ common +ℤ q) *ℤ f +ℤ m ≡ k *ℤ denom +ℤ u =
    ap (λ (z : ℤ). z +ℤ m) (add-mul (k *ℤ common) q f ∙ ap (λ (z : ℤ). z +ℤ q *ℤ f) (mul_assoc k common f ∙ ap (λ (z : ℤ). k *ℤ z) (sym denom-is.1)))
    ∙ regroup (k *ℤ denom) (q *ℤ f) m u u-is in
    let below : (x *ℤ y) *ℤ f ≡ denom = ap (λ (z : ℤ). z *ℤ f) (sym common-is) ∙ sym denom-is.1 in
    record {
      terms = subst (λ (z : ℤ). IsLowestTermsOf (p *ℤ d +ℤ r *ℤ b) (b *ℤ d) z denom) numer (
          subst (λ (z : ℤ). IsLowestTermsOf (p *ℤ d +ℤ r *ℤ b) (b *ℤ d) ((k *ℤ common +ℤ q) *ℤ f +ℤ m) z) below (
          lowest p b r d g x y (k *ℤ common +ℤ q) s h m f is));
      part = rw (u-is, denom-is.1) (record { above = whole_above q f m quotient.above part; below = whole_below q f m common quotient.below part });
      denom_held = rw denom-is.1 denom-is.0;
    }
  where
    regroup : (a c m u : ℤ) → u ≡ c +ℤ m → (a +ℤ c) +ℤ m ≡ a +ℤ u
    regroup a c m u e = omega (arith, ints)
