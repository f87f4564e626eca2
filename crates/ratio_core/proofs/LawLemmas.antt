-- Equal values have equal sums and products, and the laws that follow from this.
use Rattle.std.specs.Prelude.{◌≡◌, ◌≢◌, ◌<ℤ◌, ◌*ℤ◌, ◌+ℤ◌, ◌-ℤ◌, ℤ, true, false, pos, int_div}
use Rattle.std.proofs.Common.{refl, sym, ap, ◌∙◌}
use lib.IntN.{*ℤ_comm, *ℤ-zero, +ℤ_assoc, +ℤ_comm, zero-*ℤ}
use Rattle.ratio_integer.specs.Arithmetic.{IsLeastCommon, SumHeld}
use Rattle.ratio_integer.specs.Division.{IsGcdOf}
use Rattle.ratio_integer.specs.Fraction.{Fits, IsLowestTermsOf, SameValue}
use Rattle.ratio_integer.specs.Range.{IsHeld, IsRange}
use Rattle.ratio_integer.proofs.CommonDivisors.{gcd_exists}
use Rattle.ratio_integer.proofs.LowestTerms.{gcd_held_positive, held_lowest_moved, held_lowest_quotients, lowest_equal, lowest_moved, same_value_products}
use Rattle.ratio_integer.proofs.Whole.{add-mul, mul-add, mul_assoc, mul_nonzero, mul-swap_inner, mul-swap_last, positive_nonzero, sub-mul}
use Rattle.ratio_core.specs.Laws.{FormedDifferencesFit, FormedSumsFit, IsProduct, IsSum, ProductsAssociate, ProductsCommute, ProductsDistribute, SumConditionsCommute, SumsAssociate, SumsCommute}
use Rattle.ratio_core.proofs.SumLemmas.{fits_by, formed_same}

-- ---- the same values

sums_same : {x y z w : ℤ} → x ≡ y → z ≡ w → x +ℤ z ≡ y +ℤ w
sums_same {x} {y} {z} {w} e f = ap (λ (t : ℤ). t +ℤ z) e ∙ ap (λ (t : ℤ). y +ℤ t) f

pub same_value_sums : (a b c d p q s t : ℤ) → SameValue a b p q → SameValue c d s t → SameValue (a *ℤ d +ℤ c *ℤ b) (b *ℤ d) (p *ℤ t +ℤ s *ℤ q) (q *ℤ t)
same_value_sums a b c d p q s t left right =
    add-mul (a *ℤ d) (c *ℤ b) (q *ℤ t)
    ∙ sums_same (crossed a b d q t p left) (ap (λ (z : ℤ). (c *ℤ b) *ℤ z) (*ℤ_comm q t) ∙ crossed c d b t q s right ∙ ap (λ (z : ℤ). (s *ℤ q) *ℤ z) (*ℤ_comm d b))
    ∙ sym (add-mul (p *ℤ t) (s *ℤ q) (b *ℤ d))
  where
    crossed : (a b d q t p : ℤ) → SameValue a b p q → (a *ℤ d) *ℤ (q *ℤ t) ≡ (p *ℤ t) *ℤ (b *ℤ d)
    crossed a b d q t p same = mul-swap_inner a d q t ∙ ap (λ (z : ℤ). z *ℤ (d *ℤ t)) same ∙ ap (λ (z : ℤ). (p *ℤ b) *ℤ z) (*ℤ_comm d t) ∙ mul-swap_inner p b t d

-- fractions with the same numbers have the same value
same_numbers : (n d m e : ℤ) → n ≡ m → d ≡ e → SameValue n d m e
same_numbers n d m e first second = ap (λ (t : ℤ). n *ℤ t) (sym second) ∙ ap (λ (t : ℤ). t *ℤ d) first

-- multiplying both numbers by m does not change the value
same_multiplied : (m n d : ℤ) → SameValue n d (m *ℤ n) (m *ℤ d)
same_multiplied m n d = sym (mul_assoc n m d) ∙ ap (λ (t : ℤ). t *ℤ d) (*ℤ_comm n m)

left_nonzero : (b d : ℤ) → b *ℤ d ≢ pos 0 → b ≢ pos 0
left_nonzero b d nonzero e = nonzero (ap (λ (t : ℤ). t *ℤ d) e ∙ zero-*ℤ d)

right_nonzero : (b d : ℤ) → b *ℤ d ≢ pos 0 → d ≢ pos 0
right_nonzero b d nonzero e = nonzero (ap (λ (t : ℤ). b *ℤ t) e ∙ *ℤ-zero b)

-- pairs with the same numbers are equal
one_pair : (x y : ℤ × ℤ) → (x.0 ≡ y.0) × (x.1 ≡ y.1) → x ≡ y
one_pair x y same = ap (λ (t : ℤ). (t, x.1)) same.0 ∙ ap (λ (t : ℤ). (y.0, t)) same.1

-- fractions of the same value have the same lowest terms
one_lowest : (n d m e : ℤ) (x y : ℤ × ℤ) → SameValue n d m e → IsLowestTermsOf n d x.0 x.1 → IsLowestTermsOf m e y.0 y.1 → x ≡ y
one_lowest n d m e x y same first second = one_pair x y (lowest_equal n d m e x.0 x.1 y.0 y.1 same first second)

-- ---- an operand may be replaced by its lowest terms

-- x is the lowest terms of n/d
module _ (n d : ℤ) (x y z : ℤ × ℤ) (low : IsLowestTermsOf n d x.0 x.1) where
  pub sum_by_left : IsSum x y z → IsSum (n, d) y z
  sum_by_left is = lowest_moved _ _ _ _ z.0 z.1
      (mul_nonzero d y.1 low.fraction (right_nonzero x.1 y.1 is.fraction))
      (same_value_sums n d y.0 y.1 x.0 x.1 y.0 y.1 low.same refl) is

  pub sum_by_right : IsSum y x z → IsSum y (n, d) z
  sum_by_right is = lowest_moved _ _ _ _ z.0 z.1
      (mul_nonzero y.1 d (left_nonzero y.1 x.1 is.fraction) low.fraction)
      (same_value_sums y.0 y.1 n d y.0 y.1 x.0 x.1 refl low.same) is

  pub product_by_left : IsProduct x y z → IsProduct (n, d) y z
  product_by_left is = lowest_moved _ _ _ _ z.0 z.1
      (mul_nonzero d y.1 low.fraction (right_nonzero x.1 y.1 is.fraction))
      (same_value_products n d y.0 y.1 x.0 x.1 y.0 y.1 low.same refl) is

  pub product_by_right : IsProduct y x z → IsProduct y (n, d) z
  product_by_right is = lowest_moved _ _ _ _ z.0 z.1
      (mul_nonzero y.1 d (left_nonzero y.1 x.1 is.fraction) low.fraction)
      (same_value_products y.0 y.1 n d y.0 y.1 x.0 x.1 refl low.same) is

-- ---- the laws

pub sums_commute : SumsCommute
sums_commute x y left right first second =
    one_lowest _ _ _ _ left right (same_numbers _ _ _ _ (+ℤ_comm (x.0 *ℤ y.1) (y.0 *ℤ x.1)) (*ℤ_comm x.1 y.1)) first second

pub products_commute : ProductsCommute
products_commute x y left right first second =
    one_lowest _ _ _ _ left right (same_numbers _ _ _ _ (*ℤ_comm x.0 y.0) (*ℤ_comm x.1 y.1)) first second

-- the numerators of (a/b + c/d) + e/f and a/b + (c/d + e/f)
sums_numer : (a b c d e f : ℤ) → (a *ℤ d +ℤ c *ℤ b) *ℤ f +ℤ e *ℤ (b *ℤ d) ≡ a *ℤ (d *ℤ f) +ℤ (c *ℤ f +ℤ e *ℤ d) *ℤ b
sums_numer a b c d e f =
    ap (λ (t : ℤ). t +ℤ e *ℤ (b *ℤ d)) (add-mul (a *ℤ d) (c *ℤ b) f)
    ∙ +ℤ_assoc ((a *ℤ d) *ℤ f) ((c *ℤ b) *ℤ f) (e *ℤ (b *ℤ d))
    ∙ sums_same (mul_assoc a d f) (sums_same (mul-swap_last c b f ∙ sym (mul_assoc c f b)) (sym (mul-swap_last e d b)))
    ∙ ap (λ (t : ℤ). a *ℤ (d *ℤ f) +ℤ t) (sym (add-mul (c *ℤ f) (e *ℤ d) b))

pub sums_associate : SumsAssociate
sums_associate x y z xy yz left right first second third fourth =
    one_lowest _ _ _ _ left right
    (same_numbers _ _ _ _ (sums_numer x.0 x.1 y.0 y.1 z.0 z.1) (mul_assoc x.1 y.1 z.1))
    (sum_by_left _ _ xy z left first second)
    (sum_by_right _ _ yz x right third fourth)

pub products_associate : ProductsAssociate
products_associate x y z xy yz left right first second third fourth =
    one_lowest _ _ _ _ left right
    (same_numbers _ _ _ _ (mul_assoc x.0 y.0 z.0) (mul_assoc x.1 y.1 z.1))
    (product_by_left _ _ xy z left first second)
    (product_by_right _ _ yz x right third fourth)

-- the numerators of a/b * (c/d + e/f), expanded by b, and of a/b * c/d + a/b * e/f
spread_numer : (a b c d e f : ℤ) → b *ℤ (a *ℤ (c *ℤ f +ℤ e *ℤ d)) ≡ (a *ℤ c) *ℤ (b *ℤ f) +ℤ (a *ℤ e) *ℤ (b *ℤ d)
spread_numer a b c d e f =
    sym (mul_assoc b a (c *ℤ f +ℤ e *ℤ d))
    ∙ mul-add (b *ℤ a) (c *ℤ f) (e *ℤ d)
    ∙ sums_same (ap (λ (t : ℤ). t *ℤ (c *ℤ f)) (*ℤ_comm b a) ∙ mul-swap_inner a b c f) (ap (λ (t : ℤ). t *ℤ (e *ℤ d)) (*ℤ_comm b a) ∙ mul-swap_inner a b e d)

spread_denom : (b d f : ℤ) → b *ℤ (b *ℤ (d *ℤ f)) ≡ (b *ℤ d) *ℤ (b *ℤ f)
spread_denom b d f = sym (mul_assoc b b (d *ℤ f)) ∙ mul-swap_inner b b d f

spread_same : (a b c d e f : ℤ) → SameValue (a *ℤ (c *ℤ f +ℤ e *ℤ d)) (b *ℤ (d *ℤ f)) ((a *ℤ c) *ℤ (b *ℤ f) +ℤ (a *ℤ e) *ℤ (b *ℤ d)) ((b *ℤ d) *ℤ (b *ℤ f))
spread_same a b c d e f =
    rw (← spread_numer a b c d e f, ← spread_denom b d f) (same_multiplied b (a *ℤ (c *ℤ f +ℤ e *ℤ d)) (b *ℤ (d *ℤ f)))

pub products_distribute : ProductsDistribute
products_distribute x y z yz left xy xz right sum whole first second parts =
    one_lowest _ _ _ _ left right
    (spread_same x.0 x.1 y.0 y.1 z.0 z.1)
    (product_by_right _ _ yz x left sum whole)
    (sum_by_left _ _ xy (x.0 *ℤ z.0, x.1 *ℤ z.1) right first (sum_by_right _ _ xz xy right second parts))

-- ---- the conditions

common_turned : (b d l : ℤ) → IsLeastCommon b d l → IsLeastCommon d b l
common_turned b d l is = record { positive = is.positive; first = is.second; second = is.first; least = λ m positive by_d by_b. is.least m positive by_b by_d }

held_turned : (lo hi a b c d : ℤ) → SumHeld lo hi a b c d → SumHeld lo hi c d a b
held_turned lo hi a b c d is = record {
  common = is.common;
  left = is.right;
  right = is.left;
  held = record {
    scaled = record { least = common_turned b d is.common is.held.scaled.least; left = is.held.scaled.right; right = is.held.scaled.left };
    common_held = is.held.common_held;
    left_held = is.held.right_held;
    right_held = is.held.left_held;
  };
  sum_held = rw (+ℤ_comm is.right is.left) is.sum_held;
}

pub sum_conditions_commute : SumConditionsCommute
sum_conditions_commute false lo hi a b c d is = held_turned lo hi a b c d is
sum_conditions_commute true lo hi a b c d is = record {
  numer = is.numer;
  denom = is.denom;
  low = rw (+ℤ_comm (c *ℤ b) (a *ℤ d), *ℤ_comm d b) is.low;
}

-- if two numbers are in range and the second is positive, so are their lowest terms
lowest_fits : (lo hi n d : ℤ) → IsRange lo hi → IsHeld lo hi n → IsHeld lo hi d → pos 0 <ℤ d → Fits lo hi n d
lowest_fits lo hi n d range n_held d_held positive =
    let found : (g : ℤ) × IsGcdOf n d g = gcd_exists n d in
    let divisor_held = (gcd_held_positive lo hi n d range d_held positive).each found.0 found.1 in
    fits_by lo hi n d _ _ (held_lowest_quotients lo hi n d found.0 (int_div n found.0) (int_div d found.0) range n_held d_held divisor_held positive found.1 refl refl)

fits_moved : (lo hi n d m e : ℤ) → e ≢ pos 0 → SameValue m e n d → Fits lo hi n d → Fits lo hi m e
fits_moved lo hi n d m e fraction same fits = fits_by lo hi m e fits.numer fits.denom (held_lowest_moved lo hi n d m e fits.numer fits.denom fraction same fits.low)

pub formed_sums_fit : FormedSumsFit
formed_sums_fit lo hi a b c d range b_positive d_positive is =
    fits_moved lo hi (is.left +ℤ is.right) is.common _ _
    (mul_nonzero b d (positive_nonzero b b_positive) (positive_nonzero d d_positive))
    (formed_same (λ x y. x +ℤ y) add-mul a b c d is.common is.left is.right is.held.scaled)
    (lowest_fits lo hi _ is.common range is.sum_held is.held.common_held is.held.scaled.least.positive)

pub formed_differences_fit : FormedDifferencesFit
formed_differences_fit lo hi a b c d range b_positive d_positive is =
    fits_moved lo hi (is.left -ℤ is.right) is.common _ _
    (mul_nonzero b d (positive_nonzero b b_positive) (positive_nonzero d d_positive))
    (formed_same (λ x y. x -ℤ y) sub-mul a b c d is.common is.left is.right is.held.scaled)
    (lowest_fits lo hi _ is.common range is.difference_held is.held.common_held is.held.scaled.least.positive)
