-- Fractions as pairs that are not reduced: equal values have equal results, and calls that undo one another.
use Rattle.std.specs.Prelude.{◌≡◌, ◌≢◌, ◌+◌, ◌*◌, ◌≤ℤ◌, ◌<ℤ◌, ◌+ℤ◌, ◌-ℤ◌, ◌*ℤ◌, ℤ, pos, negsuc, neg_ℤ, unsigned_abs, Option, None, Some}
use Rattle.std.specs.Cmp.{int_ranks}
use Rattle.std.specs.Ordering.{MatchOrdering, int_cmp}
use Rattle.std.specs.declared.cmp.Ordering.{Ordering}
use Rattle.std.specs.declared.cmp.Ordering.TheVariants.{Less, Equal, Greater}
use Rattle.std.proofs.Common.{refl, sym, ap, arith, inl, inr, ◌∙◌}
use Rattle.std.proofs.lemmas.Int.{ints, unsigned_abs-mul}
use borrow.Author.Differences.{up, down, product_is, same_in}
use lib.IntN.{*ℤ_comm}
use Rattle.ratio_integer.specs.Arithmetic.{product_of}
use Rattle.ratio_integer.specs.Fraction.{ChecksLowest, Fits, IsHeldLowest, IsLowestTermsOf, SameValue}
use Rattle.ratio_integer.proofs.LowestTerms.{checks_lowest_moved, same_value_chained, same_value_products}
use Rattle.ratio_integer.proofs.Whole.{add-mul, mul_assoc, mul_cancel, mul_nonzero, mul_positive, mul-swap_inner, neg-mul, positive_nonzero, sub-mul, unsigned_abs-products}
use Rattle.ratio_core.specs.Order.{HaveUnlikeSigns, cross_cmp}
use Rattle.ratio_core.proofs.CrossOrder.{cross-along}
use Rattle.ratio_core.proofs.LawLemmas.{same_value_sums}
use Rattle.ratio_core.proofs.MixedLemmas.{difference_turned}
use Rattle.ratio_core.proofs.OrderLaws.{scaled_cmp}

-- ---- equal values have equal results

pub same_value_negatives : (a b p q : ℤ) → SameValue a b p q → SameValue (neg_ℤ a) b (neg_ℤ p) q
same_value_negatives a b p q same = neg-mul a q ∙ ap neg_ℤ same ∙ sym (neg-mul p b)

pub same_value_differences : (a b c d p q s t : ℤ) → SameValue a b p q → SameValue c d s t → SameValue (a *ℤ d -ℤ c *ℤ b) (b *ℤ d) (p *ℤ t -ℤ s *ℤ q) (q *ℤ t)
same_value_differences a b c d p q s t left right =
    rw (← difference_turned a b c d, ← difference_turned p q s t) (same_value_sums a b (neg_ℤ c) d p q (neg_ℤ s) t left (same_value_negatives c d s t right))

-- a value and its reciprocal
pub same_value_flipped : (a b p q : ℤ) → SameValue a b p q → SameValue b a q p
same_value_flipped a b p q same = *ℤ_comm b p ∙ sym same ∙ *ℤ_comm a q

pub same_value_quotients : (a b c d p q s t : ℤ) → SameValue a b p q → SameValue c d s t → SameValue (a *ℤ d) (b *ℤ c) (p *ℤ t) (q *ℤ s)
same_value_quotients a b c d p q s t left right = same_value_products a b d c p q t s left (same_value_flipped c d s t right)

zero_times : (z : ℤ) → pos 0 *ℤ z ≡ pos 0
zero_times z = omega (arith, ints)

-- of two equal values, one is not 0 if the other is not
pub numer_nonzero : (a b p q : ℤ) → q ≢ pos 0 → SameValue a b p q → a ≢ pos 0 → p ≢ pos 0
numer_nonzero a b p q q_nonzero same nonzero none =
    nonzero (mul_cancel a (pos 0) q q_nonzero (same ∙ ap (λ (t : ℤ). t *ℤ b) none ∙ zero_times b ∙ sym (zero_times q)))

-- a product with the lowest terms of a pair fits exactly if the product with the pair does, and has the same lowest terms
module _ (lo hi : ℤ) (x t y : ℤ × ℤ) (low : IsLowestTermsOf x.0 x.1 t.0 t.1) (positive : pos 0 <ℤ y.1) where
  moved : (r : Option (ℤ × ℤ)) → ChecksLowest (λ p. p.0) (λ p. p.1) lo hi (product_of t.0 t.1 y.0 y.1) r → ChecksLowest (λ p. p.0) (λ p. p.1) lo hi (product_of x.0 x.1 y.0 y.1) r
  moved r =
      let fraction = positive_nonzero y.1 positive in
      checks_lowest_moved (λ p. p.0) (λ p. p.1) lo hi (t.0 *ℤ y.0) (t.1 *ℤ y.1) (x.0 *ℤ y.0) (x.1 *ℤ y.1) r
      (mul_nonzero t.1 y.1 (positive_nonzero t.1 low.lowest.positive) fraction)
      (mul_nonzero x.1 y.1 low.fraction fraction)
      (same_value_products x.0 x.1 y.0 y.1 t.0 t.1 y.0 y.1 low.same refl)

  pub product_held : (a b : ℤ) → IsHeldLowest lo hi (t.0 *ℤ y.0) (t.1 *ℤ y.1) a b → IsHeldLowest lo hi (x.0 *ℤ y.0) (x.1 *ℤ y.1) a b
  product_held a b held = moved (Some (a, b)) held

  pub product_out : ¬ (Fits lo hi (t.0 *ℤ y.0) (t.1 *ℤ y.1)) → ¬ (Fits lo hi (x.0 *ℤ y.0) (x.1 *ℤ y.1))
  product_out out = moved None out

-- ---- products of the same factors

up-mul : (a b : ℤ) → up (a *ℤ b) ≡ up a * up b + down a * down b
up-mul a b = (product_is a b).0

down-mul : (a b : ℤ) → down (a *ℤ b) ≡ up a * down b + down a * up b
down-mul a b = (product_is a b).1

-- ((a*d)*d)*b = a*((b*d)*d)
square_moved : (a b d : ℤ) → ((a *ℤ d) *ℤ d) *ℤ b ≡ a *ℤ ((b *ℤ d) *ℤ d)
square_moved a b d = same_in _ _ (simp (up-mul, down-mul) (omega arith))

-- ((a*c)*d)*b = a*((b*d)*c)
factors_moved : (a b c d : ℤ) → ((a *ℤ c) *ℤ d) *ℤ b ≡ a *ℤ ((b *ℤ d) *ℤ c)
factors_moved a b c d = same_in _ _ (simp (up-mul, down-mul) (omega arith))

-- ((t*c)*q)*b = (t*(c*b))*q
pub factors_turned : (t c q b : ℤ) → ((t *ℤ c) *ℤ q) *ℤ b ≡ (t *ℤ (c *ℤ b)) *ℤ q
factors_turned t c q b = same_in _ _ (simp (up-mul, down-mul) (omega arith))

-- ---- undoing

sum_back : (a b c d : ℤ) → SameValue ((a *ℤ d +ℤ c *ℤ b) *ℤ d -ℤ c *ℤ (b *ℤ d)) ((b *ℤ d) *ℤ d) a b
sum_back a b c d =
    let e = add-mul (a *ℤ d) (c *ℤ b) d in
    let f = mul_assoc c b d in
    let numer : (a *ℤ d +ℤ c *ℤ b) *ℤ d -ℤ c *ℤ (b *ℤ d) ≡ (a *ℤ d) *ℤ d = omega (arith, ints) in
    ap (λ (t : ℤ). t *ℤ b) numer ∙ square_moved a b d

difference_back : (a b c d : ℤ) → SameValue ((a *ℤ d -ℤ c *ℤ b) *ℤ d +ℤ c *ℤ (b *ℤ d)) ((b *ℤ d) *ℤ d) a b
difference_back a b c d =
    let e = sub-mul (a *ℤ d) (c *ℤ b) d in
    let f = mul_assoc c b d in
    let numer : (a *ℤ d -ℤ c *ℤ b) *ℤ d +ℤ c *ℤ (b *ℤ d) ≡ (a *ℤ d) *ℤ d = omega (arith, ints) in
    ap (λ (t : ℤ). t *ℤ b) numer ∙ square_moved a b d

-- s/t is the result for a/b and c/d, where b, c and d are not 0 if they are divided by
module _ (a b c d s t : ℤ) (b_nonzero : b ≢ pos 0) (d_nonzero : d ≢ pos 0) where
  pub sum_undone : SameValue (a *ℤ d +ℤ c *ℤ b) (b *ℤ d) s t → SameValue (s *ℤ d -ℤ c *ℤ t) (t *ℤ d) a b
  sum_undone same =
      same_value_chained _ _ ((a *ℤ d +ℤ c *ℤ b) *ℤ d -ℤ c *ℤ (b *ℤ d)) ((b *ℤ d) *ℤ d) a b
      (mul_nonzero (b *ℤ d) d (mul_nonzero b d b_nonzero d_nonzero) d_nonzero)
      (same_value_differences s t c d (a *ℤ d +ℤ c *ℤ b) (b *ℤ d) c d (sym same) refl)
      (sum_back a b c d)

  pub difference_undone : SameValue (a *ℤ d -ℤ c *ℤ b) (b *ℤ d) s t → SameValue (s *ℤ d +ℤ c *ℤ t) (t *ℤ d) a b
  difference_undone same =
      same_value_chained _ _ ((a *ℤ d -ℤ c *ℤ b) *ℤ d +ℤ c *ℤ (b *ℤ d)) ((b *ℤ d) *ℤ d) a b
      (mul_nonzero (b *ℤ d) d (mul_nonzero b d b_nonzero d_nonzero) d_nonzero)
      (same_value_sums s t c d (a *ℤ d -ℤ c *ℤ b) (b *ℤ d) c d (sym same) refl)
      (difference_back a b c d)

  pub product_undone : c ≢ pos 0 → SameValue (a *ℤ c) (b *ℤ d) s t → SameValue (s *ℤ d) (t *ℤ c) a b
  product_undone c_nonzero same =
      same_value_chained _ _ ((a *ℤ c) *ℤ d) ((b *ℤ d) *ℤ c) a b
      (mul_nonzero (b *ℤ d) c (mul_nonzero b d b_nonzero d_nonzero) c_nonzero)
      (same_value_quotients s t c d (a *ℤ c) (b *ℤ d) c d (sym same) refl)
      (factors_moved a b c d)

  pub quotient_undone : c ≢ pos 0 → SameValue (a *ℤ d) (b *ℤ c) s t → SameValue (s *ℤ c) (t *ℤ d) a b
  quotient_undone c_nonzero same =
      same_value_chained _ _ ((a *ℤ d) *ℤ c) ((b *ℤ c) *ℤ d) a b
      (mul_nonzero (b *ℤ c) d (mul_nonzero b c b_nonzero c_nonzero) d_nonzero)
      (same_value_products s t c d (a *ℤ d) (b *ℤ c) c d (sym same) refl)
      (factors_moved a b d c)

pub none_left : (a b : ℤ) → SameValue (a *ℤ b -ℤ a *ℤ b) (b *ℤ b) (pos 0) (pos 1)
none_left a b = let none : a *ℤ b -ℤ a *ℤ b ≡ pos 0 = omega (arith, ints) in ap (λ (t : ℤ). t *ℤ pos 1) none ∙ omega (arith, ints)

-- ---- 0 and 1

-- fractions with the same numbers have the same value
pub same_numbers : (n d m e : ℤ) → n ≡ m → d ≡ e → SameValue n d m e
same_numbers n d m e first second = ap (λ (t : ℤ). n *ℤ t) (sym second) ∙ ap (λ (t : ℤ). t *ℤ d) first

pub plus_zero : (a b : ℤ) → SameValue (a *ℤ pos 1 +ℤ pos 0 *ℤ b) (b *ℤ pos 1) a b
plus_zero a b = same_numbers _ _ a b (omega (arith, ints)) (omega (arith, ints))

pub zero_plus : (a b : ℤ) → SameValue (pos 0 *ℤ b +ℤ a *ℤ pos 1) (pos 1 *ℤ b) a b
zero_plus a b = same_numbers _ _ a b (omega (arith, ints)) (omega (arith, ints))

pub times_one : (a b : ℤ) → SameValue (a *ℤ pos 1) (b *ℤ pos 1) a b
times_one a b = same_numbers _ _ a b (omega (arith, ints)) (omega (arith, ints))

pub one_times : (a b : ℤ) → SameValue (pos 1 *ℤ a) (pos 1 *ℤ b) a b
one_times a b = same_numbers _ _ a b (omega (arith, ints)) (omega (arith, ints))

pub times_zero : (a b : ℤ) → SameValue (a *ℤ pos 0) (b *ℤ pos 1) (pos 0) (pos 1)
times_zero a b = let none : a *ℤ pos 0 ≡ pos 0 = omega (arith, ints) in ap (λ (t : ℤ). t *ℤ pos 1) none ∙ omega (arith, ints)

-- ---- absolute values

pub same_value_absolutes : (a b p q : ℤ) → pos 0 <ℤ b → pos 0 <ℤ q → SameValue a b p q → SameValue (pos (unsigned_abs a)) b (pos (unsigned_abs p)) q
same_value_absolutes a (pos b) p (pos q) up above same = ap pos (unsigned_abs-products a (pos q) p (pos b) same)
same_value_absolutes a (negsuc b) p q up above same = absurd (omega (arith, ints))
same_value_absolutes a (pos b) p (negsuc q) up above same = absurd (omega (arith, ints))

pub absolute_times : (a d : ℤ) → pos 0 <ℤ d → pos (unsigned_abs (a *ℤ d)) ≡ pos (unsigned_abs a) *ℤ d
absolute_times a (pos d) up = ap pos (unsigned_abs-mul a (pos d))
absolute_times a (negsuc d) up = absurd (omega (arith, ints))

pub absolute_product : (a c : ℤ) → pos (unsigned_abs (a *ℤ c)) ≡ pos (unsigned_abs a) *ℤ pos (unsigned_abs c)
absolute_product a c = ap pos (unsigned_abs-mul a c)

-- ---- the order of values

-- for positive denominators the cross products decide
pub cross_positive : (n d m e : ℤ) → pos 0 <ℤ d → pos 0 <ℤ e → cross_cmp n d m e ≡ int_cmp (n *ℤ e) (m *ℤ d)
cross_positive n d m e up above = cross-along n d m e (positive_nonzero d up) (positive_nonzero e above) like
  where
    like : ¬ (HaveUnlikeSigns d e)
    like (inl h) = omega (arith, ints, h.0)
    like (inr h) = omega (arith, ints, h.1)

pub scaled_by : (x y k : ℤ) → pos 0 <ℤ k → int_cmp (x *ℤ k) (y *ℤ k) ≡ int_cmp x y
scaled_by x y (pos k) up = scaled_cmp x y k (omega (arith, ints))
scaled_by x y (negsuc k) up = absurd (omega (arith, ints))

-- (a*d)*(e*f) = (a*f)*(d*e)
outer_last : (a d e f : ℤ) → (a *ℤ d) *ℤ (e *ℤ f) ≡ (a *ℤ f) *ℤ (d *ℤ e)
outer_last a d e f = same_in _ _ (simp (up-mul, down-mul) (omega arith))

-- (m*d)*(b*f) = (m*f)*(b*d)
outer_turned : (m d b f : ℤ) → (m *ℤ d) *ℤ (b *ℤ f) ≡ (m *ℤ f) *ℤ (b *ℤ d)
outer_turned m d b f = same_in _ _ (simp (up-mul, down-mul) (omega arith))

-- (c*e)*(b*d) = (c*b)*(d*e)
inner_last : (c e b d : ℤ) → (c *ℤ e) *ℤ (b *ℤ d) ≡ (c *ℤ b) *ℤ (d *ℤ e)
inner_last c e b d = same_in _ _ (simp (up-mul, down-mul) (omega arith))

left_moved : (n d e a b f : ℤ) → SameValue n d a b → (n *ℤ e) *ℤ (b *ℤ f) ≡ (a *ℤ f) *ℤ (d *ℤ e)
left_moved n d e a b f same = mul-swap_inner n e b f ∙ ap (λ (t : ℤ). t *ℤ (e *ℤ f)) same ∙ outer_last a d e f

right_moved : (m d e b c f : ℤ) → SameValue m e c f → (m *ℤ d) *ℤ (b *ℤ f) ≡ (c *ℤ b) *ℤ (d *ℤ e)
right_moved m d e b c f same = outer_turned m d b f ∙ ap (λ (t : ℤ). t *ℤ (b *ℤ d)) same ∙ inner_last c e b d

-- replacing both fractions by others of the same values keeps the order
pub order_moved : (n d m e a b c f : ℤ) → pos 0 <ℤ d → pos 0 <ℤ e → pos 0 <ℤ b → pos 0 <ℤ f → SameValue n d a b → SameValue m e c f → cross_cmp n d m e ≡ cross_cmp a b c f
order_moved n d m e a b c f d_up e_up b_up f_up first second =
    cross_positive n d m e d_up e_up
    ∙ sym (scaled_by (n *ℤ e) (m *ℤ d) (b *ℤ f) (mul_positive b f b_up f_up))
    ∙ ap (λ (t : ℤ). int_cmp t ((m *ℤ d) *ℤ (b *ℤ f))) (left_moved n d e a b f first)
    ∙ ap (λ (t : ℤ). int_cmp ((a *ℤ f) *ℤ (d *ℤ e)) t) (right_moved m d e b c f second)
    ∙ scaled_by (a *ℤ f) (c *ℤ b) (d *ℤ e) (mul_positive d e d_up e_up)
    ∙ sym (cross_positive a b c f b_up f_up)

not_greater : (x y : ℤ) → x ≤ℤ y → (o : Ordering) → MatchOrdering o (x <ℤ y) (x ≡ y) (y <ℤ x) → o ≢ Greater
not_greater x y h Less m e = let f : Less ≡ Greater = e in cc
not_greater x y h Equal m e = let f : Equal ≡ Greater = e in cc
not_greater x y h Greater m e = omega (arith, ints)

pub at_most_not_greater : (n d m e : ℤ) → pos 0 <ℤ d → pos 0 <ℤ e → (n *ℤ e) ≤ℤ (m *ℤ d) → cross_cmp n d m e ≢ Greater
at_most_not_greater n d m e up above h = rw (cross_positive n d m e up above) (not_greater (n *ℤ e) (m *ℤ d) h (int_cmp (n *ℤ e) (m *ℤ d)) (int_ranks (n *ℤ e) (m *ℤ d)))
