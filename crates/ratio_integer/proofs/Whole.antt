-- Products of whole numbers. The tactics are linear over ℤ, so the laws of a ring are here, once.
use Rattle.std.specs.Prelude.{◌≡◌, ◌≢◌, ◌+◌, ◌*◌, ◌<ℤ◌, ◌+ℤ◌, ◌-ℤ◌, ◌*ℤ◌, ℤ, zero, suc, pos, negsuc, neg_ℤ, unsigned_abs}
use Rattle.std.proofs.Common.{refl, sym, ap, arith, ◌∙◌}
use Rattle.std.proofs.Math.Nat.{eq_of_mul-eq-mul_right}
use Rattle.std.proofs.lemmas.Int.{ints, unsigned_abs-mul}
use borrow.Author.Differences.{up, down, neg_is, product_is, same_in, sum_is_lem}
use lib.IntN.{*ℤ_comm, zero-*ℤ}

-- ---- a whole number z is the difference up z - down z of natural numbers

up-mul : (a b : ℤ) → up (a *ℤ b) ≡ up a * up b + down a * down b
up-mul a b = (product_is a b).0

down-mul : (a b : ℤ) → down (a *ℤ b) ≡ up a * down b + down a * up b
down-mul a b = (product_is a b).1

up-neg : (a : ℤ) → up (neg_ℤ a) ≡ down a
up-neg a = (neg_is a).0

down-neg : (a : ℤ) → down (neg_ℤ a) ≡ up a
down-neg a = (neg_is a).1

-- ---- the laws of a ring

pub mul_assoc : (a b c : ℤ) → (a *ℤ b) *ℤ c ≡ a *ℤ (b *ℤ c)
mul_assoc a b c = same_in _ _ (simp (up-mul, down-mul) (omega arith))

pub add-mul : (x y z : ℤ) → (x +ℤ y) *ℤ z ≡ x *ℤ z +ℤ y *ℤ z
add-mul x y z = same_in _ _ (omega (
  arith,
  up-mul (x +ℤ y) z,
  down-mul (x +ℤ y) z,
  up-mul x z,
  down-mul x z,
  up-mul y z,
  down-mul y z,
  sum_is_lem (x *ℤ z) (y *ℤ z),
  ap (λ t. t * up z) (sum_is_lem x y),
  ap (λ t. t * down z) (sum_is_lem x y),
))

pub mul-add : (x y z : ℤ) → x *ℤ (y +ℤ z) ≡ x *ℤ y +ℤ x *ℤ z
mul-add x y z = rw (*ℤ_comm x (y +ℤ z), *ℤ_comm x y, *ℤ_comm x z) (add-mul y z x)

pub neg-mul : (y z : ℤ) → neg_ℤ y *ℤ z ≡ neg_ℤ (y *ℤ z)
neg-mul y z = same_in _ _ (simp (up-mul, down-mul, up-neg, down-neg) (omega arith))

pub neg-mul-neg : (a b : ℤ) → neg_ℤ a *ℤ neg_ℤ b ≡ a *ℤ b
neg-mul-neg a b = same_in _ _ (simp (up-mul, down-mul, up-neg, down-neg) (omega arith))

pub sub-mul : (x y z : ℤ) → (x -ℤ y) *ℤ z ≡ x *ℤ z -ℤ y *ℤ z
sub-mul x y z = add-mul x (neg_ℤ y) z ∙ ap (λ (t : ℤ). x *ℤ z +ℤ t) (neg-mul y z)

pub mul-sub : (x y z : ℤ) → x *ℤ (y -ℤ z) ≡ x *ℤ y -ℤ x *ℤ z
mul-sub x y z = rw (*ℤ_comm x (y -ℤ z), *ℤ_comm x y, *ℤ_comm x z) (sub-mul y z x)

-- (a*b)*c = a*(c*b)
pub mul-swap_last : (a b c : ℤ) → (a *ℤ b) *ℤ c ≡ a *ℤ (c *ℤ b)
mul-swap_last a b c = mul_assoc a b c ∙ ap (λ (t : ℤ). a *ℤ t) (*ℤ_comm b c)

-- (a*b)*(c*d) = (a*c)*(b*d)
pub mul-swap_inner : (a b c d : ℤ) → (a *ℤ b) *ℤ (c *ℤ d) ≡ (a *ℤ c) *ℤ (b *ℤ d)
mul-swap_inner a b c d = mul_assoc a b (c *ℤ d) ∙ ap (λ (t : ℤ). a *ℤ t) (sym (mul_assoc b c d) ∙ ap (λ (t : ℤ). t *ℤ d) (*ℤ_comm b c) ∙ mul_assoc c b d) ∙ sym (mul_assoc a c (b *ℤ d))

-- ---- a factor other than 0

-- if d is not 0 and a*d = b*d, then a = b
pub mul_cancel : (a b d : ℤ) → d ≢ pos 0 → a *ℤ d ≡ b *ℤ d → a ≡ b
mul_cancel a b (pos zero) nonzero e = absurd (nonzero refl)
mul_cancel a b (pos (suc k)) nonzero e = same_in a b (omega (
  arith,
  eq_of_mul-eq-mul_right (suc k) (omega arith) (up a) (up b) (omega (arith, ap up e, up-mul a (pos (suc k)), up-mul b (pos (suc k)))),
  eq_of_mul-eq-mul_right (suc k) (omega arith) (down a) (down b) (omega (arith, ap down e, down-mul a (pos (suc k)), down-mul b (pos (suc k)))),
))
mul_cancel a b (negsuc k) nonzero e = same_in a b (omega (
  arith,
  eq_of_mul-eq-mul_right (suc k) (omega arith) (down a) (down b) (omega (arith, ap up e, up-mul a (negsuc k), up-mul b (negsuc k))),
  eq_of_mul-eq-mul_right (suc k) (omega arith) (up a) (up b) (omega (arith, ap down e, down-mul a (negsuc k), down-mul b (negsuc k))),
))

pub mul_nonzero : (a b : ℤ) → a ≢ pos 0 → b ≢ pos 0 → a *ℤ b ≢ pos 0
mul_nonzero a b left right e = left (mul_cancel a (pos 0) b right (e ∙ sym (zero-*ℤ b)))

-- ---- positive factors

pub positive_nonzero : (a : ℤ) → pos 0 <ℤ a → a ≢ pos 0
positive_nonzero a positive e = omega (arith, ints)

pub mul_positive : (a b : ℤ) → pos 0 <ℤ a → pos 0 <ℤ b → pos 0 <ℤ (a *ℤ b)
mul_positive (pos zero) b h k = absurd (omega (arith, ints))
mul_positive (negsuc n) b h k = absurd (omega (arith, ints))
mul_positive (pos (suc n)) (pos zero) h k = absurd (omega (arith, ints))
mul_positive (pos (suc n)) (negsuc m) h k = absurd (omega (arith, ints))
mul_positive (pos (suc n)) (pos (suc m)) h k = omega (arith, ints)

-- if b and a*b are positive, so is a
pub positive_factor : (a b : ℤ) → pos 0 <ℤ b → pos 0 <ℤ (a *ℤ b) → pos 0 <ℤ a
positive_factor (pos zero) b h k = absurd (let none : pos 0 *ℤ b ≡ pos 0 = zero-*ℤ b in omega (arith, ints))
positive_factor (pos (suc n)) b h k = omega (arith, ints)
positive_factor (negsuc n) (pos zero) h k = absurd (omega (arith, ints))
positive_factor (negsuc n) (pos (suc m)) h k = absurd (omega (arith, ints))
positive_factor (negsuc n) (negsuc m) h k = absurd (omega (arith, ints))

-- ---- magnitudes

pub unsigned_abs-neg : (a : ℤ) → unsigned_abs (neg_ℤ a) ≡ unsigned_abs a
unsigned_abs-neg (pos zero) = refl
unsigned_abs-neg (pos (suc n)) = refl
unsigned_abs-neg (negsuc n) = refl

-- if x*y = z*w, then |x|*|y| = |z|*|w|
pub unsigned_abs-products : (x y z w : ℤ) → x *ℤ y ≡ z *ℤ w → unsigned_abs x * unsigned_abs y ≡ unsigned_abs z * unsigned_abs w
unsigned_abs-products x y z w e = sym (unsigned_abs-mul x y) ∙ ap unsigned_abs e ∙ unsigned_abs-mul z w
