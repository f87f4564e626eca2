-- Greatest common divisors of products, and coprime numbers.
use Rattle.std.specs.Prelude.{◌≡◌, ◌+◌, ◌*◌, ◌/◌, ◌%◌, ◌<◌, ◌≤◌, ℕ, zero, suc}
use Rattle.std.specs.Int.{◌∣◌, IsGcd}
use Rattle.std.proofs.Common.{refl, sym, ap, arith, ◌∙◌}
use Rattle.std.proofs.Math.Nat.{dvd-mul_left, dvd-zero, dvd-mod_iff, dvd_of_mul-dvd-mul_left, mod-lt, mul-dvd-mul_left, one-dvd, mul-div_cancel'}
use Rattle.std.proofs.lemmas.Nat.Gcd.{IsGcd-from_mod, IsGcd-from_zero, same_from_IsGcd}
use Rattle.std.proofs.lemmas.Nat.{mod-mul-add, div-add-mod'}

-- if g is the gcd of a and b, it is the gcd of b and a % b
pub gcd_step : (a b g : ℕ) → IsGcd a b g → IsGcd b (a % b) g
gcd_step a b g (p, q, r) = (q, (dvd-mod_iff g q).1 p, λ d x y. r d ((dvd-mod_iff d x).0 y) x)

split : (m q b r : ℕ) → m * (q * b + r) ≡ q * (m * b) + m * r
split m q b r = omega arith

below : (m r b : ℕ) → 0 < m → r < b → m * r < m * b
below m r b h k = grind arith

pub scaled-mod : (m a b : ℕ) → 0 < m → 0 < b → (m * a) % (m * b) ≡ m * (a % b)
scaled-mod m a b h k =
    ap (λ t. t % (m * b)) (ap (λ t. m * t) (sym (div-add-mod' a b)) ∙ split m (a / b) b (a % b))
    ∙ mod-mul-add (a / b) (m * b) (m * (a % b)) (below m (a % b) b h (mod-lt a k))

-- the gcd of a and 0 is a
zero-gcd : (a g : ℕ) → IsGcd a 0 g → g ≡ a
zero-gcd a g is = same_from_IsGcd a 0 g a is (IsGcd-from_zero a 0 refl)

-- if g is the gcd of a and b, and m is not 0, then m*g is the gcd of m*a and m*b
pub gcd_scaled : (n a b g m : ℕ) → 0 < m → b ≤ n → IsGcd a b g → IsGcd (m * a) (m * b) (m * g)
gcd_scaled n a zero g m up h is = rw (zero-gcd a g is) (IsGcd-from_zero (m * a) (m * 0) (omega arith))
gcd_scaled zero a (suc b) g m up h is = absurd (omega arith)
gcd_scaled (suc n) a (suc b) g m up h is =
    let less : a % suc b < suc b = mod-lt a (omega arith) in
    let rest = gcd_scaled n (suc b) (a % suc b) g m up (omega arith) (gcd_step a (suc b) g is) in
    IsGcd-from_mod (m * a) (m * suc b) (m * g) (rw (scaled-mod m a (suc b) up (omega arith)) rest)

-- if a and b are coprime and a divides c*b, then a divides c
pub coprime-dvd : (a b c : ℕ) → IsGcd a b 1 → a ∣ c * b → a ∣ c
coprime-dvd a b zero is d = dvd-zero a
coprime-dvd a b (suc c) is d =
    let s = gcd_scaled b a b 1 (suc c) (omega arith) (omega arith) is in
    rw one-times at (s.2 a (dvd-mul_left a (suc c)) d)
  where
    one-times : suc c * 1 ≡ suc c
    one-times = omega arith

-- two numbers divided by their gcd are coprime
pub parts-coprime : (x y g : ℕ) → 0 < g → IsGcd (g * x) (g * y) g → IsGcd x y 1
parts-coprime x y g up is = (
  one-dvd x,
  one-dvd y,
  λ d p q. dvd_of_mul-dvd-mul_left d up (rw (times-one g) (is.2 (g * d) (mul-dvd-mul_left d g p) (mul-dvd-mul_left d g q))),
)
  where
    times-one : (m : ℕ) → m * 1 ≡ m
    times-one m = omega arith

-- if g is the gcd of g*x and g*y, each common multiple of them is a multiple of g*y*x
pub lcm_least : (x y g m : ℕ) → 0 < g → IsGcd (g * x) (g * y) g → g * x ∣ m → g * y ∣ m → (g * y) * x ∣ m
lcm_least x y g m up is p q =
    let k = m / (g * y) in
    let whole : (g * y) * k ≡ m = mul-div_cancel' (g * y) q in
    let d : g * x ∣ g * (k * y) = rw (turn g y k ∙ whole) p in
    let e : x ∣ k * y = dvd_of_mul-dvd-mul_left x up d in
    rw (← whole) (mul-dvd-mul_left x (g * y) (coprime-dvd x y k (parts-coprime x y g up is) e))
  where
    turn : (a b c : ℕ) → a * (c * b) ≡ (a * b) * c
    turn a b c = omega arith
