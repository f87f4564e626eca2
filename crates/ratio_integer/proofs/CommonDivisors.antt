-- Coprime numbers, and greatest common divisors of whole numbers.
use Rattle.std.specs.Prelude.{◌≡◌, ◌*◌, ◌%◌, ◌<◌, ◌*ℤ◌, ℕ, ℤ, zero, suc, pos, unsigned_abs, int_div}
use Rattle.std.specs.Int.{◌∣◌, IsGcd}
use Rattle.std.proofs.Common.{sym, ap, arith, ◌∙◌, refl}
use Rattle.std.proofs.Math.Nat.{dvd-mul_left, dvd-zero, dvd_refl, dvd_trans, eq-one_of_dvd-one, mod-lt, one-dvd}
use Rattle.std.proofs.lemmas.Int.{ints, unsigned_abs-mul}
use Rattle.std.proofs.lemmas.Nat.Gcd.{IsGcd-from_mod, IsGcd-from_zero}
use Rattle.ratio_integer.specs.Division.{IsGcdOf, IsMultiple}
use Rattle.ratio_integer.proofs.GcdLemmas.{coprime-dvd, gcd_scaled}
use Rattle.ratio_integer.proofs.LcmLemmas.{exact_quotient}

-- ---- coprime numbers

-- no number above 1 divides both a and b
abbrev pub IsCoprime : ℕ → ℕ → Type 0
IsCoprime a b = (k : ℕ) → k ∣ a → k ∣ b → k ≡ 1

pub coprime_turned : (a b : ℕ) → IsCoprime a b → IsCoprime b a
coprime_turned a b only k p q = only k q p

pub coprime_gcd : (a b : ℕ) → IsCoprime a b → IsGcd a b 1
coprime_gcd a b only = (one-dvd a, one-dvd b, λ k x y. rw (only k x y) (dvd_refl 1))

pub gcd_coprime : (a b g : ℕ) → IsGcd a b g → g ≡ 1 → IsCoprime a b
gcd_coprime a b g is one k p q = let divides : k ∣ 1 = rw one at (is.2 k p q) in eq-one_of_dvd-one divides

-- if a and b are coprime, x divides a and y divides b, then x and y are coprime
pub coprime_divisors : (a b x y : ℕ) → IsCoprime a b → x ∣ a → y ∣ b → IsCoprime x y
coprime_divisors a b x y only p q k m n = only k (dvd_trans k m p) (dvd_trans k n q)

-- if b and c are coprime to a, so is b * c
pub coprime_product : (a b c : ℕ) → IsCoprime a b → IsCoprime a c → IsCoprime a (b * c)
coprime_product a b c left right k p q =
    let apart : IsCoprime k c = λ j m n. right j (dvd_trans j m p) n in
    left k p (coprime-dvd k c b (coprime_gcd k c apart) q)

-- ---- whole numbers

pub multiple_divides : (a b : ℤ) → IsMultiple a b → unsigned_abs b ∣ unsigned_abs a
multiple_divides a b (k, e) = rw (ap unsigned_abs e ∙ unsigned_abs-mul k b) (dvd-mul_left (unsigned_abs b) (unsigned_abs k))

pub divides_multiple : (a b : ℤ) → unsigned_abs b ∣ unsigned_abs a → IsMultiple a b
divides_multiple a b divides = (int_div a b, sym (exact_quotient a b divides))

scaled : (m a b g : ℕ) → IsGcd a b g → IsGcd (m * a) (m * b) (m * g)
scaled zero a b g is = rw (none a, none b, none g) (dvd-zero 0, dvd-zero 0, λ d x y. x)
  where
    none : (n : ℕ) → 0 * n ≡ 0
    none n = omega arith
scaled (suc m) a b g is = gcd_scaled b a b g (suc m) (omega arith) (omega arith) is

-- if a divides c*b and is coprime to b, then a divides c
pub coprime_factor : (a b c : ℤ) → IsGcdOf a b (pos 1) → IsMultiple (c *ℤ b) a → IsMultiple c a
coprime_factor a b c is multiple =
    divides_multiple c a (coprime-dvd (unsigned_abs a) (unsigned_abs b) (unsigned_abs c) is.divisor (rw unsigned_abs-mul at (multiple_divides (c *ℤ b) a multiple)))

-- two natural numbers have a greatest common divisor, by induction on a bound n of the second one
gcd_exists_below : (n a b : ℕ) → b < n → (g : ℕ) × IsGcd a b g
gcd_exists_below zero a b bound = absurd (omega arith)
gcd_exists_below (suc n) a zero bound = (a, IsGcd-from_zero a 0 refl)
gcd_exists_below (suc n) a (suc b) bound =
    let less : a % suc b < suc b = mod-lt a (omega arith) in
    let rest : (g : ℕ) × IsGcd (suc b) (a % suc b) g = gcd_exists_below n (suc b) (a % suc b) (omega arith) in
    (rest.0, IsGcd-from_mod a (suc b) rest.0 rest.1)

pub gcd_exists : (a b : ℤ) → (g : ℤ) × IsGcdOf a b g
gcd_exists a b =
    let found : (g : ℕ) × IsGcd (unsigned_abs a) (unsigned_abs b) g = gcd_exists_below (suc (unsigned_abs b)) (unsigned_abs a) (unsigned_abs b) (omega arith) in
    (pos found.0, record { sign = omega (arith, ints); divisor = found.1 })
