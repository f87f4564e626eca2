-- Products and inverses modulo 2^61 - 1.
use Rattle.std.specs.Prelude.{◌≡◌, ◌≢◌, ◌+◌, ◌-◌, ◌*◌, ◌/◌, ◌%◌, ◌^◌, ◌<◌, ◌≤◌, ℕ}
use Rattle.std.specs.Int.{◌∣◌}
use Rattle.std.proofs.Common.{◌∙◌, ap, arith, inl, inr, subst, sym}
use Rattle.std.proofs.Math.Nat.{add-mul-mod_self_right, div-lt_iff_lt-mul, dvd-add, dvd-mul_left_of_dvd, dvd-mul_right_of_dvd, dvd-mod_iff, dvd-zero, eq-one_of_dvd-one, mod-lt, pow-le-pow_right}
use Rattle.std.proofs.lemmas.Nat.{div-add-mod', mul-add-lt, mul-le, mul-mod_first, pow-add, pow_pos}
use Rattle.std.proofs.lemmas.Nat.Gcd.{dvd_refl}
use Rattle.std.proofs.lemmas.Bool.{cases_lt}
use Rattle.ratio_c.specs.Codes.{hash_modulus}
use Rattle.ratio_c.specs.HashMod61.{IsInverseMod61}
use Rattle.ratio_integer.specs.OddPart.{IsOddPart}

-- ---- a turn of 61 binary digits

powers : (k : ℕ) → k ≤ 61 → 2 ^ k * 2 ^ (61 - k) ≡ 2 ^ 61
powers k most =
    let whole : k + (61 - k) ≡ 61 = omega arith in
    sym (pow-add 2 k (61 - k)) ∙ ap (λ (e : ℕ). 2 ^ e) whole

-- a power that fits 64 bits is what the code shifts
pub power_kept : (k : ℕ) → k ≤ 61 → 1 * 2 ^ k % 2 ^ 64 ≡ 2 ^ k
power_kept k most =
    let small : 2 ^ k ≤ 2 ^ 61 = pow-le-pow_right {n = 2} (omega arith) most in
    omega (arith, small)

pub turn_below : (n k : ℕ) → n < 2 ^ 61 → k ≤ 61 → n / 2 ^ k + n % 2 ^ k * 2 ^ (61 - k) < 2 ^ 61
turn_below n k short most =
    let whole = powers k most in
    let above : n / 2 ^ k < 2 ^ (61 - k) = (div-lt_iff_lt-mul (pow_pos k)).1 (omega (arith, whole)) in
    let inside = mul-add-lt (n % 2 ^ k) (2 ^ (61 - k)) (n / 2 ^ k) (2 ^ k) (mod-lt n (pow_pos k)) above in
    omega (arith, inside, whole)

turned_by : (n a r p q m : ℕ) → n ≡ a * p + r → p * q ≡ m + 1 → a + r * q + a * m ≡ n * q
turned_by n a r p q m split whole =
    let high : a * (p * q) ≡ a * (m + 1) = ap (λ (t : ℕ). a * t) whole in
    rw split (omega (arith, high))

pub turn_value : (n k : ℕ) → k ≤ 61 → (n / 2 ^ k + n % 2 ^ k * 2 ^ (61 - k)) % hash_modulus ≡ n * 2 ^ (61 - k) % hash_modulus
turn_value n k most =
    let split = sym (div-add-mod' n (2 ^ k)) in
    let whole = turned_by n (n / 2 ^ k) (n % 2 ^ k) (2 ^ k) (2 ^ (61 - k)) hash_modulus split (powers k most) in
    sym (add-mul-mod_self_right (n / 2 ^ k + n % 2 ^ k * 2 ^ (61 - k)) (n / 2 ^ k) hash_modulus) ∙ ap (λ (t : ℕ). t % hash_modulus) whole

-- ---- the steps of the algorithm

-- a and b are multiples of n by u and by v, modulo 2^61 - 1, and what divides both divides n and 2^61 - 1
pub record AreMultiples (n a b u v : ℕ) : Type 0 where
  pub positive : 0 < a
  pub left_short : a < 2 ^ 61
  pub right_short : b < 2 ^ 61
  pub left_factor : u < 2 ^ 61
  pub right_factor : v < 2 ^ 61
  pub left : u * n % hash_modulus ≡ a % hash_modulus
  pub right : v * n % hash_modulus ≡ b % hash_modulus
  pub common : (c : ℕ) → c ∣ a → c ∣ b → (c ∣ n) × (c ∣ hash_modulus)

first_rest : (n q r m : ℕ) → q * n + r ≡ m → q ≤ m → (m - q) * n + m ≡ r + n * m
first_rest n q r m whole most =
    let split : (m - q) * n + q * n ≡ m * n = parts (m - q) q n ∙ ap (λ (t : ℕ). t * n) (omega arith) in
    omega (arith, split, whole)
  where
    parts : (a b n : ℕ) → a * n + b * n ≡ (a + b) * n
    parts a b n = omega arith

pub begun : (n : ℕ) → 0 < n → n < hash_modulus → AreMultiples n n (hash_modulus % n) 1 (hash_modulus - hash_modulus / n)
begun n positive below =
    let whole : hash_modulus / n * n + hash_modulus % n ≡ hash_modulus = div-add-mod' hash_modulus n in
    let rest : hash_modulus % n < n = mod-lt hash_modulus positive in
    let most : hash_modulus / n ≤ hash_modulus = quotient_most (hash_modulus / n) n (hash_modulus % n) hash_modulus positive whole in
    let both = first_rest n (hash_modulus / n) (hash_modulus % n) hash_modulus whole most in
    record {
      positive = positive;
      left_short = omega arith;
      right_short = omega arith;
      left_factor = omega arith;
      right_factor = omega arith;
      left = ap (λ (t : ℕ). t % hash_modulus) (once n);
      right = sym (self ((hash_modulus - hash_modulus / n) * n)) ∙ ap (λ (t : ℕ). t % hash_modulus) both ∙ add-mul-mod_self_right (hash_modulus % n) n hash_modulus;
      common = λ c divides rests. (divides, subst (λ (t : ℕ). c ∣ t) whole (dvd-add c (dvd-mul_left_of_dvd c divides (hash_modulus / n)) rests));
    }
  where
    once : (n : ℕ) → 1 * n ≡ n
    once n = omega arith

    self : (t : ℕ) → (t + hash_modulus) % hash_modulus ≡ t % hash_modulus
    self t = omega arith

    quotient_most : (q n r m : ℕ) → 0 < n → q * n + r ≡ m → q ≤ m
    quotient_most q n r m positive whole = let times = mul-le q 1 q n (omega arith) positive in omega (arith, times)

-- what is the same modulo 2^61 - 1 is the same after a multiplication
times_same : (a b c : ℕ) → a % hash_modulus ≡ b % hash_modulus → a * c % hash_modulus ≡ b * c % hash_modulus
times_same a b c same = sym (mul-mod_first a c hash_modulus) ∙ ap (λ (t : ℕ). t * c % hash_modulus) same ∙ mul-mod_first b c hash_modulus

-- 2^61 is 1
turn_whole : (m : ℕ) → m * 2 ^ 61 % hash_modulus ≡ m % hash_modulus
turn_whole m = let split : m * 2 ^ 61 ≡ m + m * hash_modulus = omega arith in ap (λ (t : ℕ). t % hash_modulus) split ∙ add-mul-mod_self_right m m hash_modulus

pub short_zeros : (b m k : ℕ) → 0 < b → b < 2 ^ 61 → IsOddPart b m k → k ≤ 60
short_zeros b m k positive short part = elim (cases_lt k 61) [
  | inl below ↦ omega arith
  | inr above ↦
      let odd : 0 < m = (let one = part.odd in omega arith) in
      let times = mul-le 1 (2 ^ 61) m (2 ^ k) odd (pow-le-pow_right {n = 2} (omega arith) above) in
      let whole = part.whole in
      absurd (omega (arith, times, whole))
]

pub halved : (n a b u v m k w : ℕ) → AreMultiples n a b u v → 0 < b → IsOddPart b m k → w < 2 ^ 61 → w % hash_modulus ≡ v * 2 ^ (61 - k) % hash_modulus → AreMultiples n a m u w
halved n a b u v m k w are positive part short value =
    let most = short_zeros b m k positive are.right_short part in
    let power : 1 ≤ 2 ^ k = pow_pos k in
    let less = mul-le m 1 m (2 ^ k) (omega arith) power in
    let whole : b ≡ m * 2 ^ k = part.whole in
    let right_short = are.right_short in
    record {
      positive = are.positive;
      left_short = are.left_short;
      right_short = omega (arith, less, whole);
      left_factor = are.left_factor;
      right_factor = short;
      left = are.left;
      right = times_same w (v * 2 ^ (61 - k)) n value
          ∙ ap (λ (t : ℕ). t % hash_modulus) (turn v (2 ^ (61 - k)) n)
          ∙ times_same (v * n) b (2 ^ (61 - k)) are.right
          ∙ ap (λ (t : ℕ). t % hash_modulus) (again m b (2 ^ k) (2 ^ (61 - k)) whole ∙ ap (λ (t : ℕ). m * t) (powers k (omega arith)))
          ∙ turn_whole m;
      common = λ c left right. are.common c left (subst (λ (t : ℕ). c ∣ t) (sym whole) (dvd-mul_right_of_dvd c right (2 ^ k)));
    }
  where
    turn : (v q n : ℕ) → v * q * n ≡ v * n * q
    turn v q n = omega arith

    again : (m b p q : ℕ) → b ≡ m * p → b * q ≡ m * (p * q)
    again m b p q e = rw e (omega arith)

less_product : (f u w n : ℕ) → (f + u) % hash_modulus ≡ w % hash_modulus → (f * n + u * n) % hash_modulus ≡ w * n % hash_modulus
less_product f u w n same = ap (λ (t : ℕ). t % hash_modulus) (spread f u n) ∙ times_same (f + u) w n same
  where
    spread : (f u n : ℕ) → f * n + u * n ≡ (f + u) * n
    spread f u n = omega arith

-- if x and y together are z, and y is b and z is a, then x is a less b
taken : (x y z a b : ℕ) → (x + y) % hash_modulus ≡ z % hash_modulus → y % hash_modulus ≡ b % hash_modulus → z % hash_modulus ≡ a % hash_modulus → b ≤ a → x % hash_modulus ≡ (a - b) % hash_modulus
taken x y z a b sum first second most = omega arith

pub right_less : (n a b u v f : ℕ) → AreMultiples n a b u v → a ≤ b → f < 2 ^ 61 → (f + u) % hash_modulus ≡ v % hash_modulus → AreMultiples n a (b - a) u f
right_less n a b u v f are most short value =
    let right_short = are.right_short in
    record {
      positive = are.positive;
      left_short = are.left_short;
      right_short = omega arith;
      left_factor = are.left_factor;
      right_factor = short;
      left = are.left;
      right = taken (f * n) (u * n) (v * n) b a (less_product f u v n value) are.left are.right most;
      common = λ c left rest. are.common c left (subst (λ (t : ℕ). c ∣ t) (together a b most) (dvd-add c rest left));
    }
  where
    together : (a b : ℕ) → a ≤ b → b - a + a ≡ b
    together a b most = omega arith

pub exchanged : (n a b u v : ℕ) → AreMultiples n a b u v → 0 < b → AreMultiples n b a v u
exchanged n a b u v are positive = record {
  positive = positive;
  left_short = are.right_short;
  right_short = are.left_short;
  left_factor = are.right_factor;
  right_factor = are.left_factor;
  left = are.right;
  right = are.left;
  common = λ c left right. are.common c right left;
}

pub found : (n a b u v : ℕ) → AreMultiples n a b u v → b ≡ 1 → IsInverseMod61 n v
found n a b u v are one = record { one = are.right ∙ ap (λ (t : ℕ). t % hash_modulus) one }

pub found_left : (n a b u v : ℕ) → AreMultiples n a b u v → a ≡ 1 → IsInverseMod61 n u
found_left n a b u v are one = record { one = are.left ∙ ap (λ (t : ℕ). t % hash_modulus) one }

pub none : (n a b u v : ℕ) → AreMultiples n a b u v → b ≡ 0 → a ≢ 1 → (i : ℕ) → ¬ (IsInverseMod61 n i)
none n a b u v are zero more i is =
    let both = are.common a (dvd_refl a) (subst (λ (t : ℕ). a ∣ t) (sym zero) (dvd-zero a)) in
    let one = is.one in
    let rest : a ∣ (i * n) % hash_modulus = (dvd-mod_iff a both.1).1 (dvd-mul_left_of_dvd a both.0 i) in
    more (eq-one_of_dvd-one (subst (λ (t : ℕ). a ∣ t) one rest))
