-- When the power of two numbers is not too large.
use Rattle.std.proofs.Common.{◌≡◌, ◌≢◌, ◌≤◌, ◌<◌, ◌+◌, ◌-◌, ◌*◌, ◌/◌, ◌^◌, ℕ, ℤ, zero, suc, Bool, false, sym, refl, subst, ap, arith, ⊎_elim, leb}
use Rattle.std.specs.Prelude.{unsigned_abs, IsTrue}
use Rattle.std.proofs.Math.Nat.{div-mul-le_self, le-div_iff_mul-le, pow-le-pow_right}
use Rattle.std.proofs.lemmas.Bool.{lt-leb}
use Rattle.std.proofs.lemmas.Bool.Decides.{leb_tells}
use Rattle.ratio_natural.specs.Number.{IsDigitCount, base}
use Rattle.ratio_natural.proofs.CountLemmas.{place_in_bits}
use Rattle.ratio_expressions.specs.Operators.{IsModestPower}

pub powers_ordered : (i j : ℕ) → i ≤ j → 2 ^ i ≤ 2 ^ j
powers_ordered i j h = pow-le-pow_right (omega arith) h

-- a number is below 2 to the power of itself
below_power : (n : ℕ) → n < 2 ^ n
below_power zero = omega arith
below_power (suc n) = omega (arith, below_power n)

-- a number with few binary digits is below a power of 2
pub bounded : (n bits most : ℕ) → IsDigitCount 2 n bits → bits ≤ most → n < 2 ^ most
bounded n bits most count few = omega (arith, count.enough, powers_ordered bits most few)

-- one with more is not
pub beyond_bits : (n bits most : ℕ) → IsDigitCount 2 n bits → most < bits → n < 2 ^ most → ⊥
beyond_bits n bits most count many small =
    let least : 2 ^ (bits - 1) ≤ n = count.least (omega arith) in
    let order : 2 ^ most ≤ 2 ^ (bits - 1) = powers_ordered most (bits - 1) (omega arith) in
    omega arith

-- neither is one with many digits of 64 bits
pub beyond_digits : (n count most : ℕ) → IsDigitCount base n count → most ≤ 1000000 → 15625 < count → n < 2 ^ most → ⊥
beyond_digits n count most digits small many below =
    let least : base ^ (count - 1) ≤ n = digits.least (omega arith) in
    let bits : base ^ (count - 1) ≡ 2 ^ (64 * (count - 1)) = place_in_bits (count - 1) in
    let order : 2 ^ most ≤ 2 ^ (64 * (count - 1)) = powers_ordered most (64 * (count - 1)) (omega arith) in
    omega arith

-- what a test of the count of binary digits says
pub few_bits : (n bits most : ℕ) → IsDigitCount 2 n bits → (IsTrue (leb bits most) → n < 2 ^ most) × (n < 2 ^ most → IsTrue (leb bits most))
few_bits n bits most count =
    ⊎_elim
    (λ p. ((λ h. bounded n bits most count p.1), (λ h. p.0)))
    (λ p. ((λ h. let e = p.0 in absurd (cc)), (λ h. absurd (beyond_bits n bits most count p.1 h))))
    (leb_tells bits most)

-- the same of the count of digits of 64 bits, if there are many
pub many_digits : (n count most : ℕ) → IsDigitCount base n count → most ≤ 1000000 → 15625 < count → (IsTrue (leb count 15625) → n < 2 ^ most) × (n < 2 ^ most → IsTrue (leb count 15625))
many_digits n count most digits small many =
    ((λ h. let e = lt-leb count 15625 many in absurd (cc)), (λ h. absurd (beyond_digits n count most digits small many h)))

-- 1 is taken from a number that is not 0, so nothing is borrowed
pub one_taken : (n m borrow len : ℕ) → m + 1 ≡ n + borrow * base ^ len → m < base ^ len → n ≢ 0 → m + 1 ≡ n
one_taken n m zero len difference small some = omega arith
one_taken n m (suc borrow) len difference small some = absurd (omega arith)

-- what a test of one less says
pub one_less : (n m most : ℕ) (b : Bool) → m + 1 ≡ n → (IsTrue b → m < 2 ^ most) × (m < 2 ^ most → IsTrue b) → (IsTrue b → n ≤ 2 ^ most) × (n ≤ 2 ^ most → IsTrue b)
one_less n m most b next bits = ((λ h. omega (arith, bits.0 h)), (λ h. bits.1 (omega arith)))

module _ (x : ℤ × ℤ) (exponent : ℤ) where
  -- an exponent of 0 is none too large
  pub modest_at_zero : unsigned_abs exponent ≡ 0 → IsModestPower x exponent
  modest_at_zero none =
      let n = unsigned_abs x.0 in
      let d = unsigned_abs x.1 in
      let nothing : (n + d) * unsigned_abs exponent ≡ (n + d) * 0 = ap (λ k. (n + d) * k) none in
      record {
        bits = n + d;
        numer = omega (arith, below_power n, powers_ordered n (n + d) (omega arith));
        denom = omega (arith, below_power d, powers_ordered d (n + d) (omega arith));
        few = omega (arith, nothing);
      }

  -- both numbers are at most the power of 2 that is allowed for each
  pub modest_below : (most : ℕ) → most ≡ 1000000 / unsigned_abs exponent → unsigned_abs x.0 ≤ 2 ^ most → unsigned_abs x.1 ≤ 2 ^ most → IsModestPower x exponent
  modest_below most is numer denom = record {
    bits = most;
    numer = numer;
    denom = denom;
    few = subst (λ k. k * unsigned_abs exponent ≤ 1000000) (sym is) (div-mul-le_self 1000000 (unsigned_abs exponent));
  }

  -- no greater power is allowed
  pub below_most : (most : ℕ) → most ≡ 1000000 / unsigned_abs exponent → 0 < unsigned_abs exponent → (h : IsModestPower x exponent) → (unsigned_abs x.0 ≤ 2 ^ most) × (unsigned_abs x.1 ≤ 2 ^ most)
  below_most most is some h =
      let few : h.bits ≤ most = subst (λ k. h.bits ≤ k) (sym is) ((le-div_iff_mul-le some).1 h.few) in
      let order : 2 ^ h.bits ≤ 2 ^ most = powers_ordered h.bits most few in
      (omega (arith, h.numer), omega (arith, h.denom))

-- what tests of both numbers say
module _ (x : ℤ × ℤ) (exponent : ℤ) (most : ℕ) (is : most ≡ 1000000 / unsigned_abs exponent) (some : 0 < unsigned_abs exponent) where
  pub numer_fits : unsigned_abs x.0 ≤ 2 ^ most → (b : Bool) → (IsTrue b → unsigned_abs x.1 ≤ 2 ^ most) → (unsigned_abs x.1 ≤ 2 ^ most → IsTrue b)
      → (IsTrue b → IsModestPower x exponent) × (IsModestPower x exponent → IsTrue b)
  numer_fits numer b there back = ((λ h. modest_below x exponent most is numer (there h)), (λ h. back (below_most x exponent most is some h).1))

  pub numer_beyond : (unsigned_abs x.0 ≤ 2 ^ most → ⊥) → (IsTrue false → IsModestPower x exponent) × (IsModestPower x exponent → IsTrue false)
  numer_beyond beyond = ((λ h. absurd (cc)), (λ h. absurd (beyond (below_most x exponent most is some h).0)))
