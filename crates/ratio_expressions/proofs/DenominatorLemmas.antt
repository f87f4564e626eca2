-- Denominators of more than 64 bits.
use Rattle.std.proofs.Common.{◌≡◌, ◌≢◌, ◌-◌, ◌<◌, ◌≤◌, ◌==◌, ◌^◌, ◌≤ℤ◌, ◌<ℤ◌, ℕ, zero, suc, ℤ, pos, negsuc, false, arith, refl, sym, ap}
use Rattle.std.proofs.lemmas.Int.{ints}
use Rattle.std.proofs.Math.Nat.{mod-eq_of_lt, pow-le-pow_right}
use Rattle.ratio_natural.specs.Number.{IsDigitCount, base}
use Rattle.ratio_expressions.specs.Forms.{ends_in_six}

-- one divides no 10^6
pub not_six : (d : ℤ) → pos (2 ^ 64) ≤ℤ d → false ≡ ends_in_six d
not_six (pos n) h = let below : 10 ^ 6 < n = omega (arith, ints) in sym (ap (λ r. r == 0) (mod-eq_of_lt below))
not_six (negsuc n) h = absurd (omega (arith, ints))

two_digits : (n count : ℕ) → 2 ≤ count → IsDigitCount base n count → base ≤ n
two_digits n count two digits =
    let power : base ^ 1 ≤ base ^ (count - 1) = pow-le-pow_right {n = base} (omega arith) {i = 1} {j = count - 1} (omega arith) in
    omega (arith, power, digits.least (omega arith))

-- a denominator that has not one digit in base 2^64 is one of more than 64 bits
pub not_one_digit : (n count : ℕ) (d : ℤ) → IsDigitCount base n count → pos n ≡ d → pos 0 <ℤ d → count ≢ 1 → pos (2 ^ 64) ≤ℤ d
not_one_digit n zero d digits same positive other = let none : n < 1 = digits.enough in absurd (omega (arith, ints, none, same, positive))
not_one_digit n (suc zero) d digits same positive other = absurd (other refl)
not_one_digit n (suc (suc k)) d digits same positive other = omega (arith, ints, two_digits n (suc (suc k)) (omega arith) digits, same)
