-- How many bits a number has.
use Rattle.std.proofs.Common.{◌≡◌, ◌≤◌, ◌<◌, ◌+◌, ◌-◌, ◌*◌, ◌^◌, ℕ, refl, arith, ⊎_elim}
use Rattle.std.proofs.lemmas.Bool.Decides.{leb_tells}
use Rattle.ratio_natural.specs.Number.{IsDigitCount, base}
use Rattle.ratio_natural.proofs.CountLemmas.{place_in_bits}
use Rattle.ratio_expressions.specs.Limits.{IsSizeOf}
use Rattle.ratio_expressions.proofs.PowerBounds.{beyond_bits, beyond_digits, powers_ordered}

-- no bits are needed for 0
pub size_of_zero : (n : ℕ) → n ≡ 0 → IsSizeOf n 0
size_of_zero n none = record { within = λ h. omega arith; least = λ bits h. omega arith; few = omega arith }

-- the binary digits of one less are counted
least_bits : (n m bits : ℕ) → m + 1 ≡ n → IsDigitCount 2 m bits → (most : ℕ) → n ≤ 2 ^ most → bits ≤ most
least_bits n m bits next count most fits =
    ⊎_elim (λ p. p.1) (λ p. absurd (beyond_bits m bits most count p.1 (omega arith))) (leb_tells bits most)

next_within : (n m a b c : ℕ) → m + 1 ≡ n → m < a → a ≡ b → b ≤ c → n ≤ c
next_within n m a b c next small same order = omega arith

-- one less has few digits of 64 bits
few_within : (n m count : ℕ) → m + 1 ≡ n → IsDigitCount base m count → count ≤ 15625 → n ≤ 2 ^ 1000000
few_within n m count next digits small =
    next_within n m (base ^ count) (2 ^ (64 * count)) (2 ^ 1000000) next digits.enough (place_in_bits count) (powers_ordered (64 * count) 1000000 (sixty_four count small))
  where
    sixty_four : (k : ℕ) → k ≤ 15625 → 64 * k ≤ 1000000
    sixty_four k h = omega arith

pub size_of_few : (n m count bits : ℕ) → m + 1 ≡ n → IsDigitCount base m count → count ≤ 15625 → IsDigitCount 2 m bits → IsSizeOf n bits
size_of_few n m count bits next digits small binary = record {
  within = λ h. next_within n m (2 ^ bits) (2 ^ bits) (2 ^ bits) next binary.enough refl (omega arith);
  least = least_bits n m bits next binary;
  few = one_more bits (least_bits n m bits next binary 1000000 (few_within n m count next digits small));
}
  where
    one_more : (k : ℕ) → k ≤ 1000000 → k ≤ 1000000 + 1
    one_more k h = omega arith

-- one less has many of them
pub size_of_many : (n m count : ℕ) → m + 1 ≡ n → IsDigitCount base m count → 15625 < count → IsSizeOf n 1000001
size_of_many n m count next digits many = record {
  within = λ h. absurd (omega arith);
  least = λ most fits. ⊎_elim (λ p. absurd (beyond_digits m count most digits p.1 many (omega arith))) (λ p. omega (arith, p.1)) (leb_tells most 1000000);
  few = omega arith;
}
