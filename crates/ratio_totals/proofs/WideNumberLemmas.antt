-- Numbers of types of at most 128 bits.
use Rattle.std.specs.Prelude.{◌≡◌, ◌-◌, ◌^◌, ◌<◌, ◌≤◌, ◌+ℤ◌, Bool, true, ℕ, ℤ, neg_ℤ, pos}
use Rattle.std.proofs.Common.{ap, arith, inl, inr}
use Rattle.std.proofs.Math.Nat.{pow-le-pow_right}
use Rattle.std.proofs.lemmas.Int.{ints}
use Rattle.ratio_integer.specs.Range.{IsHeld, IsRange}
use Rattle.ratio_integer.specs.SignedBits.{IsHeld128}
use Rattle.ratio_slots.specs.Common.{whole_number}

module _ (lo hi : ℤ) (bits : ℕ) (few : bits ≤ 128) (width : hi +ℤ pos 1 ≡ lo +ℤ pos (2 ^ bits)) (range : IsRange lo hi) where
  power : 2 ^ bits ≤ 2 ^ 128
  power = pow-le-pow_right {n = 2} (omega arith) {i = bits} {j = 128} few

  -- each number of such a type fits an `i128` or a `u128`
  pub one_holds : (z : ℤ) → IsHeld lo hi z → (IsHeld128 z → ⊥) → (IsHeld (pos 0) (pos (2 ^ 128 - 1)) z → ⊥) → ⊥
  one_holds z held signed unsigned = elim range.low [
    | inl none ↦ unsigned (record { above = omega (arith, ints, none, held.above); below = omega (arith, ints, none, width, power, held.below) })
    | inr (inl even) ↦ signed (record { above = omega (arith, ints, even, width, power, held.above); below = omega (arith, ints, even, width, power, held.below) })
    | inr (inr odd) ↦ signed (record { above = omega (arith, ints, odd, width, power, held.above); below = omega (arith, ints, odd, width, power, held.below) })
  ]

  -- none is below -2^127
  pub too_low : (size : ℕ) → 2 ^ 127 < size → ¬ (IsHeld lo hi (neg_ℤ (pos size)))
  too_low size long held =
      let low = range.low in
      let above = held.above in
      omega (arith, ints, long, power, width)

pub negative_number : (negative : Bool) (size : ℕ) → negative ≡ true → whole_number negative size ≡ neg_ℤ (pos size)
negative_number negative size is = ap (λ b. whole_number b size) is
