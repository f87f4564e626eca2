-- How many rounds there are: each at least halves two products of gaps.
use Rattle.std.specs.Prelude.{◌≡◌, ◌⊎◌, ◌+◌, ◌*◌, ◌^◌, ◌<◌, ◌≤◌, ℕ, zero, suc, min}
use Rattle.std.proofs.Common.{refl, arith, inl, inr}
use Rattle.std.proofs.Math.Nat.{mul-le-mul, mul-le-mul_left}
use Rattle.std.proofs.Math.Pow.{pow-add}
use Rattle.std.proofs.lemmas.Nat.{mul-lt, pow_below}
use Rattle.ratio_core.specs.ContinuedFraction.{IsWithinBits}
use Rattle.ratio_approximation.proofs.NearestCounting.{either_way, four_products}

-- k rounds have left the product x
pub record IsHalved (d k x : ℕ) : Type 0 where
  pub product : 2 ^ k * (4 * x) ≤ d * d
  pub past : (k ≡ 0) ⊎ (2 ^ (k + 1) ≤ d * d)

pub halved_begun : (d g h : ℕ) → g + h ≤ d → IsHalved d 0 (g * h)
halved_begun d g h sum =
    let square : 4 * (g * h) ≤ (g + h) * (g + h) = four_products g h in
    let whole : (g + h) * (g + h) ≤ d * d = mul-le-mul sum sum in
    let one : 2 ^ 0 ≡ 1 = refl in
    record { product = rw one (omega arith); past = inl refl }

pub halved_more : (d k x y : ℕ) → 0 < x → 2 * y ≤ x → IsHalved d k x → IsHalved d (k + 1) y
halved_more d k x y some half is =
    let power : 2 ^ (k + 1) ≡ 2 ^ k * 2 ^ 1 = pow-add 2 k 1 in
    let twice : 2 ^ (k + 1 + 1) ≡ 2 ^ (k + 1) * 2 ^ 1 = pow-add 2 (k + 1) 1 in
    let product = is.product in
    let scaled : 2 ^ k * (2 * y) ≤ 2 ^ k * x = mul-le-mul_left (2 ^ k) half in
    let least : 2 ^ k * 1 ≤ 2 ^ k * x = mul-le-mul_left (2 ^ k) some in
    record { product = rw power (omega arith); past = inr (rw (twice, power) (omega arith)) }

pub halved_bound : (d k x : ℕ) → 0 < d → IsHalved d k x → IsWithinBits d (k + 2)
halved_bound d k x up is zero less = absurd (omega arith)
halved_bound d k x up is (suc j) less = elim is.past [
  | inl none ↦ omega arith
  | inr past ↦
      let square : d * d < 2 ^ suc j * 2 ^ suc j = mul-lt d d (2 ^ suc j) (2 ^ suc j) less less in
      let double : 2 ^ (suc j + suc j) ≡ 2 ^ suc j * 2 ^ suc j = pow-add 2 (suc j) (suc j) in
      elim (either_way (k + 2) (2 * suc j)) [
        | inl h ↦ h
        | inr h ↦ absurd (let larger : 2 ^ (suc j + suc j) ≤ 2 ^ (k + 1) = pow_at_most (suc j + suc j) (k + 1) (omega arith) in omega arith)
      ]
]
  where
    pow_at_most : (a b : ℕ) → a ≤ b → 2 ^ a ≤ 2 ^ b
    pow_at_most a b less = elim (either_way b a) [
      | inl h ↦ (let same : a ≡ b = omega arith in rw same (omega arith))
      | inr h ↦ omega (arith, pow_below a b h)
    ]

pub within_both : (d e k : ℕ) → IsWithinBits d k → IsWithinBits e k → IsWithinBits (min d e) k
within_both d e k first second j less = elim (either_way d e) [
  | inl h ↦ first j (omega arith)
  | inr h ↦ second j (omega arith)
]
