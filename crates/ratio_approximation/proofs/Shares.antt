-- How often one whole number fits into another.
use Rattle.std.specs.Prelude.{◌+◌, ◌*◌, ◌≤◌, ◌≤ℤ◌, ◌<ℤ◌, ◌-ℤ◌, ◌*ℤ◌, ℤ, pos, negsuc}
use Rattle.std.proofs.Common.{arith}
use Rattle.std.proofs.Math.Nat.{mul-le-mul_right}
use Rattle.std.proofs.lemmas.Int.{ints}
use borrow.Author.Differences.{up, down}
use Rattle.ratio_integer.specs.Division.{IsFlooredQuotient}

-- k is how often b fits into a
pub record IsShare (a b k : ℤ) : Type 0 where
  pub up : pos 0 ≤ℤ k
  pub fits : (b *ℤ k) ≤ℤ a
  pub rest : (a -ℤ b *ℤ k) <ℤ b

pub share : (a b k : ℤ) → pos 0 ≤ℤ a → pos 0 <ℤ b → IsFlooredQuotient a b k → IsShare a b k
share (negsuc a) b k a_up b_up is = absurd (omega (arith, ints))
share (pos a) (negsuc b) k a_up b_up is = absurd (omega (arith, ints))
share (pos a) (pos b) (pos k) a_up b_up is =
    let sum = is.floored.sum in
    let rest = is.floored.rest in
    record { up = omega (arith, ints); fits = grind (arith, ints); rest = grind (arith, ints) }
share (pos a) (pos b) (negsuc k) a_up b_up is = absurd (let sum = is.floored.sum in let rest = is.floored.rest in grind (arith, ints))

pub times_up : (b k j : ℤ) → pos 0 ≤ℤ b → k ≤ℤ j → (b *ℤ k) ≤ℤ (b *ℤ j)
times_up (negsuc b) k j b_up less = absurd (omega (arith, ints))
times_up (pos b) k j b_up less =
    let h : up k + down j ≤ up j + down k = omega (arith, ints) in
    let more : (up k + down j) * b ≤ (up j + down k) * b = mul-le-mul_right b h in
    omega (arith, ints)
