-- The two's complement of a number below 0: its distance from the least number, and the greatest number and 1.
use Rattle.std.proofs.Common.{◌≡◌, ◌⊎◌, sym, ◌∙◌, ap, arith, rules, ℕ, ◌+◌, ◌-◌, ◌^◌, ◌≤◌, ℤ, pos, negsuc, ◌+ℤ◌, ◌-ℤ◌, ◌≤ℤ◌, ◌<ℤ◌, neg_ℤ, Option, Some, None, inl, inr}
use Rattle.std.specs.Prelude.{IsSome}
use Rattle.std.proofs.Math.Nat.{pow-le-pow_right}
use Rattle.std.proofs.lemmas.Int.{ints}
use Rattle.ratio_integer.specs.Range.{Checks, IsHeld, IsRange}
use Rattle.ratio_integer.specs.SignedBits.{greatest128}
use Rattle.ratio_core.specs.Printing.{twos_complement}

-- z is below 0, and in range for a signed type of this width
pub record IsBelowZero (lo hi z p : ℤ) : Type 0 where
  pub below : z <ℤ pos 0
  pub above_least : lo ≤ℤ z
  pub near_least : (z -ℤ lo) ≤ℤ hi
  pub greatest : hi ≤ℤ greatest128
  pub width : hi +ℤ pos 1 ≡ lo +ℤ p

not_above : (z hi : ℤ) → hi ≤ℤ pos (2 ^ 128 - 1) → z ≤ℤ hi → ¬ (IsHeld (pos 0) (pos (2 ^ 128 - 1)) z) → z <ℤ pos 0
not_above (pos n) hi high held out = absurd (out (record { above = omega (arith, ints); below = omega (arith, ints, high, held) }))
not_above (negsuc n) hi high held out = omega (arith, ints)

by_least : (lo hi z p : ℤ) → (lo ≡ pos 0) ⊎ (lo ≡ neg_ℤ hi) ⊎ (lo ≡ neg_ℤ hi -ℤ pos 1) → hi +ℤ pos 1 ≡ lo +ℤ p → p ≤ℤ pos (2 ^ 128) → IsHeld lo hi z
    → z <ℤ pos 0 → IsBelowZero lo hi z p
by_least lo hi z p (inl h) width small held below = absurd (omega (arith, ints, h, held.above, below))
by_least lo hi z p (inr (inl h)) width small held below = record {
  below = below;
  above_least = held.above;
  near_least = omega (arith, ints, h, below);
  greatest = omega (arith, ints, h, width, small);
  width = width;
}
by_least lo hi z p (inr (inr h)) width small held below = record {
  below = below;
  above_least = held.above;
  near_least = omega (arith, ints, h, below);
  greatest = omega (arith, ints, h, width, small);
  width = width;
}

high_of : (lo hi p : ℤ) → (lo ≡ pos 0) ⊎ (lo ≡ neg_ℤ hi) ⊎ (lo ≡ neg_ℤ hi -ℤ pos 1) → hi +ℤ pos 1 ≡ lo +ℤ p → p ≤ℤ pos (2 ^ 128) → hi ≤ℤ pos (2 ^ 128 - 1)
high_of lo hi p (inl h) width small = omega (arith, ints, h, width, small)
high_of lo hi p (inr (inl h)) width small = omega (arith, ints, h, width, small)
high_of lo hi p (inr (inr h)) width small = omega (arith, ints, h, width, small)

-- a number in range that does not fit `u128` is below 0
pub below_zero : (lo hi z : ℤ) (bits : ℕ) → IsRange lo hi → (bits ≤ 128) × (hi +ℤ pos 1 ≡ lo +ℤ pos (2 ^ bits)) → IsHeld lo hi z
    → ¬ (IsHeld (pos 0) (pos (2 ^ 128 - 1)) z) → IsBelowZero lo hi z (pos (2 ^ bits))
below_zero lo hi z bits range width held out =
    let p : 2 ^ bits ≤ 2 ^ 128 = pow-le-pow_right {n = 2} (omega arith) width.0 in
    let small : pos (2 ^ bits) ≤ℤ pos (2 ^ 128) = omega (arith, ints, p) in
    by_least lo hi z (pos (2 ^ bits)) range.low width.1 small held (not_above z hi (high_of lo hi (pos (2 ^ bits)) range.low width.1 small) held.below out)

-- if a number fits `u128`, the result is `Some`
pub some_natural : (z : ℤ) (r : Option ℕ) → Checks (λ n. pos n) (pos 0) (pos (2 ^ 128 - 1)) z r → pos 0 ≤ℤ z → z ≤ℤ pos (2 ^ 128 - 1) → IsSome r
some_natural z None out above below = absurd (out (record { above = above; below = below }))
some_natural z (Some n) is above below = search rules

pub natural_is : (z : ℤ) (r : Option ℕ) (n : ℕ) → Checks (λ n. pos n) (pos 0) (pos (2 ^ 128 - 1)) z r → r ≡ Some n → pos n ≡ z
natural_is z None n is e = absurd (let none : None ≡ Some n = e in cc)
natural_is z (Some m) n is e = let same : m ≡ n = cc in ap pos (sym same) ∙ is.1

-- the sum of the two, and 1, is the two's complement
pub complement_sum : (lo hi z : ℤ) (bits above greatest : ℕ) → IsBelowZero lo hi z (pos (2 ^ bits)) → pos above ≡ (z -ℤ lo) → pos greatest ≡ hi → above + greatest + 1 ≡ twos_complement bits z
complement_sum lo hi (pos n) bits above greatest h a g = absurd (omega (arith, ints, h.below))
complement_sum lo hi (negsuc n) bits above greatest h a g = omega (arith, ints, a, g, h.width)
