-- Numbers of 64 bits, computed in 128 bits.
use Rattle.std.specs.Prelude.{◌≡◌, ◌*◌, ◌-◌, ◌^◌, ◌≤◌, ◌<ℤ◌, ◌*ℤ◌, ◌+ℤ◌, ◌-ℤ◌, ℤ, pos, negsuc, unsigned_abs}
use Rattle.std.proofs.Common.{arith, refl, ◌∙◌}
use Rattle.std.proofs.lemmas.Int.{ints, to_z-of_z, unsigned_abs-mul}
use Rattle.std.proofs.lemmas.Nat.{mul-le}
use mir.Syntax.{w128}
use mir.Val.{SFits, of_z, to_z}
use Rattle.ratio_integer.specs.Fraction.{Fits, IsHeldLowest}
use Rattle.ratio_integer.specs.Range.{IsHeld}
use Rattle.ratio_integer.specs.SignedBits.{IsHeld128, IsHeld64, greatest128, least128}
use Rattle.ratio_integer.proofs.LowestTerms.{denom_out, numer_out}

-- ---- widths

-- z fits 127 signed bits, so a sum of two such numbers fits 128
abbrev pub HasRoom : ℤ → Type 0
HasRoom z = IsHeld (negsuc (2 ^ 126 - 1)) (pos (2 ^ 126 - 1)) z

-- the number that code reads from the 128 bits of z
abbrev pub wide_of : ℤ → ℤ
wide_of z = to_z w128 (of_z w128 z)

-- it is z
wide_is : (z : ℤ) → IsHeld128 z → wide_of z ≡ z
wide_is z wide = to_z-of_z w128 z (wide_fits z wide)
  where
    wide_fits : (z : ℤ) → IsHeld128 z → SFits w128 z
    wide_fits (pos n) wide = let below = wide.below in record { sfits = omega (arith, ints) }
    wide_fits (negsuc n) wide = let above = wide.above in record { sfits = omega (arith, ints) }

narrow_wide : (p x : ℤ) → p ≡ x → IsHeld64 x → wide_of p ≡ x
narrow_wide p x p-is narrow =
    let above = narrow.above in
    let below = narrow.below in
    wide_is p (record { above = omega (arith, ints); below = omega (arith, ints) }) ∙ p-is

pub room_wide : (p x : ℤ) → p ≡ x → HasRoom p → wide_of p ≡ x
room_wide p x p-is room =
    let above = room.above in
    let below = room.below in
    wide_is p (record { above = omega (arith, ints); below = omega (arith, ints) }) ∙ p-is

-- ---- `product`: a narrow number times a positive narrow one has room

product_room : (x y : ℤ) → IsHeld64 x → IsHeld64 y → pos 0 <ℤ y → HasRoom (x *ℤ y)
product_room x y x_narrow y_narrow positive = by_size (x *ℤ y) (
    rw (unsigned_abs-mul x y) (mul-le (unsigned_abs x) (unsigned_abs y) (2 ^ 63) (2 ^ 63 - 1) (size x x_narrow) (positive_size y positive y_narrow)))
  where
    size : (z : ℤ) → IsHeld64 z → unsigned_abs z ≤ 2 ^ 63
    size z narrow = let above = narrow.above in let below = narrow.below in omega (arith, ints)

    positive_size : (z : ℤ) → pos 0 <ℤ z → IsHeld64 z → unsigned_abs z ≤ 2 ^ 63 - 1
    positive_size z above_zero narrow = let below = narrow.below in omega (arith, ints)

    by_size : (z : ℤ) → unsigned_abs z ≤ 2 ^ 63 * (2 ^ 63 - 1) → HasRoom z
    by_size z small = record { above = omega (arith, ints); below = omega (arith, ints) }

pub product_wide_room : (p q x y : ℤ) → p ≡ x → q ≡ y → IsHeld64 x → IsHeld64 y → pos 0 <ℤ y → HasRoom (wide_of (wide_of p *ℤ wide_of q))
product_wide_room p q x y p-is q-is x_narrow y_narrow positive =
    let room = product_room x y x_narrow y_narrow positive in
    rw (narrow_wide p x p-is x_narrow, narrow_wide q y q-is y_narrow, room_wide (x *ℤ y) (x *ℤ y) refl room) room

-- ---- the sum and the difference of two numbers with room

pub sum_wide : (p q x y : ℤ) → p ≡ x → q ≡ y → HasRoom p → HasRoom q → wide_of (wide_of p +ℤ wide_of q) ≡ x +ℤ y
sum_wide p q x y p-is q-is p_room q_room =
    rw (room_wide p x p-is p_room, room_wide q y q-is q_room) (wide_is (x +ℤ y) (is_wide x y (rw p-is at p_room) (rw q-is at q_room)))
  where
    is_wide : (x y : ℤ) → HasRoom x → HasRoom y → IsHeld128 (x +ℤ y)
    is_wide x y first second =
        let first_above = first.above in
        let first_below = first.below in
        let second_above = second.above in
        let second_below = second.below in
        record { above = omega (arith, ints); below = omega (arith, ints) }

pub difference_wide : (p q x y : ℤ) → p ≡ x → q ≡ y → HasRoom p → HasRoom q → wide_of (wide_of p -ℤ wide_of q) ≡ x -ℤ y
difference_wide p q x y p-is q-is p_room q_room =
    rw (room_wide p x p-is p_room, room_wide q y q-is q_room) (wide_is (x -ℤ y) (is_wide x y (rw p-is at p_room) (rw q-is at q_room)))
  where
    is_wide : (x y : ℤ) → HasRoom x → HasRoom y → IsHeld128 (x -ℤ y)
    is_wide x y first second =
        let first_above = first.above in
        let first_below = first.below in
        let second_above = second.above in
        let second_below = second.below in
        record { above = omega (arith, ints); below = omega (arith, ints) }

-- ---- if a number of the lowest terms a/b of n/d is out of range, n/d does not fit

module _ (lo hi n d a b : ℤ) (n_fits : SFits w128 n) (d_fits : SFits w128 d) (low : IsHeldLowest least128 greatest128 (wide_of n) (wide_of d) a b) where
  pub numer_out_narrow : ¬ (IsHeld lo hi (wide_of a)) → ¬ (Fits lo hi n d)
  numer_out_narrow out =
      let found = rw (to_z-of_z w128 n n_fits, to_z-of_z w128 d d_fits) at low in
      numer_out lo hi n d a b found.terms (rw (wide_is a low.numer_held) at out)

  pub denom_out_narrow : ¬ (IsHeld lo hi (wide_of b)) → ¬ (Fits lo hi n d)
  denom_out_narrow out =
      let found = rw (to_z-of_z w128 n n_fits, to_z-of_z w128 d d_fits) at low in
      denom_out lo hi n d a b found.terms (rw (wide_is b low.denom_held) at out)
