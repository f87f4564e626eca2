-- From the leading digits of a quotient to the bits of the nearest float.
use Rattle.std.specs.Prelude.{◌≡◌, ◌≢◌, ◌+◌, ◌-◌, ◌*◌, ◌/◌, ◌%◌, ◌^◌, ◌<◌, ◌≤◌, ◌<ℤ◌, ℕ, ℤ, zero, suc, pos, negsuc, unsigned_abs, Bool, true, false, max, nat_eq, nat_lt, IsTrue, ◌↔◌}
use Rattle.std.specs.Float.{Float, Format, float_with_sign}
use Rattle.std.specs.Float.Ieee.{low, prec, round}
use Rattle.std.proofs.Common.{refl, sym, ap, arith, ◌∙◌, subst}
use Rattle.std.proofs.lemmas.Int.{ints}
use Rattle.std.proofs.lemmas.Nat.{pow-add, pow_pos}
use Rattle.std.proofs.Math.Nat.{eq_of_mul-eq-mul_right, lt_of_mul-lt-mul_right, mul-le-mul_right, mul-pos, mul_assoc, pow-le-pow_right, add-zero, div-add-mod'}
use lib.Count.{count_leading_zeros, leading_top}
use lib.Pow.{shl_exact}
use mir.Val.{bool_byte}
use borrow.Author.Tests.{ltb-false, ltb-true}
use Rattle.core.specs.Dec2flt.Rounding.{scaled_bits, IsCut, IsNearestBits, IsSignificand, IsWithin}
use Rattle.core.proofs.dec2flt.Patterns.{shape}
use Rattle.core.proofs.dec2flt.RoundingLemmas.{nearest_above, nearest_of_near, nearest_tie}
use Rattle.core.proofs.dec2flt.Settle.{lies_above, rounds_down, rounds_up, significand_of}
use Rattle.core.proofs.num.FloatSigns.{signed_round}
use Rattle.ratio_decimal.specs.Floats.{IsCutQuotient, nearest_float}
use Rattle.ratio_decimal.proofs.FloatQuotient.{factor_cut, without_factor}

-- ---- the units of the format

numer_moved : (n u l c : ℕ) → n * u * (l * c) ≡ n * l * c * u
numer_moved n u l c = grind arith

denom_moved : (d p u l w c : ℕ) → p * u ≡ l * w * c → d * w * (l * c) ≡ d * p * u
denom_moved d p u l w c is =
    let first : d * w * (l * c) ≡ d * (l * w * c) = grind arith in
    let last : d * (p * u) ≡ d * p * u = grind arith in
    first ∙ ap (λ x. d * x) (sym is) ∙ last

-- the same digits, `dropped` of them behind the last one that the float keeps
pub in_units : (f : Format) (n d h up down dropped place : ℕ) (more : Bool) → place + up ≡ low f + down + dropped
    → IsCutQuotient (n * 2 ^ up) (d * 2 ^ down) h more → IsCutQuotient (n * 2 ^ low f * 2 ^ dropped) (d * 2 ^ place) h more
in_units f n d h up down dropped place more places is =
    let c = 2 ^ low f * 2 ^ dropped in
    let powers : 2 ^ place * 2 ^ up ≡ 2 ^ low f * 2 ^ down * 2 ^ dropped =
    sym (pow-add 2 place up) ∙ ap (λ x. 2 ^ x) places ∙ pow-add 2 (low f + down) dropped ∙ ap (λ x. x * 2 ^ dropped) (pow-add 2 (low f) down) in
    let P : ℕ → ℕ → Type 0 = λ a b. IsCutQuotient a b h more in
    let scaled = factor_cut _ _ h c more (mul-pos (pow_pos (low f)) (pow_pos dropped)) is in
    let turned = subst (λ a. P a (d * 2 ^ down * c)) (numer_moved n (2 ^ up) (2 ^ low f) (2 ^ dropped)) scaled in
    let same = subst (λ b. P (n * 2 ^ low f * 2 ^ dropped * 2 ^ up) b) (denom_moved d (2 ^ place) (2 ^ up) (2 ^ low f) (2 ^ down) (2 ^ dropped) powers) turned in
    without_factor _ _ h (2 ^ up) more (pow_pos up) same

-- ---- by the digits that are dropped

twice_half : (c h d p kept half : ℕ) → h ≡ kept * c + half → 2 * half ≡ c → 2 * (h * (d * p)) ≡ (2 * kept + 1) * (d * p) * c
twice_half c h d p kept half is twice =
    let all : 2 * h ≡ (2 * kept + 1) * c = omega (arith, is, twice) in
    let first : 2 * (h * (d * p)) ≡ 2 * h * (d * p) = omega arith in
    let last : (2 * kept + 1) * c * (d * p) ≡ (2 * kept + 1) * (d * p) * c = grind arith in
    first ∙ ap (λ x. x * (d * p)) all ∙ last

module _ {h dropped kept rest half : ℕ} (cut : IsCut h dropped kept rest half) where
  half_some : 0 < half
  half_some = omega (arith, cut.twice, pow_pos dropped)

  parts : h ≡ kept * 2 ^ dropped + rest
  parts = rw (cut.above, cut.below) (sym (div-add-mod' h (2 ^ dropped)))

  halfway : (d place : ℕ) → rest ≡ half → 2 * (h * (d * 2 ^ place)) ≡ (2 * kept + 1) * (d * 2 ^ place) * 2 ^ dropped
  halfway d place tie = twice_half (2 ^ dropped) h d (2 ^ place) kept half (omega (arith, parts, tie)) cut.twice

module _ (n : ℕ) {f : Format} {d h place dropped kept rest half : ℕ} (D : 0 < d) (fits : IsSignificand f (h / 2 ^ dropped) place) (cut : IsCut h dropped kept rest half) where
  within : (more : Bool) → IsCutQuotient (n * 2 ^ low f * 2 ^ dropped) (d * 2 ^ place) h more → IsWithin f n d h 1 dropped place
  within false is = record { from = omega (arith, is.whole); below = is.below }
  within true is = record { from = omega (arith, is.cut); below = is.below }

  pub below_half : (more : Bool) → IsCutQuotient (n * 2 ^ low f * 2 ^ dropped) (d * 2 ^ place) h more → rest < half → IsNearestBits f n d (scaled_bits f kept place)
  below_half more is less = rounds_down fits cut D (within more is) (omega (arith, less))

  pub beside_half : (more : Bool) → IsCutQuotient (n * 2 ^ low f * 2 ^ dropped) (d * 2 ^ place) h more → rest ≢ half → IsNearestBits f n d (scaled_bits f (kept + bool_byte (nat_lt half rest)) place)
  beside_half more is other = by_test (nat_lt half rest) refl
    where
      by_test : (b : Bool) → nat_lt half rest ≡ b → IsNearestBits f n d (scaled_bits f (kept + bool_byte b) place)
      by_test true e = rounds_up fits cut D (within more is) (ltb-true half rest e) (half_some cut)
      by_test false e = simp add-zero (below_half more is (let low_rest = ltb-false half rest e in omega (arith, other)))

  pub tie_whole : IsCutQuotient (n * 2 ^ low f * 2 ^ dropped) (d * 2 ^ place) h false → rest ≡ half → IsNearestBits f n d (scaled_bits f (kept + kept % 2) place)
  tie_whole is tie =
      let near = lies_above fits cut D (within false is) (omega arith) (half_some cut) in
      let scaled : 2 * (n * 2 ^ low f) * 2 ^ dropped ≡ (2 * kept + 1) * (d * 2 ^ place) * 2 ^ dropped = omega (arith, is.whole, halfway cut d place tie) in
      nearest_tie f n d kept place D near (eq_of_mul-eq-mul_right (2 ^ dropped) (pow_pos dropped) _ _ scaled)

  pub tie_more : IsCutQuotient (n * 2 ^ low f * 2 ^ dropped) (d * 2 ^ place) h true → rest ≡ half → IsNearestBits f n d (scaled_bits f (kept + 1) place)
  tie_more is tie =
      let near = lies_above fits cut D (within true is) (omega arith) (half_some cut) in
      let scaled : (2 * kept + 1) * (d * 2 ^ place) * 2 ^ dropped < 2 * (n * 2 ^ low f) * 2 ^ dropped = omega (arith, is.cut, halfway cut d place tie) in
      nearest_above f n d kept place D near (lt_of_mul-lt-mul_right (2 ^ dropped) scaled)

-- ---- how many digits are dropped

-- h has 63 or 64 digits; a float near 0 keeps fewer than the format has
pub record AreDropped (f : Format) (h up down dropped : ℕ) : Type 0 where
  pub full : 2 ^ 62 ≤ h
  pub short : h < 2 ^ 64
  pub is : dropped ≡ max (63 + h / 2 ^ 63 - prec f) (up - (low f + down))

pub place_is : (f : Format) (h up down dropped : ℕ) → AreDropped f h up down dropped → low f + down + dropped - up + up ≡ low f + down + dropped
place_is f h up down dropped are = omega (arith, are.is)

pub significand : (f : Format) (h up down dropped : ℕ) → AreDropped f h up down dropped → IsSignificand f (h / 2 ^ dropped) (low f + down + dropped - up)
significand f h up down dropped are =
    let s = shape f in
    significand_of f 62 h (h / 2 ^ 63) dropped _ are.full (omega (arith, are.short)) refl (omega (arith, are.is)) (λ above. omega (arith, are.is, s.digits))

pub digits_held : (f : Format) (h dropped place kept : ℕ) → IsSignificand f (h / 2 ^ dropped) place → kept ≤ h / 2 ^ dropped + 1 → kept ≤ 2 ^ 53
digits_held f h dropped place kept fits less =
    let s = shape f in
    omega (arith, less, fits.fits, pow-le-pow_right {n = 2} (omega arith) {i = prec f} {j = 53} (omega (arith, s.digits)))

bit_byte : (r : ℕ) → r < 2 → bool_byte (nat_eq r 1) ≡ r
bit_byte zero less = refl
bit_byte (suc zero) less = refl
bit_byte (suc (suc r)) less = absurd (omega (arith, less))

pub odd_byte : (k : ℕ) → bool_byte (nat_eq (k % 2) 1) ≡ k % 2
odd_byte k = bit_byte (k % 2) (omega arith)

pub one_at_most : (b : Bool) → bool_byte b ≤ 1
one_at_most true = omega arith
one_at_most false = omega arith

-- ---- zero, and numbers below it

pub nearest_zero : (f : Format) (n d : ℕ) → 0 < d → n ≡ 0 → IsNearestBits f n d 0
nearest_zero f n d D none =
    let bits : scaled_bits f 0 0 ≡ 0 = omega arith in
    let P : ℕ → Type 0 = IsNearestBits f n d in
    let one : d * 2 ^ 0 ≡ d = omega arith in
    let size : n * 2 ^ low f ≡ 0 = rw none (omega arith) in
    subst P bits (nearest_of_near f n d 0 0 D (omega arith) (λ above. absurd (omega (arith, above))) (λ above. absurd (omega (arith, above))) (omega (arith, size, one)) (omega (arith, size, one)))

pub nearest_with_sign : (f : Format) (n d : ℤ) (s : Bool) (x : Float) → (IsTrue s ↔ (n <ℤ pos 0)) → x ≡ round f false (unsigned_abs n) (unsigned_abs d) → float_with_sign s x ≡ nearest_float f n d
nearest_with_sign f (pos n) d true x below is = (let less = below.0 refl in absurd (omega (arith, ints, less)))
nearest_with_sign f (pos n) d false x below is = ap (float_with_sign false) is ∙ signed_round f false _ _
nearest_with_sign f (negsuc n) d true x below is = ap (float_with_sign true) is ∙ signed_round f true _ _
nearest_with_sign f (negsuc n) d false x below is = absurd (let no : false ≡ true = below.1 (omega (arith, ints)) in cc)

-- ---- the zeros before a number

pub moved_top : (n : ℕ) → 0 < n → n < 2 ^ 128 → (n * 2 ^ count_leading_zeros 128 n % 2 ^ 128 ≡ n * 2 ^ count_leading_zeros 128 n) × (2 ^ 127 ≤ n * 2 ^ count_leading_zeros 128 n % 2 ^ 128)
moved_top n some fits =
    let z = count_leading_zeros 128 n in
    let t = leading_top 128 n some fits in
    let exact : n * 2 ^ z % 2 ^ 128 ≡ n * 2 ^ z = shl_exact (suc t.0) z 128 t.3 (omega (arith, t.1)) in
    let top : 2 ^ t.0 * 2 ^ z ≡ 2 ^ 127 = sym (pow-add 2 t.0 z) ∙ ap (λ x. 2 ^ x) {y = 127} (omega (arith, t.1)) in
    (exact, omega (arith, exact, mul-le-mul_right (2 ^ z) t.2))

pub moved_further : (n z : ℕ) → n * 2 ^ z * 2 ^ 63 ≡ n * 2 ^ (z + 63)
moved_further n z = mul_assoc n (2 ^ z) (2 ^ 63) ∙ ap (λ x. n * x) (sym (pow-add 2 z 63))
