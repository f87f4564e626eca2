-- Numbers of types of a few bits, and the lowest terms of a total over such a type.
use Rattle.std.specs.Prelude.{◌≡◌, ◌^◌, ◌<◌, ◌≤◌, ◌+ℤ◌, ℕ, ℤ, pos, unsigned_abs, Option, Some, None}
use Rattle.std.proofs.Common.{subst, arith, inl, inr}
use Rattle.std.proofs.Math.Nat.{pow-le-pow_right}
use Rattle.std.proofs.lemmas.Int.{ints}
use Rattle.ratio_integer.specs.Fraction.{ChecksLowest, Fits, IsLowestTerms}
use Rattle.ratio_integer.specs.Range.{IsHeld, IsRange}
use Rattle.ratio_integer.proofs.Whole.{positive_nonzero}
use Rattle.ratio_slots.specs.LowestSum.{ChecksPairBelow, HasPairNotBelow, IsPairBelow}
use Rattle.ratio_integer.proofs.LowestTerms.{checks_lowest_moved, denom_out, lowest_own, numer_out}

-- each number of a type of at most `most` bits is below 2^most in magnitude
-- Example: 64 bits
pub short_held : {most : ℕ} (lo hi : ℤ) (bits : ℕ) (z : ℤ) → bits ≤ most → hi +ℤ pos 1 ≡ lo +ℤ pos (2 ^ bits) → IsRange lo hi → IsHeld lo hi z → unsigned_abs z < 2 ^ most
short_held {most = most} lo hi bits z few width range held =
    let power : 2 ^ bits ≤ 2 ^ most = pow-le-pow_right {n = 2} (omega arith) {i = bits} {j = most} few in
    let high = range.high in
    let low = range.low in
    let above = held.above in
    let below = held.below in
    omega (arith, ints)

-- two numbers in lowest terms do not fit if the first is out of range, or the second
pub numer_refused : (lo hi n d : ℤ) → IsLowestTerms n d → ¬ (IsHeld lo hi n) → ¬ (Fits lo hi n d)
numer_refused lo hi n d lowest out = numer_out lo hi n d n d (lowest_own n d lowest) out

pub denom_refused : (lo hi n d : ℤ) → IsLowestTerms n d → ¬ (IsHeld lo hi d) → ¬ (Fits lo hi n d)
denom_refused lo hi n d lowest out = denom_out lo hi n d n d (lowest_own n d lowest) out

-- ---- the lowest terms of a total

-- what is the result for the lowest terms of a fraction is its result
pub terms_moved : {bound : ℕ} {R : Type 0} (numer denom : R → ℤ) (lo hi : ℤ) (x : ℤ × ℕ) (n : ℤ) (d : ℕ) (r : Option R) → IsPairBelow bound x n d → ChecksLowest numer denom lo hi (n, pos d) r → ChecksLowest numer denom lo hi (x.0, pos x.1) r
terms_moved numer denom lo hi x n d r short checks =
    checks_lowest_moved numer denom lo hi n (pos d) x.0 (pos x.1) r (positive_nonzero (pos d) short.terms.lowest.positive) short.terms.fraction short.terms.same checks

-- where each number is below the bound in magnitude, one that is not is out of range
out_of_range : (bound : ℕ) (lo hi z : ℤ) → ((y : ℤ) → IsHeld lo hi y → unsigned_abs y < bound) → bound ≤ unsigned_abs z → ¬ (IsHeld lo hi z)
out_of_range bound lo hi z small long held = absurd (omega (arith, small z held, long))

-- a fraction with such a number in its lowest terms does not fit
pub long_out : {bound : ℕ} (lo hi : ℤ) (x : ℤ × ℕ) → ((y : ℤ) → IsHeld lo hi y → unsigned_abs y < bound) → HasPairNotBelow bound x → ¬ (Fits lo hi x.0 (pos x.1))
long_out {bound = bound} lo hi x small long = elim long.long [
  | inl numer ↦ numer_out lo hi x.0 (pos x.1) long.numer (pos long.denom) long.terms (out_of_range bound lo hi long.numer small numer)
  | inr denom ↦ denom_out lo hi x.0 (pos x.1) long.numer (pos long.denom) long.terms (out_of_range bound lo hi (pos long.denom) small denom)
]

pub sum_some : (bound : ℕ) {R : Type 0} (numer denom : R → ℤ) (lo hi : ℤ) (x : ℤ × ℕ) (n : ℤ) (d : ℕ) (read : Option (ℤ × ℕ)) (r : Option R) → read ≡ Some (n, d) → ChecksPairBelow bound x read
    → ChecksLowest numer denom lo hi (n, pos d) r → ChecksLowest numer denom lo hi (x.0, pos x.1) r
sum_some bound numer denom lo hi x n d read r is short checks = terms_moved {bound = bound} numer denom lo hi x n d r (subst (ChecksPairBelow bound x) is short) checks

pub sum_none : (bound : ℕ) (lo hi : ℤ) (x : ℤ × ℕ) (read : Option (ℤ × ℕ)) → ((y : ℤ) → IsHeld lo hi y → unsigned_abs y < bound) → read ≡ None → ChecksPairBelow bound x read → ¬ (Fits lo hi x.0 (pos x.1))
sum_none bound lo hi x read small is long = long_out {bound = bound} lo hi x small (subst (ChecksPairBelow bound x) is long)
