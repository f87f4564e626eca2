-- The sign among the bits of a float.
use Rattle.std.specs.Prelude.{◌≡◌, ◌+◌, ◌*◌, ◌%◌, ◌^◌, ◌≤◌, ℕ, zero, suc, Bool, true, false, cond, not, leb, T, from_bits}
use Rattle.std.specs.Bool.{fails}
use Rattle.std.specs.Float.{Float, Format, inf, nan, binary32, binary64, float_with_sign}
use Rattle.std.specs.Float.Ieee.{hid, ones, top}
use Rattle.std.proofs.Common.{arith, refl, subst, sym}
use borrow.Author.Tests.{le-leb, le-ltb, lt-leb}
use lib.Ieee.{nan_bits, odd, of_bits, of_fields}
use lib.Ieee.Bits.{nan_bits_above}
use mir.Val.{bool_byte}

odd_with_sign : (s : Bool) (d q k l : ℕ) → odd d s q k l ≡ float_with_sign s (odd d false q k l)
unfolding odd float_with_sign
odd_with_sign s d zero k l = refl
odd_with_sign s d (suc q) k l = refl

at_most_infinite : (s a b : Bool) (x y : Float) → x ≡ float_with_sign s y → cond a (cond b (inf s) nan) x ≡ float_with_sign s (cond a (cond b (inf false) nan) y)
unfolding float_with_sign
at_most_infinite s true true x y is = refl
at_most_infinite s true false x y is = refl
at_most_infinite s false b x y is = is

fields_with_sign : (f : Format) (s : Bool) (x t : ℕ) → of_fields f s x t ≡ float_with_sign s (of_fields f false x t)
unfolding of_fields
fields_with_sign f s zero t = odd_with_sign s _ _ _ _
fields_with_sign f s (suc x) t = at_most_infinite s _ _ _ _ (odd_with_sign s _ _ _ _)

not-nan : (f : Format) (n b : ℕ) → n % top f ≡ b → b ≤ ones f * hid f → T (not (nan_bits f n))
not-nan f n b is most = subst (λ t. T (not t)) (sym (nan_bits_above f n)) (fails _ (le-ltb _ _ (rw is most)))

by_fields : (f : Format) (s : Bool) (b n : ℕ) → leb (top f) n ≡ s → leb (top f) b ≡ false → n % top f ≡ b % top f → n % hid f ≡ b % hid f → of_bits f n ≡ float_with_sign s (of_bits f b)
unfolding of_bits
by_fields f s b n sign plain upper lower = rw (sign, plain, upper, lower) (fields_with_sign f s _ _)

-- n are the bits b with the sign s
pub signed_bits : (f : Format) (s : Bool) (b n : ℕ) → n ≡ b + cond s (top f) 0 → b ≤ ones f * hid f → (from_bits f n ≡ float_with_sign s (from_bits f b)) × T (not (nan_bits f n))
signed_bits binary32 true b n is most = (by_fields binary32 true b n (le-leb _ _ (omega (arith, is))) (lt-leb _ _ (omega (arith, most))) (omega (arith, is, most)) (omega (arith, is)), not-nan binary32 n b (omega (arith, is, most)) most)
signed_bits binary32 false b n is most = (by_fields binary32 false b n (lt-leb _ _ (omega (arith, is, most))) (lt-leb _ _ (omega (arith, most))) (omega (arith, is, most)) (omega (arith, is)), not-nan binary32 n b (omega (arith, is, most)) most)
signed_bits binary64 true b n is most = (by_fields binary64 true b n (le-leb _ _ (omega (arith, is))) (lt-leb _ _ (omega (arith, most))) (omega (arith, is, most)) (omega (arith, is)), not-nan binary64 n b (omega (arith, is, most)) most)
signed_bits binary64 false b n is most = (by_fields binary64 false b n (lt-leb _ _ (omega (arith, is, most))) (lt-leb _ _ (omega (arith, most))) (omega (arith, is, most)) (omega (arith, is)), not-nan binary64 n b (omega (arith, is, most)) most)

pub sign_bit32 : (s : Bool) → bool_byte s * 2 ^ 31 % 2 ^ 32 ≡ cond s (top binary32) 0
sign_bit32 true = refl
sign_bit32 false = refl

pub sign_bit64 : (s : Bool) → bool_byte s * 2 ^ 63 % 2 ^ 64 ≡ cond s (top binary64) 0
sign_bit64 true = refl
sign_bit64 false = refl
