-- The value of a float from the three fields of its bits.
use Rattle.std.specs.Prelude.{◌≡◌, ◌≢◌, ◌+◌, ◌-◌, ◌*◌, ◌/◌, ◌%◌, ◌^◌, ◌<◌, ℕ, ℤ, zero, suc, pos, Bool, true, false, cond, T, Option, ◌*ℤ◌, eqb}
use Rattle.std.specs.Float.{Float, nan, inf, fin, Format, binary64}
use Rattle.std.specs.Float.Ieee.{down, fits, hid, is_nan, low, of_bits, of_fields, ones, prec, to_bits, top, up}
use Rattle.std.proofs.Common.{refl, sym, arith, ◌∙◌, subst}
use borrow.Author.Tests.{ne_eqb, eq-eqb}
use lib.Dec.{leb}
use lib.Ieee.Bits.{of_bits-to_bits}
use lib.Ieee.Exact.{HasValue, odd_sign}
use lib.Ieee.Fits.{down_pos}
use Rattle.ratio_integer.specs.Fraction.{ChecksLowest, Fits}
use Rattle.ratio_integer.proofs.LowestTerms.{checks_lowest_moved}
use Rattle.ratio_decimal.specs.Floats.{fraction_of_float}
use Rattle.ratio_core.specs.Signs.{with_sign}
use Rattle.ratio_core.proofs.SignedNumbers.{with_sign-mul}

-- ---- a float with a value, and a float without one

nonzero : (k : ℕ) → 0 < k → pos k ≢ pos 0
nonzero k above = λ e. (let z : k ≡ 0 = cc in omega arith)

-- if the size of the float is a/c, the lowest terms of a/c with its sign are those of its fraction
pub value_moved : {R : Type 0} (numer denom : R → ℤ) (lo hi : ℤ) (x : Float) (s : Bool) (a c : ℕ) (r : Option R) → 0 < c → HasValue x s a c
    → ChecksLowest numer denom lo hi (with_sign s a, pos c) r → ChecksLowest numer denom lo hi (fraction_of_float x) r
value_moved numer denom lo hi nan s a c r above is checked = absurd is
value_moved numer denom lo hi (inf t) s a c r above is checked = absurd is
value_moved numer denom lo hi (fin t m e) s a c r above is checked =
    let same : with_sign t (m * up e) *ℤ pos c ≡ with_sign s a *ℤ pos (down e) =
    with_sign-mul t (m * up e) c ∙ (λ i. with_sign (is.0 i) (is.1 i)) ∙ sym (with_sign-mul s a (down e)) in
    checks_lowest_moved numer denom lo hi (with_sign s a) (pos c) (with_sign t (m * up e)) (pos (down e)) r (nonzero c above) (nonzero (down e) (down_pos e)) same checked

no_fraction : (lo hi : ℤ) → ¬ (Fits lo hi (pos 0) (pos 0))
no_fraction lo hi fits = fits.low.terms.fraction refl

pub nan_out : (lo hi : ℤ) (x : Float) → is_nan x ≡ true → ¬ (Fits lo hi (fraction_of_float x).0 (fraction_of_float x).1)
unfolding is_nan
nan_out lo hi nan is = no_fraction lo hi
nan_out lo hi (inf s) is = absurd (let e : false ≡ true = is in cc)
nan_out lo hi (fin s m e) is = absurd (let e : false ≡ true = is in cc)

-- ---- the three fields of the bits: the sign, the exponent e and the digits t

pub kept : (f : Format) (x : Float) → T (fits f x) → x ≡ of_fields f (leb (top f) (to_bits f x)) (to_bits f x % top f / hid f) (to_bits f x % hid f)
unfolding of_bits
kept f x fit = sym (of_bits-to_bits f x fit)

-- the exponent of an infinity or a NaN
none_there : (lo hi : ℤ) (f : Format) (s : Bool) (e t : ℕ) → e ≡ ones f → 0 < e → ¬ (Fits lo hi (fraction_of_float (of_fields f s e t)).0 (fraction_of_float (of_fields f s e t)).1)
unfolding of_fields
none_there lo hi f s zero t top above = absurd (omega arith)
none_there lo hi f s (suc e) t top above = rw (eq-eqb (suc e) (ones f) top) (either (eqb t 0))
  where
    either : (b : Bool) → ¬ (Fits lo hi (fraction_of_float (cond b (inf s) nan)).0 (fraction_of_float (cond b (inf s) nan)).1)
    either true = no_fraction lo hi
    either false = no_fraction lo hi

-- the exponent of the least floats: there is no leading digit beside those of the field
pub low_there : (f : Format) (s : Bool) (e t : ℕ) → e ≡ 0 → HasValue (of_fields f s e t) s (t * 2 ^ 0) (2 ^ low f)
unfolding of_fields
low_there f s zero t none = odd_sign (prec f) s t 0 (low f)
low_there f s (suc e) t none = absurd (omega arith)

pub leading_there : (f : Format) (s : Bool) (e t : ℕ) → e ≢ 0 → e ≢ ones f → HasValue (of_fields f s e t) s ((hid f + t) * 2 ^ (e - 1)) (2 ^ low f)
unfolding of_fields
leading_there f s zero t some other = absurd (some refl)
leading_there f s (suc e) t some other =
    let before : suc e - 1 ≡ e = omega arith in
    rw (ne_eqb (suc e) (ones f) other, before) (odd_sign (prec f) s (hid f + t) e (low f))

module _ (x : Float) (fit : T (fits binary64 x)) where
  pub infinite_out : (lo hi : ℤ) → to_bits binary64 x % 2 ^ 63 / 2 ^ 52 ≡ 2047 → ¬ (Fits lo hi (fraction_of_float x).0 (fraction_of_float x).1)
  infinite_out lo hi top =
      let P : Float → Type 0 = λ y. ¬ (Fits lo hi (fraction_of_float y).0 (fraction_of_float y).1) in
      subst P (sym (kept binary64 x fit)) (none_there lo hi binary64 _ _ _ top (omega arith))

  pub low_value : to_bits binary64 x % 2 ^ 63 / 2 ^ 52 ≡ 0 → HasValue x (leb (2 ^ 63) (to_bits binary64 x)) (to_bits binary64 x % 2 ^ 52 * 2 ^ 0) (2 ^ 1074)
  low_value none =
      let P : Float → Type 0 = λ y. HasValue y (leb (2 ^ 63) (to_bits binary64 x)) (to_bits binary64 x % 2 ^ 52 * 2 ^ 0) (2 ^ 1074) in
      subst P (sym (kept binary64 x fit)) (low_there binary64 _ _ _ none)

  pub leading_value : to_bits binary64 x % 2 ^ 63 / 2 ^ 52 ≢ 0 → to_bits binary64 x % 2 ^ 63 / 2 ^ 52 ≢ 2047
      → HasValue x (leb (2 ^ 63) (to_bits binary64 x)) ((2 ^ 52 + to_bits binary64 x % 2 ^ 52) * 2 ^ (to_bits binary64 x % 2 ^ 63 / 2 ^ 52 - 1)) (2 ^ 1074)
  leading_value some other =
      let P : Float → Type 0 = λ y. HasValue y (leb (2 ^ 63) (to_bits binary64 x)) ((2 ^ 52 + to_bits binary64 x % 2 ^ 52) * 2 ^ (to_bits binary64 x % 2 ^ 63 / 2 ^ 52 - 1)) (2 ^ 1074) in
      subst P (sym (kept binary64 x fit)) (leading_there binary64 _ _ _ some other)
