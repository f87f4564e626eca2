-- The greatest common divisor of numbers of a primitive type, from their magnitudes.
use Rattle.std.specs.Prelude.{◌≡◌, ◌-◌, ◌^◌, ◌<◌, ◌≤◌, ◌≤ℤ◌, ℕ, ℤ, pos, negsuc, unsigned_abs, FitsSigned, []}
use Rattle.std.specs.Int.{IsGcd, Width, w8, w16, w32, w64, w128}
use Rattle.std.proofs.Common.{arith, ap, sym, lit≤, ◌∙◌}
use Rattle.std.proofs.lemmas.Int.{fits_signed_from_abs, ints, to_z_pos, to_z-of_z}
use Rattle.std.proofs.lemmas.Nat.{pow_pos}
use Rattle.ratio_integer.specs.Division.{IsGcdAboveMax, IsGcdOf}
use Rattle.ratio_integer.specs.Primitives.{signed_laws, unsigned_laws}
use Rattle.ratio_integer.specs.Range.{IsHeld}
use Rattle.ratio_integer.proofs.LcmLemmas.{gcd_held}
use mir.Val.{Fits, SFits, bits, hbits, of_z, to_z}

signed_room : (w : Width) → 2 ≤ 2 ^ hbits w - 1
signed_room w8 = lit≤ tt
signed_room w16 = lit≤ tt
signed_room w32 = lit≤ tt
signed_room w64 = lit≤ tt
signed_room w128 = lit≤ tt

unsigned_room : (w : Width) → 2 ≤ 2 ^ bits w - 1
unsigned_room w8 = lit≤ tt
unsigned_room w16 = lit≤ tt
unsigned_room w32 = lit≤ tt
unsigned_room w64 = lit≤ tt
unsigned_room w128 = lit≤ tt

pub signed_held : (w : Width) (x : ℤ) → SFits w x → IsHeld (negsuc (2 ^ hbits w - 1)) (pos (2 ^ hbits w - 1)) x
signed_held w (pos n) fits = let small = fits.sfits in record { above = omega (arith, ints); below = omega (arith, ints) }
signed_held w (negsuc n) fits = let small = fits.sfits in record { above = omega (arith, ints); below = omega (arith, ints) }

pub held_fits : (w : Width) (x : ℤ) → IsHeld (negsuc (2 ^ hbits w - 1)) (pos (2 ^ hbits w - 1)) x → SFits w x
held_fits w (pos n) held = let below = held.below in let room : 0 < 2 ^ hbits w = pow_pos (hbits w) in record { sfits = omega (arith, ints) }
held_fits w (negsuc n) held = let above = held.above in let room : 0 < 2 ^ hbits w = pow_pos (hbits w) in record { sfits = omega (arith, ints) }

unsigned_held : (w : Width) (a : ℕ) → Fits w a → IsHeld (pos 0) (pos (2 ^ bits w - 1)) (pos a)
unsigned_held w a fits = let small = fits.fits in record { above = omega (arith, ints); below = omega (arith, ints) }

-- the gcd fits a signed type, except for the pairs of `IsGcdAboveMax`
pub signed_answer : (w : Width) {x y : ℤ} {a b : ℕ} (g : ℕ) → SFits w x → SFits w y → ¬ (IsGcdAboveMax (pos (2 ^ hbits w - 1)) x y) → a ≡ unsigned_abs (to_z w (of_z w x)) → b ≡ unsigned_abs (to_z w (of_z w y)) → IsGcd a b g → FitsSigned w (pos g) × IsGcdOf x y (to_z w g)
signed_answer w {x} {y} g fits_x fits_y out a-is b-is is =
    let size_x = a-is ∙ ap unsigned_abs (to_z-of_z w x fits_x) in
    let size_y = b-is ∙ ap unsigned_abs (to_z-of_z w y fits_y) in
    let answer : IsGcdOf x y (pos g) = record { sign = omega (arith, ints); divisor = rw (sym size_x, sym size_y) is } in
    let range = (signed_laws (2 ^ hbits w - 1) (λ z. []) (signed_room w)).range in
    let held = gcd_held _ _ x y range (signed_held w x fits_x) (signed_held w y fits_y) out in
    let below : pos g ≤ℤ pos (2 ^ hbits w - 1) = (held.each (pos g) answer).below in
    let room : 0 < 2 ^ hbits w = pow_pos (hbits w) in
    let small : g < 2 ^ hbits w = omega (arith, ints) in
    (fits_signed_from_abs w (pos g) small, rw (to_z_pos w g small) answer)

-- the same for an unsigned type
pub unsigned_answer : (w : Width) {a b : ℕ} (g : ℕ) → Fits w a → Fits w b → ¬ (IsGcdAboveMax (pos (2 ^ bits w - 1)) (pos a) (pos b)) → IsGcd a b g → Fits w g
unsigned_answer w {a} {b} g fits_a fits_b out is =
    let range = (unsigned_laws (2 ^ bits w - 1) (λ n. []) (unsigned_room w)).range in
    let held = gcd_held _ _ (pos a) (pos b) range (unsigned_held w a fits_a) (unsigned_held w b fits_b) out in
    let below = (held.each (pos g) (record { sign = omega (arith, ints); divisor = is })).below in
    let room : 0 < 2 ^ bits w = pow_pos (bits w) in
    omega (arith, ints)
