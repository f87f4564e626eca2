-- The quotient of two floats that are whole numbers.
use Rattle.std.specs.Prelude.{◌≡◌, ◌*◌, ◌%◌, ◌^◌, ◌<◌, ◌≤◌, ◌<ℤ◌, ◌-ℤ◌, ℕ, suc, ℤ, pos, negsuc, neg_ℤ, unsigned_abs, Bool, true, false}
use Rattle.std.specs.Bool.{passes}
use Rattle.std.specs.Float.{Float, Format, nan, inf, fin}
use Rattle.std.specs.Float.Ieee.{div, down, of_int, prec, round, unlike, up}
use Rattle.std.specs.Int.RustNames.{FitsSigned}
use Rattle.std.specs.Int.Signed.{lt_z, lt_z_yes}
use Rattle.std.proofs.Common.{ap, arith, inl, inr, refl, ◌∙◌}
use Rattle.std.proofs.lemmas.Int.{fits_signed_from_abs, ints, to_z-of_z, to_z_pos}
use Rattle.std.proofs.Math.Nat.{eq-zero-or-pos, mul-pos, pow-le-pow_right}
use borrow.Author.Tests.{ne_eqb}
use lib.Ieee.Back.{round_whole}
use lib.Ieee.Exact.{HasValue}
use lib.Ieee.Fits.{down_pos, up_pos}
use lib.Ieee.Scale.{round_same}
use mir.Syntax.{w64, w128}
use mir.Val.{to_z, of_z}
use Rattle.ratio_decimal.specs.Floats.{nearest_float}

whole_value : (f : Format) (s : Bool) (n : ℕ) → n < 2 ^ prec f → HasValue (round f s n 1) s n 1
whole_value f s n short = round_whole f s n (omega arith)

crossed : (a b x y n d : ℕ) → a * 1 ≡ n * x → b * 1 ≡ d * y → a * y * d ≡ n * (b * x)
crossed a b x y n d left right =
    let first : a ≡ n * x = omega (arith, left) in
    let second : b ≡ d * y = omega (arith, right) in
    rw (first, second) (grind arith)

sign_kept : (s : Bool) → unlike s false ≡ s
sign_kept true = refl
sign_kept false = refl

finite : (f : Format) (s : Bool) (m k : ℕ) (e g : ℤ) (n d : ℕ) → 0 < d → m * up e * 1 ≡ n * down e → k * up g * 1 ≡ d * down g → div f (fin s m e) (fin false k g) ≡ round f s n d
unfolding div
finite f s m k e g n d some x-is y-is =
    let above : 0 < k = elim (eq-zero-or-pos k) [
      | inr p ↦ p
      | inl z ↦ (let nothing : k * up g * 1 ≡ 0 = rw z (omega arith) in let size = mul-pos some (down_pos g) in absurd (omega (arith, nothing, size, y-is)))
    ] in
    rw (ne_eqb k 0 (λ z. omega (arith, above, z)), sign_kept s)
    (round_same f s _ _ n d (mul-pos (mul-pos above (up_pos g)) (down_pos e)) some (crossed (m * up e) (k * up g) (down e) (down g) n d x-is y-is))

divided : (f : Format) (s : Bool) (x y : Float) (n d : ℕ) → 0 < d → HasValue x s n 1 → HasValue y false d 1 → div f x y ≡ round f s n d
divided f s nan y n d some x-is y-is = absurd x-is
divided f s (inf t) y n d some x-is y-is = absurd x-is
divided f s (fin t m e) nan n d some x-is y-is = absurd y-is
divided f s (fin t m e) (inf u) n d some x-is y-is = absurd y-is
divided f s (fin t m e) (fin u k g) n d some x-is y-is = rw (x-is.0, y-is.0) (finite f s m k e g n d some x-is.1 y-is.1)

pub quotient_nearest : (f : Format) (n d : ℤ) → unsigned_abs n < 2 ^ prec f → unsigned_abs d < 2 ^ prec f → pos 0 <ℤ d → div f (of_int f n) (of_int f d) ≡ nearest_float f n d
unfolding of_int
quotient_nearest f n (negsuc d) n_short d_short some = absurd (omega (arith, ints, some))
quotient_nearest f (pos n) (pos d) n_short d_short some = divided f false _ _ n d (omega (arith, ints, some)) (whole_value f false n n_short) (whole_value f false d d_short)
quotient_nearest f (negsuc n) (pos d) n_short d_short some = divided f true _ _ (suc n) d (omega (arith, ints, some)) (whole_value f true (suc n) n_short) (whole_value f false d d_short)

-- ---- numbers that are floats

small_abs : (n : ℤ) (e : ℕ) → neg_ℤ (pos e) <ℤ n → n <ℤ pos e → unsigned_abs n < e
small_abs (pos n) e above below = omega (arith, ints, below)
small_abs (negsuc n) e above below = omega (arith, ints, above)

-- a number between -2^k and 2^k is held by an `i64`
pub short_number : (k : ℕ) (n : ℤ) → k ≤ 53 → FitsSigned w128 n
    → lt_z (to_z w128 (of_z w128 (pos 0 -ℤ to_z w128 (1 * 2 ^ k % 2 ^ 128)))) (to_z w128 (of_z w128 n)) ≡ true
    → lt_z (to_z w128 (of_z w128 n)) (to_z w128 (1 * 2 ^ k % 2 ^ 128)) ≡ true
    → (to_z w64 (of_z w64 (to_z w128 (of_z w128 n))) ≡ n) × (unsigned_abs n < 2 ^ k)
short_number k n few fits above below =
    let most : 2 ^ k ≤ 2 ^ 53 = pow-le-pow_right {n = 2} (omega arith) few in
    let end : 1 * 2 ^ k % 2 ^ 128 ≡ 2 ^ k = omega (arith, most) in
    let end_is : to_z w128 (1 * 2 ^ k % 2 ^ 128) ≡ pos (2 ^ k) = ap (to_z w128) end ∙ to_z_pos w128 (2 ^ k) (omega (arith, most)) in
    let start : pos 0 -ℤ to_z w128 (1 * 2 ^ k % 2 ^ 128) ≡ neg_ℤ (pos (2 ^ k)) = omega (arith, ints, end_is) in
    let start_fits : FitsSigned w128 (neg_ℤ (pos (2 ^ k))) = fits_signed_from_abs w128 _ (omega (arith, ints, most)) in
    let start_is = ap (λ z. to_z w128 (of_z w128 z)) start ∙ to_z-of_z w128 (neg_ℤ (pos (2 ^ k))) start_fits in
    let same = to_z-of_z w128 n fits in
    let above_start : neg_ℤ (pos (2 ^ k)) <ℤ n = lt_z_yes (passes _ (rw (start_is, same) at above)) in
    let below_end : n <ℤ pos (2 ^ k) = lt_z_yes (passes _ (rw (end_is, same) at below)) in
    let small = small_abs n (2 ^ k) above_start below_end in
    (ap (λ z. to_z w64 (of_z w64 z)) same ∙ to_z-of_z w64 n (fits_signed_from_abs w64 n (omega (arith, small, most))), small)
