-- The numbers of a type of at most 128 bits all fit `i128`, or all fit `u128`. So what std reads at these types gives the number of a type.
use Rattle.std.proofs.Common.{◌≡◌, ◌⊎◌, sym, ◌∙◌, ap, subst, arith, ℕ, ◌^◌, ◌<◌, ◌≤◌, List, ℤ, pos, negsuc, ◌+ℤ◌, ◌-◌, inl, inr, ◌-ℤ◌, ◌≤ℤ◌, ◌<ℤ◌, neg_ℤ, FitsSigned, Option, Some, None, Result, Ok, Err}
use Rattle.std.proofs.lemmas.Int.{ints, to_z-of_z}
use Rattle.std.proofs.Math.Nat.{pow-le-pow_right}
use Rattle.std.specs.Result.{result_ok}
use Rattle.std.specs.Str.Parse.{IsNumeral, signed_digits_value, without_leading_sign, ParsesSigned, ParsesUnsigned}
use Rattle.std.specs.Int.{w128}
use mir.Val.{to_z, of_z}
use Rattle.ratio_integer.specs.Range.{IsHeld, IsRange, Checks}
use Rattle.ratio_integer.specs.SignedBits.{greatest128, least128}
use Rattle.ratio_core.specs.Reading.{IsNumberText, ReadsNumber}
use Rattle.ratio_core.proofs.NumberLemmas.{from_signed, from_unsigned, to_signed, to_unsigned}

power_small : (bits : ℕ) → bits ≤ 128 → 2 ^ bits ≤ 2 ^ 128
power_small bits h = pow-le-pow_right {n = 2} (omega arith) h

bounds : (lo hi p : ℤ) → (lo ≡ pos 0) ⊎ (lo ≡ neg_ℤ hi) ⊎ (lo ≡ neg_ℤ hi -ℤ pos 1) → lo <ℤ pos 0 → hi +ℤ pos 1 ≡ lo +ℤ p → p ≤ℤ pos (2 ^ 128)
    → (least128 ≤ℤ lo) × (hi ≤ℤ greatest128)
bounds lo hi p (inl h) below e small = absurd (omega (arith, ints))
bounds lo hi p (inr (inl h)) below e small = (omega (arith, ints), omega (arith, ints))
bounds lo hi p (inr (inr h)) below e small = (omega (arith, ints), omega (arith, ints))

zero_low : (lo hi : ℤ) → (lo ≡ pos 0) ⊎ (lo ≡ neg_ℤ hi) ⊎ (lo ≡ neg_ℤ hi -ℤ pos 1) → pos 2 ≤ℤ hi → pos 0 ≤ℤ lo → lo ≡ pos 0
zero_low lo hi (inl h) high above = h
zero_low lo hi (inr (inl h)) high above = absurd (omega (arith, ints))
zero_low lo hi (inr (inr h)) high above = absurd (omega (arith, ints))

fits_128 : (z : ℤ) → least128 ≤ℤ z → z ≤ℤ greatest128 → FitsSigned w128 z
fits_128 (pos n) low high = record { sfits = omega (arith, ints) }
fits_128 (negsuc n) low high = record { sfits = omega (arith, ints) }

pub wide_signed : (lo hi : ℤ) (bits : ℕ) → IsRange lo hi → lo <ℤ pos 0 → (bits ≤ 128) × (hi +ℤ pos 1 ≡ lo +ℤ pos (2 ^ bits)) → (z : ℤ) → IsHeld lo hi z → FitsSigned w128 z
wide_signed lo hi bits range below width z held =
    let p = power_small bits width.0 in
    let b = bounds lo hi (pos (2 ^ bits)) range.low below width.1 (omega (arith, ints, p)) in
    fits_128 z (omega (arith, ints, b.0, held.above)) (omega (arith, ints, b.1, held.below))

pub wide_unsigned : (lo hi : ℤ) (bits : ℕ) → IsRange lo hi → pos 0 ≤ℤ lo → (bits ≤ 128) × (hi +ℤ pos 1 ≡ lo +ℤ pos (2 ^ bits)) → (n : ℕ) → IsHeld lo hi (pos n) → n < 2 ^ 128
wide_unsigned lo hi bits range above width n held =
    let p = power_small bits width.0 in
    let low : lo ≡ pos 0 = zero_low lo hi range.low range.high above in
    omega (arith, ints, p, low, width.1, held.below)

-- what `number` returns, from what std reads at the widest type
module _ {T : Type 0} (value : T → ℤ) (lo hi : ℤ) (radix : ℕ) (text : List ℕ) (small : radix ≤ 36) (range : IsRange lo hi) (bits : ℕ) (width : (bits ≤ 128) × (hi +ℤ pos 1 ≡ lo +ℤ pos (2 ^ bits))) where
  answered : (v : ℤ) (r : Option T) → IsNumberText lo radix text v → ((z : ℤ) → IsNumberText lo radix text z → z ≡ v) → Checks value lo hi v r → ReadsNumber value lo hi radix text r
  answered v None t only k = λ z reads. k (subst (IsHeld lo hi) (only z reads.number) reads.held)
  answered v (Some y) t only k = record { number = subst (IsNumberText lo radix text) (sym k.1) t; held = subst (IsHeld lo hi) (sym k.1) k.0 }

  signed_read : (v z : ℤ) (r : Option T) → lo <ℤ pos 0 → v ≡ z → IsNumeral radix (without_leading_sign text) → FitsSigned w128 v → v ≡ signed_digits_value radix text
      → Checks value lo hi (to_z w128 (of_z w128 z)) r → ReadsNumber value lo hi radix text r
  signed_read v z r below same n fits e k =
      answered v r (subst (IsNumberText lo radix text) (sym e) (from_signed lo radix text below n))
      (λ x t. (to_signed lo radix text x small t).1 ∙ sym e)
      (subst (λ x. Checks value lo hi x r) (ap (λ x. to_z w128 (of_z w128 x)) (sym same) ∙ to_z-of_z w128 v fits) k)

  pub signed_some : {E : Type 0} (parsed : Result ℤ E) (z : ℤ) (r : Option T) → lo <ℤ pos 0 → ParsesSigned w128 radix text parsed → Some z ≡ result_ok parsed
      → Checks value lo hi (to_z w128 (of_z w128 z)) r → ReadsNumber value lo hi radix text r
  signed_some (Err e) z r below h s k = absurd (let no : Some z ≡ None = s in cc)
  signed_some (Ok y) z r below h s k = signed_read y z r below (cc) h.0.0 (subst (FitsSigned w128) (sym h.1) h.0.1) h.1 k

  pub signed_none : {E : Type 0} (parsed : Result ℤ E) → lo <ℤ pos 0 → ParsesSigned w128 radix text parsed → None ≡ result_ok parsed → ReadsNumber value lo hi radix text None
  signed_none (Ok y) below h s = absurd (let no : None ≡ Some y = s in cc)
  signed_none (Err e) below h s = λ z reads.
      let t = to_signed lo radix text z small reads.number in
      h (t.0, subst (FitsSigned w128) t.1 (wide_signed lo hi bits range below width z reads.held))

  pub unsigned_some : {E : Type 0} (parsed : Result ℕ E) (n : ℕ) (r : Option T) → pos 0 ≤ℤ lo → ParsesUnsigned 128 radix text parsed → Some n ≡ result_ok parsed
      → Checks value lo hi (pos n) r → ReadsNumber value lo hi radix text r
  unsigned_some (Err e) n r above h s k = absurd (let no : Some n ≡ None = s in cc)
  unsigned_some (Ok y) n r above h s k =
      let same : n ≡ y = cc in
      answered (pos n) r (subst (λ x. IsNumberText lo radix text (pos x)) (sym (same ∙ h.1)) (from_unsigned lo radix text h.0.0))
      (λ x t. (to_unsigned lo radix text x above small t).1 ∙ ap pos (sym (same ∙ h.1)))
      k

  pub unsigned_none : {E : Type 0} (parsed : Result ℕ E) → pos 0 ≤ℤ lo → ParsesUnsigned 128 radix text parsed → None ≡ result_ok parsed → ReadsNumber value lo hi radix text None
  unsigned_none (Ok y) above h s = absurd (let no : None ≡ Some y = s in cc)
  unsigned_none (Err e) above h s = λ z reads.
      let t = to_unsigned lo radix text z above small reads.number in
      h (t.0, wide_unsigned lo hi bits range above width _ (subst (IsHeld lo hi) t.1 reads.held))
