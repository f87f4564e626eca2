-- std's `from_str_radix` reads exactly the number texts.
use Rattle.std.proofs.Common.{◌≡◌, refl, sym, ◌∙◌, ap, inl, inr, arith, ℕ, suc, ◌+◌, ◌*◌, ◌^◌, ◌<◌, ◌≤◌, Bool, true, false, List, [], ◌∷◌, length, drop, ℤ, pos, ◌≤ℤ◌, ◌<ℤ◌, neg_ℤ, ne_eqb}
use Rattle.std.specs.Prelude.{◌==◌, cond}
use Rattle.std.proofs.lemmas.Int.{ints}
use Rattle.std.proofs.lemmas.Bool.{eqb-true}
use Rattle.std.proofs.Math.Nat.{pow-suc, pow-zero, mul_comm, mul_assoc, add-mul}
use Rattle.std.specs.Char.{digit_value}
use Rattle.std.specs.Str.Parse.{IsNumeral, digits_value, digits_value_after, signed_digits_value, without_leading_plus, without_leading_sign}
use Rattle.ratio_core.specs.Reading.{digits_sum, IsNumberText}

scaled : (a d p q r : ℕ) → q ≡ p * r → (a * r + d) * p ≡ a * q + d * p
scaled a d p q r e = rw (e, add-mul (a * r) d p, mul_comm p r, mul_assoc a r p)

-- std's number of the digits is the sum of their values times powers
pub digits_after : (radix n : ℕ) (ds : List ℕ) → digits_value_after radix n ds ≡ n * radix ^ length ds + digits_sum radix ds
digits_after radix n [] = rw (pow-zero radix) (omega arith)
digits_after radix n (c ∷ cs) = omega (arith, digits_after radix (n * radix + digit_value c) cs, scaled n (digit_value c) (radix ^ length cs) (radix ^ suc (length cs)) radix (pow-suc radix (length cs)))

pub digits_value_sum : (radix : ℕ) (ds : List ℕ) → digits_value radix ds ≡ digits_sum radix ds
digits_value_sum radix ds = omega (arith, digits_after radix 0 ds)

-- the first of some digits is not a sign
no_sign : (radix c s : ℕ) → radix ≤ 36 → digit_value c < radix → digit_value s ≡ 36 → (c == s) ≡ false
no_sign radix c s small d e = ne_eqb c s (λ same. let h : digit_value c ≡ 36 = ap digit_value same ∙ e in omega (arith, h))

signed_number : (radix : ℕ) (text : List ℕ) → radix ≤ 36 → IsNumeral radix text
    → (without_leading_sign text ≡ text) × (signed_digits_value radix text ≡ pos (digits_sum radix text))
signed_number radix [] small h = absurd (omega (arith, h.0))
signed_number radix (c ∷ cs) small h =
    let minus = no_sign radix c 45 small h.1.0 refl in
    let plus = no_sign radix c 43 small h.1.0 refl in
    (rw (minus, plus), rw (minus, plus) (ap pos (digits_value_sum radix (c ∷ cs))))

unsigned_number : (radix : ℕ) (text : List ℕ) → radix ≤ 36 → IsNumeral radix text → without_leading_plus text ≡ text
unsigned_number radix [] small h = absurd (omega (arith, h.0))
unsigned_number radix (c ∷ cs) small h = rw (no_sign radix c 43 small h.1.0 refl)

signed_case : (lo : ℤ) (radix c : ℕ) (cs : List ℕ) → lo <ℤ pos 0 → (has_minus has_plus : Bool) → (c == 45) ≡ has_minus → (c == 43) ≡ has_plus
    → IsNumeral radix (cond has_minus cs (drop (cond has_plus 1 0) (c ∷ cs)))
    → IsNumberText lo radix (c ∷ cs) (cond has_minus (neg_ℤ (pos (digits_value radix (cond has_minus cs (drop (cond has_plus 1 0) (c ∷ cs)))))) (pos (digits_value radix (cond has_minus cs (drop (cond has_plus 1 0) (c ∷ cs))))))
signed_case lo radix c cs below true has_plus e f h = inr (inr (cs, below, ap (λ x. x ∷ cs) (eqb-true c 45 e), h, ap (λ n. neg_ℤ (pos n)) (digits_value_sum radix cs)))
signed_case lo radix c cs below false true e f h = inr (inl (cs, ap (λ x. x ∷ cs) (eqb-true c 43 f), h, ap pos (digits_value_sum radix cs)))
signed_case lo radix c cs below false false e f h = inl (h, ap pos (digits_value_sum radix (c ∷ cs)))

unsigned_case : (lo : ℤ) (radix c : ℕ) (cs : List ℕ) → (has_plus : Bool) → (c == 43) ≡ has_plus
    → IsNumeral radix (drop (cond has_plus 1 0) (c ∷ cs)) → IsNumberText lo radix (c ∷ cs) (pos (digits_value radix (drop (cond has_plus 1 0) (c ∷ cs))))
unsigned_case lo radix c cs true f h = inr (inl (cs, ap (λ x. x ∷ cs) (eqb-true c 43 f), h, ap pos (digits_value_sum radix cs)))
unsigned_case lo radix c cs false f h = inl (h, ap pos (digits_value_sum radix (c ∷ cs)))

-- if the type has numbers below 0, std's signed types read exactly the number texts
pub from_signed : (lo : ℤ) (radix : ℕ) (text : List ℕ) → lo <ℤ pos 0 → IsNumeral radix (without_leading_sign text) → IsNumberText lo radix text (signed_digits_value radix text)
from_signed lo radix [] below h = absurd (omega (arith, h.0))
from_signed lo radix (c ∷ cs) below h = signed_case lo radix c cs below (c == 45) (c == 43) refl refl h

pub to_signed : (lo : ℤ) (radix : ℕ) (text : List ℕ) (z : ℤ) → radix ≤ 36 → IsNumberText lo radix text z → IsNumeral radix (without_leading_sign text) × (z ≡ signed_digits_value radix text)
to_signed lo radix text z small (inl h) = let s = signed_number radix text small h.0 in (rw s.0 h.0, h.1 ∙ sym s.1)
to_signed lo radix text z small (inr (inl h)) = rw h.1 (h.2, h.3 ∙ ap pos (sym (digits_value_sum radix h.0)))
to_signed lo radix text z small (inr (inr h)) = rw h.2 (h.3, h.4 ∙ ap (λ n. neg_ℤ (pos n)) (sym (digits_value_sum radix h.0)))

pub from_unsigned : (lo : ℤ) (radix : ℕ) (text : List ℕ) → IsNumeral radix (without_leading_plus text) → IsNumberText lo radix text (pos (digits_value radix (without_leading_plus text)))
from_unsigned lo radix [] h = absurd (omega (arith, h.0))
from_unsigned lo radix (c ∷ cs) h = unsigned_case lo radix c cs (c == 43) refl h

pub to_unsigned : (lo : ℤ) (radix : ℕ) (text : List ℕ) (z : ℤ) → pos 0 ≤ℤ lo → radix ≤ 36 → IsNumberText lo radix text z → IsNumeral radix (without_leading_plus text) × (z ≡ pos (digits_value radix (without_leading_plus text)))
to_unsigned lo radix text z above small (inl h) = let s = unsigned_number radix text small h.0 in (rw s h.0, h.1 ∙ ap pos (sym (ap (digits_value radix) s ∙ digits_value_sum radix text)))
to_unsigned lo radix text z above small (inr (inl h)) = rw h.1 (h.2, h.3 ∙ ap pos (sym (digits_value_sum radix h.0)))
to_unsigned lo radix text z above small (inr (inr h)) = absurd (omega (arith, ints, h.1))
