-- Hashes modulo 2^61 - 1: how the code finds them, and their laws.
use Rattle.std.specs.Prelude.{◌≡◌, ◌*◌, ◌/◌, ◌%◌, ◌<ℤ◌, ◌*ℤ◌, ℕ, ℤ, zero, suc, pos, negsuc, unsigned_abs}
use Rattle.std.specs.Int.{◌∣◌}
use Rattle.std.proofs.Common.{◌∙◌, ap, arith, inl, inr, refl, subst, sym}
use Rattle.std.proofs.Math.Nat.{dvd-mul_left, mul-div_cancel'}
use Rattle.std.proofs.lemmas.Bool.{cases_eq}
use Rattle.std.proofs.lemmas.Int.{ints, unsigned_abs-mul}
use Rattle.std.proofs.lemmas.Nat.{mul-mod_first, mul-mod_second}
use Rattle.ratio_c.specs.Codes.{hash_infinite, hash_modulus}
use Rattle.ratio_c.specs.HashMod61.{EqualValuesHaveOneMod61Hash, IsInverseMod61, IsMod61Hash, IsSizeHash, WholeNumbersHashAsInts, hash_with_sign}
use Rattle.ratio_integer.proofs.CommonDivisors.{coprime_gcd}
use Rattle.ratio_integer.proofs.GcdLemmas.{coprime-dvd}
use Rattle.ratio_integer.proofs.LowestTerms.{lowest_equal, lowest_exist, lowest_own, over_one}
use Rattle.ratio_integer.specs.Fraction.{IsLowestTermsOf}

-- the denominator of the lowest terms divides that of the fraction
lowest_divides : (n d a b : ℤ) → IsLowestTermsOf n d a b → unsigned_abs b ∣ unsigned_abs d
lowest_divides n d a b low =
    let product : unsigned_abs n * unsigned_abs b ≡ unsigned_abs a * unsigned_abs d = sym (unsigned_abs-mul n b) ∙ ap unsigned_abs low.same ∙ unsigned_abs-mul a d in
    let divides : unsigned_abs b ∣ unsigned_abs a * unsigned_abs d = subst (λ (k : ℕ). unsigned_abs b ∣ k) product (dvd-mul_left (unsigned_abs b) (unsigned_abs n)) in
    let turned : unsigned_abs a * unsigned_abs d ≡ unsigned_abs d * unsigned_abs a = omega arith in
    coprime-dvd (unsigned_abs b) (unsigned_abs a) (unsigned_abs d) (coprime_gcd (unsigned_abs b) (unsigned_abs a) (λ k left right. low.lowest.only_one k right left)) (rw turned at divides)

-- ---- inverses

-- a number times the inverse of another, times this other, is the number
back : (t b i : ℕ) → IsInverseMod61 b i → t * (i * b) % hash_modulus ≡ t % hash_modulus
back t b i is = sym (mul-mod_second t (i * b) hash_modulus) ∙ ap (λ (k : ℕ). t * k % hash_modulus) is.one ∙ ap (λ (k : ℕ). k % hash_modulus) (once t)
  where
    once : (t : ℕ) → t * 1 ≡ t
    once t = omega arith

-- the inverse of the rest by the hash_modulus is one of the number
pub inverse_of_rest : (d i : ℕ) → IsInverseMod61 (d % hash_modulus) i → IsInverseMod61 d i
inverse_of_rest d i is = record { one = sym (mul-mod_second i d hash_modulus) ∙ is.one }

pub rest_of_inverse : (d i : ℕ) → IsInverseMod61 d i → IsInverseMod61 (d % hash_modulus) i
rest_of_inverse d i is = record { one = mul-mod_second i d hash_modulus ∙ is.one }

-- equal fractions n/d and a/b give the same with the inverses of d and of b
same_products : (n d a b i j : ℕ) → n * b ≡ a * d → IsInverseMod61 d j → IsInverseMod61 b i → n * j % hash_modulus ≡ a * i % hash_modulus
same_products n d a b i j same first second =
    sym (back (n * j) b i second) ∙ ap (λ (k : ℕ). k % hash_modulus) (turned n d a b i j same) ∙ back (a * i) d j first
  where
    turned : (n d a b i j : ℕ) → n * b ≡ a * d → n * j * (i * b) ≡ a * i * (j * d)
    turned n d a b i j same =
        let times : n * b * (i * j) ≡ a * d * (i * j) = ap (λ (k : ℕ). k * (i * j)) same in
        omega (arith, times)

-- what divides a number with an inverse has one
divisor_inverse : (b d j : ℕ) → b ∣ d → IsInverseMod61 d j → (i : ℕ) × IsInverseMod61 b i
divisor_inverse b d j divides is = (j * (d / b), record { one = ap (λ (k : ℕ). k % hash_modulus) (whole j b d (mul-div_cancel' b divides)) ∙ is.one })
  where
    whole : (j b d : ℕ) → b * (d / b) ≡ d → j * (d / b) * b ≡ j * d
    whole j b d e = (let split : j * (d / b) * b ≡ j * (b * (d / b)) = omega arith in split ∙ ap (λ (k : ℕ). j * k) e)

-- the factors need not be below the hash_modulus
pub product_of_rests : (n i h : ℕ) → h ≡ n % hash_modulus * i % hash_modulus → h ≡ n * i % hash_modulus
product_of_rests n i h is = is ∙ mul-mod_first n i hash_modulus

-- ---- what the code finds

-- the product with an inverse of the denominator, whether the terms are lowest or not
pub found_size : (n d a b : ℤ) (j h : ℕ) → IsLowestTermsOf n d a b → IsInverseMod61 (unsigned_abs d) j → h ≡ unsigned_abs n * j % hash_modulus → IsSizeHash (unsigned_abs a) (unsigned_abs b) h
found_size n d a b j h low is product =
    let sizes : unsigned_abs n * unsigned_abs b ≡ unsigned_abs a * unsigned_abs d = sym (unsigned_abs-mul n b) ∙ ap unsigned_abs low.same ∙ unsigned_abs-mul a d in
    record {
      inverse = λ i other. product ∙ same_products _ _ _ _ i j sizes is other;
      none = λ never. let some = divisor_inverse (unsigned_abs b) (unsigned_abs d) j (lowest_divides n d a b low) is in absurd (never some.0 some.1);
    }

pub no_size : (a b h : ℕ) → ((i : ℕ) → ¬ (IsInverseMod61 b i)) → h ≡ hash_infinite → IsSizeHash a b h
no_size a b h never infinite = record { inverse = λ i is. absurd (never i is); none = λ again. infinite }

-- ---- laws

one_size : (a b h k : ℕ) → IsSizeHash a b h → IsSizeHash a b k → h ≡ k
one_size a b h k first second = elim (cases_eq h k) [
  | inl same ↦ same
  | inr other ↦
      let never = λ (i : ℕ) (is : IsInverseMod61 b i). other (first.inverse i is ∙ sym (second.inverse i is)) in
      first.none never ∙ sym (second.none never)
]

pub equal_values : EqualValuesHaveOneMod61Hash
equal_values n d m e first second same left right =
    let terms = lowest_equal n d m e left.lowest.0 left.lowest.1 right.lowest.0 right.lowest.1 same left.is_lowest right.is_lowest in
    let moved = subst (λ (a : ℤ). IsSizeHash (unsigned_abs a) (unsigned_abs right.lowest.1) left.size) terms.0 (subst (λ (b : ℤ). IsSizeHash (unsigned_abs left.lowest.0) (unsigned_abs b) left.size) terms.1 left.is_size) in
    let sizes = one_size _ _ left.size right.size moved right.is_size in
    left.is_hash ∙ ap (λ (a : ℤ). hash_with_sign a left.size) terms.0 ∙ ap (hash_with_sign right.lowest.0) sizes ∙ sym right.is_hash

whole_size : (a h : ℕ) → IsSizeHash a 1 h → h ≡ a % hash_modulus
whole_size a h is = is.inverse 1 (record { one = refl }) ∙ ap (λ (k : ℕ). k % hash_modulus) (once a)
  where
    once : (t : ℕ) → t * 1 ≡ t
    once t = omega arith

pub whole_numbers : WholeNumbersHashAsInts
whole_numbers n hash is =
    let terms = lowest_equal n (pos 1) n (pos 1) is.lowest.0 is.lowest.1 n (pos 1) refl is.is_lowest (lowest_own n (pos 1) (over_one n (pos 1) refl)) in
    let moved = subst (λ (a : ℤ). IsSizeHash (unsigned_abs a) 1 is.size) terms.0 (subst (λ (b : ℤ). IsSizeHash (unsigned_abs is.lowest.0) (unsigned_abs b) is.size) terms.1 is.is_size) in
    is.is_hash ∙ ap (λ (a : ℤ). hash_with_sign a is.size) terms.0 ∙ ap (hash_with_sign n) (whole_size (unsigned_abs n) is.size moved)

-- ---- signs

-- lowest terms have the sign of the fraction
pub same_sign : (n d a b : ℤ) (hash : ℕ) → pos 0 <ℤ d → IsLowestTermsOf n d a b → hash_with_sign n hash ≡ hash_with_sign a hash
same_sign n d a b hash above low = signs n d a b hash above low.lowest.positive low.same
  where
    signs : (n d a b : ℤ) (hash : ℕ) → pos 0 <ℤ d → pos 0 <ℤ b → n *ℤ b ≡ a *ℤ d → hash_with_sign n hash ≡ hash_with_sign a hash
    signs (pos n) d (pos a) b hash d_above b_above same = refl
    signs (negsuc n) d (negsuc a) b hash d_above b_above same = refl
    signs (pos n) (pos (suc d)) (negsuc a) (pos b) hash d_above b_above same = absurd (omega (arith, ints, same))
    signs (negsuc n) (pos d) (pos a) (pos (suc b)) hash d_above b_above same = absurd (omega (arith, ints, same))
    signs n (negsuc d) a b hash d_above b_above same = absurd (omega (arith, ints, d_above))
    signs n d a (negsuc b) hash d_above b_above same = absurd (omega (arith, ints, b_above))
    signs n (pos zero) a b hash d_above b_above same = absurd (omega (arith, ints, d_above))
    signs n d a (pos zero) hash d_above b_above same = absurd (omega (arith, ints, b_above))

-- the hash by an inverse of the denominator
pub hash_by_inverse : (n d : ℤ) (i size : ℕ) (value : ℤ) → pos 0 <ℤ d → IsInverseMod61 (unsigned_abs d % hash_modulus) i → size ≡ unsigned_abs n % hash_modulus * i % hash_modulus → value ≡ hash_with_sign n size → IsMod61Hash n d value
hash_by_inverse n d i size value above is product signed =
    let low = lowest_exist n d (λ none. let zero = rw none at above in omega (arith, ints)) in
    record {
      lowest = (low.numer, low.denom);
      is_lowest = low.terms;
      size = size;
      is_size = found_size n d low.numer low.denom i size low.terms (inverse_of_rest (unsigned_abs d) i is) (product_of_rests (unsigned_abs n) i size product);
      is_hash = signed ∙ same_sign n d low.numer low.denom size above low.terms;
    }

-- the same by an inverse of the denominator of the lowest terms
pub hash_of_lowest : (n d a b : ℤ) (i size : ℕ) (value : ℤ) → IsLowestTermsOf n d a b → IsInverseMod61 (unsigned_abs b % hash_modulus) i → size ≡ unsigned_abs a % hash_modulus * i % hash_modulus → value ≡ hash_with_sign a size → IsMod61Hash n d value
hash_of_lowest n d a b i size value low is product signed = record {
  lowest = (a, b);
  is_lowest = low;
  size = size;
  is_size = found_size a b a b i size (lowest_own a b low.lowest) (inverse_of_rest (unsigned_abs b) i is) (product_of_rests (unsigned_abs a) i size product);
  is_hash = signed;
}

-- the hash if the denominator of the lowest terms has no inverse
pub hash_of_none : (n d a b : ℤ) (value : ℤ) → IsLowestTermsOf n d a b → ((i : ℕ) → ¬ (IsInverseMod61 (unsigned_abs b % hash_modulus) i)) → value ≡ hash_with_sign a hash_infinite → IsMod61Hash n d value
hash_of_none n d a b value low never signed = record {
  lowest = (a, b);
  is_lowest = low;
  size = hash_infinite;
  is_size = no_size (unsigned_abs a) (unsigned_abs b) hash_infinite (λ i is. never i (rest_of_inverse (unsigned_abs b) i is)) refl;
  is_hash = signed;
}
