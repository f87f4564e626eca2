-- Which fractions have the same hash as fractions in lowest terms.
use Rattle.std.specs.Prelude.{◌≡◌, ◌+◌, ◌*◌, ◌/◌, ◌%◌, ◌^◌, ◌<◌, ℕ, ℤ, pos, negsuc}
use Rattle.std.proofs.Common.{◌∙◌, ap, arith, sym, mul_assoc}
use Rattle.std.proofs.lemmas.Int.{ints}
use Rattle.std.proofs.lemmas.Nat.{div-add-mod', div-mul-add, mod-mul-add, mul-mod_first, mul-mod_second}
use Rattle.ratio_integer.proofs.LowestTerms.{lowest_same}
use Rattle.ratio_integer.specs.SignedBits.{IsHeld64}
use Rattle.ratio_c.specs.Codes.{hash_multiplier}
use Rattle.ratio_c.specs.Crossing.{residue}
use Rattle.ratio_c.specs.LowestHash.{DenominatorsHaveUnlikeHashes, EqualHaveOneHash, NumeratorsHaveUnlikeHashes, halves_exchanged, lowest_hash, stirred}

-- the multiplier times this is 1 modulo 2^64
abbrev inverse : ℕ
inverse = 0xf1de_83e1_9937_733d

halves_back : (n : ℕ) → n < 2 ^ 64 → halves_exchanged (halves_exchanged n) ≡ n
halves_back n below =
    let high : n / 2 ^ 32 < 2 ^ 32 = omega arith in
    let lower = mod-mul-add (n % 2 ^ 32) (2 ^ 32) (n / 2 ^ 32) high in
    let upper = div-mul-add (n % 2 ^ 32) (2 ^ 32) (n / 2 ^ 32) high in
    ap (λ (k : ℕ). k * 2 ^ 32 + halves_exchanged n / 2 ^ 32) lower ∙ ap (λ (k : ℕ). n / 2 ^ 32 * 2 ^ 32 + k) upper ∙ div-add-mod' n (2 ^ 32)

product_back : (n : ℕ) → n < 2 ^ 64 → ((n * hash_multiplier) % 2 ^ 64 * inverse) % 2 ^ 64 ≡ n
product_back n below =
    let whole : (n * ((hash_multiplier * inverse) % 2 ^ 64)) % 2 ^ 64 ≡ n = omega arith in
    mul-mod_first (n * hash_multiplier) inverse (2 ^ 64) ∙ ap (λ (k : ℕ). k % 2 ^ 64) (mul_assoc n hash_multiplier inverse) ∙ sym (mul-mod_second n (hash_multiplier * inverse) (2 ^ 64)) ∙ whole

stirred_same : (a b : ℕ) → a < 2 ^ 64 → b < 2 ^ 64 → stirred a ≡ stirred b → a ≡ b
stirred_same a b a_below b_below same =
    let p = (a * hash_multiplier) % 2 ^ 64 in
    let q = (b * hash_multiplier) % 2 ^ 64 in
    let products : p ≡ q = sym (halves_back p (omega arith)) ∙ ap halves_exchanged same ∙ halves_back q (omega arith) in
    sym (product_back a a_below) ∙ ap (λ (k : ℕ). (k * inverse) % 2 ^ 64) products ∙ product_back b b_below

stirred_below : (n : ℕ) → stirred n < 2 ^ 64
stirred_below n = omega arith

residue_below : (z : ℤ) → residue z < 2 ^ 64
residue_below (pos n) = omega arith
residue_below (negsuc n) = omega arith

residue_same : (a b : ℤ) → IsHeld64 a → IsHeld64 b → residue a ≡ residue b → a ≡ b
residue_same (pos a) (pos b) a_held b_held same =
    let equal : a ≡ b = omega (arith, ints, a_held.below, b_held.below, same) in ap pos equal
residue_same (pos a) (negsuc b) a_held b_held same = absurd (omega (arith, ints, a_held.below, b_held.above, same))
residue_same (negsuc a) (pos b) a_held b_held same = absurd (omega (arith, ints, a_held.above, b_held.below, same))
residue_same (negsuc a) (negsuc b) a_held b_held same =
    let equal : a ≡ b = omega (arith, ints, a_held.above, b_held.above, same) in ap negsuc equal

sum_same : (a b c : ℕ) → a < 2 ^ 64 → b < 2 ^ 64 → (a + c) % 2 ^ 64 ≡ (b + c) % 2 ^ 64 → a ≡ b
sum_same a b c a_below b_below same = omega arith

pub equal_hashes : EqualHaveOneHash
equal_hashes x y x_low y_low same =
    let both = lowest_same x.0 x.1 y.0 y.1 x_low y_low same in
    ap (λ (n : ℤ). lowest_hash (n, x.1)) both.0 ∙ ap (λ (d : ℤ). lowest_hash (y.0, d)) both.1

pub numerator_hashes : NumeratorsHaveUnlikeHashes
numerator_hashes n m d n_held m_held same =
    let first = stirred (residue n) in
    let second = stirred (residue m) in
    let sums : (first + residue d) % 2 ^ 64 ≡ (second + residue d) % 2 ^ 64 = stirred_same _ _ (omega arith) (omega arith) same in
    let stirs : first ≡ second = sum_same first second (residue d) (stirred_below (residue n)) (stirred_below (residue m)) sums in
    residue_same n m n_held m_held (stirred_same (residue n) (residue m) (residue_below n) (residue_below m) stirs)

pub denominator_hashes : DenominatorsHaveUnlikeHashes
denominator_hashes n d e d_held e_held same =
    let first = stirred (residue n) in
    let sums : (first + residue d) % 2 ^ 64 ≡ (first + residue e) % 2 ^ 64 = stirred_same _ _ (omega arith) (omega arith) same in
    let turned : (residue d + first) % 2 ^ 64 ≡ (residue e + first) % 2 ^ 64 = omega arith in
    residue_same d e d_held e_held (sum_same (residue d) (residue e) first (residue_below d) (residue_below e) turned)
