-- The hash of a fraction in lowest terms, from its two numbers.
use Rattle.std.specs.Prelude.{◌≡◌, ◌+◌, ◌*◌, ◌/◌, ◌%◌, ◌^◌, ◌<ℤ◌, ℕ, ℤ, pos}
use Rattle.ratio_integer.specs.SignedBits.{IsHeld64}
use Rattle.ratio_integer.specs.{Fraction.IsLowestTerms, Fraction.SameValue, Range.IsHeld}
use Rattle.ratio_c.specs.Calls.{Tested}
use Rattle.ratio_c.specs.Codes.{code_answered, code_denominator_not_positive, hash_multiplier}
use Rattle.ratio_c.specs.{Crossing.residue}

-- the upper and the lower 32 bits of a number of 64 bits, exchanged
-- Example: 1: 2^32
abbrev pub halves_exchanged : ℕ → ℕ
halves_exchanged n = (n % 2 ^ 32) * 2 ^ 32 + n / 2 ^ 32

-- a number times `hash_multiplier`, modulo 2^64, with its halves exchanged
abbrev pub stirred : ℕ → ℕ
stirred n = halves_exchanged ((n * hash_multiplier) % 2 ^ 64)

-- the numerator, stirred, plus the denominator, modulo 2^64, and this stirred
abbrev pub lowest_hash : ℤ × ℤ → ℕ
lowest_hash x = stirred ((stirred (residue x.0) + residue x.1) % 2 ^ 64)

-- the hash of the two numbers as they are (`lowest_hash`), or the code 3 where the denominator is not positive
abbrev pub IsLowestHashAnswer : ℤ × ℤ → ℕ → ℕ → Type 0
IsLowestHashAnswer x code hash =
    Tested (pos 0 <ℤ x.1) ((code ≡ code_answered) × (hash ≡ lowest_hash x)) ((code ≡ code_denominator_not_positive) × (hash ≡ 0))

-- Law: two fractions in lowest terms with one value have one hash
abbrev pub EqualHaveOneHash : Type 0
EqualHaveOneHash = (x y : ℤ × ℤ) → IsLowestTerms x.0 x.1 → IsLowestTerms y.0 y.1 → SameValue x.0 x.1 y.0 y.1 → lowest_hash x ≡ lowest_hash y

-- Law: over one denominator, unlike numerators of at most 64 bits have unlike hashes
abbrev pub NumeratorsHaveUnlikeHashes : Type 0
NumeratorsHaveUnlikeHashes = (n m d : ℤ) → IsHeld64 n → IsHeld64 m → lowest_hash (n, d) ≡ lowest_hash (m, d) → n ≡ m

-- Law: under one numerator, unlike denominators of at most 64 bits have unlike hashes
abbrev pub DenominatorsHaveUnlikeHashes : Type 0
DenominatorsHaveUnlikeHashes = (n d e : ℤ) → IsHeld64 d → IsHeld64 e → lowest_hash (n, d) ≡ lowest_hash (n, e) → d ≡ e
