-- The hash of a number in Python: its residue modulo 2^61 - 1.
use Rattle.std.specs.Prelude.{◌≡◌, ◌*◌, ◌%◌, ◌^◌, ◌<◌, ◌==◌, if◌then◌else◌, ◌<ℤ◌, ℕ, ℤ, pos, negsuc, neg_ℤ, unsigned_abs, Option, Some, None}
use Rattle.ratio_integer.specs.Fraction.{IsLowestTermsOf, SameValue}
use Rattle.ratio_c.specs.Calls.{Tested}
use Rattle.ratio_c.specs.Codes.{code_answered, code_denominator_not_positive, hash_infinite, hash_modulus}

-- i times n is 1 modulo 2^61 - 1
-- Example: 2^60 and 2
pub record IsInverseMod61 (n i : ℕ) : Type 0 where
  pub one : i * n % hash_modulus ≡ 1

-- an inverse below 2^61, and `None` if there is none
abbrev pub ChecksInverseMod61 : ℕ → Option ℕ → Type 0
ChecksInverseMod61 n (Some i) = (i < 2 ^ 61) × IsInverseMod61 n i
ChecksInverseMod61 n None = (i : ℕ) → ¬ (IsInverseMod61 n i)

-- the hash of the size a/b: a times the inverse of b, modulo 2^61 - 1. If b has no inverse, it is `hash_infinite`
-- Example: 1/2: 2^60
pub record IsSizeHash (a b hash : ℕ) : Type 0 where
  pub inverse : (i : ℕ) → IsInverseMod61 b i → hash ≡ a * i % hash_modulus
  pub none : ((i : ℕ) → ¬ (IsInverseMod61 b i)) → hash ≡ hash_infinite

-- a hash with the sign of a number, and -2 in place of -1, which Python keeps for errors
-- Example: 5 with the sign of -7: -5
abbrev pub hash_with_sign : ℤ → ℕ → ℤ
hash_with_sign (pos n) hash = pos hash
hash_with_sign (negsuc n) hash = if hash == 1 then negsuc 1 else neg_ℤ (pos hash)

-- Python's hash of n/d: that of the size of its lowest terms (`IsSizeHash`), with their sign
-- Example: -1/2: -2^60
pub record IsMod61Hash (n d hash : ℤ) : Type 0 where
  pub lowest : ℤ × ℤ
  pub is_lowest : IsLowestTermsOf n d lowest.0 lowest.1
  pub size : ℕ
  pub is_size : IsSizeHash (unsigned_abs lowest.0) (unsigned_abs lowest.1) size
  pub is_hash : hash ≡ hash_with_sign lowest.0 size

-- Python's hash (`IsMod61Hash`), or the code 3 where the denominator is not positive
abbrev pub IsMod61Answer : ℤ × ℤ → ℕ → ℤ → Type 0
IsMod61Answer x code hash = Tested (pos 0 <ℤ x.1) ((code ≡ code_answered) × IsMod61Hash x.0 x.1 hash) ((code ≡ code_denominator_not_positive) × (hash ≡ pos 0))

-- Law: a whole number has the hash of an `int` in Python
abbrev pub WholeNumbersHashAsInts : Type 0
WholeNumbersHashAsInts = (n hash : ℤ) → IsMod61Hash n (pos 1) hash → hash ≡ hash_with_sign n (unsigned_abs n % hash_modulus)

-- Law: fractions of one value have one hash
abbrev pub EqualValuesHaveOneMod61Hash : Type 0
EqualValuesHaveOneMod61Hash = (n d m e first second : ℤ) → SameValue n d m e → IsMod61Hash n d first → IsMod61Hash m e second → first ≡ second
