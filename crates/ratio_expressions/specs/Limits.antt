-- How large the numbers are that an operator or a call takes, and how long a line is that is read.
use Rattle.std.specs.Prelude.{◌≤◌, ◌<◌, ◌+◌, ◌-◌, ◌^◌, ℕ, ℤ, List, [], ◌∷◌, length, unsigned_abs}

-- how many bits the numbers of an operator or of a call may have together
abbrev pub most_bits : ℕ
most_bits = 1000000

-- how many bytes a line may have
abbrev pub most_bytes : ℕ
most_bytes = 1000000

-- both numbers of x, without their signs, are at most 2 to the power `bits`
-- Example: 2, for 3/4
pub record FitsInBits (bits : ℕ) (x : ℤ × ℤ) : Type 0 where
  pub numer : unsigned_abs x.0 ≤ 2 ^ bits
  pub denom : unsigned_abs x.1 ≤ 2 ^ bits

-- so many bits are enough for all of the numbers: some for the first one, and the others fit into the bits that are left
-- Example: 5, for 3/4 and 1/8
abbrev pub FitInto : ℕ → List (ℤ × ℤ) → Type 0
FitInto bits [] = Unit {0}
FitInto bits (x ∷ xs) = (own : ℕ) × (own ≤ bits) × FitsInBits own x × FitInto (bits - own) xs

-- the numbers have at most a million bits together, so that no number that is made of them has many more
-- Example: 2^500000 and 2^500000; not 2^500000 and 2^500001
abbrev pub FitTogether : List (ℤ × ℤ) → Type 0
FitTogether xs = FitInto most_bits xs

-- the line has more bytes than are read
abbrev pub IsTooLong : List ℕ → Type 0
IsTooLong line = most_bytes < length line

-- Inner: size is the least number of bits with n at most 2 to this power, or one more than the limit if there is none up to it
-- Example: 2, for 4
pub record IsSizeOf (n size : ℕ) : Type 0 where
  pub within : size ≤ most_bits → n ≤ 2 ^ size
  pub least : (bits : ℕ) → n ≤ 2 ^ bits → size ≤ bits
  pub few : size ≤ most_bits + 1

-- Inner: the same for both numbers of x
-- Example: 2, for 3/4
pub record IsSize (x : ℤ × ℤ) (size : ℕ) : Type 0 where
  pub within : size ≤ most_bits → FitsInBits size x
  pub least : (bits : ℕ) → FitsInBits bits x → size ≤ bits
  pub few : size ≤ most_bits + 1
