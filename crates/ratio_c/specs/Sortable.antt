-- Bytes for sorting, whose order is that of the values.
use Rattle.std.specs.Prelude.{◌≡◌, ◌*◌, ◌/◌, ◌^◌, ◌<ℤ◌, ◌+ℤ◌, ◌*ℤ◌, ℕ, ℤ, pos, List, unsigned_abs}
use Rattle.std.specs.Cmp.Lexicographic.{slice_cmp}
use Rattle.std.specs.Int.{bytes_high_first}
use Rattle.std.specs.Ordering.{nat_cmp}
use Rattle.ratio_core.specs.Order.{cross_cmp}
use Rattle.ratio_integer.specs.SignedBits.{IsHeld64}
use Rattle.ratio_c.specs.Calls.{BothPositive, Tested}
use Rattle.ratio_c.specs.Codes.{code_answered, code_denominator_not_positive}

-- the value plus 2^63, times 2^128, rounded down
-- Example: -1/2: 2^191 - 2^127
abbrev pub sortable_number : ℤ × ℤ → ℕ
sortable_number x = unsigned_abs (x.0 +ℤ pos (2 ^ 63) *ℤ x.1) * 2 ^ 128 / unsigned_abs x.1

-- the 24 bytes of a number, the highest one first
-- Example: 1: 23 bytes 0, and then 1
unfoldable pub key_bytes : ℕ → List ℕ
key_bytes n = bytes_high_first 24 n

-- the bytes of `sortable_number`
abbrev pub sortable_bytes : ℤ × ℤ → List ℕ
sortable_bytes x = key_bytes (sortable_number x)

-- the bytes (`sortable_bytes`), or the code 3 and bytes 0 where the denominator is not positive
abbrev pub IsSortableAnswer : ℤ × ℤ → ℕ → List ℕ → Type 0
IsSortableAnswer x code bytes =
    Tested (pos 0 <ℤ x.1) ((code ≡ code_answered) × (bytes ≡ sortable_bytes x)) ((code ≡ code_denominator_not_positive) × (bytes ≡ key_bytes 0))

-- both numbers of a fraction fit 64 bits
abbrev pub IsOf64Bits : ℤ × ℤ → Type 0
IsOf64Bits x = IsHeld64 x.0 × IsHeld64 x.1

-- Law: the bytes of two fractions of 64 bits have the order of the values. So equal values have the same bytes, and unlike values have others
abbrev pub BytesKeepOrder : Type 0
BytesKeepOrder = (x y : ℤ × ℤ) → BothPositive x y → IsOf64Bits x → IsOf64Bits y → slice_cmp nat_cmp (sortable_bytes x) (sortable_bytes y) ≡ cross_cmp x.0 x.1 y.0 y.1
