-- The room for a total as a decimal.
use Rattle.std.specs.Prelude.{◌+◌, ◌*◌, ◌/◌, ◌<◌, ◌≤◌, ◌⊎◌, ℕ, ℤ, pos, List, drop, length}
use Rattle.ratio_decimal.specs.Decimal.{IsDecimalOf}
use Rattle.ratio_slots.specs.Common.{HasLongCommon, common_digits, most_common}
use Rattle.ratio_slots.specs.declared.decimal.Form.{Form}
use Rattle.ratio_slots.specs.declared.reading.ReadRefusal.{ReadRefusal, TheVariants.MoreRoom, TheVariants.TooLong}
use Rattle.ratio_slots.specs.declared.slots.Slot.{Slot}

-- the digits that a decimal with so many places needs: four times as many as the common denominator, two more for each 19 places, and 12
-- Example: 22 for 2 digits and 20 places
abbrev pub digits_with : ℕ → ℕ → ℕ
digits_with digits places = 4 * digits + places / 19 * 2 + 12

-- the bytes that its buffer needs
-- Example: 183 for 2 digits and 20 places
abbrev pub bytes_with : ℕ → ℕ → ℕ
bytes_with digits places = (digits + places / 19 + 5) * 20 + places + 3

-- the digits that the decimal of a table needs
-- Example: 22 in the table 36, empty, 28, with 20 places
abbrev pub decimal_digits : List Slot → ℕ → ℕ
decimal_digits slots places = digits_with (common_digits slots) places

-- the bytes that its buffer needs
-- Example: 183 in the table 36, empty, 28, with 20 places
abbrev pub decimal_bytes : List Slot → ℕ → ℕ
decimal_bytes slots places = bytes_with (common_digits slots) places

-- there are enough digits and enough bytes for a decimal
pub record HasDecimalRoom (slots : List Slot) (places digits bytes : ℕ) : Type 0 where
  pub digits_room : decimal_digits slots places ≤ digits
  pub bytes_room : decimal_bytes slots places ≤ bytes

-- why a total was not written as a decimal: there are too few digits or bytes, or there are enough and the common denominator is too long
abbrev pub IsDecimalRefusedFor : List Slot → ℕ → ℕ → ℕ → ReadRefusal → Type 0
IsDecimalRefusedFor slots places digits bytes MoreRoom = (digits < decimal_digits slots places) ⊎ (bytes < decimal_bytes slots places)
IsDecimalRefusedFor slots places digits bytes TooLong = HasDecimalRoom slots places digits bytes × HasLongCommon slots most_common

-- Inner: the decimal of x in this form begins at the index `start` of the buffer, and ends where the buffer ends
pub record IsWritten (form : Form) (x : ℤ × ℕ) (buf : List ℕ) (start : ℕ) : Type 0 where
  pub text : IsDecimalOf form.rule form.places x.0 (pos x.1) (drop start buf)
  pub within : start < length buf

-- ---- a decimal from the bounds of the sum

-- the digits that it needs, however many slots there are
-- Example: 44 for 20 places
abbrev pub bounded_digits : ℕ → ℕ
bounded_digits places = places / 19 * 9 + 35

-- the bytes that its buffer needs
-- Example: 223 for 20 places
abbrev pub bounded_bytes : ℕ → ℕ
bounded_bytes places = (places / 19 * 2 + 8) * 20 + places + 3

-- there are enough digits and enough bytes for it
pub record HasBoundedRoom (places digits bytes : ℕ) : Type 0 where
  pub digits_room : bounded_digits places ≤ digits
  pub bytes_room : bounded_bytes places ≤ bytes
