-- What a total's slots say as a float.
use Rattle.std.specs.Prelude.{◌≡◌, ◌≤◌, ◌⊎◌, ℕ, ℤ, pos, List}
use Rattle.std.specs.Float.{Float, binary64, float_zero}
use Rattle.ratio_decimal.specs.Floats.{nearest_float}
use Rattle.ratio_slots.specs.{Common.IsReadRefusedFor, Common.read_digits, Sums.sum_of_slots}
use Rattle.ratio_slots.specs.declared.reading.ReadRefusal.{ReadRefusal}
use Rattle.ratio_slots.specs.declared.slots.Slot.{Slot}
use Rattle.ratio_c.specs.{Codes.code_answered, TotalReads.code_of_read}

-- the float of 64 bits nearest to a fraction; of two as near, the one whose last bit is 0
-- Example: 64/1008: 0.06349206349206349
pub record SaysFloat (x : ℤ × ℕ) (code : ℕ) (value : Float) : Type 0 where
  pub code_is : code ≡ code_answered
  pub value_is : value ≡ nearest_float binary64 x.0 (pos x.1)

-- there is no float, for what the code says, and the value is 0
-- Example: code 10: 0
pub record HasNoFloat (why code : ℕ) (value : Float) : Type 0 where
  pub code_is : code ≡ why
  pub value_is : value ≡ float_zero

-- a float was refused, for what `IsReadRefusedFor` says
-- Example: 1/36, 1/28 with 13 digits of room: code 10
pub record IsRefusedFloat (slots : List Slot) (room code : ℕ) (value : Float) : Type 0 where
  pub why : ReadRefusal
  pub reason : IsReadRefusedFor slots room why
  pub none : HasNoFloat (code_of_read why) code value

-- the float nearest to the sum (`SaysFloat`), with enough room, or a refusal (`IsRefusedFloat`)
-- Example: 1/36, 1/28 with 14 digits of room: 0.06349206349206349
abbrev pub IsFloatOfTotal : List Slot → ℕ → ℕ → Float → Type 0
IsFloatOfTotal slots room code value = ((read_digits slots ≤ room) × SaysFloat (sum_of_slots slots) code value) ⊎ IsRefusedFloat slots room code value
