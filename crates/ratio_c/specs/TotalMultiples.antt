-- The sum of a total's slots, rounded to a multiple of 1/parts.
use Rattle.std.specs.Prelude.{◌≡◌, ◌⊎◌, ◌<◌, ◌≤◌, ◌<ℤ◌, ℕ, ℤ, pos, List}
use Rattle.ratio_integer.specs.SignedBits.{greatest64, least64}
use Rattle.ratio_decimal.specs.RoundingRules.{ChecksRounded}
use Rattle.ratio_slots.specs.{Multiples.IsMultipleRefusedFor, Multiples.multiple_digits, Sums.sum_of_slots}
use Rattle.ratio_slots.specs.declared.reading.ReadRefusal.{ReadRefusal}
use Rattle.ratio_slots.specs.declared.slots.Slot.{Slot}
use Rattle.ratio_c.specs.{Calls.Tested, Codes.code_bad_option}
use Rattle.ratio_c.specs.Crossing.{Said, Says, refused, rule_of}
use Rattle.ratio_c.specs.{TotalReads.code_of_read}

-- the multiple of 1/parts that a rule says of the sum, in lowest terms over 64 bits, or the code 1 where these do not fit
-- Example: 64/1008, 100 parts, rule 1: 3/50
abbrev pub SaysMultiple : ℤ × ℕ → ℤ → ℕ → Said → Type 0
SaysMultiple x parts rule answer = Says (ChecksRounded (λ z. z.0) (λ z. z.1) least64 greatest64 (rule_of rule) parts x.0 (pos x.1)) answer

-- a multiple was refused: the code 10 if the room is too short, or 11 if the common denominator is not below 2^(2^20)
-- Example: 1/36, 1/28 with 19 digits of room: code 10
pub record IsRefusedMultiple (slots : List Slot) (room : ℕ) (answer : Said) : Type 0 where
  pub why : ReadRefusal
  pub reason : IsMultipleRefusedFor slots room why
  pub says : answer ≡ refused (code_of_read why)

-- the sum rounded to a multiple of 1/parts (`SaysMultiple`), or a refusal (`IsRefusedMultiple`). Parts below 1 or a rule above 5 give the code 9
-- Example: 1/36, 1/28, 100 parts, rule 1 with 20 digits of room: 3/50
abbrev pub IsMultipleOfTotal : List Slot → ℤ → ℕ → ℕ → Said → Type 0
IsMultipleOfTotal slots parts rule room answer =
    Tested (pos 0 <ℤ parts)
    (Tested (rule < 6) (((multiple_digits slots ≤ room) × SaysMultiple (sum_of_slots slots) parts rule answer) ⊎ IsRefusedMultiple slots room answer)
    (answer ≡ refused code_bad_option))
    (answer ≡ refused code_bad_option)
