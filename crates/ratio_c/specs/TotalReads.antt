-- What a total's slots say: their sum, their mean, their sign and their decimal.
use Rattle.std.specs.Prelude.{◌≡◌, ◌≤◌, ◌<◌, ◌⊎◌, ◌<ℤ◌, ℕ, ℤ, pos, List, length, drop, Option, Some, None}
use Rattle.std.specs.{List.AllZip, Ordering.int_cmp}
use Rattle.ratio_core.specs.Power.{ChecksBoth}
use Rattle.ratio_integer.specs.Fraction.{ChecksLowest}
use Rattle.ratio_integer.specs.SignedBits.{greatest64, least64}
use Rattle.ratio_decimal.specs.Decimal.{IsDecimalOf}
use Rattle.ratio_slots.specs.{Common.IsReadRefusedFor, Common.read_digits, DecimalRoom.HasDecimalRoom, DecimalRoom.IsDecimalRefusedFor}
use Rattle.ratio_slots.specs.{LowestSum.mean_of_slots, Sums.sum_of_slots}
use Rattle.ratio_slots.specs.declared.reading.ReadRefusal.{ReadRefusal, TheVariants.MoreRoom, TheVariants.TooLong}
use Rattle.ratio_slots.specs.declared.slots.Slot.{Slot}
use Rattle.ratio_c.specs.declared.compare.Order.{Order}
use Rattle.ratio_c.specs.declared.printing.Text.{Text}
use Rattle.ratio_c.specs.Calls.{Tested}
use Rattle.ratio_c.specs.Codes.{code_answered, code_bad_option, code_division_by_zero, code_more_room, code_too_long, return_bad_length, return_done}
use Rattle.ratio_c.specs.Crossing.{Said, Says, order_number, refused, rule_of}

-- the code of a read that was refused: 10 or 11
-- Example: `TooLong`: 11
abbrev pub code_of_read : ReadRefusal → ℕ
code_of_read MoreRoom = code_more_room
code_of_read TooLong = code_too_long

-- a read was refused: the code 10 if the room is too short, or 11 if the common denominator is not below 2^(2^20)
-- Example: 1/36, 1/28 with 13 digits of room: code 10
pub record IsRefusedRead (slots : List Slot) (room : ℕ) (answer : Said) : Type 0 where
  pub why : ReadRefusal
  pub reason : IsReadRefusedFor slots room why
  pub says : answer ≡ refused (code_of_read why)

-- the answer of a read: what `Is` says, with enough room, or a refusal (`IsRefusedRead`)
-- Example: with 14 digits of room: what `Is` says
abbrev pub IsRead : List Slot → ℕ → (Said → Type 0) → Said → Type 0
IsRead slots room Is answer = ((read_digits slots ≤ room) × Is answer) ⊎ IsRefusedRead slots room answer

-- a fraction in lowest terms over 64 bits, or the code 1 where these do not fit
-- Example: 64/1008: 4/63
abbrev pub SaysLowest : ℤ × ℕ → Said → Type 0
SaysLowest x answer = Says (ChecksLowest (λ z. z.0) (λ z. z.1) least64 greatest64 (x.0, pos x.1)) answer

-- the sum of the slots in lowest terms (`SaysLowest`), or a refusal (`IsRead`)
-- Example: 1/36, 1/28: 4/63
abbrev pub IsSumOfTotal : List Slot → ℕ → Said → Type 0
IsSumOfTotal slots room answer = IsRead slots room (SaysLowest (sum_of_slots slots)) answer

-- the sum of the slots divided by the count, in lowest terms (`SaysLowest`), or a refusal (`IsRead`). A count of 0 or less gives the code 2
-- Example: 1/36, 1/28 with the count 2: 2/63
abbrev pub IsMeanOfTotal : List Slot → ℤ → ℕ → Said → Type 0
IsMeanOfTotal slots count room answer =
    Tested (pos 0 <ℤ count) (IsRead slots room (SaysLowest (mean_of_slots slots count)) answer) (answer ≡ refused code_division_by_zero)

-- Inner: two numbers over 64 bits are the same two, and there are none if one does not fit
abbrev pub Narrows : Option (ℤ × ℕ) → Option (ℤ × ℤ) → Type 0
Narrows (Some x) result = ChecksBoth (λ r. r.0) (λ r. r.1) least64 greatest64 x.0 (pos x.1) result
Narrows None result = result ≡ None

-- the order of a fraction and 0, as -1, 0 or 1
-- Example: -16/252: -1
pub record SaysSign (x : ℤ × ℕ) (answer : Order) : Type 0 where
  pub code_is : answer.code ≡ code_answered
  pub order_is : answer.order ≡ order_number (int_cmp x.0 (pos 0))

-- there is no sign, for what the code says, and the order is 0
-- Example: code 10: 0
pub record HasNoOrder (code : ℕ) (answer : Order) : Type 0 where
  pub code_is : answer.code ≡ code
  pub order_is : answer.order ≡ pos 0

-- a sign was refused, for what `IsReadRefusedFor` says
-- Example: 1/36, 1/28 with 13 digits of room: code 10
pub record IsRefusedSign (slots : List Slot) (room : ℕ) (answer : Order) : Type 0 where
  pub why : ReadRefusal
  pub reason : IsReadRefusedFor slots room why
  pub none : HasNoOrder (code_of_read why) answer

-- the order of the sum and 0 (`SaysSign`), with enough room, or a refusal (`IsRefusedSign`)
-- Example: 1/36, -1/28 with 14 digits of room: -1
abbrev pub IsSignOfTotal : List Slot → ℕ → Order → Type 0
IsSignOfTotal slots room answer = ((read_digits slots ≤ room) × SaysSign (sum_of_slots slots) answer) ⊎ IsRefusedSign slots room answer

-- there is no text, for what the code says, and the span at the end is empty
-- Example: a buffer of 8 bytes: the span from 8 to 8
pub record HasNoText (code end : ℕ) (answer : Text) : Type 0 where
  pub code_is : answer.code ≡ code
  pub start : answer.span.start ≡ end
  pub stop : answer.span.end ≡ end

-- the text from the answer's start to the end is the decimal of a fraction with so many places, by a rule
-- Example: `0.0635` in a buffer of 147 bytes: from 141 on
pub record IsLongText (x : ℤ × ℕ) (places rule end : ℕ) (texts : List ℕ) (answer : Text) : Type 0 where
  pub code_is : answer.code ≡ code_answered
  pub text : IsDecimalOf (rule_of rule) places x.0 (pos x.1) (drop answer.span.start texts)
  pub start : answer.span.start < end
  pub stop : answer.span.end ≡ end

-- a decimal was refused: the code 10 if there are too few digits or bytes, or 11 if the common denominator is not below 2^(2^20)
-- Example: 1/36, 1/28 with four places and 19 digits: code 10
pub record IsRefusedText (slots : List Slot) (places room end : ℕ) (answer : Text) : Type 0 where
  pub why : ReadRefusal
  pub reason : IsDecimalRefusedFor slots places room end why
  pub none : HasNoText (code_of_read why) end answer

-- the sum of the slots as a decimal (`IsLongText`), with enough room, or a refusal (`IsRefusedText`). A rule above 5 gives the code 9
-- Example: 1/36, 1/28 with four places by the rule 1: `0.0635`
abbrev pub IsDecimalOfTotal : List Slot → ℕ → ℕ → ℕ → ℕ → List ℕ → Text → Type 0
IsDecimalOfTotal slots places rule room end texts answer =
    Tested (rule < 6)
    ((HasDecimalRoom slots places room end × IsLongText (sum_of_slots slots) places rule end texts answer) ⊎ IsRefusedText slots places room end answer)
    (HasNoText code_bad_option end answer)

-- the call writes one answer, as `Writes` says of it before and after. If it is not given room for just one, it returns 1 and writes nothing
-- Example: two answers: 1
abbrev pub WritesOne : {B R : Type 0} → (B → B → Type 0) → List R → List R → List B → List B → ℕ → Type 0
WritesOne Writes room new_room old new result =
    Tested (length old ≡ 1) ((result ≡ return_done) × AllZip Writes old new)
    ((result ≡ return_bad_length) × (new ≡ old) × (new_room ≡ room))

-- the same for a call that does not look at what the answer was before
-- Example: no answer: 1
abbrev pub AnswersOne : {B R : Type 0} → (B → Type 0) → List R → List R → List B → List B → ℕ → Type 0
AnswersOne Is room new_room old new result = WritesOne (λ _ answer. Is answer) room new_room old new result

-- the same for a call that writes a text
-- Example: no answer: 1
abbrev pub PrintsOne : (List ℕ → Text → Type 0) → List ℕ → List ℕ → List ℕ → List ℕ → List Text → List Text → ℕ → Type 0
PrintsOne Is room new_room texts new_texts old new result =
    Tested (length old ≡ 1) ((result ≡ return_done) × AllZip (λ _ answer. Is new_texts answer) old new)
    ((result ≡ return_bad_length) × (new ≡ old) × (new_room ≡ room) × (new_texts ≡ texts))
