-- Totals that lose nothing. A *total* is a table of slots, each with a denominator and the sum of the numerators over it, and a count of
-- fractions. The caller has the slots. The header's struct, `Total64`, has the count, and what the last call did.
use Rattle.std.specs.Prelude.{suc, ◌≡◌, ◌≢◌, ◌<◌, ◌≤◌, ◌⊎◌, ◌+ℤ◌, ℕ, zero, ℤ, pos, negsuc, neg_ℤ, List, length, take, slice_index_or, Option, Some, None}
use Rattle.std.specs.List.{AllZip, FoldsTo}
use Rattle.ratio_integer.specs.SignedBits.{IsHeld64}
use Rattle.ratio_slots.specs.{Loose.HasDirtyPlace, Loose.HasFullPlace, Slots.HasNoPlaceFor}
use Rattle.ratio_slots.specs.Sums.{GrowsAt, Has128Bits, Puts, SumGrows}
use Rattle.ratio_slots.specs.declared.slots.Slot.{Slot}
use Rattle.ratio_c.specs.declared.numbers64.Fraction64.{Fraction64}
use Rattle.ratio_c.specs.declared.totals.Piece.{Piece}
use Rattle.ratio_c.specs.declared.totals.Stop.{Stop}
use Rattle.ratio_c.specs.declared.totals.Stop.TheVariants.{NotPositive, MoreRoom, NotEmpty, NotHeld}
use Rattle.ratio_c.specs.declared.totals.Total64.{Total64}
use Rattle.ratio_c.specs.declared.totals.Way.{Way, TheVariants.In, TheVariants.Out}
use Rattle.ratio_c.specs.Calls.{Tested}
use Rattle.ratio_c.specs.Codes.{code_answered, code_denominator_not_positive, code_more_room, code_no_total, code_not_held, return_bad_length, return_done}

-- a total: its slots, and its count
-- Example: 36, 28 with the numerators 6 and 1, and the count 3
abbrev pub Held : Type 0
Held = List Slot × ℤ

-- a number as it goes in, or its negative as it goes out
-- Example: 5 in: 5; 5 out: -5
abbrev pub directed : Way → ℤ → ℤ
directed In n = n
directed Out n = neg_ℤ n

-- what the fraction n/d brings: n over d, and it is one fraction. If d is not positive, it is stopped
-- Example: 5/36: 5 over 36, as one fraction; 5/0: none
abbrev pub piece_over : ℤ → ℤ → Option Piece
piece_over n (pos zero) = None
piece_over n (pos (suc d)) = Some (record { numer = n; denom = suc d; count = pos 1 })
piece_over n (negsuc d) = None

-- what a fraction of 64 bits brings to a total: `piece_over` of its two numbers
-- Example: 5/36: 5 over 36, as one fraction
abbrev pub piece_of_fraction : Fraction64 → Option Piece
piece_of_fraction x = piece_over x.numer x.denom

-- what a slot brings to another total: its numerator over its denominator. That total's count is added apart
-- Example: 6/36: 6 over 36, as no fraction
abbrev pub piece_of_slot : Slot → Option Piece
piece_of_slot slot = Some (record { numer = slot.numer; denom = slot.denom; count = pos 0 })

-- a piece n/d goes in, or out: the numerator over d grows by n, or by -n, no other one changes, and the count changes by that of the piece
-- Example: 5/36 into 1/36, 1/28 with the count 2: 6/36, 1/28 with the count 3
pub record Goes (way : Way) (piece : Piece) (old new : Held) : Type 0 where
  pub slot : Puts piece.denom (directed way piece.numer) old.0 new.0
  pub numerators : GrowsAt piece.denom (directed way piece.numer) old.0 new.0
  pub sum : SumGrows piece.denom (directed way piece.numer) old.0 new.0
  pub count : new.1 ≡ old.1 +ℤ directed way piece.count

-- what an item brings goes in, or out (`Goes`). A slot with the denominator 0 is done and changes nothing
-- Example: a slot 0/0: nothing changes
abbrev pub GoesOver : Way → Option Piece → Held → Held → Type 0
GoesOver way (Some piece) old new = Tested (piece.denom ≡ 0) (new ≡ old) (Goes way piece old new)
GoesOver way None old new = ⊥

-- all items of a list go in, or out, one after another (`GoesOver`)
-- Example: 1/36, 1/28 and 5/36 into no fraction: 6/36, 1/28 with the count 3
abbrev pub AllGo : {A : Type 0} → (A → Option Piece) → Way → List A → Held → Held → Type 0
AllGo brings way xs old new = FoldsTo (λ held x next. GoesOver way (brings x) held next) old xs new

-- a number leaves its type: the piece's numerator or the sum with it leaves 128 bits, or the count leaves 64
-- Example: 1/2 into a slot with 2^127 - 1 over 2
abbrev pub LeavesType : Way → Piece → Held → Type 0
LeavesType way piece held =
    (¬ (Has128Bits (directed way piece.numer)))
    ⊎ ((¬ (IsHeld64 (held.1 +ℤ directed way piece.count))) ⊎ HasFullPlace held.0 piece.denom (directed way piece.numer))

-- why a piece does not go in or out: other denominators take all slots, the empty slot for it has a numerator not 0, or a number leaves its type
-- Example: 1/12 into 1/36, 1/28 without an empty slot: `MoreRoom`
abbrev pub IsPieceStoppedFor : Way → Piece → Held → Stop → Type 0
IsPieceStoppedFor way piece held NotPositive = ⊥
IsPieceStoppedFor way piece held MoreRoom = HasNoPlaceFor held.0 piece.denom
IsPieceStoppedFor way piece held NotEmpty = HasDirtyPlace held.0 piece.denom
IsPieceStoppedFor way piece held NotHeld = LeavesType way piece held

-- why an item does not go in or out: its denominator is not positive, or what it brings is stopped (`IsPieceStoppedFor`)
-- Example: 1/0: `NotPositive`
abbrev pub IsStoppedFor : Way → Option Piece → Held → Stop → Type 0
IsStoppedFor way (Some piece) held why = (piece.denom ≢ 0) × IsPieceStoppedFor way piece held why
IsStoppedFor way None held why = why ≡ NotPositive

-- the code of a stop: 3, 10, 8 or 1
-- Example: `MoreRoom`: 10
abbrev pub code_of_stop : Stop → ℕ
code_of_stop NotPositive = code_denominator_not_positive
code_of_stop MoreRoom = code_more_room
code_of_stop NotEmpty = code_no_total
code_of_stop NotHeld = code_not_held

-- the item at this index is stopped, for what the code says, by the total as it then is
-- Example: 1/2, 1/3 and 1/5 into two empty slots: index 2, code 10
pub record IsStoppedAt {A : Type 0} (brings : A → Option Piece) (way : Way) (asked : List A) (held : Held) (index code : ℕ) : Type 0 where
  pub why : Stop
  pub code_is : code ≡ code_of_stop why
  pub within : index < length asked
  pub stopped : (x : A) → IsStoppedFor way (brings (slice_index_or asked index x)) held why

-- items go into a total, or out of it, one after another: as many as the new header's `done` says. If its code is 0, these are all. If not,
-- the next one is stopped for what the code says, and the slots and the count are those after the items before it
-- Example: 1/2, 1/3 and 1/5 into two empty slots: `done` is 2, and the code is 10
pub record GoUntil {A : Type 0} (brings : A → Option Piece) (way : Way) (asked : List A) (old : Held) (slots : List Slot) (header : Total64) : Type 0 where
  pub went : AllGo brings way (take header.done asked) old (slots, header.count)
  pub ended : Tested (header.code ≡ code_answered) (header.done ≡ length asked) (IsStoppedAt brings way asked (slots, header.count) header.done header.code)

-- a header after the count of another total: if all its slots are done, that count is added, or taken off. If the new count does not fit 64
-- bits, the code is 1 and the count is as it was
-- Example: 2 and 3: 5
abbrev pub AddsCount : Way → ℤ → Total64 → Total64 → Type 0
AddsCount way more old new =
    Tested (old.code ≡ code_answered)
    (Tested (IsHeld64 (old.count +ℤ directed way more))
    (new ≡ record { code = code_answered; done = old.done; count = old.count +ℤ directed way more })
    (new ≡ record { code = code_not_held; done = old.done; count = old.count }))
    (new ≡ old)

-- the slots of another total go into a total, or out of it (`GoUntil`), and then its count (`AddsCount`)
-- Example: 6/36, 1/28 of 3 fractions into 1/28 of 1: 6/36, 2/28 with the count 4
pub record Merges (way : Way) (asked : List Slot) (more : ℤ) (old : Held) (slots : List Slot) (header : Total64) : Type 0 where
  pub through : Total64
  pub each : GoUntil piece_of_slot way asked old slots through
  pub counted : AddsCount way more through header

-- the call changes the one total that it is given, as `Changes` says of its slots and count before, its slots after and its header after. If
-- it is not given just one header, it returns 1 and writes nothing
-- Example: two headers: 1
abbrev pub ChangesOne : (Held → List Slot → Total64 → Type 0) → List Total64 → List Total64 → List Slot → List Slot → ℕ → Type 0
ChangesOne Changes old new slots new_slots result =
    Tested (length old ≡ 1) ((result ≡ return_done) × AllZip (λ from to. Changes (slots, from.count) new_slots to) old new)
    ((result ≡ return_bad_length) × (new ≡ old) × (new_slots ≡ slots))

-- the length of a total's next table, or 0 if it is above the greatest one
-- Example: 24 with at most 23: 0
abbrev pub IsLengthWithin : ℕ → ℕ → ℕ → Type 0
IsLengthWithin most length result = Tested (length ≤ most) (result ≡ length) (result ≡ 0)
