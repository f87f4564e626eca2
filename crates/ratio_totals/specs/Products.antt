-- Products of two fractions that go into a total.
use Rattle.std.specs.Prelude.{◌*◌, ◌*ℤ◌, ℕ, ℤ, List}
use Rattle.ratio_slots.specs.{LowestSum.HasLongPair, LowestSum.IsShortPair, Sums.GrowsAt, Sums.Puts, Totals.IsAccepted, Totals.IsRefusedFor}
use Rattle.ratio_slots.specs.declared.tally.Refusal.{Refusal}
use Rattle.ratio_slots.specs.declared.tally.Refusal.TheVariants as refusal
use Rattle.ratio_slots.specs.declared.slots.Slot.{Slot}
use Rattle.ratio_totals.specs.declared.total_changes.ProductRefusal.{ProductRefusal, TheVariants.MoreRoom, TheVariants.TooGreat, TheVariants.TooMany}

-- the product of two fractions, not reduced
-- Example: 2/3 and 3/4: 6/12
abbrev pub product_of_pairs : ℤ × ℕ → ℤ × ℕ → ℤ × ℕ
product_of_pairs x y = (x.0 *ℤ y.0, x.1 * y.1)

-- the lowest terms n/d of x are below 2^64, and the numerator over d grew by n, in a total that had a place for d
-- Example: 6/12 added to 5/2, 1/28: 6/2, 1/28
pub record PutsProduct (x : ℤ × ℕ) (old new : List Slot) (weight : ℕ) : Type 0 where
  pub numer : ℤ
  pub denom : ℕ
  pub terms : IsShortPair x numer denom
  pub slot : Puts denom numer old new
  pub grows : GrowsAt denom numer old new
  pub accepted : IsAccepted old weight denom

-- the lowest terms n/d of x are below 2^64, and the total refuses a fraction over d
pub record IsRefusedInLowest (x : ℤ × ℕ) (slots : List Slot) (weight : ℕ) (why : Refusal) : Type 0 where
  pub numer : ℤ
  pub denom : ℕ
  pub terms : IsShortPair x numer denom
  pub refused : IsRefusedFor slots weight denom why

-- why the product x did not go in: in lowest terms one of its numbers is 2^64 or more, or the total refuses these terms
-- Example: 1/2^64: `TooGreat`
abbrev pub IsProductRefusedFor : ℤ × ℕ → List Slot → ℕ → ProductRefusal → Type 0
IsProductRefusedFor x slots weight MoreRoom = IsRefusedInLowest x slots weight refusal.MoreRoom
IsProductRefusedFor x slots weight TooMany = IsRefusedInLowest x slots weight refusal.TooMany
IsProductRefusedFor x slots weight TooGreat = HasLongPair x
