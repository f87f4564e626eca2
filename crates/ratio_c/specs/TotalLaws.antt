-- The laws of totals.
use Rattle.std.specs.Prelude.{◌≡◌, ◌≢◌, ◌+◌, ◌++◌, ◌<ℤ◌, ◌+ℤ◌, ℕ, ℤ, pos, List, [], ◌∷◌, length, Option, Some, None, IsPermutation}
use Rattle.ratio_slots.specs.{Merging.AddsEach, LowestSum.mean_of_slots, SumOrder.sign_of_slots}
use Rattle.ratio_slots.specs.Sums.{numerator_at, numerator_over, sum_of_slots}
use Rattle.ratio_slots.specs.{TotalLaws.SameNumerators, Totals.HasNoFraction}
use Rattle.ratio_slots.specs.declared.slots.Slot.{Slot}
use Rattle.ratio_c.specs.declared.numbers64.Fraction64.{Fraction64}
use Rattle.ratio_c.specs.declared.totals.Piece.{Piece}
use Rattle.ratio_c.specs.declared.totals.Total64.{Total64}
use Rattle.ratio_c.specs.declared.totals.Way.{Way, TheVariants.In, TheVariants.Out}
use Rattle.ratio_c.specs.{Codes.code_answered, Crossing.Said, TotalReads.SaysLowest}
use Rattle.ratio_c.specs.Totals.{AllGo, GoUntil, Held, piece_of_fraction, piece_of_slot, directed}

-- what an item brings over the denominator e: its numerator if it is over e; elsewhere 0
-- Example: 5/36 over 36: 5; over 28: 0
abbrev pub brought_over : ℕ → Option Piece → ℤ
brought_over e (Some piece) = numerator_over e piece.denom piece.numer
brought_over e None = pos 0

-- what items bring over the denominator e, together
-- Example: 1/36, 1/28 and 5/36 over 36: 6
abbrev pub all_brought : {A : Type 0} → (A → Option Piece) → ℕ → List A → ℤ
all_brought brings e [] = pos 0
all_brought brings e (x ∷ xs) = brought_over e (brings x) +ℤ all_brought brings e xs

-- two totals are the same: each denominator has the same numerator, and the counts are equal
-- Example: 1/36, 1/28 and 1/28, empty, 1/36, both with the count 2
pub record AreSame (left right : Held) : Type 0 where
  pub numerators : SameNumerators left.0 right.0
  pub count : left.1 ≡ right.1

-- Law: the numerator over each denominator grew by what the items brought over it, or fell by that if they went out
-- Example: 1/36, 1/28 and 5/36 into no fraction: 6 over 36
abbrev pub EachIsBrought : Type 0
EachIsBrought =
    (xs : List Fraction64) (way : Way) (old new : Held)
    → AllGo piece_of_fraction way xs old new → (e : ℕ) → e ≢ 0 → numerator_at e new.0 ≡ numerator_at e old.0 +ℤ directed way (all_brought piece_of_fraction e xs)

-- Law: the count grew by the number of the fractions, or fell by it if they went out
-- Example: 1/36, 1/28 and 5/36 into no fraction: 3
abbrev pub EachIsCounted : Type 0
EachIsCounted = (xs : List Fraction64) (way : Way) (old new : Held) → AllGo piece_of_fraction way xs old new → new.1 ≡ old.1 +ℤ directed way (pos (length xs))

-- Law: fractions in any order give the same total, whatever slots they are in
-- Example: 1/36, 1/28 and 5/36; 5/36, 1/36 and 1/28
abbrev pub TotalsInAnyOrder : Type 0
TotalsInAnyOrder =
    (xs ys : List Fraction64) (way : Way) (old other first second : Held)
    → IsPermutation xs ys → AreSame old other → AllGo piece_of_fraction way xs old first → AllGo piece_of_fraction way ys other second → AreSame first second

-- Law: two calls one after another, the first of which was done, are one call
-- Example: 1/36 and 1/28 by one call, 5/36 by the next; all three by one
abbrev pub CallsFollow : Type 0
CallsFollow =
    (xs ys : List Fraction64) (way : Way) (old : Held) (slots new_slots : List Slot) (first second : Total64)
    → GoUntil piece_of_fraction way xs old slots first → first.code ≡ code_answered → GoUntil piece_of_fraction way ys (slots, first.count) new_slots second
    → GoUntil piece_of_fraction way (xs ++ ys) old new_slots (record { code = second.code; done = length xs + second.done; count = second.count })

-- Law: fractions that go in, and out again in any order, leave the total as it was
-- Example: 1/36 and 1/28 in, 1/28 and 1/36 out
abbrev pub OutUndoesIn : Type 0
OutUndoesIn =
    (xs ys : List Fraction64) (old with back : Held)
    → IsPermutation xs ys → AllGo piece_of_fraction In xs old with → AllGo piece_of_fraction Out ys with back → AreSame old back

-- Law: a merge adds each numerator of the other total
-- Example: 6/36, 1/28 into 1/28: 6/36, 2/28
abbrev pub MergeAddsEach : Type 0
MergeAddsEach = (slots : List Slot) (old new : Held) → AllGo piece_of_slot In slots old new → AddsEach old.0 slots new.0

-- Law: what is merged and then goes out again leaves each numerator as it was
-- Example: 6/36, 1/28 into 1/28 and out again: 0/36, 1/28
abbrev pub UnmergeUndoes : Type 0
UnmergeUndoes =
    (slots : List Slot) (old with back : Held) → AllGo piece_of_slot In slots old with → AllGo piece_of_slot Out slots with back → SameNumerators old.0 back.0

-- Law: the totals of two parts, merged, have the numerators of the total of the whole. Each begins with empty slots
-- Example: 1/2 and 1/3, merged with the total of 1/6: 1/2, 1/3 and 1/6
abbrev pub PartsMerge : Type 0
PartsMerge =
    (xs ys : List Fraction64) (none other again first second merged whole : Held)
    → HasNoFraction none.0 → HasNoFraction other.0 → HasNoFraction again.0
    → AllGo piece_of_fraction In xs none first → AllGo piece_of_fraction In ys other second
    → AllGo piece_of_slot In second.0 first merged → AllGo piece_of_fraction In (xs ++ ys) again whole
    → SameNumerators merged.0 whole.0

-- Law: a merge into empty slots moves a total: each numerator is the same there
-- Example: 6/36, 1/28 into eight empty slots: 6/36, 1/28
abbrev pub MergeMoves : Type 0
MergeMoves = (slots : List Slot) (none new : Held) → HasNoFraction none.0 → AllGo piece_of_slot In slots none new → SameNumerators slots new.0

-- Law: totals with the same numerators have the same sum in lowest terms, and the same code where it does not fit
-- Example: 1/36, 1/28 and 1/28, empty, 1/36: 4/63
abbrev pub SumsReadAlike : Type 0
SumsReadAlike =
    (left right : List Slot) (first second : Said)
    → SameNumerators left right → SaysLowest (sum_of_slots left) first → SaysLowest (sum_of_slots right) second → first ≡ second

-- Law: with the same count they also have the same mean
-- Example: 1/36, 1/28 and 1/28, empty, 1/36 with the count 2: 2/63
abbrev pub MeansReadAlike : Type 0
MeansReadAlike =
    (left right : List Slot) (count : ℤ) (first second : Said)
    → SameNumerators left right → pos 0 <ℤ count → SaysLowest (mean_of_slots left count) first → SaysLowest (mean_of_slots right count) second → first ≡ second

-- Law: they have the same sign
-- Example: 1/36, -1/28 and -1/28, empty, 1/36: `Less`
abbrev pub SignsAgree : Type 0
SignsAgree = (left right : List Slot) → SameNumerators left right → sign_of_slots left ≡ sign_of_slots right
