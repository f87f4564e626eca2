-- How items go into a total one after another, and the one item of a slice that a call writes.
use Rattle.std.specs.Prelude.{◌≡◌, ◌≢◌, ◌+◌, ◌<◌, ◌+ℤ◌, ◌-ℤ◌, neg_ℤ, ◌++◌, ℕ, ℤ, List, [], ◌∷◌, take, length, get_or, set, Option, Some, None, MatchOption}
use Rattle.std.specs.List.{AllZip}
use Rattle.std.proofs.Common.{ap, arith, inl, inr, subst, sym, ◌∙◌}
use Rattle.std.proofs.lemmas.Fn.{FoldsTo-push}
use Rattle.std.proofs.lemmas.Int.{ints}
use Rattle.std.proofs.lemmas.List.{take_more}
use Rattle.ratio_integer.specs.Range.{Checks}
use Rattle.ratio_integer.specs.SignedBits.{IsHeld64, greatest64, least64}
use Rattle.ratio_slots.specs.Sums.{GrowsAt, Puts, SumGrows}
use Rattle.ratio_slots.specs.declared.slots.Slot.{Slot}
use Rattle.ratio_c.specs.declared.totals.Piece.{Piece}
use Rattle.ratio_c.specs.declared.totals.Stop.TheVariants.{NotHeld}
use Rattle.ratio_c.specs.declared.totals.Way.{Way}
use Rattle.ratio_c.specs.Totals.{AllGo, GoesOver, Held, IsStoppedFor, directed}
use Rattle.ratio_c.proofs.Cases.{where_not}

-- the only item of a list, and what is written in its place
pub first_item : {A : Type 0} (R : A → A → Type 0) (old : List A) (x y : A) → length old ≡ 1 → R (get_or old 0 x) y → AllZip R old (set old 0 y)
first_item R [] x y one holds = absurd (omega arith)
first_item R (a ∷ []) x y one holds = (holds, tt)
first_item R (a ∷ b ∷ more) x y one holds = absurd (omega arith)

pub only_answer : {B : Type 0} (Is : B → Type 0) (old : List B) (y : B) → length old ≡ 1 → Is y → AllZip (λ (_ : B) answer. Is answer) old (set old 0 y)
only_answer Is [] y one holds = absurd (omega arith)
only_answer Is (a ∷ []) y one holds = (holds, tt)
only_answer Is (a ∷ b ∷ more) y one holds = absurd (omega arith)

-- the count after more fractions
pub checked_count : (z sum : ℤ) (r : Option ℤ) → sum ≡ z → Checks (λ y. y) least64 greatest64 sum r → MatchOption r (¬ (IsHeld64 z)) (λ new. new ≡ z)
checked_count z sum None same out = λ held. out (subst IsHeld64 (sym same) held)
checked_count z sum (Some y) same told = told.1 ∙ same

pub minus_is_turned : (a b : ℤ) (r : Option ℤ) → MatchOption r (¬ (IsHeld64 (a -ℤ b))) (λ new. new ≡ a -ℤ b)
    → MatchOption r (¬ (IsHeld64 (a +ℤ neg_ℤ b))) (λ new. new ≡ a +ℤ neg_ℤ b)
minus_is_turned a b r counts = subst (λ (t : ℤ). MatchOption r (¬ (IsHeld64 t)) (λ new. new ≡ t)) (omega (arith, ints)) counts

-- a piece went, from numbers that are equal to those of the machine
pub piece_went : (way : Way) (brings : Option Piece) (piece : Piece) (old : Held) (slots : List Slot) (n m k count next : ℤ)
    → Some piece ≡ brings → piece.denom ≢ 0 → n ≡ directed way m → m ≡ piece.numer → next ≡ count +ℤ directed way k → count ≡ old.1 → k ≡ piece.count
    → Puts piece.denom n old.0 slots → GrowsAt piece.denom n old.0 slots → SumGrows piece.denom n old.0 slots → GoesOver way brings old (slots, next)
piece_went way brings piece old slots n m k count next is some numer numer_is next_is count_is more_is slot numerators sum =
    let same : n ≡ directed way piece.numer = numer ∙ ap (directed way) numer_is in
    let counted : next ≡ old.1 +ℤ directed way piece.count = next_is ∙ ap (λ t. t +ℤ directed way k) count_is ∙ ap (λ t. old.1 +ℤ directed way t) more_is in
    subst (λ b. GoesOver way b old (slots, next)) is (where_not some (record {
      slot = subst (λ (t : ℤ). Puts piece.denom t old.0 slots) same slot;
      numerators = subst (λ (t : ℤ). GrowsAt piece.denom t old.0 slots) same numerators;
      sum = subst (λ (t : ℤ). SumGrows piece.denom t old.0 slots) same sum;
      count = counted;
    }))

-- a piece is stopped by the count
pub count_stops : (way : Way) (brings : Option Piece) (piece : Piece) (old : Held) (k count : ℤ)
    → Some piece ≡ brings → piece.denom ≢ 0 → count ≡ old.1 → k ≡ piece.count → ¬ (IsHeld64 (count +ℤ directed way k)) → IsStoppedFor way brings old NotHeld
count_stops way brings piece old k count is some count_is more_is out =
    let same : count +ℤ directed way k ≡ old.1 +ℤ directed way piece.count = ap (λ t. t +ℤ directed way k) count_is ∙ ap (λ t. old.1 +ℤ directed way t) more_is in
    subst (λ b. IsStoppedFor way b old NotHeld) is (some, inr (inl (λ held. out (subst IsHeld64 (sym same) held))))

-- one more item went
pub one_more : {A : Type 0} (brings : A → Option Piece) (way : Way) (old : Held) (asked : List A) (i : ℕ) (x : A) (held new : Held)
    → i < length asked → x ≡ get_or asked i x → AllGo brings way (take i asked) old held → GoesOver way (brings x) held new → AllGo brings way (take (i + 1) asked) old new
one_more brings way old asked i x held new below is before step =
    let further : take (i + 1) asked ≡ take i asked ++ x ∷ [] = take_more asked i x below ∙ ap (λ y. take i asked ++ y ∷ []) (sym is) in
    subst (λ xs. AllGo brings way xs old new) (sym further) (FoldsTo-push (λ held y next. GoesOver way (brings y) held next) old (take i asked) held x new before step)
