-- The laws of totals, from what each step does to a numerator.
use Rattle.std.specs.Prelude.{◌≡◌, ◌≢◌, ◌==◌, ◌⊎◌, ◌+◌, ◌+ℤ◌, ◌-ℤ◌, ◌++◌, zero, suc, ℕ, ℤ, pos, negsuc, neg_ℤ, Bool, true, false, List, [], ◌∷◌, take, length, Option, Some, None, if◌then◌else◌, IsPermutation}
use Rattle.std.specs.List.{FoldsTo, sum_by}
use Rattle.std.proofs.Common.{ap, arith, inl, inr, length-append, refl, subst, sym, ◌∙◌}
use Rattle.std.proofs.Math.Seq.{take-append-add, take-length}
use Rattle.std.proofs.lemmas.Int.{ints}
use Rattle.std.proofs.lemmas.List.{get_or-append-add}
use Rattle.std.proofs.lemmas.List.Sorted.{length_permutation, sum_by-IsPermutation}
use Rattle.std.proofs.lemmas.List.Sums.{sum_by-cons}
use Rattle.ratio_slots.proofs.ReadLemmas.{empty_numerators, over_other}
use Rattle.ratio_slots.specs.Common.{above_zero, below_zero}
use Rattle.ratio_slots.specs.Sums.{numerator_at, numerator_over}
use Rattle.ratio_slots.specs.declared.slots.Slot.{Slot}
use Rattle.ratio_c.specs.declared.totals.Piece.{Piece}
use Rattle.ratio_c.specs.declared.totals.Way.{Way}
use Rattle.ratio_c.specs.declared.totals.Way.TheVariants.{In, Out}
use Rattle.ratio_c.specs.Totals.{AllGo, GoesOver, Held, IsStoppedAt, IsStoppedFor, piece_of_fraction, piece_of_slot, piece_over, directed}
use Rattle.ratio_c.specs.TotalLaws.{CallsFollow, EachIsBrought, EachIsCounted, MergeAddsEach, MergeMoves, OutUndoesIn, PartsMerge, TotalsInAnyOrder, UnmergeUndoes, all_brought, brought_over}

-- ---- numbers

turned_zero : (way : Way) → directed way (pos 0) ≡ pos 0
turned_zero In = refl
turned_zero Out = refl

turned_sum : (way : Way) (a b : ℤ) → directed way (a +ℤ b) ≡ directed way a +ℤ directed way b
turned_sum In a b = refl
turned_sum Out a b = omega (arith, ints)

over_turned : (e d : ℕ) (way : Way) (n : ℤ) → numerator_over e d (directed way n) ≡ directed way (numerator_over e d n)
over_turned e d In n = refl
over_turned e d Out n = elim (d == e) as (λ (t : Bool). (if t then neg_ℤ n else pos 0) ≡ neg_ℤ (if t then n else pos 0)) [ true ↦ refl | false ↦ refl ]

is_zero_or_not : (d : ℕ) → (d ≡ 0) ⊎ (d ≢ 0)
is_zero_or_not zero = inl refl
is_zero_or_not (suc d) = inr (λ e. absurd (omega (arith, e)))

two_steps : (a b c p q r : ℤ) → b ≡ a +ℤ p → c ≡ b +ℤ q → r ≡ p +ℤ q → c ≡ a +ℤ r
two_steps a b c p q r first second both = omega (arith, ints, first, second, both)

nothing_more : (a b p : ℤ) → b ≡ a → p ≡ pos 0 → b ≡ a +ℤ p
nothing_more a b p same none = omega (arith, ints, same, none)

-- ---- the numerators after items went

one_step : (way : Way) (piece : Option Piece) (old new : Held) (e : ℕ) → e ≢ 0 → GoesOver way piece old new
    → numerator_at e new.0 ≡ numerator_at e old.0 +ℤ directed way (brought_over e piece)
one_step way None old new e some goes = absurd goes
one_step way (Some piece) old new e some goes = elim (is_zero_or_not piece.denom) [
  | inl none ↦
      nothing_more _ _ _ (ap (λ (t : Held). numerator_at e t.0) (goes.yes none))
      (ap (directed way) (over_other e piece.denom piece.numer (λ same. some (sym same ∙ none))) ∙ turned_zero way)
  | inr taken ↦ (goes.no taken).numerators.each e some ∙ ap (λ z. numerator_at e old.0 +ℤ z) (over_turned e piece.denom way piece.numer)
]

pub grown : {A : Type 0} (brings : A → Option Piece) (way : Way) (xs : List A) (old new : Held) (e : ℕ) → e ≢ 0 → AllGo brings way xs old new
    → numerator_at e new.0 ≡ numerator_at e old.0 +ℤ directed way (all_brought brings e xs)
grown brings way [] old new e some all = nothing_more _ _ _ (ap (λ (t : Held). numerator_at e t.0) (sym all)) (turned_zero way)
grown brings way (x ∷ xs) old new e some all =
    two_steps _ _ _ _ _ _ (one_step way (brings x) old all.0 e some all.1) (grown brings way xs all.0 new e some all.2) (turned_sum way (brought_over e (brings x)) (all_brought brings e xs))

pub each_is_brought : EachIsBrought
each_is_brought xs way old new all e some = grown piece_of_fraction way xs old new e some all

-- ---- the count

one_counted : (way : Way) (n d : ℤ) (old new : Held) → GoesOver way (piece_over n d) old new → new.1 ≡ old.1 +ℤ directed way (pos 1)
one_counted way n (pos zero) old new goes = absurd goes
one_counted way n (pos (suc d)) old new goes = (goes.no (λ e. absurd (omega (arith, e)))).count
one_counted way n (negsuc d) old new goes = absurd goes

one_longer : (n : ℕ) → pos (suc n) ≡ pos 1 +ℤ pos n
one_longer n = omega (arith, ints)

pub each_is_counted : EachIsCounted
each_is_counted [] way old new all = nothing_more _ _ _ (ap (λ (t : Held). t.1) (sym all)) (turned_zero way)
each_is_counted (x ∷ xs) way old new all =
    two_steps _ _ _ _ _ _ (one_counted way x.numer x.denom old all.0 all.1) (each_is_counted xs way all.0 new all.2)
    (ap (directed way) (one_longer (length xs)) ∙ turned_sum way (pos 1) (pos (length xs)))

-- ---- the order of fractions

two_parts : (z : ℤ) → z ≡ pos (above_zero z) -ℤ pos (below_zero z)
two_parts (pos n) = omega (arith, ints)
two_parts (negsuc n) = omega (arith, ints)

parts_sum : (a b : ℕ) (c d : ℕ) (y z : ℤ) (f g : ℕ) → y ≡ pos a -ℤ pos b → z ≡ pos c -ℤ pos d → f ≡ a + c → g ≡ b + d → y +ℤ z ≡ pos f -ℤ pos g
parts_sum a b c d y z f g p q r s = omega (arith, ints, p, q, r, s)

brought_parts : {A : Type 0} (brings : A → Option Piece) (e : ℕ) (xs : List A)
    → all_brought brings e xs ≡ pos (sum_by (λ x. above_zero (brought_over e (brings x))) xs) -ℤ pos (sum_by (λ x. below_zero (brought_over e (brings x))) xs)
brought_parts brings e [] = refl
brought_parts brings e (x ∷ xs) =
    parts_sum _ _ _ _ _ _ _ _ (two_parts (brought_over e (brings x))) (brought_parts brings e xs)
    (sum_by-cons (λ x. above_zero (brought_over e (brings x))) x xs) (sum_by-cons (λ x. below_zero (brought_over e (brings x))) x xs)

same_parts : (a b c d : ℕ) (y z : ℤ) → y ≡ pos a -ℤ pos b → z ≡ pos c -ℤ pos d → c ≡ a → d ≡ b → z ≡ y
same_parts a b c d y z p q r s = omega (arith, ints, p, q, r, s)

brought_permuted : {A : Type 0} (brings : A → Option Piece) (e : ℕ) (xs ys : List A) → IsPermutation xs ys → all_brought brings e ys ≡ all_brought brings e xs
brought_permuted brings e xs ys order =
    same_parts _ _ _ _ _ _ (brought_parts brings e xs) (brought_parts brings e ys)
    (sum_by-IsPermutation (λ x. above_zero (brought_over e (brings x))) xs ys order) (sum_by-IsPermutation (λ x. below_zero (brought_over e (brings x))) xs ys order)

same_end : (a b c d p q : ℤ) → a ≡ b → c ≡ a +ℤ p → d ≡ b +ℤ q → q ≡ p → c ≡ d
same_end a b c d p q start first second same = omega (arith, ints, start, first, second, same)

pub any_order : TotalsInAnyOrder
any_order xs ys way old other first second order start one two = record {
  numerators = record {
    each = λ e some. same_end _ _ _ _ _ _ (start.numerators.each e some) (each_is_brought xs way old first one e some) (each_is_brought ys way other second two e some)
        (ap (directed way) (brought_permuted piece_of_fraction e xs ys order));
  };
  count = same_end _ _ _ _ _ _ start.count (each_is_counted xs way old first one) (each_is_counted ys way other second two)
      (ap (λ n. directed way (pos n)) (length_permutation xs ys order));
}

in_and_out : (a b c p q : ℤ) → b ≡ a +ℤ p → c ≡ b +ℤ neg_ℤ q → q ≡ p → a ≡ c
in_and_out a b c p q first second same = omega (arith, ints, first, second, same)

pub out_undoes_in : OutUndoesIn
out_undoes_in xs ys old with back order one two = record {
  numerators = record {
    each = λ e some. in_and_out _ _ _ _ _ (each_is_brought xs In old with one e some) (each_is_brought ys Out with back two e some) (brought_permuted piece_of_fraction e xs ys order);
  };
  count = in_and_out _ _ _ _ _ (each_is_counted xs In old with one) (each_is_counted ys Out with back two) (ap pos (length_permutation xs ys order));
}

-- ---- two calls as one

follows : {P A : Type 0} (Step : P → A → P → Type 0) (xs ys : List A) (from middle to : P) → FoldsTo Step from xs middle → FoldsTo Step middle ys to → FoldsTo Step from (xs ++ ys) to
follows Step [] ys from middle to first second = subst (λ p. FoldsTo Step p ys to) (sym first) second
follows Step (x ∷ xs) ys from middle to first second = (first.0, first.1, follows Step xs ys first.0 middle to first.2 second)

all_taken : {A : Type 0} (n : ℕ) (xs : List A) → n ≡ length xs → take n xs ≡ xs
all_taken n xs same = ap (λ i. take i xs) same ∙ take-length xs

later_stop : {A : Type 0} (brings : A → Option Piece) (way : Way) (xs ys : List A) (held : Held) (i code : ℕ)
    → IsStoppedAt brings way ys held i code → IsStoppedAt brings way (xs ++ ys) held (length xs + i) code
later_stop brings way xs ys held i code stop = record {
  why = stop.why;
  code_is = stop.code_is;
  within = omega (arith, length-append xs ys, stop.within);
  stopped = λ x. subst (λ y. IsStoppedFor way (brings y) held stop.why) (sym (get_or-append-add xs ys i x)) (stop.stopped x);
}

pub calls_follow : CallsFollow
calls_follow xs ys way old slots new_slots first second one answered two =
    let whole : AllGo piece_of_fraction way xs old (slots, first.count)
    = subst (λ zs. AllGo piece_of_fraction way zs old (slots, first.count)) (all_taken first.done xs (one.ended.yes answered)) one.went in
    record {
      went = subst (λ zs. AllGo piece_of_fraction way zs old (new_slots, second.count)) (sym (take-append-add xs ys second.done)) (follows _ xs (take second.done ys) old (slots, first.count) (new_slots, second.count) whole two.went);
      ended = record {
        yes = λ done. omega (arith, length-append xs ys, two.ended.yes done);
        no = λ not. later_stop piece_of_fraction way xs ys (new_slots, second.count) second.done second.code (two.ended.no not);
      };
    }

-- ---- totals that are merged

slots_brought : (e : ℕ) (slots : List Slot) → all_brought piece_of_slot e slots ≡ numerator_at e slots
slots_brought e [] = refl
slots_brought e (slot ∷ slots) = ap (λ z. numerator_over e slot.denom slot.numer +ℤ z) (slots_brought e slots)

pub merge_adds_each : MergeAddsEach
merge_adds_each slots old new all = record { each = λ e some. grown piece_of_slot In slots old new e some all ∙ ap (λ z. numerator_at e old.0 +ℤ z) (slots_brought e slots) }

pub unmerge_undoes : UnmergeUndoes
unmerge_undoes slots old with back one two = record {
  each = λ e some. in_and_out _ _ _ _ _ (grown piece_of_slot In slots old with e some one) (grown piece_of_slot Out slots with back e some two) refl;
}

brought_append : {A : Type 0} (brings : A → Option Piece) (e : ℕ) (xs ys : List A) → all_brought brings e (xs ++ ys) ≡ all_brought brings e xs +ℤ all_brought brings e ys
brought_append brings e [] ys = nothing_before _
  where
    nothing_before : (z : ℤ) → z ≡ pos 0 +ℤ z
    nothing_before z = omega (arith, ints)
brought_append brings e (x ∷ xs) ys = regrouped _ _ _ _ (brought_append brings e xs ys)
  where
    regrouped : (a b c d : ℤ) → b ≡ c +ℤ d → a +ℤ b ≡ (a +ℤ c) +ℤ d
    regrouped a b c d e = omega (arith, ints, e)

made_up : (none other again first second merged whole p q r : ℤ) → none ≡ pos 0 → other ≡ pos 0 → again ≡ pos 0
    → first ≡ none +ℤ p → second ≡ other +ℤ q → merged ≡ first +ℤ second → whole ≡ again +ℤ r → r ≡ p +ℤ q → merged ≡ whole
made_up none other again first second merged whole p q r a b c d e f g h = omega (arith, ints, a, b, c, d, e, f, g, h)

pub parts_merge : PartsMerge
parts_merge xs ys none other again first second merged whole empty empty_other empty_again one two merge all = record {
  each = λ e some. made_up _ _ _ _ _ _ _ _ _ _
      (empty_numerators none.0 e empty some) (empty_numerators other.0 e empty_other some) (empty_numerators again.0 e empty_again some)
      (each_is_brought xs In none first one e some) (each_is_brought ys In other second two e some) ((merge_adds_each second.0 first merged merge).each e some)
      (each_is_brought (xs ++ ys) In again whole all e some) (brought_append piece_of_fraction e xs ys);
}

from_nothing : (a b c : ℤ) → a ≡ pos 0 → c ≡ a +ℤ b → b ≡ c
from_nothing a b c none same = omega (arith, ints, none, same)

pub merge_moves : MergeMoves
merge_moves slots none new empty all = record {
  each = λ e some. from_nothing _ _ _ (empty_numerators none.0 e empty some) ((merge_adds_each slots none new all).each e some);
}
