-- What several calls of a writer do together, and the first line of an input.
use Rattle.std.proofs.Common.{◌≡◌, ◌≢◌, ◌==◌, ◌≤◌, ◌-◌, ◌∙◌, ◌+◌, ◌++◌, ◌∷◌, [], ℕ, Bool, true, false, cond, List, take, drop, length, Option, None, Some, IfSome, Result, Ok, Err, refl, sym, ap, subst, append_assoc, take-append-drop}
use Rattle.std.proofs.KnownBytes.{Appends-trans}
use Rattle.std.proofs.Math.Seq.{take-add}
use Rattle.std.proofs.lemmas.List.{take-take}
use Rattle.std.proofs.lemmas.Result.{err_from_is_err_and}
use Rattle.std.specs.Io.BufRead.{DropsThrough, drop_through, take_through}
use Rattle.std.specs.List.{onto_first}
use Rattle.std.specs.Prelude.{IsErrAnd}
use Rattle.ratio.specs.Devices.{DeviceChange, GivesLine, Takes, TakesFront, WritesAll}
use Rattle.ratio.specs.Lines.{input_lines}
use Rattle.ratio.specs.declared.fault.Fault.{Fault}

-- a device before and after
abbrev pub changing : Option (List ℕ) → Option (List ℕ) → DeviceChange
changing a b = record { old = a; new = b }

-- the first n bytes are a front
pub takes_some : (writer : DeviceChange) (n : ℕ) (bytes : List ℕ) → Takes writer (take n bytes) → TakesFront writer bytes
takes_some writer n bytes takes = record { front = take n bytes; rest = drop n bytes; split = take-append-drop n bytes; takes = takes }

-- a front of some bytes is one of more
pub front_of_more : (writer : DeviceChange) (xs ys zs : List ℕ) → xs ++ ys ≡ zs → TakesFront writer xs → TakesFront writer zs
front_of_more writer xs ys zs split some = record {
  front = some.front;
  rest = some.rest ++ ys;
  split = sym (append_assoc some.front some.rest ys) ∙ ap (λ l. l ++ ys) some.split ∙ split;
  takes = some.takes;
}

module _ (a b c : Option (List ℕ)) where
  -- a front of the bytes behind others
  pub front_after : (xs ys zs : List ℕ) → xs ++ ys ≡ zs → Takes (changing a b) xs → TakesFront (changing b c) ys → TakesFront (changing a c) zs
  front_after xs ys zs split takes some = record {
    front = xs ++ some.front;
    rest = some.rest;
    split = append_assoc xs some.front some.rest ∙ ap (λ l. xs ++ l) some.split ∙ split;
    takes = Appends-trans a b c xs some.front takes some.takes;
  }

  -- bytes, and then others
  pub writes_after : {T : Type 0} (xs ys zs : List ℕ) (r : Result T Fault) → xs ++ ys ≡ zs → Takes (changing a b) xs → WritesAll (changing b c) ys r → WritesAll (changing a c) zs r
  writes_after xs ys zs (Ok x) split takes more = subst (Takes (changing a c)) split (Appends-trans a b c xs ys takes more)
  writes_after xs ys zs (Err e) split takes more = (more.0, front_after xs ys zs split takes more.1)

  -- some of the bytes, and then a part of the others
  pub takes_more : (bytes : List ℕ) (at n : ℕ) → at ≤ length bytes → n ≤ length bytes - at → Takes (changing a b) (take at bytes)
      → Takes (changing b c) (take n (take (length bytes - at) (drop at bytes))) → Takes (changing a c) (take (at + n) bytes)
  takes_more bytes at n within few takes more =
      let next : take n (take (length bytes - at) (drop at bytes)) ≡ take n (drop at bytes) = take-take n (length bytes - at) (drop at bytes) few in
      subst (Takes (changing a c)) (ap (λ l. take at bytes ++ l) next ∙ sym (take-add at n bytes)) (Appends-trans a b c (take at bytes) _ takes more)

-- at the exit of a `?` that hands on a fault
pub handed_on : {T : Type 0} (r : Result T Fault) (P : Result T Fault → Type 0) (fault : Fault) → IsErrAnd r (λ e. e ≡ fault) → P (Err fault) → P r
handed_on r P fault h holds = let p = err_from_is_err_and r h in subst P (sym p.1) (subst (λ e. P (Err e)) (sym p.2) holds)

-- the first line of an input, and the lines of the rest
pub first_line : (input : List ℕ) → input ≢ [] → input_lines input ≡ take_through 10 input ∷ input_lines (drop_through 10 input)
first_line [] some = absurd (some refl)
first_line (b ∷ []) some = if_same (b == 10)
  where
    if_same : (t : Bool) → cond t ((b ∷ []) ∷ []) ((b ∷ []) ∷ []) ≡ cond t (b ∷ []) (b ∷ []) ∷ input_lines (cond t [] [])
    if_same true = refl
    if_same false = refl
first_line (b ∷ c ∷ input) some = by_test (b == 10) (first_line (c ∷ input) (λ e. absurd (cc)))
  where
    more : List ℕ
    more = c ∷ input

    by_test : (t : Bool) → input_lines more ≡ take_through 10 more ∷ input_lines (drop_through 10 more)
        → cond t ((b ∷ []) ∷ input_lines more) (onto_first b (input_lines more)) ≡ cond t (b ∷ []) (b ∷ take_through 10 more) ∷ input_lines (cond t more (drop_through 10 more))
    by_test true h = refl
    by_test false h = ap (onto_first b) h

-- a line that is not empty is the first one that was left
pub gives_line : (old new : Option (List ℕ)) (cleared line : List ℕ) → cleared ≡ [] → length line ≢ 0 → IfSome old (λ xs. line ≡ cleared ++ take_through 10 xs) → DropsThrough old new 10
    → GivesLine (changing old new) line (Ok true)
gives_line None new cleared line none some took dropped = tt
gives_line (Some xs) new cleared line none some took dropped =
    let is : line ≡ take_through 10 xs = took ∙ ap (λ l. l ++ take_through 10 xs) none in
    let begun : xs ≢ [] = λ e. some (ap length (is ∙ ap (take_through 10) e)) in
    (drop_through 10 xs, dropped, first_line xs begun ∙ ap (λ l. l ∷ input_lines (drop_through 10 xs)) (sym is))
