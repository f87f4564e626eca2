-- What several calls of a device do together.
use Rattle.std.proofs.Common.{◌≡◌, ◌≢◌, ℕ, ◌+◌, ◌-◌, ◌<◌, ◌≤◌, List, [], ◌++◌, length, take, drop, true, false, Option, None, Some, Result, Ok, Err, refl, ap, ◌∙◌, sym, arith, append_assoc, length-append, length-take, nat_lt, not, cond, ◌==◌, ◌&&◌}
use Rattle.std.specs.Io.KnownBytes.{Consumes, Appends, Keeps}
use Rattle.std.proofs.Math.Seq.{take-add}
use Rattle.std.proofs.lemmas.List.{append-nil, take-take, take-append-drop}
use Rattle.ratio_lines.specs.declared.counted.Calls.{Calls}
use Rattle.std.proofs.lemmas.Bool.Decides.{nat_tests}
use Rattle.std.specs.Bool.{MatchBool}
use Rattle.std.specs.Prelude.{IsErrAnd, OnOk}
use Rattle.ratio_lines.specs.declared.fault.CalcFault.{CalcFault}
use Rattle.ratio_lines.specs.declared.fault.CalcFault.TheVariants.{Write}
use Rattle.ratio_lines.specs.Devices.{Change, Device, Ended, Failed, Gathers, Gave, GivesPiece, Took, TookSome, Waits, Writes, after_failing, after_moving}

-- a device before and after
abbrev pub changing : Device → Device → Change
changing a b = record { old = a; new = b }

appends_nothing : (held : Option (List ℕ)) → Appends held held []
appends_nothing None = tt
appends_nothing (Some xs) = sym (append-nil xs)

appends_both : (a b c : Option (List ℕ)) (xs ys : List ℕ) → Appends a b xs → Appends b c ys → Appends a c (xs ++ ys)
appends_both None b c xs ys p q = tt
appends_both (Some us) None c xs ys p q = absurd p
appends_both (Some us) (Some bs) None xs ys p q = absurd q
appends_both (Some us) (Some bs) (Some cs) xs ys p q = q ∙ ap (λ zs. zs ++ ys) p ∙ append_assoc us xs ys

pub appends_kept : (a b c : Option (List ℕ)) (xs : List ℕ) → Appends a b xs → Keeps b c → Appends a c xs
appends_kept None b c xs p q = tt
appends_kept (Some us) None c xs p q = absurd p
appends_kept (Some us) (Some bs) None xs p q = absurd q
appends_kept (Some us) (Some bs) (Some cs) xs p q = q ∙ p

consumes_nothing : (left : Option (List ℕ)) → Consumes left left []
consumes_nothing None = tt
consumes_nothing (Some xs) = refl

pub consumes_both : (a b c : Option (List ℕ)) (xs ys : List ℕ) → Consumes a b xs → Consumes b c ys → Consumes a c (xs ++ ys)
consumes_both None b c xs ys p q = tt
consumes_both (Some us) None c xs ys p q = absurd p
consumes_both (Some us) (Some bs) None xs ys p q = absurd q
consumes_both (Some us) (Some bs) (Some cs) xs ys p q = p ∙ ap (λ zs. xs ++ zs) q ∙ sym (append_assoc xs ys cs)

pub consumes_kept : (a b c : Option (List ℕ)) (xs : List ℕ) → Consumes a b xs → Keeps b c → Consumes a c xs
consumes_kept None b c xs p q = tt
consumes_kept (Some us) None c xs p q = absurd p
consumes_kept (Some us) (Some bs) None xs p q = absurd q
consumes_kept (Some us) (Some bs) (Some cs) xs p q = p ∙ ap (λ zs. xs ++ zs) (sym q)

keeps_by_nothing : (a b : Option (List ℕ)) → Appends a b [] → Keeps a b
keeps_by_nothing None b p = tt
keeps_by_nothing (Some xs) None p = absurd p
keeps_by_nothing (Some xs) (Some ys) p = p ∙ append-nil xs

moves_nothing : (calls : Calls) → calls ≡ after_moving calls []
moves_nothing calls = ap (λ bytes. record calls { moved = bytes }) (sym (append-nil calls.moved))

moves_both : (a b c : Calls) (xs ys : List ℕ) → b ≡ after_moving a xs → c ≡ after_moving b ys → c ≡ after_moving a (xs ++ ys)
moves_both a b c xs ys p q =
    q ∙ ap (λ calls. after_moving calls ys) p ∙ ap (λ bytes. record a { moved = bytes }) (append_assoc a.moved xs ys)

pub gave_nothing : (d : Device) → Gave d d []
gave_nothing d = record { known = consumes_nothing d.0; calls = moves_nothing d.1 }

pub gave_both : (a b c : Device) (xs ys : List ℕ) → Gave a b xs → Gave b c ys → Gave a c (xs ++ ys)
gave_both a b c xs ys p q = record {
  known = consumes_both a.0 b.0 c.0 xs ys p.known q.known;
  calls = moves_both a.1 b.1 c.1 xs ys p.calls q.calls;
}

pub took_nothing : (d : Device) → Took d d []
took_nothing d = record { known = appends_nothing d.0; calls = moves_nothing d.1 }

pub took_both : (a b c : Device) (xs ys : List ℕ) → Took a b xs → Took b c ys → Took a c (xs ++ ys)
took_both a b c xs ys p q = record {
  known = appends_both a.0 b.0 c.0 xs ys p.known q.known;
  calls = moves_both a.1 b.1 c.1 xs ys p.calls q.calls;
}

-- all of the first bytes, and then a beginning of the next ones
pub took_some_after : (a b c : Device) (xs ys : List ℕ) → Took a b xs → TookSome b c ys → TookSome a c (xs ++ ys)
took_some_after a b c xs ys p q = record {
  written = xs ++ q.written;
  rest = q.rest;
  split = append_assoc xs q.written q.rest ∙ ap (λ zs. xs ++ zs) q.split;
  known = appends_both a.0 b.0 c.0 xs q.written p.known q.known;
  calls = q.calls ∙ ap after_failing (moves_both a.1 b.1 (after_moving b.1 q.written) xs q.written p.calls refl);
}

-- a beginning of the first bytes is a beginning of all of them
pub took_some_before : (a b : Device) (xs ys : List ℕ) → TookSome a b xs → TookSome a b (xs ++ ys)
took_some_before a b xs ys p = record {
  written = p.written;
  rest = p.rest ++ ys;
  split = sym (append_assoc p.written p.rest ys) ∙ ap (λ zs. zs ++ ys) p.split;
  known = p.known;
  calls = p.calls;
}

-- all of the bytes, and then a call failed
pub took_all : (a b c : Device) (xs : List ℕ) → Took a b xs → Failed b c → TookSome a c xs
took_all a b c xs p q = record {
  written = xs;
  rest = [];
  split = append-nil xs;
  known = appends_kept a.0 b.0 c.0 xs p.known q.known;
  calls = q.calls ∙ ap after_failing p.calls;
}

-- a write that took n bytes, n above 0, moved them
wrote_some : (n len : ℕ) (calls piece_moved : Calls) → n ≢ 0 → cond ((n == 0) && not (len == 0)) (after_failing calls) piece_moved ≡ piece_moved
wrote_some n len calls piece_moved some =
    elim (n == 0) as (λ t. (n == 0) ≡ t → cond (t && not (len == 0)) (after_failing calls) piece_moved ≡ piece_moved)
    [ true ↦ λ t. absurd (some (grind (arith, nat_tests))) | false ↦ λ t. refl ] refl

-- a write that took none of its bytes failed
wrote_none : (n len : ℕ) (calls piece_moved : Calls) → n ≡ 0 → 1 ≤ len → cond ((n == 0) && not (len == 0)) (after_failing calls) piece_moved ≡ after_failing calls
wrote_none n len calls piece_moved none some =
    let test : ((n == 0) && not (len == 0)) ≡ true = grind (arith, nat_tests) in rw test refl

-- the n bytes from a place on come after those that were taken before
pub took_more : (a b c : Device) (bytes : List ℕ) (at n : ℕ) → at + n ≤ length bytes → n ≢ 0 → Took a b (take at bytes)
    → Appends b.0 c.0 (take n (take (length bytes - at) (drop at bytes)))
    → c.1 ≡ cond ((n == 0) && not (length (take (length bytes - at) (drop at bytes)) == 0)) (after_failing b.1) (after_moving b.1 (take n (take (length bytes - at) (drop at bytes))))
    → Took a c (take (at + n) bytes)
took_more a b c bytes at n within some before known calls =
    let room : n ≤ length bytes - at = omega arith in
    let piece : take n (take (length bytes - at) (drop at bytes)) ≡ take n (drop at bytes) = take-take n (length bytes - at) (drop at bytes) room in
    let now : Took b c (take n (drop at bytes)) = record {
      known = rw piece at known;
      calls = calls ∙ wrote_some n _ b.1 _ some ∙ ap (after_moving b.1) piece;
    } in
    rw take-add (took_both a b c (take at bytes) (take n (drop at bytes)) before now)

-- a call that took no byte of a piece with bytes failed
pub took_none : (b c : Device) (n : ℕ) (piece : List ℕ) → n ≡ 0 → 1 ≤ length piece → Appends b.0 c.0 (take n piece)
    → c.1 ≡ cond ((n == 0) && not (length piece == 0)) (after_failing b.1) (after_moving b.1 (take n piece)) → Failed b c
took_none b c n piece none some known calls = record {
  known = keeps_by_nothing b.0 c.0 (rw none at known);
  calls = calls ∙ wrote_none n (length piece) b.1 _ none some;
}

-- the bytes before a place were taken, and then a call failed
pub stops_within : (a b c : Device) (bytes : List ℕ) (at : ℕ) → Took a b (take at bytes) → Failed b c → TookSome a c bytes
stops_within a b c bytes at before failed =
    rw take-append-drop at (took_some_before a c (take at bytes) (drop at bytes) (took_all a b c (take at bytes) before failed))

pub err_is : {T E : Type 0} (r : Result T E) (e : E) → IsErrAnd r (λ x. x ≡ e) → r ≡ Err e
err_is (Ok x) e h = absurd h
err_is (Err y) e h = ap Err h

pub joined : (waited xs ys written between : List ℕ) → waited ++ xs ≡ written ++ between → waited ++ (xs ++ ys) ≡ written ++ (between ++ ys)
joined waited xs ys written between same = sym (append_assoc waited xs ys) ∙ ap (λ zs. zs ++ ys) same ∙ append_assoc written between ys

pub writes_stopped : {T : Type 0} (a b : Device) (bytes : List ℕ) (r : Result T CalcFault) → r ≡ Err Write → TookSome a b bytes → Writes (changing a b) bytes r
writes_stopped a b bytes r e some = rw e (refl, some)

pub gathers_stopped : {T : Type 0} (a b : Device) (waited waiting bytes : List ℕ) (r : Result T CalcFault) → r ≡ Err Write → TookSome a b (waited ++ bytes)
    → Gathers (changing a b) waited waiting bytes r
gathers_stopped a b waited waiting bytes r e some = rw e (refl, some)

-- these bytes were added, and then others were added or a call failed
pub gathers_after : {T : Type 0} (a b c : Device) (waited between waiting xs ys written : List ℕ) (r : Result T CalcFault) → Took a b written → waited ++ xs ≡ written ++ between
    → Gathers (changing b c) between waiting ys r → Gathers (changing a c) waited waiting (xs ++ ys) r
gathers_after a b c waited between waiting xs ys written (Ok x) took same h =
    (written ++ h.0, took_both a b c written h.0 took h.1, joined waited xs ys written between same ∙ ap (λ zs. written ++ zs) h.2 ∙ sym (append_assoc written h.0 waiting))
gathers_after a b c waited between waiting xs ys written (Err e) took same h =
    (h.0, rw (joined waited xs ys written between same) (took_some_after a b c written (between ++ ys) took h.1))

waits_beyond : {T : Type 0} (writer : Change) (waited waiting bytes : List ℕ) (r : Result T CalcFault) → 1024 < length waited + length bytes → Waits writer waited waiting bytes r
waits_beyond writer waited waiting bytes (Ok x) more = λ fits. absurd (omega (arith, more, fits))
waits_beyond writer waited waiting bytes (Err fault) more = more

more_than : (n : ℕ) → (n ≤ 1024 → false ≡ true) → 1024 < n
more_than n never =
    elim (nat_lt 1024 n) as (λ t. nat_lt 1024 n ≡ t → 1024 < n) [
      | true ↦ λ t. grind (arith, nat_tests)
      | false ↦ λ t. let within : n ≤ 1024 = grind (arith, nat_tests) in absurd (let no : false ≡ true = never within in cc)
    ] refl

-- there was no room for the bytes
pub waits_without_room : {T : Type 0} (writer : Change) (waited waiting bytes : List ℕ) (r : Result T CalcFault) → (length waited + length bytes ≤ 1024 → false ≡ true)
    → Waits writer waited waiting bytes r
waits_without_room writer waited waiting bytes r never = waits_beyond writer waited waiting bytes r (more_than (length waited + length bytes) never)

-- a call failed before the last of these bytes
pub waits_stopped : {T : Type 0} (writer : Change) (waited waiting xs ys : List ℕ) (r : Result T CalcFault) → 1024 < length waited + length xs → Waits writer waited waiting (xs ++ ys) r
waits_stopped writer waited waiting xs ys r more = waits_beyond writer waited waiting (xs ++ ys) r (omega (arith, more, length-append xs ys))

-- if there is room, these bytes wait, and the device is unchanged
abbrev pub WaitWhole : Device → Device → List ℕ → List ℕ → List ℕ → Type 0
WaitWhole a b waited waiting bytes = length waited + length bytes ≤ 1024 → (b ≡ a) × (waiting ≡ waited ++ bytes)

-- no call was made, and the bytes wait
pub wait_uncalled : (a : Device) (waited waiting bytes : List ℕ) → waiting ≡ waited ++ bytes → WaitWhole a a waited waiting bytes
wait_uncalled a waited waiting bytes e fits = (refl, e)

pub wait_both : (a b c : Device) (waited between waiting xs ys : List ℕ) → WaitWhole a b waited between xs → WaitWhole b c between waiting ys → WaitWhole a c waited waiting (xs ++ ys)
wait_both a b c waited between waiting xs ys first next fits =
    let h = first (omega (arith, fits, length-append xs ys)) in
    let k = next (omega (arith, fits, length-append xs ys, ap length h.1, length-append waited xs)) in
    (k.0 ∙ h.0, k.1 ∙ ap (λ zs. zs ++ ys) h.1 ∙ append_assoc waited xs ys)

-- if the second bytes have no room after the first ones, both together have none
pub beyond_both : (a b : Device) (waited between xs ys : List ℕ) → WaitWhole a b waited between xs → 1024 < length between + length ys → 1024 < length waited + length (xs ++ ys)
beyond_both a b waited between xs ys first more =
    elim (nat_lt 1024 (length waited + length xs)) as (λ t. nat_lt 1024 (length waited + length xs) ≡ t → 1024 < length waited + length (xs ++ ys)) [
      | true ↦ λ t. let over : 1024 < length waited + length xs = grind (arith, nat_tests) in omega (arith, over, length-append xs ys)
      | false ↦ λ t.
          let within : length waited + length xs ≤ 1024 = grind (arith, nat_tests) in
          omega (arith, more, length-append xs ys, ap length (first within).1, length-append waited xs)
    ] refl

-- bytes that came after others
pub waits_after : {T : Type 0} (a b c : Device) (waited between waiting xs ys : List ℕ) (r : Result T CalcFault) → WaitWhole a b waited between xs
    → Waits (changing b c) between waiting ys r → Waits (changing a c) waited waiting (xs ++ ys) r
waits_after a b c waited between waiting xs ys (Ok x) first next = wait_both a b c waited between waiting xs ys first next
waits_after a b c waited between waiting xs ys (Err e) first more = beyond_both a b waited between xs ys first more

-- a beginning of the first bytes is a beginning of all of them
pub gathers_part : (a b : Device) (waited xs ys : List ℕ) → TookSome a b (waited ++ xs) → TookSome a b (waited ++ (xs ++ ys))
gathers_part a b waited xs ys some = rw (← append_assoc waited xs ys) (took_some_before a b (waited ++ xs) ys some)

-- these bytes were added, and then all that waited was written or a call failed
pub gathers_written : {T : Type 0} (a b c : Device) (waited between waiting bytes written : List ℕ) (r : Result T CalcFault) → Took a b written → waited ++ bytes ≡ written ++ between
    → Writes (changing b c) between r → OnOk r (waiting ≡ []) → Gathers (changing a c) waited waiting bytes r
gathers_written a b c waited between waiting bytes written (Ok x) took same h none =
    (written ++ between, took_both a b c written between took h, same ∙ sym (append-nil (written ++ between)) ∙ ap (λ zs. (written ++ between) ++ zs) (sym none))
gathers_written a b c waited between waiting bytes written (Err e) took same h none =
    (h.0, rw same (took_some_after a b c written between took h.1))

-- the same, if nothing waited before
pub writes_gathered : {T : Type 0} (a b c : Device) (waited between bytes written : List ℕ) (r : Result T CalcFault) → waited ≡ [] → Took a b written → waited ++ bytes ≡ written ++ between
    → Writes (changing b c) between r → Writes (changing a c) bytes r
writes_gathered a b c waited between bytes written (Ok x) none took same h =
    rw (ap (λ zs. zs ++ bytes) (sym none) ∙ same) (took_both a b c written between took h)
writes_gathered a b c waited between bytes written (Err e) none took same h =
    (h.0, rw (ap (λ zs. zs ++ bytes) (sym none) ∙ same) (took_some_after a b c written between took h.1))

-- nothing waited, and nothing waits: the writer took everything
pub gathered_all : (a b : Device) (waited waiting bytes written : List ℕ) → waited ≡ [] → waiting ≡ [] → Took a b written → waited ++ bytes ≡ written ++ waiting → Took a b bytes
gathered_all a b waited waiting bytes written none none_waits took same =
    let all : bytes ≡ written = ap (λ zs. zs ++ bytes) (sym none) ∙ same ∙ ap (λ zs. written ++ zs) none_waits ∙ append-nil written in rw all took

gave_some : (A B : Type 0) (n : ℕ) → n ≢ 0 → MatchBool (n == 0) A B → B
gave_some A B n some h =
    elim (n == 0) as (λ t. (n == 0) ≡ t → MatchBool t A B → B) [ true ↦ λ t k. absurd (some (grind (arith, nat_tests))) | false ↦ λ t k. k ] refl h

-- what a reader gave into a buffer, if it gave anything
pub gave_piece : (a b : Device) (buffer : List ℕ) (n : ℕ) → GivesPiece (changing a b) buffer (Ok n) → n ≢ 0 → Gave a b (take n buffer) × (1 ≤ length (take n buffer))
gave_piece a b buffer n h some = (gave_some (Ended a b) (Gave a b (take n buffer)) n some h.1, simp (length-take) (let within = h.0 in omega arith))
