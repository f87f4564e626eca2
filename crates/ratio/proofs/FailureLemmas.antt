-- How the calls of a writer fail, one after another.
use Rattle.std.proofs.Common.{◌≡◌, ◌≢◌, ◌∙◌, ◌+◌, ◌≤◌, ◌-◌, ◌++◌, ◌&&◌, ◌==◌, ℕ, List, Bool, true, false, not, cond, length, take, drop, Result, Ok, Err, ap, refl, sym, append_assoc, arith, inl, inr}
use Rattle.std.proofs.Math.Seq.{take-add}
use Rattle.std.proofs.lemmas.Bool.Decides.{nat_tests}
use Rattle.std.proofs.lemmas.List.{take-take}
use Rattle.std.specs.Bool.{MatchBool}
use Rattle.std.specs.Prelude.{IsErrAnd, OnOk}
use Rattle.ratio_lines.specs.declared.counted.Calls.{Calls}
use Rattle.ratio_lines.specs.Devices.{after_failing, after_interrupt, after_moving}
use Rattle.ratio.specs.Failures.{FailsAtWrite, GaveUp, NoneFailed, fails_to_write, is_write}
use Rattle.ratio.specs.declared.fault.Fault.{Fault}
use Rattle.ratio.proofs.DeviceLemmas.{handed_on}

pub none_made : (a : Calls) → NoneFailed a a
none_made a = record { failures = refl; interrupts = omega arith }

pub none_after : (a b c : Calls) → NoneFailed a b → NoneFailed b c → NoneFailed a c
none_after a b c p q =
    let before = p.interrupts in let behind = q.interrupts in
    record { failures = q.failures ∙ p.failures; interrupts = omega arith }

-- a call failed after calls of which none did
pub one_after : (a b c : Calls) → NoneFailed a b → c ≡ after_failing b → GaveUp a c
one_after a b c p e = inl (ap (λ (calls : Calls). calls.failures) e ∙ ap (λ n. n + 1) p.failures)

gave_up_after : (a b c : Calls) → NoneFailed a b → GaveUp b c → GaveUp a c
gave_up_after a b c p (inl e) = inl (e ∙ ap (λ n. n + 1) p.failures)
gave_up_after a b c p (inr h) = let before = p.interrupts in let many = h.1 in inr (none_after a b c p h.0, omega arith)

-- how a writer goes on after calls of which none failed
pub stops_after : (a b c : Calls) (test : Bool) → NoneFailed a b → MatchBool test (GaveUp b c) (NoneFailed b c) → MatchBool test (GaveUp a c) (NoneFailed a c)
stops_after a b c true p h = gave_up_after a b c p h
stops_after a b c false p h = none_after a b c p h

pub fails_after : {T : Type 0} (a b c : Calls) (r : Result T Fault) → NoneFailed a b → FailsAtWrite b c r → FailsAtWrite a c r
fails_after a b c r p h = stops_after a b c (fails_to_write r) p h

-- at the exit of a `?` that hands on a fault
pub fails_on : {T : Type 0} (a b : Calls) (r : Result T Fault) (fault : Fault) → IsErrAnd r (λ e. e ≡ fault) → MatchBool (is_write fault) (GaveUp a b) (NoneFailed a b)
    → FailsAtWrite a b r
fails_on a b r fault is h = handed_on r (λ r. FailsAtWrite a b r) fault is h

-- at the exit of a `?` that hands on another fault
pub none_at_fault : {T : Type 0} (a b : Calls) (r : Result T Fault) (fault other : Fault) → IsErrAnd r (λ e. e ≡ fault) → fault ≡ other → is_write other ≡ false → NoneFailed a b
    → FailsAtWrite a b r
none_at_fault a b r fault other is same test none = fails_on a b r fault is (rw (ap is_write same ∙ test) none)

-- a call that took some bytes moved them
moves : (b c : Calls) (n len : ℕ) (bytes : List ℕ) → n ≢ 0 → c ≡ cond ((n == 0) && not (len == 0)) (after_failing b) (after_moving b bytes) → c ≡ after_moving b bytes
moves b c n len bytes some e =
    elim (n == 0) as (λ t. (n == 0) ≡ t → c ≡ cond (t && not (len == 0)) (after_failing b) (after_moving b bytes) → c ≡ after_moving b bytes)
    [ true ↦ λ t e. absurd (some (grind (arith, nat_tests))) | false ↦ λ t e. e ] refl e

pub moved_some : (b c : Calls) (n len : ℕ) (bytes : List ℕ) → n ≢ 0 → c ≡ cond ((n == 0) && not (len == 0)) (after_failing b) (after_moving b bytes) → c.moved ≡ b.moved ++ bytes
moved_some b c n len bytes some e = ap (λ (calls : Calls). calls.moved) (moves b c n len bytes some e)

-- so it has not failed
pub none_by_some : (b c : Calls) (n len : ℕ) (bytes : List ℕ) → n ≢ 0 → c ≡ cond ((n == 0) && not (len == 0)) (after_failing b) (after_moving b bytes) → NoneFailed b c
none_by_some b c n len bytes some e =
    let moved = moves b c n len bytes some e in
    record { failures = ap (λ (calls : Calls). calls.failures) moved; interrupts = rw moved (omega arith) }

-- the next bytes moved after those before a place
pub moved_more : (old a b bytes : List ℕ) (at n : ℕ) → n ≤ length bytes - at → a ≡ old ++ take at bytes → b ≡ a ++ take n (take (length bytes - at) (drop at bytes)) → b ≡ old ++ take (at + n) bytes
moved_more old a b bytes at n few p q =
    let next : take n (take (length bytes - at) (drop at bytes)) ≡ take n (drop at bytes) = take-take n (length bytes - at) (drop at bytes) few in
    q ∙ ap (λ l. l ++ take n (take (length bytes - at) (drop at bytes))) p ∙ append_assoc old (take at bytes) (take n (take (length bytes - at) (drop at bytes)))
    ∙ ap (λ l. old ++ (take at bytes ++ l)) next ∙ ap (λ l. old ++ l) (sym (take-add at n bytes))

-- a call that moved nothing came after all of the bytes
pub moved_whole : {T : Type 0} (old a b bytes : List ℕ) (r : Result T Fault) → a ≡ old ++ bytes → OnOk r (b ≡ a) → OnOk r (b ≡ old ++ bytes)
moved_whole old a b bytes (Ok x) p q = q ∙ p
moved_whole old a b bytes (Err e) p q = tt

-- a call that was interrupted has not failed
pub none_by_interrupt : (b c : Calls) → c ≡ after_interrupt b → NoneFailed b c
none_by_interrupt b c e = record { failures = ap (λ (calls : Calls). calls.failures) e; interrupts = rw e (omega arith) }

-- a call that took none of its bytes has failed
pub failed_by_none : (b c : Calls) (n len : ℕ) (bytes : List ℕ) → n ≡ 0 → 1 ≤ len → c ≡ cond ((n == 0) && not (len == 0)) (after_failing b) (after_moving b bytes) → c ≡ after_failing b
failed_by_none b c n len bytes none some e =
    let test : ((n == 0) && not (len == 0)) ≡ true = grind (arith, nat_tests) in e ∙ ap (λ t. cond t (after_failing b) (after_moving b bytes)) test
