-- The values that a call takes from a stack.
use Rattle.std.proofs.Common.{◌≡◌, ◌∙◌, ◌≤◌, ◌-◌, ℕ, List, [], ◌∷◌, ◌++◌, length, take, drop, reverse, map, Result, Ok, Err, refl, ap, sym, subst, arith}
use Rattle.std.proofs.lemmas.List.{length-drop, length-map, length-reverse, map-append, reverse-append, reverse-reverse, take-append-drop, take_all}
use Rattle.std.proofs.Math.Seq.{drop-append_seam, take-append_seam}
use Rattle.std.specs.Prelude.{MatchResult}
use Rattle.ratio_expressions.specs.Stacks.{FailsWith, worths}
use Rattle.ratio_expressions.specs.Worths.{Worth, worth}
use Rattle.ratio_expressions.specs.declared.refusal.Reason.{Reason}
use Rattle.ratio_expressions.specs.declared.refusal.ValueError.{ValueError}
use Rattle.ratio_expressions.specs.declared.refusal.ValueError.TheVariants as errors
use Rattle.ratio_expressions.specs.declared.value.Value.{Value}

map-reversed : (l : List Value) → map worth (reverse l) ≡ reverse (map worth l)
map-reversed [] = refl
map-reversed (x ∷ l) =
    ap (map worth) (reverse-append (x ∷ []) l) ∙ map-append worth (reverse l) (x ∷ []) ∙ ap (λ m. m ++ worth x ∷ []) (map-reversed l) ∙ sym (reverse-append (worth x ∷ []) (map worth l))

-- a stack of two parts, by what its values are worth
pub worths-append : (front back : List Value) → worths (front ++ back) ≡ worths back ++ worths front
worths-append front back = ap (map worth) (reverse-append front back) ∙ map-append worth (reverse back) (reverse front)

-- what is behind a place
pub behind : (stack : List Value) (k : ℕ) → take (length stack - k) (drop k stack) ≡ drop k stack
behind stack k = take_all (length stack - k) (drop k stack) (omega (arith, length-drop k stack))

-- the last n values, in their order, and those below them
pub last_values : (stack : List Value) (n k : ℕ) → n ≤ length stack → k ≡ length stack - n
    → (map worth (drop k stack) ≡ reverse (take n (worths stack))) × (worths (take k stack) ≡ drop n (worths stack))
last_values stack n k enough place =
    let front : List Value = take k stack in
    let back : List Value = drop k stack in
    let whole : worths stack ≡ worths back ++ worths front = ap worths (sym (take-append-drop k stack)) ∙ worths-append front back in
    let count : length (worths back) ≡ n = length-map (reverse back) worth ∙ length-reverse back ∙ length_back in
    let taken : take n (worths stack) ≡ worths back = ap (λ m. take m (worths stack)) (sym count) ∙ ap (take (length (worths back))) whole ∙ take-append_seam (worths back) (worths front) in
    let left : drop n (worths stack) ≡ worths front = ap (λ m. drop m (worths stack)) (sym count) ∙ ap (drop (length (worths back))) whole ∙ drop-append_seam (worths back) (worths front) in
    let order : reverse (worths back) ≡ map worth back = sym (map-reversed (reverse back)) ∙ ap (map worth) (reverse-reverse back) in
    (sym order ∙ sym (ap reverse taken), sym left)
  where
    length_back : length (drop k stack) ≡ n
    length_back = omega (arith, enough, place, length-drop k stack)

-- what is put down is the value that was found, or the refusal is for the reason that there is none
pub put_down : {T : Type 0} (found : Result Value Reason) (result : Result T ValueError) (P : Worth → Type 0) (Q : Reason → Type 0) (old new : List Worth) (place : ℕ)
    → MatchResult found (λ v. P (worth v)) Q
    → MatchResult found (λ v. MatchResult result (λ _. new ≡ worth v ∷ old) (FailsWith (λ _. ⊥))) (λ reason. MatchResult result (λ _. ⊥) (FailsWith (λ r. (r.reason ≡ reason) × (r.place ≡ place))))
    → MatchResult result (λ _. (w : Worth) × P w × (new ≡ w ∷ old)) (FailsWith (λ r. Q r.reason × (r.place ≡ place)))
put_down (Ok v) (Ok u) P Q old new place given put = (worth v, given, put)
put_down (Ok v) (Err errors.Memory) P Q old new place given put = tt
put_down (Ok v) (Err (errors.Refused r)) P Q old new place given put = absurd put
put_down (Err reason) (Ok u) P Q old new place given put = absurd put
put_down (Err reason) (Err errors.Memory) P Q old new place given put = tt
put_down (Err reason) (Err (errors.Refused r)) P Q old new place given put = (subst Q (sym put.0) given, put.1)
