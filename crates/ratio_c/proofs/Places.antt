-- Two lists, place by place.
use Rattle.std.proofs.Common.{◌≡◌, ℕ, suc, ◌<◌, List, [], ◌∷◌, length, get_or, true, ◌==◌, refl, arith, ◌≤◌}
use Rattle.std.proofs.lemmas.Bool.Decides.{nat_tests}
use Rattle.std.specs.List.{AllZip}
use Rattle.ratio_c.specs.Calls.{AnswersEach}

-- R holds at each place before the n-th
pub record Before {A B : Type 0} (R : A → B → Type 0) (xs : List A) (ys : List B) (n : ℕ) : Type 0 where
  pub each : (k : ℕ) (d : A) (e : B) → k < n → R (get_or xs k d) (get_or ys k e)

pub none_before : {A B : Type 0} (R : A → B → Type 0) (xs : List A) (ys : List B) → Before R xs ys 0
none_before R xs ys = record { each = λ k d e within. absurd (omega arith) }

-- R holds at all places, if it holds at each place before the end
pub all_zip : {A B : Type 0} (R : A → B → Type 0) (xs : List A) (ys : List B) → length xs ≡ length ys → ((k : ℕ) (d : A) (e : B) → k < length xs → R (get_or xs k d) (get_or ys k e)) → AllZip R xs ys
all_zip R [] [] same each = tt
all_zip R [] (y ∷ ys) same each = absurd (omega arith)
all_zip R (x ∷ xs) [] same each = absurd (omega arith)
all_zip R (x ∷ xs) (y ∷ ys) same each = (each 0 x y (omega arith), all_zip R xs ys (omega arith) (λ k d e within. each (suc k) d e (omega arith)))

same_test : (n m : ℕ) → n ≡ m → (n == m) ≡ true
same_test n m e = grind (arith, nat_tests)

pub all_answered : {A B : Type 0} (R : A → B → Type 0) (asked : List A) (old new : List B) (n : ℕ) → length asked ≡ length old → length new ≡ length old → length asked ≤ n → Before R asked new n
    → AnswersEach R asked old new 0
all_answered R asked old new n same kept all before =
    rw (same_test (length asked) (length old) same) (refl, all_zip R asked new (omega arith) (λ k d e within. before.each k d e (omega arith)))
