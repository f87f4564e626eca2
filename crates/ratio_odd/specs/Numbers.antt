-- The laws of a type, for the whole numbers of any range.
use Rattle.std.specs.Prelude.{◌≡◌, ℕ, ℤ, pos, List, Some}
use Rattle.std.specs.Ordering.{int_cmp, int_eq}
use Rattle.std.proofs.Common.{refl}
use Rattle.std.proofs.lemmas.Bool.Decides.{Decides-int_eq}
use Rattle.ratio_integer.specs.{Laws.IsLawful, Range.IsRange}

-- Law: a type T with the numbers from lo to hi is lawful, if `number` of `of z` is z, and the numbers compare and hash the values
-- Example: -5 to 5
pub laws_of_numbers : {T : Type 0} (lo hi : ℤ) (number : T → ℤ) (of : ℤ → T) (hash : ℤ → List (List ℕ)) →
    IsRange lo hi → ((z : ℤ) → number (of z) ≡ z) →
    IsLawful T lo hi number (of (pos 0)) (of (pos 1)) (of lo) (of hi)
    (λ a b. int_eq (number a) (number b)) (λ a b. int_cmp (number a) (number b))
    (λ a b. Some (int_cmp (number a) (number b))) (λ a. hash (number a)) hash
laws_of_numbers lo hi number of hash range back = record {
  range = range;
  every = λ z is. (of z, back z);
  zero_number = back (pos 0);
  one_number = back (pos 1);
  min_number = back lo;
  max_number = back hi;
  equal = λ a b. Decides-int_eq (number a) (number b);
  ordered = λ a b. refl;
  partly_ordered = λ a b. refl;
  hashed = λ a. refl;
}
