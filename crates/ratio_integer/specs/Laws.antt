-- What each type of integers proves about its range, its constants, its comparisons and its hash.
use Rattle.std.specs.Prelude.{◌≡◌, ◌↔◌, ℕ, ℤ, pos, Bool, IsTrue, List, Option, Some}
use Rattle.std.specs.Ordering.{int_cmp}
use Rattle.std.specs.declared.cmp.Ordering.{Ordering}
use Rattle.ratio_integer.specs.Range.{IsHeld, IsRange}

-- lo to hi is an `IsRange`, and each number in range is the number of some value. The constants `ZERO`, `ONE`, `MIN` and `MAX` have the
-- numbers 0, 1, lo and hi. Values are equal, ordered and hashed by their numbers
-- Example: `i8`
pub record IsLawful (T : Type 0) (lo hi : ℤ) (value : T → ℤ) (zero one min max : T) (eq : T → T → Bool) (cmp : T → T → Ordering) (partial_cmp : T → T → Option Ordering) (hash_input : T → List (List ℕ)) (number_hash_input : ℤ → List (List ℕ)) : Type 0 where
  pub range : IsRange lo hi
  pub every : (z : ℤ) → IsHeld lo hi z → (x : T) × (value x ≡ z)
  pub zero_number : value zero ≡ pos 0
  pub one_number : value one ≡ pos 1
  pub min_number : value min ≡ lo
  pub max_number : value max ≡ hi
  pub equal : (a b : T) → IsTrue (eq a b) ↔ (value a ≡ value b)
  pub ordered : (a b : T) → cmp a b ≡ int_cmp (value a) (value b)
  pub partly_ordered : (a b : T) → partial_cmp a b ≡ Some (int_cmp (value a) (value b))
  pub hashed : (a : T) → hash_input a ≡ number_hash_input (value a)
