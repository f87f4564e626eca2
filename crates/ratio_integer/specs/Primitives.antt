-- The laws of the primitive types of any width, once for the signed ones and once for the unsigned ones.
use Rattle.std.specs.Prelude.{◌≡◌, ◌≤◌, ℕ, ℤ, pos, negsuc, unsigned_abs, nat_eq, List, Some}
use Rattle.std.specs.Ordering.{int_cmp, int_eq, nat_cmp}
use Rattle.std.proofs.Common.{refl, ap, arith, inl, inr}
use Rattle.std.proofs.lemmas.Int.{ints}
use Rattle.std.proofs.lemmas.Bool.Decides.{Decides-int_eq}
use Rattle.num_traits.specs.Ints.{unsigned-eq}
use Rattle.ratio_integer.specs.{Laws.IsLawful, Range.IsHeld}

-- Law: the whole numbers from -h-1 to h are lawful, if h is at least 2; each is its own value
-- Example: h = 127: `i8`
pub signed_laws : (h : ℕ) (hash : ℤ → List (List ℕ)) → 2 ≤ h → IsLawful ℤ (negsuc h) (pos h) (λ x. x) (pos 0) (pos 1) (negsuc h) (pos h) int_eq int_cmp (λ a b. Some (int_cmp a b)) hash hash
signed_laws h hash up = record {
  range = record { high = omega (arith, ints); low = inr (inr (omega (arith, ints))) };
  every = λ z is. (z, refl);
  zero_number = refl;
  one_number = refl;
  min_number = refl;
  max_number = refl;
  equal = Decides-int_eq;
  ordered = λ a b. refl;
  partly_ordered = λ a b. refl;
  hashed = λ a. refl;
}

number_of_held : (hi z : ℤ) → IsHeld (pos 0) hi z → (x : ℕ) × (pos x ≡ z)
number_of_held hi (pos n) is = (n, refl)
number_of_held hi (negsuc n) is = absurd (omega (arith, ints))

natural_cmp : (a b : ℕ) → nat_cmp a b ≡ int_cmp (pos a) (pos b)
natural_cmp a b = grind (arith, ints)

-- Law: the whole numbers from 0 to h are lawful, if h is at least 2; each is its own value, as a natural number
-- Example: h = 255: `u8`
pub unsigned_laws : (h : ℕ) (hash : ℕ → List (List ℕ)) → 2 ≤ h → IsLawful ℕ (pos 0) (pos h) (λ x. pos x) 0 1 0 h nat_eq nat_cmp (λ a b. Some (nat_cmp a b)) hash (λ z. hash (unsigned_abs z))
unsigned_laws h hash up = record {
  range = record { high = omega (arith, ints); low = inl refl };
  every = number_of_held (pos h);
  zero_number = refl;
  one_number = refl;
  min_number = refl;
  max_number = refl;
  equal = unsigned-eq;
  ordered = natural_cmp;
  partly_ordered = λ a b. ap Some (natural_cmp a b);
  hashed = λ a. refl;
}
