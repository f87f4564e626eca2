-- The greatest common divisor and the least common multiple of many fractions: one more, and that there is only one.
use Rattle.std.proofs.Common.{◌≡◌, ◌≢◌, ◌∙◌, ◌<◌, ◌+◌, ℕ, ℤ, pos, List, [], ◌∷◌, ◌++◌, length, take, get_or, map, sym, subst, ap, arith}
use Rattle.std.specs.Prelude.{◌*ℤ◌}
use Rattle.std.specs.List.{All}
use Rattle.std.proofs.Math.Seq.{take-append_seam}
use Rattle.std.proofs.lemmas.Int.{ints}
use Rattle.std.proofs.lemmas.List.{map_more}
use Rattle.std.proofs.lemmas.List.Elements.{All-cons, All-contains, All-head, All-nil, All-push, All-take, All-weaker, Contains-push}
use Rattle.ratio_integer.specs.Fraction.{SameValue}
use Rattle.ratio_integer.proofs.LowestTerms.{same_value_chained}
use Rattle.ratio_integer.proofs.Whole.{mul_assoc, positive_nonzero}
use Rattle.ratio_core.specs.Divisors.{DividesFraction, IsGcdOfFractions, IsLcmOfFractions}
use Rattle.ratio_core.proofs.DivisorLemmas.{gcd_unique, lcm_unique}
use Rattle.ratio_big.specs.Fractions.{big_numbers}
use Rattle.ratio_big.specs.declared.fraction.BigFraction.{BigFraction}
use Rattle.ratio_expressions.specs.Functions.{IsGcdOfAll, IsLcmOfAll}

pub same_pair : (x y : ℤ × ℤ) → (x.0 ≡ y.0) × (x.1 ≡ y.1) → x ≡ y
same_pair x y e = ap (λ (a : ℤ). let p : ℤ × ℤ = (a, x.1) in p) e.0 ∙ ap (λ (b : ℤ). let p : ℤ × ℤ = (y.0, b) in p) e.1

-- the fraction x divides y
abbrev Divides : ℤ × ℤ → ℤ × ℤ → Type 0
Divides x y = DividesFraction x.0 x.1 y.0 y.1

chained : (x y z : ℤ × ℤ) → y.1 ≢ pos 0 → Divides x y → Divides y z → Divides x z
chained x y z nonzero (k, first) (j, second) =
    let times : SameValue (j *ℤ y.0) y.1 (j *ℤ (k *ℤ x.0)) x.1 = mul_assoc j y.0 x.1 ∙ ap (λ (t : ℤ). j *ℤ t) first ∙ sym (mul_assoc j (k *ℤ x.0) y.1) in
    (j *ℤ k, subst (λ (t : ℤ). SameValue z.0 z.1 t x.1) (sym (mul_assoc j k x.0)) (same_value_chained z.0 z.1 (j *ℤ y.0) y.1 (j *ℤ (k *ℤ x.0)) x.1 nonzero second times))

divides_itself : (x : ℤ × ℤ) → Divides x x
divides_itself x = let one : x.0 ≡ pos 1 *ℤ x.0 = omega (arith, ints) in (pos 1, ap (λ (t : ℤ). t *ℤ x.1) one)

front : (P : ℤ × ℤ → Type 0) (xs : List (ℤ × ℤ)) (x : ℤ × ℤ) → All P (xs ++ x ∷ []) → All P xs
front P xs x each = subst (All P) (take-append_seam xs (x ∷ [])) (All-take P (length xs) (xs ++ x ∷ []) each)

last : (P : ℤ × ℤ → Type 0) (xs : List (ℤ × ℤ)) (x : ℤ × ℤ) → All P (xs ++ x ∷ []) → P x
last P xs x each = All-contains P (xs ++ x ∷ []) x each (Contains-push xs x)

-- ---- greatest common divisors

pub gcd_alone : (x r : ℤ × ℤ) → IsGcdOfFractions x.0 x.1 x.0 x.1 r.0 r.1 → IsGcdOfAll (x ∷ []) r
gcd_alone x r is = record {
  lowest = is.lowest;
  sign = is.sign;
  divides = All-cons (Divides r) x [] is.first (All-nil (Divides r));
  greatest = λ u v some each. let first = All-head (Divides (u, v)) x [] each in is.greatest u v some first first;
}

pub gcd_more : (xs : List (ℤ × ℤ)) (x r q : ℤ × ℤ) → IsGcdOfAll xs r → IsGcdOfFractions r.0 r.1 x.0 x.1 q.0 q.1 → IsGcdOfAll (xs ++ x ∷ []) q
gcd_more xs x r q so is = record {
  lowest = is.lowest;
  sign = is.sign;
  divides = All-push (Divides q) xs x (All-weaker (Divides r) (Divides q) (λ y divides. chained q r y (positive_nonzero r.1 so.lowest.positive) is.first divides) xs so.divides) is.second;
  greatest = λ u v some each. is.greatest u v some (so.greatest u v some (front (Divides (u, v)) xs x each)) (last (Divides (u, v)) xs x each);
}

pub gcd_one : (xs : List (ℤ × ℤ)) (r q : ℤ × ℤ) → IsGcdOfAll xs r → IsGcdOfAll xs q → r ≡ q
gcd_one xs r q h g =
    let there = h.greatest q.0 q.1 (positive_nonzero q.1 g.lowest.positive) g.divides in
    let back = g.greatest r.0 r.1 (positive_nonzero r.1 h.lowest.positive) h.divides in
    let own : IsGcdOfFractions r.0 r.1 r.0 r.1 r.0 r.1 = record { lowest = h.lowest; sign = h.sign; first = divides_itself r; second = divides_itself r; greatest = λ u v some first second. first } in
    let other : IsGcdOfFractions r.0 r.1 r.0 r.1 q.0 q.1 = record { lowest = g.lowest; sign = g.sign; first = there; second = there; greatest = λ u v some first second. chained (u, v) r q (positive_nonzero r.1 h.lowest.positive) first back } in
    same_pair r q (gcd_unique r.0 r.1 r.0 r.1 r.0 r.1 q.0 q.1 own other)

-- ---- least common multiples

pub lcm_alone : (x r : ℤ × ℤ) → IsLcmOfFractions x.0 x.1 x.0 x.1 r.0 r.1 → IsLcmOfAll (x ∷ []) r
lcm_alone x r is = record {
  lowest = is.lowest;
  sign = is.sign;
  divided = All-cons (λ y. Divides y r) x [] is.first (All-nil (λ y. Divides y r));
  least = λ u v some each. let first = All-head (λ y. Divides y (u, v)) x [] each in is.least u v some first first;
}

pub lcm_more : (xs : List (ℤ × ℤ)) (x r q : ℤ × ℤ) → IsLcmOfAll xs r → IsLcmOfFractions r.0 r.1 x.0 x.1 q.0 q.1 → IsLcmOfAll (xs ++ x ∷ []) q
lcm_more xs x r q so is = record {
  lowest = is.lowest;
  sign = is.sign;
  divided = All-push (λ y. Divides y q) xs x (All-weaker (λ y. Divides y r) (λ y. Divides y q) (λ y divides. chained y r q (positive_nonzero r.1 so.lowest.positive) divides is.first) xs so.divided) is.second;
  least = λ u v some each. is.least u v some (so.least u v some (front (λ y. Divides y (u, v)) xs x each)) (last (λ y. Divides y (u, v)) xs x each);
}

pub lcm_one : (xs : List (ℤ × ℤ)) (r q : ℤ × ℤ) → IsLcmOfAll xs r → IsLcmOfAll xs q → r ≡ q
lcm_one xs r q h g =
    let there = h.least q.0 q.1 (positive_nonzero q.1 g.lowest.positive) g.divided in
    let back = g.least r.0 r.1 (positive_nonzero r.1 h.lowest.positive) h.divided in
    let own : IsLcmOfFractions r.0 r.1 r.0 r.1 r.0 r.1 = record { lowest = h.lowest; sign = h.sign; first = divides_itself r; second = divides_itself r; least = λ u v some first second. first } in
    let other : IsLcmOfFractions r.0 r.1 r.0 r.1 q.0 q.1 = record { lowest = g.lowest; sign = g.sign; first = there; second = there; least = λ u v some first second. chained q r (u, v) (positive_nonzero r.1 h.lowest.positive) back first } in
    same_pair r q (lcm_unique r.0 r.1 r.0 r.1 r.0 r.1 q.0 q.1 own other)

-- ---- one fraction more of a list

more : (xs : List BigFraction) (n : ℕ) (x : BigFraction) → n < length xs → x ≡ get_or xs n x → map big_numbers (take (n + 1) xs) ≡ map big_numbers (take n xs) ++ big_numbers x ∷ []
more xs n x within here = map_more big_numbers xs n x within ∙ ap (λ z. map big_numbers (take n xs) ++ big_numbers z ∷ []) (sym here)

module _ (P : List (ℤ × ℤ) → Type 0) (xs : List BigFraction) (n : ℕ) (x : BigFraction) (within : n < length xs) (here : x ≡ get_or xs n x) where
  pub begun : n ≡ 0 → P (big_numbers x ∷ []) → P (map big_numbers (take (n + 1) xs))
  begun none is =
      let first : map big_numbers (take n xs) ≡ [] = ap (λ m. map big_numbers (take m xs)) none in
      subst P (sym (more xs n x within here ∙ ap (λ l. l ++ big_numbers x ∷ []) first)) is

  pub goes_on : P (map big_numbers (take n xs) ++ big_numbers x ∷ []) → P (map big_numbers (take (n + 1) xs))
  goes_on is = subst P (sym (more xs n x within here)) is
