-- Which numbers fit into so many bits together.
use Rattle.std.proofs.Common.{◌≡◌, ◌∙◌, ◌≤◌, ◌<◌, ◌+◌, ◌-◌, ◌^◌, ℕ, ℤ, pos, negsuc, List, [], ◌∷◌, length, drop, get_or, map, sym, subst, ap, arith}
use Rattle.std.specs.Prelude.{◌↔◌, unsigned_abs}
use Rattle.std.proofs.lemmas.Int.{ints}
use Rattle.std.proofs.lemmas.List.{drop_all, drop_more}
use Rattle.ratio_integer.specs.SignedBits.{IsHeld64}
use Rattle.ratio_big.specs.Fractions.{big_numbers}
use Rattle.ratio_big.specs.Values.{IsShort}
use Rattle.ratio_big.specs.declared.fraction.BigFraction.{BigFraction}
use Rattle.ratio_expressions.specs.Limits.{FitInto, FitTogether, IsSize, IsSizeOf, FitsInBits}
use Rattle.ratio_expressions.proofs.PowerBounds.{powers_ordered}

-- ---- one number

raised : (n a b : ℕ) → n ≤ 2 ^ a → a ≤ b → n ≤ 2 ^ b
raised n a b h order = omega (arith, powers_ordered a b order)

-- both numbers are counted
pub longer_below : (x : ℤ × ℤ) (above below : ℕ) → IsSizeOf (unsigned_abs x.0) above → IsSizeOf (unsigned_abs x.1) below → above < below → IsSize x below
longer_below x above below numer denom longer = record {
  within = λ h. record { numer = raised (unsigned_abs x.0) above below (numer.within (omega arith)) (omega arith); denom = denom.within h };
  least = λ bits h. denom.least bits h.denom;
  few = denom.few;
}

pub longer_above : (x : ℤ × ℤ) (above below : ℕ) → IsSizeOf (unsigned_abs x.0) above → IsSizeOf (unsigned_abs x.1) below → below ≤ above → IsSize x above
longer_above x above below numer denom longer = record {
  within = λ h. record { numer = numer.within h; denom = raised (unsigned_abs x.1) below above (denom.within (omega arith)) longer };
  least = λ bits h. numer.least bits h.numer;
  few = numer.few;
}

short_number : (z : ℤ) → IsHeld64 z → unsigned_abs z ≤ 2 ^ 63
short_number (pos n) h = let below = h.below in omega (arith, ints)
short_number (negsuc n) h = let above = h.above in omega (arith, ints)

-- ---- many numbers

-- more bits are enough, too
pub fit_more : (few many : ℕ) (xs : List (ℤ × ℤ)) → few ≤ many → FitInto few xs → FitInto many xs
fit_more few many [] order h = tt
fit_more few many (x ∷ xs) order h = (h.0, omega (arith, h.1), h.2, fit_more (few - h.0) (many - h.0) xs (omega arith) h.3)

-- if the first number fits, the others have the bits that it leaves
pub fit_step : (x : ℤ × ℤ) (own left : ℕ) (xs : List (ℤ × ℤ)) → IsSize x own → left ≤ 1000000 → own ≤ left → FitInto left (x ∷ xs) ↔ FitInto (left - own) xs
fit_step x own left xs size small enough = (
  (λ h. let least = size.least h.0 h.2 in fit_more (left - h.0) (left - own) xs (omega arith) h.3),
  (λ h. (own, enough, size.within (omega arith), h)),
)

-- else they do not fit
pub fit_stop : (x : ℤ × ℤ) (own left : ℕ) (xs : List (ℤ × ℤ)) → IsSize x own → left < own → FitInto left (x ∷ xs) → ⊥
fit_stop x own left xs size many h = let least = size.least h.0 h.2 in omega (arith, h.1)

-- in a list of fractions, from the place n on
module _ (xs : List BigFraction) (n : ℕ) where
  pub none_left : (left : ℕ) → length xs ≤ n → FitInto left (map big_numbers (drop n xs))
  none_left left past = subst (λ (l : List BigFraction). FitInto left (map big_numbers l)) (sym (drop_all n xs past)) tt

  module _ (x : BigFraction) (own left : ℕ) (within : n < length xs) (here : x ≡ get_or xs n x) (size : IsSize (big_numbers x) own) where
    next_is : map big_numbers (drop n xs) ≡ big_numbers x ∷ map big_numbers (drop (n + 1) xs)
    next_is = ap (λ (l : List BigFraction). map big_numbers l) (drop_more xs n x within) ∙ ap (λ (y : BigFraction). big_numbers y ∷ map big_numbers (drop (n + 1) xs)) (sym here)

    pub next_fits : left ≤ 1000000 → own ≤ left → FitInto left (map big_numbers (drop n xs)) ↔ FitInto (left - own) (map big_numbers (drop (n + 1) xs))
    next_fits small enough =
        let step = fit_step (big_numbers x) own left (map big_numbers (drop (n + 1) xs)) size small enough in
        ((λ h. step.0 (subst (FitInto left) next_is h)), (λ h. subst (FitInto left) (sym next_is) (step.1 h)))

    pub next_stops : left < own → FitInto left (map big_numbers (drop n xs)) → ⊥
    next_stops many h = fit_stop (big_numbers x) own left (map big_numbers (drop (n + 1) xs)) size many (subst (FitInto left) next_is h)

-- ---- two numbers

pub short_pair : (x y : ℤ × ℤ) → IsShort x → IsShort y → FitTogether (x ∷ y ∷ [])
short_pair x y h g = (
  63,
  omega arith,
  record { numer = short_number x.0 h.numer; denom = short_number x.1 h.denom },
  (63, omega arith, record { numer = short_number y.0 g.numer; denom = short_number y.1 g.denom }, tt),
)

pub pair_within : (x y : ℤ × ℤ) (left right : ℕ) → IsSize x left → IsSize y right → left + right ≤ 1000000 → FitTogether (x ∷ y ∷ [])
pair_within x y left right first second few =
    (left, omega arith, first.within (omega arith), (right, omega arith, second.within (omega arith), tt))

pub pair_beyond : (x y : ℤ × ℤ) (left right : ℕ) → IsSize x left → IsSize y right → 1000000 < left + right → FitTogether (x ∷ y ∷ []) → ⊥
pair_beyond x y left right first second many h =
    let rest = h.3 in
    let one = first.least h.0 h.2 in
    let other = second.least rest.0 rest.2 in
    omega (arith, h.1, rest.1)
