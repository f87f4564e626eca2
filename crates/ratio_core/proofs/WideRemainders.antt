-- The remainder of one fraction by another, from the magnitudes of their numbers.
use Rattle.std.specs.Prelude.{◌≡◌, ◌≢◌, ◌*◌, ◌%◌, ◌-◌, ◌^◌, ◌<◌, ◌≤◌, ◌≤ℤ◌, ◌<ℤ◌, ◌-ℤ◌, ◌*ℤ◌, ℕ, ℤ, Bool, true, false, zero, suc, pos, negsuc, neg_ℤ, unsigned_abs, int_div, int_rem, Option, None, Some}
use Rattle.std.proofs.Common.{refl, sym, ap, arith, inl, inr, ◌∙◌}
use Rattle.std.proofs.lemmas.Int.{ints, quot-rem, unsigned_abs-mul}
use lib.IntN.{*ℤ_comm}
use Rattle.ratio_integer.specs.Arithmetic.{RemainderHeld, remainder_of}
use Rattle.ratio_integer.specs.Fraction.{AnswersLowest, ChecksLowest, Fits, IsHeldLowest, IsLowestTerms, IsLowestTermsOf}
use Rattle.ratio_integer.specs.Range.{FitsIn128, IsHeld, IsRange}
use Rattle.ratio_integer.specs.SignedBits.{IsHeld128}
use Rattle.ratio_integer.proofs.DivisionLemmas.{abs-neg, abs_pos}
use Rattle.ratio_integer.proofs.LowestTerms.{HasLowest, denom_out, lowest_exist, lowest_unique, numer_out}
use Rattle.ratio_integer.proofs.Whole.{mul_nonzero, mul_positive, neg-mul, positive_nonzero}
use Rattle.ratio_core.specs.Conditions.{RemainderCondition}
use Rattle.ratio_core.proofs.KeptLowest.{negative_lowest}
use Rattle.ratio_core.proofs.RemainderLemmas.{rest_is}
use Rattle.ratio_core.proofs.RoundingLawLemmas.{side_up}
use Rattle.ratio_core.proofs.SumLemmas.{fits_by}

-- ---- numbers of 128 bits

low_at_least : (lo hi : ℤ) → IsRange lo hi → (neg_ℤ hi -ℤ pos 1) ≤ℤ lo
low_at_least lo hi range = grind (arith, ints)

pub magnitude_within : (lo hi z : ℤ) → IsRange lo hi → FitsIn128 lo hi → IsHeld lo hi z → unsigned_abs z ≤ 2 ^ 128 - 1
magnitude_within lo hi z range (inl most) held =
    let low = low_at_least lo hi range in
    let above = held.above in
    let below = held.below in
    omega (arith, ints)
magnitude_within lo hi z range (inr (low, most)) held =
    let above = held.above in
    let below = held.below in
    omega (arith, ints)

pub natural_held : (n : ℕ) → n ≤ 2 ^ 128 - 1 → IsHeld (pos 0) (pos (2 ^ 128 - 1)) (pos n)
natural_held n most = record { above = omega (arith, ints); below = omega (arith, ints) }

-- a number that fits no `i128` fits a `u128`
pub above_signed : (lo hi z : ℤ) → IsRange lo hi → FitsIn128 lo hi → IsHeld lo hi z → ¬ (IsHeld128 z) → IsHeld (pos 0) (pos (2 ^ 128 - 1)) z
above_signed lo hi z range (inl most) held out =
    let low = low_at_least lo hi range in
    let above = held.above in
    let below = held.below in
    absurd (out (record { above = omega (arith, ints); below = omega (arith, ints) }))
above_signed lo hi z range (inr (low, most)) held out =
    let above = held.above in
    let below = held.below in
    record { above = omega (arith, ints); below = omega (arith, ints) }

pub below_signed : (lo hi : ℤ) (m : ℕ) → IsRange lo hi → FitsIn128 lo hi → ¬ (IsHeld128 (pos m)) → m ≢ 2 ^ 127 → ¬ (IsHeld lo hi (neg_ℤ (pos m)))
below_signed lo hi m range (inl most) out other held =
    let low = low_at_least lo hi range in
    let above = held.above in
    out (record { above = omega (arith, ints); below = grind (arith, ints) })
below_signed lo hi m range (inr (low, most)) out other held =
    let above = held.above in
    out (record { above = omega (arith, ints); below = omega (arith, ints) })

-- ---- the remainder from magnitudes

rem_above : (x y : ℤ) → pos 0 ≤ℤ x → int_rem x y ≡ pos (unsigned_abs x % unsigned_abs y)
rem_above (pos n) y above = refl
rem_above (negsuc n) y above = absurd (omega (arith, ints))

rem_below : (x y : ℤ) → x <ℤ pos 0 → int_rem x y ≡ neg_ℤ (pos (unsigned_abs x % unsigned_abs y))
rem_below (pos n) y below = absurd (omega (arith, ints))
rem_below (negsuc n) y below = refl

product_above : (a d : ℤ) → pos 0 ≤ℤ a → pos 0 <ℤ d → pos 0 ≤ℤ (a *ℤ d)
product_above (pos n) (pos m) above positive = omega (arith, ints)
product_above (negsuc n) d above positive = absurd (omega (arith, ints))
product_above a (negsuc m) above positive = absurd (omega (arith, ints))

product_below : (a d : ℤ) → a <ℤ pos 0 → pos 0 <ℤ d → (a *ℤ d) <ℤ pos 0
product_below a d below positive = let less = mul_positive (neg_ℤ a) d (omega (arith, ints)) positive in omega (arith, ints, neg-mul a d)

positive_product : (b d : ℤ) → pos 0 <ℤ b → pos 0 <ℤ d → b *ℤ d ≡ pos (unsigned_abs b * unsigned_abs d)
positive_product (pos n) (pos m) left right = refl
positive_product (negsuc n) d left right = absurd (omega (arith, ints))
positive_product b (negsuc m) left right = absurd (omega (arith, ints))

lowest_negative : (n d a b : ℤ) → IsLowestTermsOf n d a b → IsLowestTermsOf (neg_ℤ n) d (neg_ℤ a) b
lowest_negative n d a b low = record {
  fraction = low.fraction;
  same = neg-mul n b ∙ ap neg_ℤ low.same ∙ sym (neg-mul a d);
  lowest = negative_lowest a b low.lowest;
}

-- the magnitude of the divisor is not 0
pub divisor_above : (b c : ℤ) (q : ℕ) → pos 0 <ℤ b → c ≢ pos 0 → q ≡ unsigned_abs c * unsigned_abs b → 0 < q
divisor_above b c q positive nonzero q-is = rw (q-is ∙ sym (unsigned_abs-mul c b)) (abs_pos (c *ℤ b) (mul_nonzero c b nonzero (positive_nonzero b positive)))

module _ (a b c d : ℤ) (left_positive : pos 0 <ℤ b) (right_positive : pos 0 <ℤ d) where
  numerator_is : (remainder_of a b c d).0 ≡ int_rem (a *ℤ d) (b *ℤ c)
  numerator_is =
      ap (λ (t : ℤ). a *ℤ d -ℤ int_div (a *ℤ d) (b *ℤ c) *ℤ t) (*ℤ_comm c b)
      ∙ sym (rest_is (a *ℤ d) (b *ℤ c) (int_div (a *ℤ d) (b *ℤ c)) (int_rem (a *ℤ d) (b *ℤ c)) (quot-rem (a *ℤ d) (b *ℤ c)))

  module _ (p q e u v : ℕ) (p-is : p ≡ unsigned_abs a * unsigned_abs d) (q-is : q ≡ unsigned_abs c * unsigned_abs b) (e-is : e ≡ unsigned_abs b * unsigned_abs d) (low : IsLowestTermsOf (pos (p % q)) (pos e) (pos u) (pos v)) where
    rest_same : unsigned_abs (a *ℤ d) % unsigned_abs (b *ℤ c) ≡ p % q
    rest_same =
        ap (λ (t : ℕ). t % unsigned_abs (b *ℤ c)) (unsigned_abs-mul a d ∙ sym p-is)
        ∙ ap (λ (t : ℕ). p % t) (ap unsigned_abs (*ℤ_comm b c) ∙ unsigned_abs-mul c b ∙ sym q-is)

    denominator_is : (remainder_of a b c d).1 ≡ pos e
    denominator_is = positive_product b d left_positive right_positive ∙ ap pos (sym e-is)

    kept_terms : pos 0 ≤ℤ a → IsLowestTermsOf (remainder_of a b c d).0 (remainder_of a b c d).1 (pos u) (pos v)
    kept_terms above =
        let numer : (remainder_of a b c d).0 ≡ pos (p % q) = numerator_is ∙ rem_above (a *ℤ d) (b *ℤ c) (product_above a d above right_positive) ∙ ap pos rest_same in
        rw (numer, denominator_is) low

    turned_terms : a <ℤ pos 0 → IsLowestTermsOf (remainder_of a b c d).0 (remainder_of a b c d).1 (neg_ℤ (pos u)) (pos v)
    turned_terms below =
        let numer : (remainder_of a b c d).0 ≡ neg_ℤ (pos (p % q)) = numerator_is ∙ rem_below (a *ℤ d) (b *ℤ c) (product_below a d below right_positive) ∙ ap (λ (t : ℕ). neg_ℤ (pos t)) rest_same in
        rw (numer, denominator_is) (lowest_negative _ _ _ _ low)

    -- the numerator with its sign
    signed_terms : (z : ℤ) × ((unsigned_abs z ≡ u) × IsLowestTermsOf (remainder_of a b c d).0 (remainder_of a b c d).1 z (pos v))
    signed_terms = by_sign a refl
      where
        by_sign : (s : ℤ) → s ≡ a → (z : ℤ) × ((unsigned_abs z ≡ u) × IsLowestTermsOf (remainder_of a b c d).0 (remainder_of a b c d).1 z (pos v))
        by_sign (pos n) same = (pos u, (refl, kept_terms (rw (sym same) (omega (arith, ints)))))
        by_sign (negsuc n) same = (neg_ℤ (pos u), (abs-neg u, turned_terms (rw (sym same) (omega (arith, ints)))))

    module _ (lo hi : ℤ) where
      pub wide_denom_out : ¬ (IsHeld lo hi (pos v)) → ¬ (Fits lo hi (remainder_of a b c d).0 (remainder_of a b c d).1)
      wide_denom_out out = denom_out lo hi _ _ signed_terms.0 (pos v) signed_terms.1.1 out

      -- if the remainder fits a type of 128 bits, the magnitudes fit a `u128`
      pub magnitudes_fit : IsRange lo hi → FitsIn128 lo hi → Fits lo hi (remainder_of a b c d).0 (remainder_of a b c d).1 → Fits (pos 0) (pos (2 ^ 128 - 1)) (pos (p % q)) (pos e)
      magnitudes_fit range wide fits =
          let only = lowest_unique _ _ _ _ _ _ signed_terms.1.1 fits.low.terms in
          let numer : unsigned_abs fits.numer ≡ u = ap unsigned_abs (sym only.0) ∙ signed_terms.1.0 in
          let numer_size = magnitude_within lo hi fits.numer range wide fits.low.numer_held in
          let denom_size = magnitude_within lo hi (pos v) range wide (rw only.1 fits.low.denom_held) in
          record { numer = pos u; denom = pos v; low = record { terms = low; numer_held = natural_held u (rw (sym numer) numer_size); denom_held = natural_held v denom_size } }

      -- the two cases of the sign
      module _ {T : Type 0} (value : T → ℤ) where
        pub wide_numer_out : (pos 0 ≤ℤ a → ¬ (IsHeld lo hi (pos u))) → (a <ℤ pos 0 → ¬ (IsHeld lo hi (neg_ℤ (pos u)))) → ¬ (Fits lo hi (remainder_of a b c d).0 (remainder_of a b c d).1)
        wide_numer_out kept turned = by_sign a refl
          where
            by_sign : (s : ℤ) → s ≡ a → ¬ (Fits lo hi (remainder_of a b c d).0 (remainder_of a b c d).1)
            by_sign (pos n) same = let above : pos 0 ≤ℤ a = rw (sym same) (omega (arith, ints)) in numer_out lo hi _ _ (pos u) (pos v) (kept_terms above) (kept above)
            by_sign (negsuc n) same = let below : a <ℤ pos 0 = rw (sym same) (omega (arith, ints)) in numer_out lo hi _ _ (neg_ℤ (pos u)) (pos v) (turned_terms below) (turned below)

        pub wide_lowest : (x : T) (y : ℤ) → (pos 0 ≤ℤ a → IsHeld lo hi (pos u) × (value x ≡ pos u)) → (a <ℤ pos 0 → IsHeld lo hi (neg_ℤ (pos u)) × (value x ≡ neg_ℤ (pos u))) → IsHeld lo hi (pos v) × (y ≡ pos v) → IsHeldLowest lo hi (remainder_of a b c d).0 (remainder_of a b c d).1 (value x) y
        wide_lowest x y kept turned denom = by_sign a refl
          where
            by_sign : (s : ℤ) → s ≡ a → IsHeldLowest lo hi (remainder_of a b c d).0 (remainder_of a b c d).1 (value x) y
            by_sign (pos n) same =
                let above : pos 0 ≤ℤ a = rw (sym same) (omega (arith, ints)) in
                let numer = kept above in
                record { terms = rw (numer.1, denom.1) (kept_terms above); numer_held = rw numer.1 numer.0; denom_held = rw denom.1 denom.0 }
            by_sign (negsuc n) same =
                let below : a <ℤ pos 0 = rw (sym same) (omega (arith, ints)) in
                let numer = turned below in
                record { terms = rw (numer.1, denom.1) (turned_terms below); numer_held = rw numer.1 numer.0; denom_held = rw denom.1 denom.0 }

-- so if the magnitudes do not fit a `u128`, the remainder does not fit the type
pub wide_out : (lo hi a b c d : ℤ) (m n s t : ℕ) → pos 0 <ℤ b → pos 0 <ℤ d → IsRange lo hi → FitsIn128 lo hi → m ≡ unsigned_abs a → n ≡ unsigned_abs b → s ≡ unsigned_abs c → t ≡ unsigned_abs d
    → ¬ (Fits (pos 0) (pos (2 ^ 128 - 1)) (pos ((m * t) % (s * n))) (pos (n * t))) → ¬ (Fits lo hi (remainder_of a b c d).0 (remainder_of a b c d).1)
wide_out lo hi a b c d m n s t b_up d_up range wide m-is n-is s-is t-is out fits =
    let e_up : pos (n * t) ≢ pos 0 = rw (n-is, t-is, ← positive_product b d b_up d_up) (mul_nonzero b d (positive_nonzero b b_up) (positive_nonzero d d_up)) in
    let low : HasLowest (pos ((m * t) % (s * n))) (pos (n * t)) = lowest_exist _ _ e_up in
    let e_above : pos 0 <ℤ pos (n * t) = above_zero (n * t) e_up in
    let numer_up : pos 0 ≤ℤ low.numer = side_up _ (pos (n * t)) low.numer low.denom e_above low.terms.lowest.positive low.terms.same (natural_up ((m * t) % (s * n))) in
    let denom_up = low.terms.lowest.positive in
    let numer_is : low.numer ≡ pos (unsigned_abs low.numer) = omega (arith, ints) in
    let denom_is : low.denom ≡ pos (unsigned_abs low.denom) = omega (arith, ints) in
    out (magnitudes_fit a b c d b_up d_up (m * t) (s * n) (n * t) (unsigned_abs low.numer) (unsigned_abs low.denom)
    (ap (λ (k : ℕ). k * t) m-is ∙ ap (λ (k : ℕ). unsigned_abs a * k) t-is)
    (ap (λ (k : ℕ). k * n) s-is ∙ ap (λ (k : ℕ). unsigned_abs c * k) n-is)
    (ap (λ (k : ℕ). k * t) n-is ∙ ap (λ (k : ℕ). unsigned_abs b * k) t-is)
    (rw (← numer_is, ← denom_is) low.terms) lo hi range wide fits)
  where
    natural_up : (k : ℕ) → pos 0 ≤ℤ pos k
    natural_up k = omega (arith, ints)

    above_zero : (k : ℕ) → pos k ≢ pos 0 → pos 0 <ℤ pos k
    above_zero zero nonzero = absurd (nonzero refl)
    above_zero (suc k) nonzero = omega (arith, ints)

-- ---- the condition

-- a remainder that is formed over the least common denominator meets both conditions
pub met_by_held : (exact : Bool) (lo hi a b c d u v : ℤ) → RemainderHeld lo hi a b c d → IsHeldLowest lo hi (remainder_of a b c d).0 (remainder_of a b c d).1 u v → RemainderCondition exact lo hi a b c d
met_by_held true lo hi a b c d u v held low = (held.divisor, fits_by lo hi _ _ u v low)
met_by_held false lo hi a b c d u v held low = held

-- where remainders are exact, the result requires only that the lowest terms fit
pub exact_remainder : {R : Type 0} (numer denom : R → ℤ) (lo hi a b c d : ℤ) (r : Option R) → c ≢ pos 0 → ChecksLowest numer denom lo hi (remainder_of a b c d) r
    → AnswersLowest numer denom lo hi (RemainderCondition true lo hi a b c d) (remainder_of a b c d) r
exact_remainder numer denom lo hi a b c d None nonzero out = λ met. out met.1
exact_remainder numer denom lo hi a b c d (Some r) nonzero low = ((nonzero, fits_by lo hi _ _ (numer r) (denom r) low), low)

-- ---- the steps of `wide_rem`

pub times_is : (m n x y : ℕ) → m ≡ x → n ≡ y → m * n ≡ x * y
times_is m n x y p q = rw (p, q) refl

pub magnitude_up : (z : ℤ) (m : ℕ) → z ≢ pos 0 → m ≡ unsigned_abs z → 0 < m
magnitude_up z m nonzero is = rw is (abs_pos z nonzero)

pub magnitudes_lowest : (a b : ℤ) (m n : ℕ) → IsLowestTerms a b → m ≡ unsigned_abs a → n ≡ unsigned_abs b → IsLowestTerms (pos m) (pos n)
magnitudes_lowest a b m n is m-is n-is =
    let up : 0 < n = magnitude_up b n (positive_nonzero b is.positive) n-is in
    record { positive = omega (arith, ints); only_one = rw (m-is, n-is) is.only_one }
