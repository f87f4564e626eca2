-- The products of two lists, while they go into a total one after another.
use Rattle.std.specs.Prelude.{◌≡◌, ◌≢◌, ◌<◌, ◌≤◌, ◌+◌, ◌==◌, ℕ, zero, suc, ℤ, Bool, true, pos, unsigned_abs, List, [], ◌∷◌, map, length, get_or, if◌then◌else◌}
use Rattle.std.specs.List.{AllZip, zip}
use Rattle.std.proofs.Common.{refl, sym, ap, subst, arith, ◌∙◌}
use Rattle.std.proofs.lemmas.Int.{ints}
use Rattle.std.proofs.lemmas.List.{get_or_default}
use Rattle.std.proofs.lemmas.Slice.Zip.{length-zip}
use Rattle.ratio_integer.proofs.LowestTerms.{HasLowest, lowest_exist, lowest_unique}
use Rattle.ratio_integer.specs.Fraction.{IsLowestTermsOf}
use Rattle.ratio_slots.proofs.LowestSumLemmas.{product_positive}
use Rattle.ratio_slots.specs.LowestSum.{IsShortPair}
use Rattle.ratio_slots.specs.Slots.{HasNoPlaceFor}
use Rattle.ratio_slots.specs.Sums.{Puts}
use Rattle.ratio_slots.specs.declared.tally.Refusal.TheVariants as refusal
use Rattle.ratio_slots.specs.declared.slots.Slot.{Slot}
use Rattle.ratio_totals.specs.Dots.{HasProductSlots, LacksProductSlots, product_of_both}
use Rattle.ratio_totals.specs.Items.{denominators_of, has_denominator}
use Rattle.ratio_totals.specs.Products.{IsRefusedInLowest, PutsProduct}
use Rattle.ratio_totals.proofs.ProductLemmas.{positive_size, size_positive}

-- ---- two lists, item by item

pub zip_at : {A : Type 0} (xs ys : List A) (k : ℕ) (x y : A) → k < length xs → length xs ≡ length ys → x ≡ get_or xs k x → y ≡ get_or ys k y → (x, y) ≡ get_or (zip xs ys) k (x, y)
zip_at [] ys k x y within same first second = absurd (omega (arith, within))
zip_at (a ∷ xs) [] k x y within same first second = absurd (omega (arith, same))
zip_at (a ∷ xs) (b ∷ ys) zero x y within same first second = ap (λ z. (z, y)) first ∙ ap (λ z. (a, z)) second
zip_at (a ∷ xs) (b ∷ ys) (suc k) x y within same first second = zip_at xs ys k x y (omega (arith, within)) (omega (arith, same)) first second

pub zip_length : {A : Type 0} (xs ys : List A) → length xs ≡ length ys → length (zip xs ys) ≡ length xs
zip_length xs ys same = omega (arith, length-zip xs ys, same)

-- ---- the lowest terms of each product

positive_nonzero : (d : ℕ) → 0 < d → pos d ≢ pos 0
positive_nonzero d some e = omega (arith, ints, some, e)

-- the lowest terms of a fraction
terms_of : (x : ℤ × ℕ) → 0 < x.1 → ℤ × ℕ
terms_of x some = let found : HasLowest x.0 (pos x.1) = lowest_exist x.0 (pos x.1) (positive_nonzero x.1 some) in (found.numer, unsigned_abs found.denom)

terms_are : (x : ℤ × ℕ) (some : 0 < x.1) → IsLowestTermsOf x.0 (pos x.1) (terms_of x some).0 (pos (terms_of x some).1)
unfolding terms_of
terms_are x some =
    let found : HasLowest x.0 (pos x.1) = lowest_exist x.0 (pos x.1) (positive_nonzero x.1 some) in
    subst (λ (d : ℤ). IsLowestTermsOf x.0 (pos x.1) found.numer d) (positive_size found.denom found.terms.lowest.positive) found.terms

module _ {A : Type 0} (view : A → ℤ × ℕ) (some : (x : A) → 0 < (view x).1) where
  pub both_positive : (p : A × A) → 0 < (product_of_both view p).1
  both_positive p = product_positive _ _ (some p.0) (some p.1)

  -- the lowest terms of the product of two items
  pub low_of : A × A → ℤ × ℕ
  low_of p = terms_of (product_of_both view p) (both_positive p)

  low_is : (p : A × A) → IsLowestTermsOf (product_of_both view p).0 (pos (product_of_both view p).1) (low_of p).0 (pos (low_of p).1)
  unfolding low_of
  low_is p = terms_are (product_of_both view p) (both_positive p)

  pub low_positive : (p : A × A) → 0 < (low_of p).1
  low_positive p = size_positive (pos (low_of p).1) (low_is p).lowest.positive

  -- other lowest terms of it are these
  low_denom : (p : A × A) (n : ℤ) (d : ℕ) → IsShortPair (product_of_both view p) n d → (low_of p).1 ≡ d
  low_denom p n d short = ap unsigned_abs (lowest_unique _ _ _ _ _ _ (low_is p) short.terms).1

  pub low_put : (p : A × A) (old new : List Slot) (weight : ℕ) (puts : PutsProduct (product_of_both view p) old new weight) → Puts (low_of p).1 puts.numer old new
  low_put p old new weight puts = subst (λ (d : ℕ). Puts d puts.numer old new) (sym (low_denom p puts.numer puts.denom puts.terms)) puts.slot

  pub low_refused : (p : A × A) (slots : List Slot) (weight : ℕ) → IsRefusedInLowest (product_of_both view p) slots weight refusal.MoreRoom → HasNoPlaceFor slots (low_of p).1
  low_refused p slots weight why = subst (λ (d : ℕ). HasNoPlaceFor slots d) (sym (low_denom p why.numer why.denom why.terms)) why.refused

  -- ---- as a list

  lows_are : (ps : List (A × A)) → AllZip (λ p t. IsLowestTermsOf (product_of_both view p).0 (pos (product_of_both view p).1) t.0 (pos t.1)) ps (map low_of ps)
  lows_are [] = tt
  lows_are (p ∷ ps) = (low_is p, lows_are ps)

  has_low : (d : ℕ) (ps : List (A × A)) → has_denominator (λ t. t) d (map low_of ps) ≡ has_denominator low_of d ps
  has_low d [] = refl
  has_low d (p ∷ ps) = ap (λ (b : Bool). if (low_of p).1 == d then true else b) (has_low d ps)

  lows_differ : (ps : List (A × A)) → denominators_of (λ t. t) (map low_of ps) ≡ denominators_of low_of ps
  lows_differ [] = refl
  lows_differ (p ∷ ps) =
      ap (λ (b : Bool). if b then denominators_of (λ t. t) (map low_of ps) else denominators_of (λ t. t) (map low_of ps) + 1) (has_low (low_of p).1 ps)
      ∙ ap (λ (n : ℕ). if has_denominator low_of (low_of p).1 ps then n else n + 1) (lows_differ ps)

  pub enough_slots : (xs ys : List A) (slots : ℕ) → denominators_of low_of (zip xs ys) ≤ slots → HasProductSlots view xs ys slots
  enough_slots xs ys slots h = record { terms = map low_of (zip xs ys); lowest = lows_are (zip xs ys); enough = omega (arith, h, lows_differ (zip xs ys)) }

  pub few_slots : (xs ys : List A) (slots : ℕ) → slots < denominators_of low_of (zip xs ys) → LacksProductSlots view xs ys slots
  few_slots xs ys slots h = record { terms = map low_of (zip xs ys); lowest = lows_are (zip xs ys); fewer = omega (arith, h, lows_differ (zip xs ys)) }

-- what holds of the item at k holds of it by each default
pub here : {X : Type 0} (P : X → Type 0) (xs : List X) (k : ℕ) (x d : X) → k < length xs → x ≡ get_or xs k x → P x → P (get_or xs k d)
here P xs k x d within is holds = subst P (is ∙ get_or_default xs k x d within) holds
