-- A sale of a part of a share, from what a product, a difference and a sum of fractions of any size are.
use Rattle.std.specs.Prelude.{◌≡◌, ◌≢◌, ◌+ℤ◌, ◌-ℤ◌, ◌*ℤ◌, ℤ, pos, Result, Ok, Err, OnErr}
use Rattle.std.proofs.Common.{refl, sym, subst, arith}
use Rattle.std.proofs.lemmas.Int.{ints}
use Rattle.ratio_integer.specs.Arithmetic.{difference_of, sum_of}
use Rattle.ratio_integer.specs.Fraction.{SameValue}
use Rattle.ratio_integer.specs.SignedBits.{IsHeld64}
use Rattle.ratio_integer.proofs.LowestTerms.{lowest_moved, lowest_unique, same_value_chained}
use Rattle.ratio_integer.proofs.Whole.{add-mul, mul_nonzero, mul-swap_inner, mul-swap_last, positive_nonzero, sub-mul}
use Rattle.ratio_core.proofs.LawLemmas.{same_value_sums}
use Rattle.num_rational.proofs.SplitLemmas.{fits_moved}
use Rattle.num_rational.proofs.ValueLemmas.{same_value_differences}
use Rattle.ratio_big.specs.Fractions.{big_numbers}
use Rattle.ratio_big.specs.Values.{HasTerms, IsShort, NeedsNoMemory}
use Rattle.ratio_big.specs.declared.fraction.BigFraction.{BigFraction}
use Rattle.ratio_uses.specs.Shareholders.{BuyerGains, HasShortTerms, HaveSameTotal, IsShortSale, SellerKeeps, gain_of, rest_of, sold_of}

-- (a/b - e/f) + (c/d + e/f) has the value of a/b + c/d
sold_cancels : (a b c d e f : ℤ) → SameValue (a *ℤ d +ℤ c *ℤ b) (b *ℤ d) ((a *ℤ f -ℤ e *ℤ b) *ℤ (d *ℤ f) +ℤ (c *ℤ f +ℤ e *ℤ d) *ℤ (b *ℤ f)) ((b *ℤ f) *ℤ (d *ℤ f))
sold_cancels a b c d e f = rw (numer, mul-swap_inner b f d f) (sym (mul-swap_last (a *ℤ d +ℤ c *ℤ b) (f *ℤ f) (b *ℤ d)))
  where
    numer : (a *ℤ f -ℤ e *ℤ b) *ℤ (d *ℤ f) +ℤ (c *ℤ f +ℤ e *ℤ d) *ℤ (b *ℤ f) ≡ (a *ℤ d +ℤ c *ℤ b) *ℤ (f *ℤ f)
    numer =
        let less = sub-mul (a *ℤ f) (e *ℤ b) (d *ℤ f) in
        let more = add-mul (c *ℤ f) (e *ℤ d) (b *ℤ f) in
        let all = add-mul (a *ℤ d) (c *ℤ b) (f *ℤ f) in
        let first = mul-swap_inner a f d f in
        let second = mul-swap_inner c f b f in
        let sold = mul-swap_inner e b d f in
        omega (arith, ints)

-- the lowest terms of a pair are short, if it has short ones
short_terms : (x r : ℤ × ℤ) → HasShortTerms x → HasTerms x r → IsShort r
short_terms x r fits low =
    let same = lowest_unique x.0 x.1 fits.numer fits.denom r.0 r.1 fits.low.terms low in
    record { numer = subst IsHeld64 same.0 fits.low.numer_held; denom = subst IsHeld64 same.1 fits.low.denom_held }

denom_nonzero : (x : BigFraction) → (big_numbers x).1 ≢ pos 0
denom_nonzero x = positive_nonzero (big_numbers x).1 x.kept.lowest.positive

-- (seller - sold) + (buyer + sold) is seller + buyer
pub total_stays : (seller buyer sold rest more : BigFraction) → HasTerms (difference_of (big_numbers seller).0 (big_numbers seller).1 (big_numbers sold).0 (big_numbers sold).1) (big_numbers rest)
    → HasTerms (sum_of (big_numbers buyer).0 (big_numbers buyer).1 (big_numbers sold).0 (big_numbers sold).1) (big_numbers more) → HaveSameTotal seller buyer rest more
total_stays seller buyer sold rest more kept gained =
    let s = big_numbers seller in
    let b = big_numbers buyer in
    let x = big_numbers sold in
    same_value_chained _ _ _ _ _ _
    (mul_nonzero (s.1 *ℤ x.1) (b.1 *ℤ x.1) (mul_nonzero s.1 x.1 (denom_nonzero seller) (denom_nonzero sold)) (mul_nonzero b.1 x.1 (denom_nonzero buyer) (denom_nonzero sold)))
    (sold_cancels s.0 s.1 b.0 b.1 x.0 x.1)
    (same_value_sums _ _ _ _ (big_numbers rest).0 (big_numbers rest).1 (big_numbers more).0 (big_numbers more).1 kept.same gained.same)

-- `sold` is the lowest terms of what is sold
module _ (seller part sold : BigFraction) (low : HasTerms (sold_of seller part) (big_numbers sold)) where
  abbrev formed : ℤ × ℤ
  formed = sold_of seller part

  abbrev x : ℤ × ℤ
  x = big_numbers sold

  -- ---- what the seller keeps

  abbrev s : ℤ × ℤ
  s = big_numbers seller

  abbrev kept : ℤ × ℤ
  kept = difference_of s.0 s.1 x.0 x.1

  kept_same : SameValue (rest_of seller part).0 (rest_of seller part).1 kept.0 kept.1
  kept_same = same_value_differences s.0 s.1 formed.0 formed.1 s.0 s.1 x.0 x.1 refl low.same

  pub seller_keeps : (rest : BigFraction) → HasTerms kept (big_numbers rest) → SellerKeeps seller part rest
  seller_keeps rest is = lowest_moved kept.0 kept.1 _ _ _ _ (mul_nonzero s.1 formed.1 (denom_nonzero seller) low.fraction) kept_same is

  pub rest_refused : (buyer : BigFraction) → ¬ (NeedsNoMemory s x kept) → ¬ (IsShortSale seller buyer part)
  rest_refused buyer out = λ sale. out (record {
    left = sale.sold.left;
    right = short_terms formed x sale.sold.terms low;
    terms = fits_moved _ _ (rest_of seller part) kept (mul_nonzero s.1 x.1 (denom_nonzero seller) (denom_nonzero sold)) (sym kept_same) sale.rest;
  })

  -- ---- what the buyer gains

  module _ (buyer : BigFraction) where
    abbrev b : ℤ × ℤ
    b = big_numbers buyer

    abbrev gained : ℤ × ℤ
    gained = sum_of b.0 b.1 x.0 x.1

    gained_same : SameValue (gain_of buyer seller part).0 (gain_of buyer seller part).1 gained.0 gained.1
    gained_same = same_value_sums b.0 b.1 formed.0 formed.1 b.0 b.1 x.0 x.1 refl low.same

    pub buyer_gains : (more : BigFraction) → HasTerms gained (big_numbers more) → BuyerGains buyer seller part more
    buyer_gains more is = lowest_moved gained.0 gained.1 _ _ _ _ (mul_nonzero b.1 formed.1 (denom_nonzero buyer) low.fraction) gained_same is

    pub more_refused : ¬ (NeedsNoMemory b x gained) → ¬ (IsShortSale seller buyer part)
    more_refused out = λ sale. out (record {
      left = sale.buyer_short;
      right = short_terms formed x sale.sold.terms low;
      terms = fits_moved _ _ (gain_of buyer seller part) gained (mul_nonzero b.1 x.1 (denom_nonzero buyer) (denom_nonzero sold)) (sym gained_same) sale.more;
    })

-- what holds anyway holds of an error
pub on_error : {T E P : Type 0} (r : Result T E) → P → OnErr r P
on_error (Ok x) is = tt
on_error (Err e) is = is
