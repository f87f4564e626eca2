-- The text of a fraction reads as its two numbers, and as no others.
use Rattle.std.specs.Prelude.{◌≡◌, ◌+◌, ◌<◌, ◌≤ℤ◌, ◌<ℤ◌, ◌+ℤ◌, ◌*ℤ◌, ℕ, ℤ, suc, pos, negsuc, neg_ℤ, unsigned_abs, Bool, true, false, List, [], ◌∷◌, ◌++◌, length, if◌then◌else◌, ◌==◌, Ok, Err}
use Rattle.std.specs.Ordering.{int_eq}
use Rattle.std.specs.Str.Parse.{IsNumeral}
use Rattle.std.proofs.Common.{refl, sym, ap, subst, arith, inl, inr, ◌∙◌, append-nil}
use Rattle.std.proofs.lemmas.Bool.Decides.{Decides-int_eq}
use Rattle.std.proofs.lemmas.Int.{ints}
use borrow.Author.Tests.{eqb-false}
use Rattle.ratio_integer.specs.Fraction.{IsLowestTerms}
use Rattle.ratio_natural.specs.Decimal.{decimal_text, digit_text}
use Rattle.ratio_natural.proofs.PrintingLemmas.{decimal_digits, decimal_value, text_some}
use Rattle.ratio_core.specs.declared.parse_error.RatioErrorKind.TheVariants.{ParseError, ZeroDenominator}
use Rattle.ratio_core.specs.Reading.{IsFractionText, IsNumberText, ReadsAs, digits_sum, slash}
use Rattle.ratio_core.proofs.CutLemmas.{only_fraction}
use Rattle.ratio_core.proofs.NumberLemmas.{digits_value_sum}
use Rattle.ratio_decimal.specs.Decimal.{places_text}
use Rattle.ratio_big.specs.Texts.{IsBigText, fraction_text}
use Rattle.ratio_laws.specs.BigTextLaws.{ReadsOnlyAs}
use Rattle.ratio_laws.proofs.BigFieldLawLemmas.{own_terms}

-- ---- the text reads as the two numbers

some_text : (n : ℕ) → 0 < length (decimal_text n)
some_text n = go (n == 0) refl
  where
    go : (b : Bool) → (n == 0) ≡ b → 0 < length (if b then 48 ∷ [] else digit_text n)
    go true none = omega arith
    go false some = let other = eqb-false n 0 some in text_some n (omega (arith, other))

numeral : (n : ℕ) → IsNumeral 10 (decimal_text n) × (digits_sum 10 (decimal_text n) ≡ n)
numeral n = ((some_text n, decimal_digits n), sym (digits_value_sum 10 (decimal_text n)) ∙ decimal_value n)

number_text : (lo z : ℤ) → lo <ℤ pos 0 → IsNumberText lo 10 (places_text 0 z) z
number_text lo (pos n) low = let is = numeral n in inl (is.0, ap pos (sym is.1))
number_text lo (negsuc n) low = let is = numeral (suc n) in inr (inr (decimal_text (suc n), low, refl, is.0, ap (λ (k : ℕ). neg_ℤ (pos k)) (sym is.1)))

own_text : (x : ℤ × ℤ) → IsBigText (fraction_text x) x.0 x.1
own_text x = record { lo = lo; hi = hi; signed = low; reads = go (int_eq x.1 (pos 1)) refl }
  where
    lo : ℤ
    lo = negsuc (unsigned_abs x.0 + unsigned_abs x.1)

    hi : ℤ
    hi = pos (unsigned_abs x.0 + unsigned_abs x.1)

    low : lo <ℤ pos 0
    low = omega (arith, ints)

    numer : ReadsAs lo hi 10 (places_text 0 x.0) x.0
    numer = record { number = number_text lo x.0 low; held = record { above = omega (arith, ints); below = omega (arith, ints) } }

    denom : ReadsAs lo hi 10 (places_text 0 x.1) x.1
    denom = record { number = number_text lo x.1 low; held = record { above = omega (arith, ints); below = omega (arith, ints) } }

    go : (b : Bool) → int_eq x.1 (pos 1) ≡ b → IsFractionText lo hi (places_text 0 x.0 ++ (if b then [] else slash ∷ places_text 0 x.1)) x.0 x.1
    go true one = inr (subst (λ (text : List ℕ). ReadsAs lo hi 10 text x.0) (sym (append-nil (places_text 0 x.0))) numer, (Decides-int_eq x.1 (pos 1)).0 one)
    go false other = inl (record { front = places_text 0 x.0; back = places_text 0 x.1; cut = refl; sides = record { numer = numer; denom = denom } })

-- ---- it reads as no others

module _ (lo hi low high : ℤ) (below : low ≤ℤ lo) (above : hi ≤ℤ high) where
  wider_number : (text : List ℕ) (z : ℤ) → ReadsAs lo hi 10 text z → ReadsAs low high 10 text z
  wider_number text z is = record { number = go is.number; held = record { above = omega (arith, ints, is.held.above); below = omega (arith, ints, is.held.below) } }
    where
      go : IsNumberText lo 10 text z → IsNumberText low 10 text z
      go (inl h) = inl h
      go (inr (inl h)) = inr (inl h)
      go (inr (inr h)) = inr (inr (h.0, omega (arith, ints, h.1), h.2, h.3, h.4))

  wider_fraction : (text : List ℕ) (n d : ℤ) → IsFractionText lo hi text n d → IsFractionText low high text n d
  wider_fraction text n d (inl is) = inl (record {
    front = is.front;
    back = is.back;
    cut = is.cut;
    sides = record { numer = wider_number is.front n is.sides.numer; denom = wider_number is.back d is.sides.denom };
  })
  wider_fraction text n d (inr is) = inr (wider_number text n is.0, is.1)

one_text : (text : List ℕ) (n d m e : ℤ) → IsBigText text n d → IsBigText text m e → (n ≡ m) × (d ≡ e)
one_text text n d m e is other =
    let low = is.lo +ℤ other.lo in
    let high = pos (unsigned_abs is.hi + unsigned_abs other.hi) in
    only_fraction low high text n d m e
    (wider_fraction is.lo is.hi low high (omega (arith, ints, other.signed)) (omega (arith, ints)) text n d is.reads)
    (wider_fraction other.lo other.hi low high (omega (arith, ints, is.signed)) (omega (arith, ints)) text m e other.reads)

pub reads_own_text : (x : ℤ × ℤ) → IsLowestTerms x.0 x.1 → ReadsOnlyAs (fraction_text x) x
reads_own_text x lowest (Ok r) told =
    let same = one_text (fraction_text x) told.n told.d x.0 x.1 told.reads (own_text x) in
    own_terms told.n told.d x _ lowest (ap (λ (t : ℤ). t *ℤ x.1) same.0 ∙ ap (λ (t : ℤ). x.0 *ℤ t) (sym same.1)) told.terms
reads_own_text x lowest (Err ParseError) none = none x.0 x.1 (own_text x)
reads_own_text x lowest (Err ZeroDenominator) told =
    let same = one_text (fraction_text x) told.0 (pos 0) x.0 x.1 told.1 (own_text x) in
    let up = lowest.positive in
    absurd (omega (arith, ints, same.1, up))
