-- The text of a `Reduced` reads back as it, or has no slash, or has a number that does not fit.
use Rattle.std.proofs.Common.{◌≡◌, ◌≢◌, refl, sym, ◌∙◌, ap, subst, inl, inr, arith, ℕ, zero, suc, ◌-◌, ◌^◌, ◌<◌, ◌≤◌, ◌+ℤ◌, Bool, true, false, cond, List, [], ◌∷◌, ◌++◌, ℤ, pos, negsuc, ◌≤ℤ◌, ◌<ℤ◌, unsigned_abs, Result, Ok, Err, lit≤}
use Rattle.std.specs.Prelude.{◌⊎◌, decimal}
use Rattle.std.specs.Fmt.{signed_decimal}
use Rattle.std.specs.Ordering.{int_eq}
use Rattle.std.proofs.lemmas.Bool.Decides.{Decides-int_eq}
use Rattle.std.proofs.lemmas.Fmt.{decimal_is_IsNumeral_wide}
use Rattle.std.proofs.lemmas.Int.{ints}
use Rattle.ratio_integer.specs.Range.{IsHeld, IsRange}
use Rattle.ratio_integer.proofs.LowestTerms.{lowest_unique}
use Rattle.ratio_core.specs.declared.parse_error.RatioErrorKind.{RatioErrorKind}
use Rattle.ratio_core.specs.declared.parse_error.RatioErrorKind.TheVariants.{ParseError, ZeroDenominator}
use Rattle.ratio_core.specs.declared.text.Form.{Form}
use Rattle.ratio_core.specs.declared.text.Form.TheVariants.{Binary, Decimal, LowerHex, Octal, UpperHex}
use Rattle.ratio_core.specs.Printing.{ReadsBack, base_of, number_text, shown_prefix, text_of, twos_complement}
use Rattle.ratio_core.specs.Reading.{AnswersText, IsNumberText, IsSlashedText, digits_sum, slash}
use Rattle.ratio_core.proofs.CutLemmas.{HasNoSlash, no_slash, no_slashed, only_number, same_cut}
use Rattle.ratio_core.proofs.Numerals.{numeral_back}
use Rattle.ratio_core.proofs.PrintingLemmas.{small_magnitude}
use Rattle.ratio_core.proofs.ReadingBack.{base_back, decimal_back}
use Rattle.num_rational.specs.declared.reduced.Reduced.{Reduced}
use Rattle.num_rational.specs.Ratio.{denominator, numerator}
use Rattle.num_rational.specs.Reduced.{ratio_of}
use Rattle.ratio_laws.specs.ReadingLaws.{IsReadAs, ReadsItsText, ReadsItsTextInBase, RefusesBelowZeroInBase, RefusesWholeInBase}
use Rattle.ratio_laws.proofs.ResultLemmas.{denominator_nonzero}

-- where nothing is read, the result is a parse error
refused : {R : Type 0} (numer denom : R → ℤ) (lo hi : ℤ) (Reads : ℤ → ℤ → Type 0) (result : Result R RatioErrorKind) → ((n d : ℤ) → ¬ (Reads n d)) → AnswersText numer denom lo hi Reads result → result ≡ Err ParseError
refused numer denom lo hi Reads (Ok r) none told = absurd (none told.n told.d told.reads)
refused numer denom lo hi Reads (Err ParseError) none told = refl
refused numer denom lo hi Reads (Err ZeroDenominator) none told = absurd (none told.0 (pos 0) told.1)

-- where x reads back, the result is `Ok` of it
read_back : {T : _} {i : _} {o : _} {e : _} {p : _} {h : _} → (x : Reduced T i o e p h) (Reads : ℤ → ℤ → Type 0) (result : Result (Reduced T i o e p h) RatioErrorKind)
    → ReadsBack i.lo i.hi Reads (numerator (ratio_of x)) (denominator (ratio_of x)) → AnswersText (λ x. numerator (ratio_of x)) (λ x. denominator (ratio_of x)) i.lo i.hi Reads result → IsReadAs x result
read_back x Reads (Ok r) back told =
    lowest_unique (numerator x.ratio) (denominator x.ratio) _ _ _ _ (back.lowest _ _ told) (record { fraction = denominator_nonzero x; same = refl; lowest = x.lowest })
read_back x Reads (Err kind) back told = absurd (back.accepted kind told)

-- ---- texts without a slash

free_nil : HasNoSlash []
free_nil i inside = absurd (omega (arith, inside))

free_cons : (c : ℕ) (cs : List ℕ) → c ≢ slash → HasNoSlash cs → HasNoSlash (c ∷ cs)
free_cons c cs other free zero inside = other
free_cons c cs other free (suc i) inside = free i (omega (arith, inside))

free_append : (xs ys : List ℕ) → HasNoSlash xs → HasNoSlash ys → HasNoSlash (xs ++ ys)
free_append [] ys p q = q
free_append (x ∷ xs) ys p q = free_cons x (xs ++ ys) (p 0 (omega (arith))) (free_append xs ys (λ i inside. p (suc i) (omega (arith, inside))) q)

two_free : (b : ℕ) → b ≢ slash → HasNoSlash (48 ∷ b ∷ [])
two_free b other = free_cons 48 (b ∷ []) (λ e. omega (arith, e)) (free_cons b [] other free_nil)

prefix_free : (form : Form) (alternate : Bool) → HasNoSlash (shown_prefix form alternate)
prefix_free form false = free_nil
prefix_free Decimal true = free_nil
prefix_free Binary true = two_free 98 (λ e. omega (arith, e))
prefix_free Octal true = two_free 111 (λ e. omega (arith, e))
prefix_free LowerHex true = two_free 120 (λ e. omega (arith, e))
prefix_free UpperHex true = two_free 120 (λ e. omega (arith, e))

decimal_free : (z : ℤ) → unsigned_abs z < 2 ^ 128 → HasNoSlash (signed_decimal z)
decimal_free (pos n) small = no_slash (pos 0) 10 (decimal n) (pos (digits_sum 10 (decimal n))) (lit≤ tt) (inl ((decimal_is_IsNumeral_wide n (omega (arith, small))).0, refl))
decimal_free (negsuc n) small =
    no_slash (negsuc 0) 10 (signed_decimal (negsuc n)) _ (lit≤ tt) (inr (inr (decimal (suc n), omega (arith, ints), refl, (decimal_is_IsNumeral_wide (suc n) (omega (arith, small))).0, refl)))

-- in another base than 10, the number text is that of the two's complement
complement_text : (bits : ℕ) (form : Form) (lo z : ℤ) → form ≢ Decimal → IsNumberText lo (base_of form) (number_text bits form z) (pos (twos_complement bits z))
complement_text bits Decimal lo z other = absurd (other refl)
complement_text bits Binary lo z other = let back = numeral_back 2 false (twos_complement bits z) (lit≤ tt) (lit≤ tt) in inl (back.0, ap pos (sym back.1))
complement_text bits Octal lo z other = let back = numeral_back 8 false (twos_complement bits z) (lit≤ tt) (lit≤ tt) in inl (back.0, ap pos (sym back.1))
complement_text bits LowerHex lo z other = let back = numeral_back 16 false (twos_complement bits z) (lit≤ tt) (lit≤ tt) in inl (back.0, ap pos (sym back.1))
complement_text bits UpperHex lo z other = let back = numeral_back 16 true (twos_complement bits z) (lit≤ tt) (lit≤ tt) in inl (back.0, ap pos (sym back.1))

base_small : (form : Form) → base_of form ≤ 36
base_small Decimal = lit≤ tt
base_small Binary = lit≤ tt
base_small Octal = lit≤ tt
base_small LowerHex = lit≤ tt
base_small UpperHex = lit≤ tt

based_free : (bits : ℕ) (form : Form) (z : ℤ) → form ≢ Decimal → HasNoSlash (number_text bits form z)
based_free bits form z other = no_slash (pos 0) (base_of form) (number_text bits form z) _ (base_small form) (complement_text bits form (pos 0) z other)

number_free : (bits : ℕ) (form : Form) (z : ℤ) → unsigned_abs z < 2 ^ 128 → HasNoSlash (number_text bits form z)
number_free bits Decimal z small = decimal_free z small
number_free bits Binary z small = based_free bits Binary z (λ e. cc)
number_free bits Octal z small = based_free bits Octal z (λ e. cc)
number_free bits LowerHex z small = based_free bits LowerHex z (λ e. cc)
number_free bits UpperHex z small = based_free bits UpperHex z (λ e. cc)

whole_free : (bits : ℕ) (form : Form) (alternate : Bool) (n d : ℤ) → d ≡ pos 1 → unsigned_abs n < 2 ^ 128 → HasNoSlash (text_of bits form alternate n d)
whole_free bits form alternate n d one small =
    subst (λ d. HasNoSlash (text_of bits form alternate n d)) (sym one)
    (free_append (shown_prefix form alternate) _ (prefix_free form alternate) (free_append (number_text bits form n) [] (number_free bits form n small) free_nil))

-- ---- a number below 0

too_great : (lo hi : ℤ) (p k : ℕ) → hi +ℤ pos 1 ≡ lo +ℤ pos p → lo ≤ℤ negsuc k → ¬ (pos (p - suc k) ≤ℤ hi)
too_great lo hi p k width low = λ held. omega (arith, ints, width, low, held)

complement_out : (bits : ℕ) (lo hi z : ℤ) → hi +ℤ pos 1 ≡ lo +ℤ pos (2 ^ bits) → lo ≤ℤ z → z <ℤ pos 0 → ¬ (pos (twos_complement bits z) ≤ℤ hi)
complement_out bits lo hi (pos n) width low below = absurd (omega (arith, ints, below))
complement_out bits lo hi (negsuc k) width low below = too_great lo hi (2 ^ bits) k width low

other_one : (d : ℤ) (b : Bool) → int_eq d (pos 1) ≡ b → d ≢ pos 1 → b ≡ false
other_one d true e other = absurd (other ((Decides-int_eq d (pos 1)).0 e))
other_one d false e other = refl

one_or_several : (d : ℤ) (b : Bool) → int_eq d (pos 1) ≡ b → (d ≡ pos 1) ⊎ (d ≢ pos 1)
one_or_several d true e = inl ((Decides-int_eq d (pos 1)).0 e)
one_or_several d false e = inr (λ one. let known = (Decides-int_eq d (pos 1)).1 one in cc)

below_unread : (bits : ℕ) (form : Form) (lo hi n d : ℤ) → form ≢ Decimal → hi +ℤ pos 1 ≡ lo +ℤ pos (2 ^ bits) → lo ≤ℤ n → n <ℤ pos 0 → d ≢ pos 1 → (m e : ℤ) → ¬ (IsSlashedText lo hi (base_of form) (text_of bits form false n d) m e)
below_unread bits form lo hi n d other width low below several m e = λ reads.
    let front : List ℕ = number_text bits form n in
    let cut : front ++ slash ∷ number_text bits form d ≡ reads.front ++ slash ∷ reads.back =
    sym (ap (λ b. front ++ cond b [] (slash ∷ number_text bits form d)) (other_one d (int_eq d (pos 1)) refl several)) ∙ reads.cut in
    let same = same_cut front reads.front (number_text bits form d) reads.back cut (based_free bits form n other) (no_slash lo (base_of form) reads.front m (base_small form) reads.sides.numer.number) in
    let is : m ≡ pos (twos_complement bits n) =
    only_number lo (base_of form) reads.front m (pos (twos_complement bits n)) (base_small form) reads.sides.numer.number
    (subst (λ xs. IsNumberText lo (base_of form) xs (pos (twos_complement bits n))) same.0 (complement_text bits form lo n other)) in
    complement_out bits lo hi n width low below (subst (λ z. z ≤ℤ hi) is reads.sides.numer.held.below)

-- ---- the laws

module _ {T : _} {i : _} {o : _} {e : _} {p : _} {h : _} (bits : ℕ) (x : Reduced T i o e p h) (range : IsRange i.lo i.hi)
    (width : (bits ≤ 128) × (i.hi +ℤ pos 1 ≡ i.lo +ℤ pos (2 ^ bits))) (numer : IsHeld i.lo i.hi (numerator x.ratio)) (denom : IsHeld i.lo i.hi (denominator x.ratio)) where
  numer_small : unsigned_abs (numerator x.ratio) < 2 ^ 128
  numer_small = small_magnitude i.lo i.hi bits (numerator x.ratio) range width numer

  denom_small : unsigned_abs (denominator x.ratio) < 2 ^ 128
  denom_small = small_magnitude i.lo i.hi bits (denominator x.ratio) range width denom

  pub reads_its_text : ReadsItsText bits x
  reads_its_text alternate result told =
      read_back x _ result (decimal_back bits alternate i.lo i.hi (numerator x.ratio) (denominator x.ratio) range numer denom numer_small denom_small x.lowest.positive) told

  pub reads_its_text_in_base : ReadsItsTextInBase bits x
  reads_its_text_in_base form result above several told =
      read_back x _ result (base_back bits form i.lo i.hi (numerator x.ratio) (denominator x.ratio) range numer denom numer_small denom_small above x.lowest.positive several) told

  pub refuses_whole_in_base : RefusesWholeInBase bits x
  refuses_whole_in_base form alternate radix result one told =
      refused _ _ i.lo i.hi _ result (no_slashed i.lo i.hi radix _ (whole_free bits form alternate (numerator x.ratio) (denominator x.ratio) one numer_small)) told

  pub refuses_below_zero_in_base : RefusesBelowZeroInBase bits x
  refuses_below_zero_in_base form result other below told =
      elim (one_or_several (denominator x.ratio) (int_eq (denominator x.ratio) (pos 1)) refl) [
        | inl one ↦ refuses_whole_in_base form false (base_of form) result one told
        | inr several ↦ refused _ _ i.lo i.hi _ result (below_unread bits form i.lo i.hi (numerator x.ratio) (denominator x.ratio) other width.1 numer.above below several) told
      ]
