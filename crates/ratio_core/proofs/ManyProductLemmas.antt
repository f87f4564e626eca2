-- Products of lists of numbers, and lists that are cancelled against each other.
use Rattle.std.specs.Prelude.{◌≡◌, ◌≢◌, ◌↔◌, ◌+◌, ◌*◌, ◌<◌, ◌<ℤ◌, ◌≤ℤ◌, ◌-ℤ◌, ◌*ℤ◌, ℕ, ℤ, Bool, true, false, not, IsTrue, zero, suc, pos, negsuc, neg_ℤ, unsigned_abs, List, [], ◌∷◌, ◌++◌, length}
use Rattle.std.specs.Bool.{beq}
use Rattle.std.specs.Int.{◌∣◌}
use Rattle.std.proofs.Common.{refl, sym, ap, arith, ◌∙◌, get_or, take, drop, set, take-append-drop}
use Rattle.std.proofs.Math.Seq.{split_at}
use Rattle.std.proofs.Math.Nat.{eq-one_of_dvd-one}
use Rattle.std.proofs.lemmas.Int.{ints, unsigned_abs-mul}
use Rattle.std.proofs.lemmas.List.{set_split, take_more, take_more_set}
use lib.IntN.{one, *ℤ_comm, *ℤ-one, *ℤ-zero, zero-*ℤ}
use Rattle.ratio_integer.specs.Fraction.{IsHeldLowest, IsLowestTermsOf, SameValue}
use Rattle.ratio_integer.specs.Range.{IsHeld, IsRange}
use Rattle.ratio_integer.proofs.CommonDivisors.{coprime_divisors, coprime_product, coprime_turned, multiple_divides}
use Rattle.ratio_integer.proofs.Whole.{mul_assoc, mul_nonzero, mul-swap_last, neg-mul, neg-mul-neg, positive_nonzero}
use Rattle.ratio_integer.proofs.DivisionLemmas.{low_below}
use Rattle.ratio_integer.proofs.LowestTerms.{over_one, same_value_chained}
use Rattle.ratio_core.proofs.ProductOrder.{times_le}
use Rattle.ratio_core.proofs.ProductLemmas.{factor_held}
use Rattle.ratio_core.specs.ManyProducts.{HasCommonFactor, IsCoprimeTo, IsQuotientSign, product_by}

-- ---- products of lists

times_one : (z : ℤ) → z *ℤ pos 1 ≡ z
unfolding one
times_one z = *ℤ-one z

one_times : (z : ℤ) → pos 1 *ℤ z ≡ z
one_times z = *ℤ_comm (pos 1) z ∙ times_one z

module _ {A : Type 0} (value : A → ℤ) where
  pub product-append : (xs ys : List A) → product_by value (xs ++ ys) ≡ product_by value xs *ℤ product_by value ys
  product-append [] ys = sym (one_times (product_by value ys))
  product-append (x ∷ xs) ys = ap (λ (t : ℤ). value x *ℤ t) (product-append xs ys) ∙ sym (mul_assoc (value x) _ _)

  with_last : (xs : List A) (x : A) → product_by value (xs ++ x ∷ []) ≡ product_by value xs *ℤ value x
  with_last xs x = product-append xs (x ∷ []) ∙ ap (λ (t : ℤ). product_by value xs *ℤ t) (times_one (value x))

  -- the product of the first items times that of the others
  pub product_parts : (xs : List A) (i : ℕ) → product_by value xs ≡ product_by value (take i xs) *ℤ product_by value (drop i xs)
  product_parts xs i = ap (product_by value) (sym (take-append-drop i xs)) ∙ product-append (take i xs) (drop i xs)

  -- one more item
  pub product_more : (xs : List A) (i : ℕ) (d : A) → i < length xs → product_by value (take (i + 1) xs) ≡ product_by value (take i xs) *ℤ value (get_or xs i d)
  product_more xs i d inside = ap (product_by value) (take_more xs i d inside) ∙ with_last (take i xs) (get_or xs i d)

  pub product_more_set : (xs : List A) (i : ℕ) (y : A) → i < length xs → product_by value (take (i + 1) (set xs i y)) ≡ product_by value (take i xs) *ℤ value y
  product_more_set xs i y inside = ap (product_by value) (take_more_set xs i y inside) ∙ with_last (take i xs) y

  -- the product of a list around one of its items
  product_around : (xs ys : List A) (x : A) → product_by value (xs ++ x ∷ ys) ≡ value x *ℤ (product_by value xs *ℤ product_by value ys)
  product_around xs ys x =
      product-append xs (x ∷ ys)
      ∙ sym (mul_assoc (product_by value xs) (value x) (product_by value ys))
      ∙ ap (λ (t : ℤ). t *ℤ product_by value ys) (*ℤ_comm (product_by value xs) (value x))
      ∙ mul_assoc (value x) (product_by value xs) (product_by value ys)

  -- if an item is divided by f, so is the product
  pub product_divided : (xs : List A) (i : ℕ) (y d : A) (f : ℤ) → i < length xs → value y *ℤ f ≡ value (get_or xs i d) → product_by value (set xs i y) *ℤ f ≡ product_by value xs
  product_divided xs i y d f inside divided =
      let rest : ℤ = product_by value (take i xs) *ℤ product_by value (drop (suc i) xs) in
      ap (λ (t : ℤ). t *ℤ f) (ap (product_by value) (set_split xs i y inside) ∙ product_around (take i xs) (drop (suc i) xs) y)
      ∙ mul-swap_last (value y) rest f
      ∙ sym (mul_assoc (value y) f rest)
      ∙ ap (λ (t : ℤ). t *ℤ rest) divided
      ∙ sym (ap (product_by value) (split_at xs i d inside) ∙ product_around (take i xs) (drop (suc i) xs) (get_or xs i d))

  -- if the product is not 0, no item is 0
  pub item_nonzero : (xs : List A) (i : ℕ) (d : A) → i < length xs → product_by value xs ≢ pos 0 → value (get_or xs i d) ≢ pos 0
  item_nonzero xs i d inside nonzero none =
      let rest : ℤ = product_by value (take i xs) *ℤ product_by value (drop (suc i) xs) in
      nonzero (ap (product_by value) (split_at xs i d inside) ∙ product_around (take i xs) (drop (suc i) xs) (get_or xs i d) ∙ ap (λ (t : ℤ). t *ℤ rest) none ∙ zero-*ℤ rest)

  -- ---- an item of a loop, which is the item at i

  pub product_with : (xs : List A) (i : ℕ) (x : A) → i < length xs → x ≡ get_or xs i x → product_by value (take (i + 1) xs) ≡ product_by value (take i xs) *ℤ value x
  product_with xs i x inside is = product_more xs i x inside ∙ ap (λ (y : A). product_by value (take i xs) *ℤ value y) (sym is)

  pub this_nonzero : (xs : List A) (i : ℕ) (x : A) → i < length xs → x ≡ get_or xs i x → product_by value xs ≢ pos 0 → value x ≢ pos 0
  this_nonzero xs i x inside is nonzero none = item_nonzero xs i x inside nonzero (ap value (sym is) ∙ none)

  -- nor is the product of the first items
  pub part_nonzero : (xs : List A) (i : ℕ) → product_by value xs ≢ pos 0 → product_by value (take i xs) ≢ pos 0
  part_nonzero xs i nonzero none =
      nonzero (product_parts xs i ∙ ap (λ (t : ℤ). t *ℤ product_by value (drop i xs)) none ∙ zero-*ℤ (product_by value (drop i xs)))

  -- one more item that is not 0
  pub more_nonzero : (xs : List A) (i : ℕ) (x : A) → i < length xs → x ≡ get_or xs i x → product_by value (take i xs) ≢ pos 0 → value x ≢ pos 0 → product_by value (take (i + 1) xs) ≢ pos 0
  more_nonzero xs i x inside is first item = rw (product_with xs i x inside is) (mul_nonzero (product_by value (take i xs)) (value x) first item)

  -- if an item is 0, so is the product
  pub item_zero : (xs : List A) (i : ℕ) (x : A) → i < length xs → x ≡ get_or xs i x → value x ≡ pos 0 → product_by value xs ≡ pos 0
  item_zero xs i x inside is none =
      let rest : ℤ = product_by value (take i xs) *ℤ product_by value (drop (suc i) xs) in
      ap (product_by value) (split_at xs i x inside) ∙ product_around (take i xs) (drop (suc i) xs) (get_or xs i x) ∙ ap (λ (t : ℤ). t *ℤ rest) (ap value (sym is) ∙ none) ∙ zero-*ℤ rest

-- ---- common factors

pub factor_start : (n d : ℤ) → HasCommonFactor n d n d
factor_start n d = record { factor = pos 1; numer = times_one n; denom = times_one d }

pub factor_whole : (n d : ℤ) → n ≡ d → HasCommonFactor n d (pos 1) (pos 1)
factor_whole n d same = record { factor = n; numer = one_times n; denom = one_times n ∙ same }

pub factor_chained : (n d a b p q : ℤ) → HasCommonFactor n d a b → HasCommonFactor a b p q → HasCommonFactor n d p q
factor_chained n d a b p q first second = record {
  factor = second.factor *ℤ first.factor;
  numer = chained p a n second.numer first.numer;
  denom = chained q b d second.denom first.denom;
}
  where
    chained : (x y z : ℤ) → x *ℤ second.factor ≡ y → y *ℤ first.factor ≡ z → x *ℤ (second.factor *ℤ first.factor) ≡ z
    chained x y z e f = sym (mul_assoc x second.factor first.factor) ∙ ap (λ (t : ℤ). t *ℤ first.factor) e ∙ f

nonzero_left : (a f n : ℤ) → a *ℤ f ≡ n → n ≢ pos 0 → a ≢ pos 0
nonzero_left a f n is nonzero none = nonzero (sym is ∙ ap (λ (t : ℤ). t *ℤ f) none ∙ zero-*ℤ f)

pub factor_numer_nonzero : (n d a b : ℤ) → HasCommonFactor n d a b → n ≢ pos 0 → a ≢ pos 0
factor_numer_nonzero n d a b is nonzero = nonzero_left a is.factor n is.numer nonzero

pub factor_denom_nonzero : (n d a b : ℤ) → HasCommonFactor n d a b → d ≢ pos 0 → b ≢ pos 0
factor_denom_nonzero n d a b is nonzero = nonzero_left b is.factor d is.denom nonzero

pub factor_same : (n d a b : ℤ) → HasCommonFactor n d a b → SameValue n d a b
factor_same n d a b is =
    ap (λ (t : ℤ). t *ℤ b) (sym is.numer) ∙ mul-swap_last a is.factor b ∙ ap (λ (t : ℤ). a *ℤ t) is.denom

factor_divides : (a f n : ℤ) → a *ℤ f ≡ n → unsigned_abs a ∣ unsigned_abs n
factor_divides a f n is = multiple_divides n a (f, sym is ∙ *ℤ_comm a f)

-- ---- coprime numbers

pub coprime_one : (a b : ℤ) → b ≡ pos 1 → IsCoprimeTo a b
coprime_one a b single = record { only_one = λ k p q. let divides_one : k ∣ 1 = rw (ap unsigned_abs single) at q in eq-one_of_dvd-one divides_one }

pub coprime_back : (a b : ℤ) → IsCoprimeTo a b → IsCoprimeTo b a
coprime_back a b is = record { only_one = coprime_turned (unsigned_abs a) (unsigned_abs b) is.only_one }

coprime_times : (a b c : ℤ) → IsCoprimeTo a b → IsCoprimeTo a c → IsCoprimeTo a (b *ℤ c)
coprime_times a b c left right = record { only_one = rw (unsigned_abs-mul b c) (coprime_product (unsigned_abs a) (unsigned_abs b) (unsigned_abs c) left.only_one right.only_one) }

coprime_less : (a b n f : ℤ) → a *ℤ f ≡ n → IsCoprimeTo n b → IsCoprimeTo a b
coprime_less a b n f is coprime = record { only_one = coprime_divisors (unsigned_abs n) (unsigned_abs b) (unsigned_abs a) (unsigned_abs b) coprime.only_one (factor_divides a f n is) (multiple_divides b b (pos 1, sym (one_times b))) }

-- ---- a number that is cancelled against a list

-- the number and the list are divided by a common factor, and the number has no common divisor above 1 with the first i of the list
pub record ListCancelled {A : Type 0} (value : A → ℤ) (n : ℤ) (olds news : List A) (a : ℤ) (i : ℕ) : Type 0 where
  pub factor : HasCommonFactor n (product_by value olds) a (product_by value news)
  pub coprime : IsCoprimeTo a (product_by value (take i news))

module _ {A : Type 0} (value : A → ℤ) (n : ℤ) (olds : List A) where
  pub list_start : ListCancelled value n olds olds n 0
  list_start = record { factor = factor_start n (product_by value olds); coprime = coprime_one n (product_by value (take 0 olds)) refl }

  pub list_step : (news : List A) (a : ℤ) (i : ℕ) (d y : A) (p : ℤ) → i < length news → ListCancelled value n olds news a i → HasCommonFactor a (value (get_or news i d)) p (value y) → IsCoprimeTo p (value y) → ListCancelled value n olds (set news i y) p (i + 1)
  list_step news a i d y p inside so_far is coprime = record {
    factor = factor_chained n (product_by value olds) a (product_by value news) p (product_by value (set news i y)) so_far.factor
        (record { factor = is.factor; numer = is.numer; denom = product_divided value news i y d is.factor inside is.denom });
    coprime = rw (product_more_set value news i y inside)
        (coprime_times p (product_by value (take i news)) (value y) (coprime_less p (product_by value (take i news)) a is.factor is.numer so_far.coprime) coprime);
  }

-- ---- a list that is cancelled against a list

-- both lists are divided by a common factor, and the first i of the first have no common divisor above 1 with the second
pub record ListsCancelled {A : Type 0} (value : A → ℤ) (old_above old_below above below : List A) (i : ℕ) : Type 0 where
  pub factor : HasCommonFactor (product_by value old_above) (product_by value old_below) (product_by value above) (product_by value below)
  pub coprime : IsCoprimeTo (product_by value (take i above)) (product_by value below)

module _ {A : Type 0} (value : A → ℤ) (old_above old_below : List A) where
  pub lists_start : ListsCancelled value old_above old_below old_above old_below 0
  lists_start = record {
    factor = factor_start (product_by value old_above) (product_by value old_below);
    coprime = coprime_back _ _ (coprime_one (product_by value old_below) (product_by value (take 0 old_above)) refl);
  }

  pub lists_step : (above below : List A) (i : ℕ) (d y : A) (rest : List A) → i < length above → ListsCancelled value old_above old_below above below i → HasCommonFactor (value (get_or above i d)) (product_by value below) (value y) (product_by value rest) → IsCoprimeTo (value y) (product_by value rest) → ListsCancelled value old_above old_below (set above i y) rest (i + 1)
  lists_step above below i d y rest inside so_far is coprime = record {
    factor = factor_chained (product_by value old_above) (product_by value old_below) (product_by value above) (product_by value below) (product_by value (set above i y)) (product_by value rest) so_far.factor
        (record { factor = is.factor; numer = product_divided value above i y d is.factor inside is.numer; denom = is.denom });
    coprime = rw (product_more_set value above i y inside)
        (coprime_back _ _ (coprime_times (product_by value rest) (product_by value (take i above)) (value y)
        (coprime_less (product_by value rest) (product_by value (take i above)) (product_by value below) is.factor is.denom (coprime_back _ _ so_far.coprime))
        (coprime_back _ _ coprime)));
  }

-- ---- signs

sign_turned : (p x : ℤ) → p ≢ pos 0 → x <ℤ pos 0 → ((p *ℤ x) <ℤ pos 0) ↔ (¬ (p <ℤ pos 0))
sign_turned p (pos n) nonzero below = absurd (omega (arith, ints))
sign_turned (pos zero) (negsuc m) nonzero below = absurd (nonzero refl)
sign_turned (pos (suc n)) (negsuc m) nonzero below = ((λ h. λ k. omega (arith, ints)), λ h. omega (arith, ints))
sign_turned (negsuc n) (negsuc m) nonzero below = ((λ h. absurd (omega (arith, ints))), λ h. absurd (h (omega (arith, ints))))

sign_kept : (p x : ℤ) → p ≢ pos 0 → x ≢ pos 0 → ¬ (x <ℤ pos 0) → ((p *ℤ x) <ℤ pos 0) ↔ (p <ℤ pos 0)
sign_kept p (negsuc m) nonzero x_nonzero above = absurd (above (omega (arith, ints)))
sign_kept p (pos zero) nonzero x_nonzero above = absurd (x_nonzero refl)
sign_kept (pos n) (pos (suc m)) nonzero x_nonzero above = ((λ h. absurd (omega (arith, ints))), λ h. absurd (omega (arith, ints)))
sign_kept (negsuc n) (pos (suc m)) nonzero x_nonzero above = ((λ h. omega (arith, ints)), λ h. omega (arith, ints))

-- the `Bool` says whether the product of the first i items is below 0. If it is, the type has numbers below 0
pub record SignSoFar {A : Type 0} (value : A → ℤ) (lo : ℤ) (xs : List A) (i : ℕ) (negative : Bool) : Type 0 where
  pub tells : IsTrue negative ↔ (product_by value (take i xs) <ℤ pos 0)
  pub signed : IsTrue negative → lo <ℤ pos 0

module _ {A : Type 0} (value : A → ℤ) (lo : ℤ) (xs : List A) where
  pub sign_start : SignSoFar value lo xs 0 false
  sign_start = record {
    tells = ((λ h. absurd (let no : false ≡ true = h in cc)), λ h. absurd (let no : pos 1 <ℤ pos 0 = h in omega (arith, ints)));
    signed = λ h. absurd (let no : false ≡ true = h in cc);
  }

  module _ (i : ℕ) (x : A) (inside : i < length xs) (is : x ≡ get_or xs i x) (nonzero : product_by value xs ≢ pos 0) where
    pub sign_more_turned : (negative : Bool) → SignSoFar value lo xs i negative → value x <ℤ pos 0 → lo ≤ℤ value x → SignSoFar value lo xs (i + 1) (not negative)
    sign_more_turned true so_far below above =
        let turned = sign_turned (product_by value (take i xs)) (value x) (part_nonzero value xs i nonzero) below in
        record {
          tells = rw (product_with value xs i x inside is) ((λ h. absurd (let no : false ≡ true = h in cc)), λ h. absurd (turned.0 h (so_far.tells.0 refl)));
          signed = λ h. omega (arith, ints);
        }
    sign_more_turned false so_far below above =
        let turned = sign_turned (product_by value (take i xs)) (value x) (part_nonzero value xs i nonzero) below in
        record {
          tells = rw (product_with value xs i x inside is) ((λ h. turned.1 (λ k. absurd (let no : false ≡ true = so_far.tells.1 k in cc))), λ h. refl);
          signed = λ h. omega (arith, ints);
        }

    pub sign_more_kept : (negative : Bool) → SignSoFar value lo xs i negative → ¬ (value x <ℤ pos 0) → SignSoFar value lo xs (i + 1) negative
    sign_more_kept negative so_far above =
        let kept = sign_kept (product_by value (take i xs)) (value x) (part_nonzero value xs i nonzero) (this_nonzero value xs i x inside is nonzero) above in
        record { tells = rw (product_with value xs i x inside is) ((λ h. kept.1 (so_far.tells.0 h)), λ h. so_far.tells.1 (kept.0 h)); signed = so_far.signed }

minus_times : (z : ℤ) → negsuc 0 *ℤ z ≡ neg_ℤ z
minus_times z = neg-mul (pos 1) z ∙ ap neg_ℤ (one_times z)

times_negative : (n m : ℕ) → negsuc n *ℤ pos (suc m) ≡ pos (suc n) *ℤ negsuc m
times_negative n m =
    neg-mul (pos (suc n)) (pos (suc m))
    ∙ ap neg_ℤ (*ℤ_comm (pos (suc n)) (pos (suc m)))
    ∙ sym (neg-mul (pos (suc m)) (pos (suc n)))
    ∙ *ℤ_comm (negsuc m) (pos (suc n))

-- the sign of a quotient, from the signs of both numbers
pub sign_minus : (a b : ℤ) (first second : Bool) → (IsTrue first ↔ (a <ℤ pos 0)) → (IsTrue second ↔ (b <ℤ pos 0)) → first ≢ second → IsQuotientSign a b (negsuc 0)
sign_minus a b true true f s differ = absurd (differ refl)
sign_minus a b false false f s differ = absurd (differ refl)
sign_minus (pos n) b true false f s differ = absurd (let no : pos n <ℤ pos 0 = f.0 refl in omega (arith, ints))
sign_minus (negsuc n) (negsuc m) true false f s differ = absurd (let no : false ≡ true = s.1 (omega (arith, ints)) in cc)
sign_minus (negsuc n) (pos m) true false f s differ = record { unit = refl; same = ap (λ (t : ℤ). t *ℤ pos m) (sym (minus_times (pos (suc n)))) }
sign_minus (negsuc n) b false true f s differ = absurd (let no : false ≡ true = f.1 (omega (arith, ints)) in cc)
sign_minus (pos n) (pos m) false true f s differ = absurd (let no : pos m <ℤ pos 0 = s.0 refl in omega (arith, ints))
sign_minus (pos n) (negsuc m) false true f s differ = record {
  unit = refl;
  same = sym (neg-mul-neg (pos n) (pos (suc m))) ∙ ap (λ (t : ℤ). t *ℤ negsuc m) (sym (minus_times (pos n)));
}

pub sign_plus : (a b : ℤ) (first second : Bool) → (IsTrue first ↔ (a <ℤ pos 0)) → (IsTrue second ↔ (b <ℤ pos 0)) → first ≡ second → IsQuotientSign a b (pos 1)
sign_plus (pos n) (pos m) first second f s same = record { unit = refl; same = ap (λ (t : ℤ). t *ℤ pos m) (sym (one_times (pos n))) }
sign_plus (negsuc n) (negsuc m) first second f s same = record {
  unit = refl;
  same = times_negative n m ∙ ap (λ (t : ℤ). t *ℤ negsuc m) (sym (one_times (pos (suc n))));
}
sign_plus (pos n) (negsuc m) first second f s same = absurd (let no : pos n <ℤ pos 0 = f.0 (same ∙ s.1 (omega (arith, ints))) in omega (arith, ints))
sign_plus (negsuc n) (pos m) first second f s same = absurd (let no : pos m <ℤ pos 0 = s.0 (sym same ∙ f.1 (omega (arith, ints))) in omega (arith, ints))

-- what a test of two `Bool`s tells
pub tests_differ : (a b : Bool) → not (beq a b) ≡ true → a ≢ b
tests_differ true true e same = cc
tests_differ false false e same = cc
tests_differ true false e same = cc
tests_differ false true e same = cc

pub tests_same : (a b : Bool) → not (beq a b) ≡ false → a ≡ b
tests_same true true e = refl
tests_same false false e = refl
tests_same true false e = cc
tests_same false true e = cc

-- if one of two products is below 0, then -1 is in range
pub minus_one_held : (lo hi : ℤ) (first second : Bool) → IsRange lo hi → first ≢ second → (IsTrue first → lo <ℤ pos 0) → (IsTrue second → lo <ℤ pos 0) → IsHeld lo hi (pos 0 -ℤ pos 1)
minus_one_held lo hi true second range differ f s =
    let high = range.high in
    let low : lo <ℤ pos 0 = f refl in
    record { above = omega (arith, ints); below = omega (arith, ints) }
minus_one_held lo hi false true range differ f s =
    let high = range.high in
    let low : lo <ℤ pos 0 = s refl in
    record { above = omega (arith, ints); below = omega (arith, ints) }
minus_one_held lo hi false false range differ f s = absurd (differ refl)

-- ---- magnitudes

pub magnitude_more : (s p x : ℤ) → (s *ℤ pos (unsigned_abs p)) *ℤ pos (unsigned_abs x) ≡ s *ℤ pos (unsigned_abs (p *ℤ x))
magnitude_more s p x =
    mul_assoc s (pos (unsigned_abs p)) (pos (unsigned_abs x))
    ∙ ap (λ (t : ℤ). s *ℤ t) (ap pos (sym (unsigned_abs-mul p x)))

magnitude_above : (z : ℤ) → z ≢ pos 0 → pos 0 <ℤ pos (unsigned_abs z)
magnitude_above (pos zero) nonzero = absurd (nonzero refl)
magnitude_above (pos (suc n)) nonzero = omega (arith, ints)
magnitude_above (negsuc n) nonzero = omega (arith, ints)

module _ {A : Type 0} (value : A → ℤ) (xs : List A) (i : ℕ) (x : A) (inside : i < length xs) (is : x ≡ get_or xs i x) (s t : ℤ) (so_far : t ≡ s *ℤ pos (unsigned_abs (product_by value (take i xs)))) where
  -- one more item
  pub magnitudes_more : t *ℤ pos (unsigned_abs (value x)) ≡ s *ℤ pos (unsigned_abs (product_by value (take (i + 1) xs)))
  magnitudes_more =
      ap (λ (z : ℤ). z *ℤ pos (unsigned_abs (value x))) so_far
      ∙ magnitude_more s (product_by value (take i xs)) (value x)
      ∙ ap (λ (z : ℤ). s *ℤ pos (unsigned_abs z)) (sym (product_with value xs i x inside is))

  -- if the product of the first items is out of range, so is the product of all
  pub magnitudes_out : (lo hi : ℤ) → IsRange lo hi → product_by value xs ≢ pos 0 → ¬ (IsHeld lo hi (t *ℤ pos (unsigned_abs (value x)))) → ¬ (IsHeld lo hi (s *ℤ pos (unsigned_abs (product_by value xs))))
  magnitudes_out lo hi range nonzero out held =
      let rest : ℤ = product_by value (drop (i + 1) xs) in
      let whole : product_by value xs ≡ product_by value (take (i + 1) xs) *ℤ rest = product_parts value xs (i + 1) in
      let rest_nonzero : rest ≢ pos 0 = λ none. nonzero (whole ∙ ap (λ (z : ℤ). product_by value (take (i + 1) xs) *ℤ z) none ∙ *ℤ-zero (product_by value (take (i + 1) xs))) in
      let same : s *ℤ pos (unsigned_abs (product_by value xs)) ≡ (t *ℤ pos (unsigned_abs (value x))) *ℤ pos (unsigned_abs rest) =
      ap (λ (z : ℤ). s *ℤ pos (unsigned_abs z)) whole
      ∙ sym (magnitude_more s (product_by value (take (i + 1) xs)) rest)
      ∙ ap (λ (z : ℤ). z *ℤ pos (unsigned_abs rest)) (sym magnitudes_more) in
      out (factor_held lo hi _ (pos (unsigned_abs rest)) range (magnitude_above rest rest_nonzero) (rw same at held))

  -- the product of the first items is not 0
  pub magnitudes_nonzero : s ≢ pos 0 → product_by value xs ≢ pos 0 → t ≢ pos 0
  magnitudes_nonzero s_nonzero nonzero none =
      let first : ℤ = product_by value (take i xs) in
      mul_nonzero s (pos (unsigned_abs first)) s_nonzero (positive_nonzero _ (magnitude_above first (part_nonzero value xs i nonzero))) (sym so_far ∙ none)

-- if a number below 0 has no negative in range, its magnitude times t is in range for no t but -1 and 0
pub magnitude_out : (lo hi t x : ℤ) → IsRange lo hi → t ≢ pos 0 → t ≢ negsuc 0 → x <ℤ pos 0 → ¬ (IsHeld lo hi (pos 0 -ℤ x)) → ¬ (IsHeld lo hi (t *ℤ pos (unsigned_abs x)))
magnitude_out lo hi t (pos m) range nonzero other below out held = absurd (omega (arith, ints))
magnitude_out lo hi (pos zero) (negsuc m) range nonzero other below out held = absurd (nonzero refl)
magnitude_out lo hi (negsuc zero) (negsuc m) range nonzero other below out held = absurd (other refl)
magnitude_out lo hi (pos (suc n)) (negsuc m) range nonzero other below out held =
    let low = low_below lo hi range in
    let top = held.below in
    let larger : (pos 1 *ℤ pos (suc m)) ≤ℤ (pos (suc n) *ℤ pos (suc m)) = times_le (pos 1) (pos (suc n)) (pos (suc m)) (omega (arith, ints)) (omega (arith, ints)) in
    out (record { above = omega (arith, ints); below = omega (arith, ints) })
magnitude_out lo hi (negsuc (suc n)) (negsuc m) range nonzero other below out held =
    let low = range.low in
    let bottom = held.above in
    let larger : (negsuc (suc n) *ℤ pos (suc m)) ≤ℤ (negsuc 1 *ℤ pos (suc m)) = times_le (negsuc (suc n)) (negsuc 1) (pos (suc m)) (omega (arith, ints)) (omega (arith, ints)) in
    out (record { above = grind (arith, ints); below = grind (arith, ints) })

pub below_magnitude : (x : ℤ) → x <ℤ pos 0 → pos 0 -ℤ x ≡ pos (unsigned_abs x)
below_magnitude (pos n) below = absurd (omega (arith, ints))
below_magnitude (negsuc n) below = omega (arith, ints)

-- ---- the result

-- what a test for 0 tells
pub tells_nonzero : (z : ℤ) (test : Bool) → (IsTrue test ↔ (z ≡ pos 0)) → test ≡ false → z ≢ pos 0
tells_nonzero z test tells refused none = absurd (let yes : test ≡ true = tells.1 none in cc)

-- a quotient with 0 above
pub zero_over : (lo hi n d a b : ℤ) → n ≡ pos 0 → d ≢ pos 0 → a ≡ pos 0 → b ≡ pos 1 → IsHeld lo hi a → IsHeld lo hi b → IsHeldLowest lo hi n d a b
zero_over lo hi n d a b none nonzero zero_is one_is a_held b_held = record {
  terms = record {
    fraction = nonzero;
    same = ap (λ (t : ℤ). t *ℤ b) none ∙ zero-*ℤ b ∙ sym (ap (λ (t : ℤ). t *ℤ d) zero_is ∙ zero-*ℤ d);
    lowest = over_one a b one_is;
  };
  numer_held = a_held;
  denom_held = b_held;
}

-- n/d with both numbers divided by a common factor, until they are coprime, and with the sign s in its numerator
module _ (n d a b s u : ℤ) (fraction : d ≢ pos 0) (factor : HasCommonFactor n d a b) (coprime : IsCoprimeTo a b) (sign : IsQuotientSign a b s) (single : u ≡ pos 1) where
  pub lowest_magnitudes : IsLowestTermsOf n d (s *ℤ pos (unsigned_abs a)) (u *ℤ pos (unsigned_abs b))
  lowest_magnitudes =
      let b_nonzero : b ≢ pos 0 = factor_denom_nonzero n d a b factor fraction in
      rw (single, one_times (pos (unsigned_abs b))) (record {
        fraction = fraction;
        same = same_value_chained n d a b _ _ b_nonzero (factor_same n d a b factor) sign.same;
        lowest = record {
          positive = magnitude_above b b_nonzero;
          only_one = λ k p q. coprime.only_one k (rw (unsigned_abs-mul s (pos (unsigned_abs a)), sign.unit, one_time (unsigned_abs a)) at p) q;
        };
      })
    where
      one_time : (m : ℕ) → 1 * m ≡ m
      one_time m = omega arith

  pub held_magnitudes : (lo hi p q : ℤ) → IsHeld lo hi (s *ℤ pos (unsigned_abs a)) × (p ≡ s *ℤ pos (unsigned_abs a)) → IsHeld lo hi (u *ℤ pos (unsigned_abs b)) × (q ≡ u *ℤ pos (unsigned_abs b)) → IsHeldLowest lo hi n d p q
  held_magnitudes lo hi p q numer denom = record {
    terms = rw (numer.1, denom.1) lowest_magnitudes;
    numer_held = rw numer.1 numer.0;
    denom_held = rw denom.1 denom.0;
  }
