-- A text is cut into the parts of a decimal in at most one way.
use Rattle.std.specs.Prelude.{◌≡◌, ◌≢◌, ◌⊎◌, ◌+◌, ◌*◌, ◌^◌, ◌<◌, ◌≤◌, ℕ, pos, Bool, true, false, List, [], ◌∷◌, ◌++◌, length}
use Rattle.std.specs.Char.{digit_value}
use Rattle.std.specs.Str.Parse.{AllDigits, IsNumeral}
use Rattle.std.proofs.Common.{refl, sym, ap, subst, arith, inl, inr, ◌∙◌, append-nil, append_assoc, drop, take, get_or, length-append}
use Rattle.std.proofs.lemmas.Int.Digits.{digits_more}
use Rattle.std.proofs.lemmas.List.{nil_from_length}
use Rattle.ratio_decimal.specs.Decimal.{point}
use Rattle.ratio_decimal.specs.DecimalCuts.{HasNoDigit, HasNoPoint, HasNoSign, IsDecimalCut, IsDigitsCut, IsPointCut, IsSignCut}
use Rattle.ratio_decimal.specs.DecimalReading.{DecimalsHaveOneReading, HasDecimalParts, IsExponent, IsLetterE, IsPointed, IsWrittenSign, tens_above, tens_below}
use Rattle.ratio_core.specs.Signs.{with_sign}
use Rattle.ratio_core.specs.Reading.{digits_sum, minus, plus}
use Rattle.ratio_decimal.proofs.DecimalDigits.{all_split}
use Rattle.ratio_core.proofs.LeadingDigits.{append_digits}

-- ---- one cut at a time

first_rest : (xs : List ℕ) (c : ℕ) → 0 < length xs → get_or xs 0 0 ≡ c → xs ≡ c ∷ drop 1 xs
first_rest [] c some is = absurd (omega arith)
first_rest (x ∷ xs) c some is = ap (λ y. y ∷ xs) is

-- the first `at` bytes are digits
pub record AreDigitsTo (text : List ℕ) (at : ℕ) : Type 0 where
  pub inside : at ≤ length text
  pub all : AllDigits 10 (take at text)

pub digits_next : (text : List ℕ) (at : ℕ) → AreDigitsTo text at → at < length text → digit_value (get_or text at 0) < 10 → AreDigitsTo text (at + 1)
digits_next text at is more digit = record { inside = omega (arith, more); all = digits_more 10 text at more is.all digit }

-- ---- there is one way

pub sign_only : (text rest : List ℕ) (below : Bool) (sign tail : List ℕ) (other : Bool) → IsSignCut text below rest → text ≡ sign ++ tail → IsWrittenSign sign other → HasNoSign tail → (below ≡ other) × (rest ≡ tail)
sign_only text rest below sign tail true cut e is none = by cut (e ∙ ap (λ xs. xs ++ tail) is)
  where
    by : IsSignCut text below rest → text ≡ minus ∷ tail → (below ≡ true) × (rest ≡ tail)
    by (inl (first, is_minus)) whole = let same : minus ∷ rest ≡ minus ∷ tail = sym first ∙ whole in (is_minus, (cc))
    by (inr (inl (first, no_minus))) whole = let same : plus ∷ rest ≡ minus ∷ tail = sym first ∙ whole in let bytes : plus ≡ minus = cc in absurd (omega (arith, bytes))
    by (inr (inr (first, no_minus, free))) whole = absurd ((subst HasNoSign whole free).0 refl)
sign_only text rest below sign tail false cut e (inl is) none = by cut (e ∙ ap (λ xs. xs ++ tail) is)
  where
    by : IsSignCut text below rest → text ≡ tail → (below ≡ false) × (rest ≡ tail)
    by (inl (first, is_minus)) whole = absurd ((subst HasNoSign (sym whole ∙ first) none).0 refl)
    by (inr (inl (first, no_minus))) whole = absurd ((subst HasNoSign (sym whole ∙ first) none).1 refl)
    by (inr (inr (first, no_minus, free))) whole = (no_minus, sym first ∙ whole)
sign_only text rest below sign tail false cut e (inr is) none = by cut (e ∙ ap (λ xs. xs ++ tail) is)
  where
    by : IsSignCut text below rest → text ≡ plus ∷ tail → (below ≡ false) × (rest ≡ tail)
    by (inl (first, is_minus)) whole = let same : minus ∷ rest ≡ plus ∷ tail = sym first ∙ whole in let bytes : minus ≡ plus = cc in absurd (omega (arith, bytes))
    by (inr (inl (first, no_minus))) whole = let same : plus ∷ rest ≡ plus ∷ tail = sym first ∙ whole in (no_minus, (cc))
    by (inr (inr (first, no_minus, free))) whole = absurd ((subst HasNoSign whole free).1 refl)

digits_same : (ds es rest tail : List ℕ) → ds ++ rest ≡ es ++ tail → AllDigits 10 ds → AllDigits 10 es → HasNoDigit rest → HasNoDigit tail → (ds ≡ es) × (rest ≡ tail)
digits_same [] [] rest tail e all others end last = (refl, e)
digits_same [] (c ∷ cs) rest tail e all others end last = absurd (let high : 10 ≤ digit_value c = subst HasNoDigit e end in omega (arith, others.0))
digits_same (c ∷ cs) [] rest tail e all others end last = absurd (let high : 10 ≤ digit_value c = subst HasNoDigit (sym e) last in omega (arith, all.0))
digits_same (c ∷ cs) (d ∷ ds) rest tail e all others end last =
    let first : c ≡ d = cc in
    let later : cs ++ rest ≡ ds ++ tail = cc in
    let same = digits_same cs ds rest tail later all.1 others.1 end last in
    ((let front : cs ≡ ds = same.0 in cc), same.1)

pub digits_only : (text ds rest es tail : List ℕ) → IsDigitsCut text ds rest → text ≡ es ++ tail → AllDigits 10 es → HasNoDigit tail → (ds ≡ es) × (rest ≡ tail)
digits_only text ds rest es tail cut e others last = digits_same ds es rest tail (sym cut.cut ∙ e) cut.all others cut.end last

-- ---- what the parts of a decimal begin with

pub digit_no_sign : (c : ℕ) → digit_value c < 10 → (c ≢ minus) × (c ≢ plus)
digit_no_sign c digit = ((λ e. let value : digit_value c ≡ 36 = ap digit_value e in omega (arith, digit, value)), (λ e. let value : digit_value c ≡ 36 = ap digit_value e in omega (arith, digit, value)))

pub numeral_no_sign : (ds tail : List ℕ) → IsNumeral 10 ds → HasNoSign (ds ++ tail)
numeral_no_sign [] tail is = absurd (omega (arith, is.0))
numeral_no_sign (c ∷ cs) tail is = digit_no_sign c is.1.0

pub letter_end : (c : ℕ) → IsLetterE c → (10 ≤ digit_value c) × (c ≢ point)
letter_end c (inl is) = (let value : digit_value c ≡ 14 = ap digit_value is in omega (arith, value), λ e. omega (arith, is, e))
letter_end c (inr is) = (let value : digit_value c ≡ 14 = ap digit_value is in omega (arith, value), λ e. omega (arith, is, e))

scale_end : (scale : List ℕ) (down : Bool) (digits : List ℕ) → IsExponent scale down digits → HasNoDigit scale × HasNoPoint scale
scale_end scale down digits (inl is) = rw is.cut (letter_end is.letter is.is_e)
scale_end scale down digits (inr (none, no_minus, empty)) = rw none (tt, tt)

front_no_sign : (whole back : List ℕ) → AllDigits 10 whole → HasNoSign back → HasNoSign (whole ++ back)
front_no_sign [] back all free = free
front_no_sign (c ∷ cs) back all free = digit_no_sign c all.0

-- digits with a point, and what comes after them
pointed_cases : (pointed whole part scale : List ℕ) → IsPointed pointed whole part
    → (pointed ++ scale ≡ whole ++ (point ∷ (part ++ scale))) ⊎ ((pointed ++ scale ≡ whole ++ scale) × (part ≡ []))
pointed_cases pointed whole part scale is = by is.cut
  where
    by : (pointed ≡ whole ++ point ∷ part) ⊎ ((pointed ≡ whole) × (part ≡ [])) → (pointed ++ scale ≡ whole ++ (point ∷ (part ++ scale))) ⊎ ((pointed ++ scale ≡ whole ++ scale) × (part ≡ []))
    by (inl e) = inl (ap (λ xs. xs ++ scale) e ∙ append_assoc whole (point ∷ part) scale)
    by (inr (e, none)) = inr (ap (λ xs. xs ++ scale) e, none)

whole_no_sign : (whole scale : List ℕ) → 0 < length whole → AllDigits 10 whole → HasNoSign (whole ++ scale)
whole_no_sign whole scale some all = numeral_no_sign whole scale (some, all)

pointed_no_sign : (pointed whole part scale : List ℕ) → IsPointed pointed whole part → HasNoSign (pointed ++ scale)
pointed_no_sign pointed whole part scale is = by (pointed_cases pointed whole part scale is)
  where
    by : (pointed ++ scale ≡ whole ++ (point ∷ (part ++ scale))) ⊎ ((pointed ++ scale ≡ whole ++ scale) × (part ≡ [])) → HasNoSign (pointed ++ scale)
    by (inl e) = subst HasNoSign (sym e) (front_no_sign whole (point ∷ (part ++ scale)) (all_split whole part is.digits.1).0 ((λ e. omega (arith, e)), (λ e. omega (arith, e))))
    by (inr (e, none)) =
        let some : 0 < length whole = (let h = is.digits.0 in let sum = length-append whole part in let zero_part : length part ≡ 0 = ap length none in omega arith) in
        subst HasNoSign (sym e) (whole_no_sign whole scale some (all_split whole part is.digits.1).0)

-- ---- the whole text

-- what the two ways have in common
pub record AreSameParts (below : Bool) (whole part rest : List ℕ) (other : Bool) (front back scale : List ℕ) : Type 0 where
  pub sign : below ≡ other
  pub first : whole ≡ front
  pub second : part ≡ back
  pub last : rest ≡ scale

point_only : (text part rest back scale : List ℕ) → IsPointCut text part rest → text ≡ point ∷ (back ++ scale) → AllDigits 10 back → HasNoDigit scale → (part ≡ back) × (rest ≡ scale)
point_only text part rest back scale (inl (behind, e, cut)) whole all end =
    let same : point ∷ behind ≡ point ∷ (back ++ scale) = sym e ∙ whole in
    digits_only behind part rest back scale cut (let later : behind ≡ back ++ scale = cc in later) all end
point_only text part rest back scale (inr (e, none, free)) whole all end = absurd ((subst HasNoPoint whole free) refl)

no_point_only : (text part rest scale : List ℕ) → IsPointCut text part rest → text ≡ scale → HasNoPoint scale → (part ≡ []) × (rest ≡ scale)
no_point_only text part rest scale (inl (behind, e, cut)) whole free = absurd ((subst HasNoPoint (sym whole ∙ e) free) refl)
no_point_only text part rest scale (inr (e, none, free2)) whole free = (none, sym e ∙ whole)

pub parts_only : (text : List ℕ) (below : Bool) (whole part rest : List ℕ) (other : Bool) (front back : List ℕ) (down : Bool) (exponent : List ℕ) → IsDecimalCut text below whole part rest
    → (is : HasDecimalParts text other front back down exponent) → AreSameParts below whole part rest other front back is.scale
parts_only text below whole part rest other front back down exponent cut is =
    let first = sign_only text cut.unsigned below is.sign (is.pointed ++ is.scale) other cut.sign is.cut is.signed (pointed_no_sign is.pointed front back is.scale is.number) in
    by first.0 first.1 (pointed_cases is.pointed front back is.scale is.number)
  where
    ends : HasNoDigit is.scale × HasNoPoint is.scale
    ends = scale_end is.scale down exponent is.scaled

    halves : AllDigits 10 front × AllDigits 10 back
    halves = all_split front back is.number.digits.1

    by : below ≡ other → cut.unsigned ≡ is.pointed ++ is.scale → (is.pointed ++ is.scale ≡ front ++ (point ∷ (back ++ is.scale))) ⊎ ((is.pointed ++ is.scale ≡ front ++ is.scale) × (back ≡ []))
        → AreSameParts below whole part rest other front back is.scale
    by same unsigned (inl e) =
        let second = digits_only cut.unsigned whole cut.later front (point ∷ (back ++ is.scale)) cut.first (unsigned ∙ e) halves.0 (omega arith) in
        let third = point_only cut.later part rest back is.scale cut.second second.1 halves.1 ends.0 in
        record { sign = same; first = second.0; second = third.0; last = third.1 }
    by same unsigned (inr (e, none)) =
        let second = digits_only cut.unsigned whole cut.later front is.scale cut.first (unsigned ∙ e) halves.0 ends.0 in
        let third = no_point_only cut.later part rest is.scale cut.second second.1 ends.1 in
        record { sign = same; first = second.0; second = third.0 ∙ sym none; last = third.1 }

-- ---- a cut makes a decimal

pub sign_of : (text rest : List ℕ) (below : Bool) → IsSignCut text below rest → (sign : List ℕ) × IsWrittenSign sign below × (text ≡ sign ++ rest)
sign_of text rest below (inl (e, is)) = (minus ∷ [], subst (IsWrittenSign (minus ∷ [])) (sym is) refl, e)
sign_of text rest below (inr (inl (e, is))) = (plus ∷ [], subst (IsWrittenSign (plus ∷ [])) (sym is) (inr refl), e)
sign_of text rest below (inr (inr (e, is, free))) = ([], subst (IsWrittenSign []) (sym is) (inl refl), e)

point_of : (later whole part rest : List ℕ) → IsPointCut later part rest → (pointed : List ℕ) × ((pointed ≡ whole ++ point ∷ part) ⊎ ((pointed ≡ whole) × (part ≡ []))) × (whole ++ later ≡ pointed ++ rest)
point_of later whole part rest (inl (behind, e, cut)) =
    (whole ++ point ∷ part, inl refl, ap (λ xs. whole ++ xs) (e ∙ ap (λ xs. point ∷ xs) cut.cut) ∙ sym (append_assoc whole (point ∷ part) rest))
point_of later whole part rest (inr (e, none, free)) = (whole, inr (refl, none), ap (λ xs. whole ++ xs) e)

point_all : (later part rest : List ℕ) → IsPointCut later part rest → AllDigits 10 part
point_all later part rest (inl (behind, e, cut)) = cut.all
point_all later part rest (inr (e, none, free)) = rw none tt

pub parts_of : (text : List ℕ) (below : Bool) (whole part rest : List ℕ) (down : Bool) (exponent : List ℕ) → IsDecimalCut text below whole part rest → 0 < length whole + length part → IsExponent rest down exponent
    → HasDecimalParts text below whole part down exponent
parts_of text below whole part rest down exponent cut some scaled =
    let first = sign_of text cut.unsigned below cut.sign in
    let second = point_of cut.later whole part rest cut.second in
    record {
      sign = first.0;
      pointed = second.0;
      scale = rest;
      cut = first.2 ∙ ap (λ xs. first.0 ++ xs) (cut.first.cut ∙ second.2);
      signed = first.1;
      number = record { cut = second.1; digits = (omega (arith, some, length-append whole part), append_digits 10 whole part cut.first.all (point_all cut.later part rest cut.second)) };
      scaled = scaled;
    }

-- ---- where it makes none

pub no_digits : (text : List ℕ) (below : Bool) (whole part rest : List ℕ) → IsDecimalCut text below whole part rest → length whole ≡ 0 → length part ≡ 0
    → (other : Bool) (front back : List ℕ) (down : Bool) (exponent : List ℕ) → ¬ (HasDecimalParts text other front back down exponent)
no_digits text below whole part rest cut none nothing other front back down exponent is =
    let same = parts_only text below whole part rest other front back down exponent cut is in
    let some = is.number.digits.0 in
    omega (arith, some, length-append front back, ap length same.first, ap length same.second, none, nothing)

pub no_exponent : (text : List ℕ) (below : Bool) (whole part rest : List ℕ) → IsDecimalCut text below whole part rest → ((down : Bool) (exponent : List ℕ) → ¬ (IsExponent rest down exponent))
    → (other : Bool) (front back : List ℕ) (down : Bool) (exponent : List ℕ) → ¬ (HasDecimalParts text other front back down exponent)
no_exponent text below whole part rest cut none other front back down exponent is =
    let same = parts_only text below whole part rest other front back down exponent cut is in
    none down exponent (subst (λ xs. IsExponent xs down exponent) (sym same.last) is.scaled)

-- ---- the exponent

written_only : (text unsigned later digits : List ℕ) (below : Bool) → IsSignCut (drop 1 text) below unsigned → IsDigitsCut unsigned digits later → 0 < length text
    → (other : Bool) (others : List ℕ) → IsExponent text other others → IsNumeral 10 others × (below ≡ other) × (digits ≡ others) × (later ≡ [])
written_only text unsigned later digits below sign cut some other others (inr (none, no_minus, empty)) = absurd (omega (arith, some, ap length none))
written_only text unsigned later digits below sign cut some other others (inl is) =
    let rest : drop 1 text ≡ is.sign ++ others = ap (drop 1) is.cut in
    let free : HasNoSign others = subst HasNoSign (append-nil others) (numeral_no_sign others [] is.numeral) in
    let first = sign_only (drop 1 text) unsigned below is.sign others other sign rest is.signed free in
    let second = digits_only unsigned digits later others [] cut (first.1 ∙ sym (append-nil others)) is.numeral.1 tt in
    (is.numeral, first.0, second.0, second.1)

pub no_written : (text unsigned later digits : List ℕ) (below : Bool) → IsSignCut (drop 1 text) below unsigned → IsDigitsCut unsigned digits later → 0 < length text → (length digits ≡ 0) ⊎ (0 < length later)
    → (other : Bool) (others : List ℕ) → ¬ (IsExponent text other others)
no_written text unsigned later digits below sign cut some (inl none) other others is =
    let same = written_only text unsigned later digits below sign cut some other others is in
    omega (arith, none, same.0.0, ap length same.2)
no_written text unsigned later digits below sign cut some (inr more) other others is =
    let same = written_only text unsigned later digits below sign cut some other others is in
    omega (arith, more, ap length same.3)

pub written : (text unsigned later digits : List ℕ) (below : Bool) → IsSignCut (drop 1 text) below unsigned → IsDigitsCut unsigned digits later → 0 < length text → IsLetterE (get_or text 0 0) → 0 < length digits → length later ≡ 0
    → IsExponent text below digits
written text unsigned later digits below sign cut some letter any none =
    let first = sign_of (drop 1 text) unsigned below sign in
    let empty : later ≡ [] = nil_from_length later none in
    let whole : unsigned ≡ digits = cut.cut ∙ ap (λ xs. digits ++ xs) empty ∙ append-nil digits in
    inl (record {
      letter = get_or text 0 0;
      sign = first.0;
      cut = first_rest text (get_or text 0 0) some refl ∙ ap (λ xs. get_or text 0 0 ∷ xs) (first.2 ∙ ap (λ xs. first.0 ++ xs) whole);
      is_e = letter;
      signed = first.1;
      numeral = (any, cut.all);
    })

-- ---- each text has one reading

pub sign_cut : (text rest sign : List ℕ) (below : Bool) → text ≡ sign ++ rest → IsWrittenSign sign below → HasNoSign rest → IsSignCut text below rest
sign_cut text rest sign true e is free = inl (e ∙ ap (λ xs. xs ++ rest) is, refl)
sign_cut text rest sign false e (inl is) free = let whole : text ≡ rest = e ∙ ap (λ xs. xs ++ rest) is in inr (inr (whole, refl, subst HasNoSign (sym whole) free))
sign_cut text rest sign false e (inr is) free = inr (inl (e ∙ ap (λ xs. xs ++ rest) is, refl))

pub cut_of : (text : List ℕ) (below : Bool) (whole part : List ℕ) (down : Bool) (exponent : List ℕ) → (is : HasDecimalParts text below whole part down exponent) → IsDecimalCut text below whole part is.scale
cut_of text below whole part down exponent is = by (pointed_cases is.pointed whole part is.scale is.number)
  where
    sign : IsSignCut text below (is.pointed ++ is.scale)
    sign = sign_cut text (is.pointed ++ is.scale) is.sign below is.cut is.signed (pointed_no_sign is.pointed whole part is.scale is.number)

    ends : HasNoDigit is.scale × HasNoPoint is.scale
    ends = scale_end is.scale down exponent is.scaled

    halves : AllDigits 10 whole × AllDigits 10 part
    halves = all_split whole part is.number.digits.1

    by : (is.pointed ++ is.scale ≡ whole ++ (point ∷ (part ++ is.scale))) ⊎ ((is.pointed ++ is.scale ≡ whole ++ is.scale) × (part ≡ [])) → IsDecimalCut text below whole part is.scale
    by (inl e) = record {
      unsigned = is.pointed ++ is.scale;
      later = point ∷ (part ++ is.scale);
      sign = sign;
      first = record { cut = e; all = halves.0; end = omega arith };
      second = inl (part ++ is.scale, refl, record { cut = refl; all = halves.1; end = ends.0 });
    }
    by (inr (e, none)) = record {
      unsigned = is.pointed ++ is.scale;
      later = is.scale;
      sign = sign;
      first = record { cut = e; all = halves.0; end = ends.0 };
      second = inr (refl, none, ends.1);
    }

exponent_one : (scale : List ℕ) (down : Bool) (exponent : List ℕ) (other : Bool) (others : List ℕ) → IsExponent scale down exponent → IsExponent scale other others → (down ≡ other) × (exponent ≡ others)
exponent_one scale down exponent other others (inr (none, no_minus, empty)) (inr (none2, no_minus2, empty2)) = (no_minus ∙ sym no_minus2, empty ∙ sym empty2)
exponent_one scale down exponent other others (inr (none, no_minus, empty)) (inl is) = absurd (let e : [] ≡ is.letter ∷ (is.sign ++ others) = sym none ∙ is.cut in cc)
exponent_one scale down exponent other others (inl is) second =
    let free : HasNoSign exponent = subst HasNoSign (append-nil exponent) (numeral_no_sign exponent [] is.numeral) in
    let sign : IsSignCut (drop 1 scale) down exponent = sign_cut (drop 1 scale) exponent is.sign down (ap (drop 1) is.cut) is.signed free in
    let same = written_only scale exponent [] exponent down sign (record { cut = sym (append-nil exponent); all = is.numeral.1; end = tt }) (omega (arith, ap length is.cut)) other others second in
    (same.1, same.2)

pub one_reading : DecimalsHaveOneReading
one_reading text n d m e first second =
    let cut = cut_of text first.below first.whole first.part first.down first.exponent first.parts in
    let same = parts_only text first.below first.whole first.part first.parts.scale second.below second.whole second.part second.down second.exponent cut second.parts in
    let scaled = exponent_one first.parts.scale first.down first.exponent second.down second.exponent first.parts.scaled (subst (λ xs. IsExponent xs second.down second.exponent) (sym same.last) second.parts.scaled) in (
      first.numer ∙ numers first.below second.below first.whole second.whole first.part second.part first.down second.down first.exponent second.exponent same.sign same.first same.second scaled.0 scaled.1 ∙ sym second.numer,
      first.denom ∙ denoms first.part second.part first.down second.down first.exponent second.exponent same.second scaled.0 scaled.1 ∙ sym second.denom,
    )
  where
    numers : (a b : Bool) (w x p q : List ℕ) (s t : Bool) (y z : List ℕ) → a ≡ b → w ≡ x → p ≡ q → s ≡ t → y ≡ z
        → with_sign a (digits_sum 10 (w ++ p) * tens_above s (digits_sum 10 y)) ≡ with_sign b (digits_sum 10 (x ++ q) * tens_above t (digits_sum 10 z))
    numers a b w x p q s t y z e f g h i = cc

    denoms : (p q : List ℕ) (s t : Bool) (y z : List ℕ) → p ≡ q → s ≡ t → y ≡ z → pos (10 ^ length p * tens_below s (digits_sum 10 y)) ≡ pos (10 ^ length q * tens_below t (digits_sum 10 z))
    denoms p q s t y z e f g = cc
