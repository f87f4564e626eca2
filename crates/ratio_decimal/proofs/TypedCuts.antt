-- A typed text is cut into whole numbers in at most one way.
use Rattle.std.specs.Prelude.{◌≡◌, ◌<◌, ℕ, Bool, List, [], ◌∷◌, ◌++◌, length}
use Rattle.std.specs.Str.Parse.{IsNumeral}
use Rattle.std.proofs.Common.{refl, sym, ap, subst, arith, ◌∙◌, append-nil, append_assoc}
use Rattle.std.proofs.lemmas.List.{nil_from_length}
use Rattle.ratio_decimal.specs.DecimalCuts.{HasNoDigit, IsDigitsCut, IsSignCut}
use Rattle.ratio_core.specs.Reading.{slash}
use Rattle.ratio_decimal.specs.TypedTerms.{IsSomeDigitsCut}
use Rattle.ratio_decimal.specs.TypedText.{HasMixedParts, HasQuotientParts, IsWholeText, space}
use Rattle.ratio_decimal.proofs.DecimalTexts.{digits_only, numeral_no_sign, sign_of, sign_only}

-- ---- digits alone

pub digits_alone : (text digits rest : List ℕ) → IsDigitsCut text digits rest → length rest ≡ 0 → 0 < length digits → IsNumeral 10 text
digits_alone text digits rest cut none some =
    let whole : digits ≡ text = sym (cut.cut ∙ ap (λ xs. digits ++ xs) (nil_from_length rest none) ∙ append-nil digits) in
    subst (IsNumeral 10) whole (some, cut.all)

pub alone_digits : (text digits rest : List ℕ) → IsDigitsCut text digits rest → IsNumeral 10 text → (digits ≡ text) × (rest ≡ [])
alone_digits text digits rest cut is = digits_only text digits rest text [] cut (sym (append-nil text)) is.1 tt

numeral_digit : (ds tail : List ℕ) → IsNumeral 10 ds → HasNoDigit (ds ++ tail) → ⊥
numeral_digit [] tail is none = omega (arith, is.0)
numeral_digit (c ∷ cs) tail is none = omega (arith, is.1.0, none)

later_same : (c : ℕ) (xs ys : List ℕ) → c ∷ xs ≡ c ∷ ys → xs ≡ ys
later_same c xs ys e = cc

-- ---- a whole number in front

-- a sign and the digits after it are taken off
pub record IsWholeFront (text : List ℕ) (below : Bool) (digits rest : List ℕ) : Type 0 where
  pub unsigned : List ℕ
  pub sign : IsSignCut text below unsigned
  pub first : IsSomeDigitsCut unsigned digits rest

pub front_sign : (text unsigned : List ℕ) (below : Bool) (front tail : List ℕ) (other : Bool) (others : List ℕ) → IsSignCut text below unsigned → text ≡ front ++ tail → IsWholeText front other others
    → (below ≡ other) × (unsigned ≡ others ++ tail)
front_sign text unsigned below front tail other others cut e is =
    let whole : text ≡ is.sign ++ (others ++ tail) = e ∙ ap (λ xs. xs ++ tail) is.cut ∙ append_assoc is.sign others tail in
    sign_only text unsigned below is.sign (others ++ tail) other cut whole is.signed (numeral_no_sign others tail is.numeral)

pub front_only : (text : List ℕ) (below : Bool) (digits rest front tail : List ℕ) (other : Bool) (others : List ℕ) → IsWholeFront text below digits rest → text ≡ front ++ tail → IsWholeText front other others → HasNoDigit tail
    → (below ≡ other) × (digits ≡ others) × (rest ≡ tail)
front_only text below digits rest front tail other others cut e is end =
    let first = front_sign text cut.unsigned below front tail other others cut.sign e is in
    let second = digits_only cut.unsigned digits rest others tail cut.first.cut first.1 is.numeral.1 end in
    (first.0, second.0, second.1)

pub no_front : (text unsigned : List ℕ) (below : Bool) (front tail : List ℕ) (other : Bool) (others : List ℕ) → IsSignCut text below unsigned → HasNoDigit unsigned → text ≡ front ++ tail → ¬ (IsWholeText front other others)
no_front text unsigned below front tail other others cut none e is =
    let first = front_sign text unsigned below front tail other others cut e is in
    numeral_digit others tail is.numeral (subst HasNoDigit first.1 none)

pub front_of : (text : List ℕ) (below : Bool) (digits rest : List ℕ) → IsWholeFront text below digits rest → (front : List ℕ) × (text ≡ front ++ rest) × IsWholeText front below digits
front_of text below digits rest cut =
    let first = sign_of text cut.unsigned below cut.sign in
    (first.0 ++ digits, first.2 ∙ ap (λ xs. first.0 ++ xs) cut.first.cut.cut ∙ sym (append_assoc first.0 digits rest), record { sign = first.0; cut = refl; signed = first.1; numeral = (cut.first.some, cut.first.cut.all) })

-- a whole number alone
pub alone_only : (text denom : List ℕ) (under : Bool) (other : Bool) (others : List ℕ) → IsSignCut text under denom → IsWholeText text other others → (under ≡ other) × (denom ≡ others)
alone_only text denom under other others cut is =
    let same = front_sign text denom under text [] other others cut (sym (append-nil text)) is in
    (same.0, same.1 ∙ append-nil others)

pub alone_of : (text denom : List ℕ) (under : Bool) → IsSignCut text under denom → IsNumeral 10 denom → IsWholeText text under denom
alone_of text denom under cut is =
    let first = sign_of text denom under cut in
    record { sign = first.0; cut = first.2; signed = first.1; numeral = is }

-- ---- fractions

pub no_quotient_digits : (text unsigned : List ℕ) (below : Bool) → IsSignCut text below unsigned → HasNoDigit unsigned → (s : Bool) (ns : List ℕ) (t : Bool) (ds : List ℕ) → ¬ (HasQuotientParts text s ns t ds)
no_quotient_digits text unsigned below cut none s ns t ds is = no_front text unsigned below is.front (slash ∷ is.back) s ns cut none is.cut is.first

pub quotient_front : (text : List ℕ) (below : Bool) (numer slashed : List ℕ) (s : Bool) (ns : List ℕ) (t : Bool) (ds : List ℕ) → IsWholeFront text below numer slashed → (is : HasQuotientParts text s ns t ds)
    → (below ≡ s) × (numer ≡ ns) × (slashed ≡ slash ∷ is.back)
quotient_front text below numer slashed s ns t ds cut is = front_only text below numer slashed is.front (slash ∷ is.back) s ns cut is.cut is.first (omega arith)

pub no_quotient_slash : (text : List ℕ) (below : Bool) (numer slashed : List ℕ) → IsWholeFront text below numer slashed → ((rest : List ℕ) → ¬ (slashed ≡ slash ∷ rest))
    → (s : Bool) (ns : List ℕ) (t : Bool) (ds : List ℕ) → ¬ (HasQuotientParts text s ns t ds)
no_quotient_slash text below numer slashed cut none s ns t ds is = none is.back (quotient_front text below numer slashed s ns t ds cut is).2

-- what the two ways have in common
pub record AreSameQuotient (below : Bool) (numer : List ℕ) (under : Bool) (denom : List ℕ) (s : Bool) (ns : List ℕ) (t : Bool) (ds : List ℕ) : Type 0 where
  pub sign : below ≡ s
  pub first : numer ≡ ns
  pub other : under ≡ t
  pub second : denom ≡ ds
  pub numeral : IsNumeral 10 ds

pub quotient_only : (text : List ℕ) (below : Bool) (numer slashed back : List ℕ) (under : Bool) (denom : List ℕ) → IsWholeFront text below numer slashed → slashed ≡ slash ∷ back → IsSignCut back under denom
    → (s : Bool) (ns : List ℕ) (t : Bool) (ds : List ℕ) → HasQuotientParts text s ns t ds → AreSameQuotient below numer under denom s ns t ds
quotient_only text below numer slashed back under denom cut e signed s ns t ds is =
    let first = quotient_front text below numer slashed s ns t ds cut is in
    let same : back ≡ is.back = later_same slash back is.back (sym e ∙ first.2) in
    let second = alone_only is.back denom under t ds (subst (λ xs. IsSignCut xs under denom) same signed) is.second in
    record { sign = first.0; first = first.1; other = second.0; second = second.1; numeral = is.second.numeral }

pub no_quotient_denom : (text : List ℕ) (below : Bool) (numer slashed back : List ℕ) (under : Bool) (denom : List ℕ) → IsWholeFront text below numer slashed → slashed ≡ slash ∷ back → IsSignCut back under denom → ¬ (IsNumeral 10 denom)
    → (s : Bool) (ns : List ℕ) (t : Bool) (ds : List ℕ) → ¬ (HasQuotientParts text s ns t ds)
no_quotient_denom text below numer slashed back under denom cut e signed none s ns t ds is =
    let same = quotient_only text below numer slashed back under denom cut e signed s ns t ds is in
    none (subst (IsNumeral 10) (sym same.second) same.numeral)

pub quotient_of : (text : List ℕ) (below : Bool) (numer slashed back : List ℕ) (under : Bool) (denom : List ℕ) → IsWholeFront text below numer slashed → slashed ≡ slash ∷ back → IsSignCut back under denom → IsNumeral 10 denom
    → HasQuotientParts text below numer under denom
quotient_of text below numer slashed back under denom cut e signed is =
    let first = front_of text below numer slashed cut in
    record { front = first.0; back = back; cut = first.1 ∙ ap (λ xs. first.0 ++ xs) e; first = first.2; second = alone_of back denom under signed is }

-- ---- mixed numbers

pub no_mixed_digits : (text unsigned : List ℕ) (below : Bool) → IsSignCut text below unsigned → HasNoDigit unsigned → (s : Bool) (ws ns ds : List ℕ) → ¬ (HasMixedParts text s ws ns ds)
no_mixed_digits text unsigned below cut none s ws ns ds is = no_front text unsigned below is.front (space ∷ (ns ++ slash ∷ ds)) s ws cut none is.cut is.first

pub mixed_front : (text : List ℕ) (below : Bool) (whole spaced : List ℕ) (s : Bool) (ws ns ds : List ℕ) → IsWholeFront text below whole spaced → HasMixedParts text s ws ns ds
    → (below ≡ s) × (whole ≡ ws) × (spaced ≡ space ∷ (ns ++ slash ∷ ds))
mixed_front text below whole spaced s ws ns ds cut is = front_only text below whole spaced is.front (space ∷ (ns ++ slash ∷ ds)) s ws cut is.cut is.first (omega arith)

pub no_mixed_space : (text : List ℕ) (below : Bool) (whole spaced : List ℕ) → IsWholeFront text below whole spaced → ((rest : List ℕ) → ¬ (spaced ≡ space ∷ rest)) → (s : Bool) (ws ns ds : List ℕ) → ¬ (HasMixedParts text s ws ns ds)
no_mixed_space text below whole spaced cut none s ws ns ds is = none (ns ++ slash ∷ ds) (mixed_front text below whole spaced s ws ns ds cut is).2

-- the whole number and the space are taken off
pub record IsMixedFront (text : List ℕ) (below : Bool) (whole fraction : List ℕ) : Type 0 where
  pub spaced : List ℕ
  pub front : IsWholeFront text below whole spaced
  pub after : spaced ≡ space ∷ fraction

pub fraction_only : (text : List ℕ) (below : Bool) (whole fraction : List ℕ) (s : Bool) (ws ns ds : List ℕ) → IsMixedFront text below whole fraction → HasMixedParts text s ws ns ds → fraction ≡ ns ++ slash ∷ ds
fraction_only text below whole fraction s ws ns ds cut is = later_same space fraction (ns ++ slash ∷ ds) (sym cut.after ∙ (mixed_front text below whole cut.spaced s ws ns ds cut.front is).2)

pub no_mixed_numer : (text : List ℕ) (below : Bool) (whole fraction : List ℕ) → IsMixedFront text below whole fraction → HasNoDigit fraction → (s : Bool) (ws ns ds : List ℕ) → ¬ (HasMixedParts text s ws ns ds)
no_mixed_numer text below whole fraction cut none s ws ns ds is = numeral_digit ns (slash ∷ ds) is.second (subst HasNoDigit (fraction_only text below whole fraction s ws ns ds cut is) none)

pub mixed_slashed : (text : List ℕ) (below : Bool) (whole fraction numer slashed : List ℕ) (s : Bool) (ws ns ds : List ℕ) → IsMixedFront text below whole fraction → IsSomeDigitsCut fraction numer slashed → HasMixedParts text s ws ns ds
    → (numer ≡ ns) × (slashed ≡ slash ∷ ds)
mixed_slashed text below whole fraction numer slashed s ws ns ds cut digits is =
    digits_only fraction numer slashed ns (slash ∷ ds) digits.cut (fraction_only text below whole fraction s ws ns ds cut is) is.second.1 (omega arith)

pub no_mixed_slash : (text : List ℕ) (below : Bool) (whole fraction numer slashed : List ℕ) → IsMixedFront text below whole fraction → IsSomeDigitsCut fraction numer slashed → ((rest : List ℕ) → ¬ (slashed ≡ slash ∷ rest))
    → (s : Bool) (ws ns ds : List ℕ) → ¬ (HasMixedParts text s ws ns ds)
no_mixed_slash text below whole fraction numer slashed cut digits none s ws ns ds is = none ds (mixed_slashed text below whole fraction numer slashed s ws ns ds cut digits is).1

pub record AreSameMixed (below : Bool) (whole numer denom : List ℕ) (s : Bool) (ws ns ds : List ℕ) : Type 0 where
  pub sign : below ≡ s
  pub first : whole ≡ ws
  pub second : numer ≡ ns
  pub third : denom ≡ ds
  pub numeral : IsNumeral 10 ds

pub mixed_only : (text : List ℕ) (below : Bool) (whole fraction numer slashed denom : List ℕ) → IsMixedFront text below whole fraction → IsSomeDigitsCut fraction numer slashed → slashed ≡ slash ∷ denom
    → (s : Bool) (ws ns ds : List ℕ) → HasMixedParts text s ws ns ds → AreSameMixed below whole numer denom s ws ns ds
mixed_only text below whole fraction numer slashed denom cut digits e s ws ns ds is =
    let first = mixed_front text below whole cut.spaced s ws ns ds cut.front is in
    let second = mixed_slashed text below whole fraction numer slashed s ws ns ds cut digits is in
    record { sign = first.0; first = first.1; second = second.0; third = later_same slash denom ds (sym e ∙ second.1); numeral = is.third }

pub no_mixed_denom : (text : List ℕ) (below : Bool) (whole fraction numer slashed denom : List ℕ) → IsMixedFront text below whole fraction → IsSomeDigitsCut fraction numer slashed → slashed ≡ slash ∷ denom → ¬ (IsNumeral 10 denom)
    → (s : Bool) (ws ns ds : List ℕ) → ¬ (HasMixedParts text s ws ns ds)
no_mixed_denom text below whole fraction numer slashed denom cut digits e none s ws ns ds is =
    let same = mixed_only text below whole fraction numer slashed denom cut digits e s ws ns ds is in
    none (subst (IsNumeral 10) (sym same.third) same.numeral)

pub mixed_of : (text : List ℕ) (below : Bool) (whole fraction numer slashed denom : List ℕ) → IsMixedFront text below whole fraction → IsSomeDigitsCut fraction numer slashed → slashed ≡ slash ∷ denom → IsNumeral 10 denom
    → HasMixedParts text below whole numer denom
mixed_of text below whole fraction numer slashed denom cut digits e is =
    let first = front_of text below whole cut.spaced cut.front in
    record {
      front = first.0;
      cut = first.1 ∙ ap (λ xs. first.0 ++ xs) (cut.after ∙ ap (λ xs. space ∷ xs) (digits.cut.cut ∙ ap (λ xs. numer ++ xs) e));
      first = first.2;
      second = (digits.some, digits.cut.all);
      third = is;
    }
