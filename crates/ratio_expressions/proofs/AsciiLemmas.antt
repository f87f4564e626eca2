-- What a person types as a number is ASCII, and so it is UTF-8.
use Rattle.std.proofs.Common.{◌<◌, ℕ, ℤ, Bool, true, false, List, [], ◌∷◌, ◌++◌, length, sym, subst, ⊎_elim, lit<}
use Rattle.std.specs.Prelude.{IsAscii}
use Rattle.std.specs.Str.{IsUtf8}
use Rattle.std.specs.Str.Parse.{IsNumeral}
use Rattle.std.proofs.lemmas.Fmt.{IsAscii-from_digits}
use Rattle.std.proofs.lemmas.Str.{IsAscii-append, IsAscii-drop, IsAscii-take, IsUtf8-from_ascii}
use Rattle.std.proofs.lemmas.Str.Ascii.{IsAscii-cons, IsAscii-nil}
use Rattle.std.proofs.Math.Seq.{drop-append_seam, take-append_seam}
use Rattle.ratio_core.specs.Reading.{minus, plus, slash}
use Rattle.ratio_decimal.specs.Decimal.{point}
use Rattle.ratio_decimal.specs.DecimalReading.{IsDecimalText, IsExponent, IsLetterE, IsPointed, IsWrittenExponent, IsWrittenSign}
use Rattle.ratio_decimal.specs.TypedText.{HasMixedParts, HasQuotientParts, IsPlainText, IsTypedText, IsWholeText, percent_sign, space}

one_byte : (b : ℕ) (bs : List ℕ) → b < 128 → IsAscii bs → IsAscii (b ∷ bs)
one_byte b bs small rest = IsAscii-cons b bs small rest

numeral_ascii : (digits : List ℕ) → IsNumeral 10 digits → IsAscii digits
numeral_ascii digits h = IsAscii-from_digits digits h.1

sign_ascii : (sign : List ℕ) (below : Bool) → IsWrittenSign sign below → IsAscii sign
sign_ascii sign true h = subst IsAscii (sym h) (one_byte minus [] (lit< tt) IsAscii-nil)
sign_ascii sign false h = ⊎_elim (λ e. subst IsAscii (sym e) IsAscii-nil) (λ e. subst IsAscii (sym e) (one_byte plus [] (lit< tt) IsAscii-nil)) h

whole_ascii : (text : List ℕ) (below : Bool) (digits : List ℕ) → IsWholeText text below digits → IsAscii text
whole_ascii text below digits h = subst IsAscii (sym h.cut) (IsAscii-append h.sign digits (sign_ascii h.sign below h.signed) (numeral_ascii digits h.numeral))

quotient_ascii : (text : List ℕ) (below : Bool) (numer : List ℕ) (under : Bool) (denom : List ℕ) → HasQuotientParts text below numer under denom → IsAscii text
quotient_ascii text below numer under denom h =
    subst IsAscii (sym h.cut) (IsAscii-append h.front (slash ∷ h.back) (whole_ascii h.front below numer h.first) (one_byte slash h.back (lit< tt) (whole_ascii h.back under denom h.second)))

mixed_ascii : (text : List ℕ) (below : Bool) (whole numer denom : List ℕ) → HasMixedParts text below whole numer denom → IsAscii text
mixed_ascii text below whole numer denom h =
    subst IsAscii (sym h.cut)
    (IsAscii-append h.front (space ∷ (numer ++ slash ∷ denom)) (whole_ascii h.front below whole h.first)
    (one_byte space (numer ++ slash ∷ denom) (lit< tt) (IsAscii-append numer (slash ∷ denom) (numeral_ascii numer h.second) (one_byte slash denom (lit< tt) (numeral_ascii denom h.third)))))

pointed_ascii : (text whole part : List ℕ) → IsPointed text whole part → IsAscii text
pointed_ascii text whole part h =
    let all : IsAscii (whole ++ part) = numeral_ascii (whole ++ part) h.digits in
    let first : IsAscii whole = subst IsAscii (take-append_seam whole part) (IsAscii-take (whole ++ part) (length whole) all) in
    let second : IsAscii part = subst IsAscii (drop-append_seam whole part) (IsAscii-drop (whole ++ part) (length whole) all) in
    ⊎_elim
    (λ e. subst IsAscii (sym e) (IsAscii-append whole (point ∷ part) first (one_byte point part (lit< tt) second)))
    (λ p. subst IsAscii (sym p.0) first)
    h.cut

letter_small : (c : ℕ) → IsLetterE c → c < 128
letter_small c h = ⊎_elim (λ e. subst (λ b. b < 128) (sym e) (lit< tt)) (λ e. subst (λ b. b < 128) (sym e) (lit< tt)) h

exponent_ascii : (text : List ℕ) (below : Bool) (digits : List ℕ) → IsExponent text below digits → IsAscii text
exponent_ascii text below digits h =
    ⊎_elim
    (λ (w : IsWrittenExponent text below digits). subst IsAscii (sym w.cut) (one_byte w.letter (w.sign ++ digits) (letter_small w.letter w.is_e) (IsAscii-append w.sign digits (sign_ascii w.sign below w.signed) (numeral_ascii digits w.numeral))))
    (λ p. subst IsAscii (sym p.0) IsAscii-nil)
    h

decimal_ascii : (text : List ℕ) (n d : ℤ) → IsDecimalText text n d → IsAscii text
decimal_ascii text n d h =
    let p = h.parts in
    subst IsAscii (sym p.cut)
    (IsAscii-append p.sign (p.pointed ++ p.scale) (sign_ascii p.sign h.below p.signed)
    (IsAscii-append p.pointed p.scale (pointed_ascii p.pointed h.whole h.part p.number) (exponent_ascii p.scale h.down h.exponent p.scaled)))

plain_ascii : (text : List ℕ) (n d : ℤ) (numbers : List ℕ) → IsPlainText text n d numbers → IsAscii text
plain_ascii text n d numbers h = ⊎_elim (λ p. decimal_ascii text n d p.0) (λ q. quotient_ascii text q.below q.over q.under q.base q.parts) h

-- what a person types as a number is UTF-8
pub typed_utf8 : (text : List ℕ) (n d : ℤ) (numbers : List ℕ) → IsTypedText text n d numbers → IsUtf8 text
typed_utf8 text n d numbers h =
    IsUtf8-from_ascii text (
    ⊎_elim
    (λ s. plain_ascii text n s.base numbers s.plain)
    (λ r. ⊎_elim
    (λ m. mixed_ascii text m.below m.whole m.over m.base m.parts)
    (λ p. subst IsAscii (sym p.cut) (IsAscii-append p.front (percent_sign ∷ []) (plain_ascii p.front n p.value.base numbers p.value.plain) (one_byte percent_sign [] (lit< tt) IsAscii-nil)))
    r)
    h)
