-- A line of graphic characters with two spaces among them.
use Rattle.std.proofs.Common.{◌≡◌, ◌-◌, get_or, take, drop, not, suc, None, length-drop, ℕ, ◌<◌, ◌≤◌, ◌+◌, List, [], ◌∷◌, ◌++◌, length, Bool, true, false, ◌==◌, ◌&&◌, ◌||◌, refl, ap, ◌∙◌, sym, arith, append_assoc, length-append, cond, Option, Some}
use Rattle.std.specs.Prelude.{option_and_then, option_map}
use Rattle.std.specs.Char.{is_ascii_graphic}
use Rattle.std.specs.List.{list_all, list_any, slice_split, All}
use Rattle.std.specs.Str.{IsUtf8}
use Rattle.std.proofs.lemmas.Bool.Decides.{nat_tests}
use Rattle.std.proofs.lemmas.List.Folds.{list_all-append, list_all_more}
use Rattle.std.proofs.lemmas.List.Sums.{AllPass-from_list_all}
use Rattle.std.proofs.lemmas.List.{drop-drop, drop_more, get_or-drop, take-append-drop}
use Rattle.std.proofs.lemmas.Str.{IsUtf8-from_ascii}
use Rattle.std.proofs.lemmas.Str.Ascii.{IsAscii-from_all}
use Rattle.ratio_lines.specs.Answers.{IsAnswer, IsPartsAnswer, IsTextsAnswer, has_byte, is_chain, is_space, operators_of, without_return}
use Rattle.ratio_lines.specs.Cuts.{HasNone}
use Rattle.ratio_lines.specs.PlainLine.{BeginsPlain, IsFirstAnswer, EndsPart, IsGraphic}
use Rattle.ratio_lines.specs.Operands.{operator_of}
use Rattle.ratio_lines.specs.declared.operator.Operator.{Operator}
use Rattle.ratio_lines.specs.Lines.{longest_line}
use Rattle.ratio_lines.proofs.Bytes.{same_byte}
use Rattle.ratio_lines.proofs.Cuts.{first_none, first_of_parts, one_part}
use Rattle.ratio_lines.proofs.OperatorsSoFar.{chain_of}
use Rattle.ratio_lines.proofs.Pieces.{answer_kept}
use Rattle.ratio_lines.proofs.Returns.{is_text}

some_byte : (n : ℕ) → not (suc n == 0) ≡ true
some_byte n = grind (arith, nat_tests)

-- the bytes of a plain line before its line end
abbrev is_plain : ℕ → Bool
is_plain byte = is_ascii_graphic byte || (byte == 32)

both : (s t : Bool) → (s && t) ≡ true → (s ≡ true) × (t ≡ true)
both true true h = (refl, refl)
both true false h = absurd (let no : false ≡ true = h in cc)
both false t h = absurd (let no : false ≡ true = h in cc)

-- if each byte that passes one test passes the other, so does each text
all_pass : (p q : ℕ → Bool) → ((byte : ℕ) → p byte ≡ true → q byte ≡ true) → (text : List ℕ) → list_all p text ≡ true → list_all q text ≡ true
all_pass p q each [] h = refl
all_pass p q each (byte ∷ text) h =
    let parts = both (p byte) (list_all p text) h in
    ap (λ t. t && list_all q text) (each byte parts.0) ∙ all_pass p q each text parts.1

-- a byte that fails the test is not in a text that passes it
pub none_passes : (p : ℕ → Bool) (c : ℕ) → p c ≡ false → (text : List ℕ) → list_all p text ≡ true → HasNone c text
none_passes p c fails [] h = refl
none_passes p c fails (byte ∷ text) h =
    let parts = both (p byte) (list_all p text) h in
    elim (byte == c) as (λ t. (byte == c) ≡ t → (t || list_any (λ b. b == c) text) ≡ false) [
      | true ↦ λ t. absurd (let here : p byte ≡ p c = ap p (same_byte byte c t) in let first = parts.0 in cc)
      | false ↦ λ t. none_passes p c fails text parts.1
    ] refl

small : (byte : ℕ) → is_ascii_graphic byte ≡ true → byte < 128
small byte h = grind (arith, nat_tests)

plain_small : (byte : ℕ) → is_plain byte ≡ true → byte < 128
plain_small byte h = grind (arith, nat_tests)

graphic_plain : (byte : ℕ) → is_ascii_graphic byte ≡ true → is_plain byte ≡ true
graphic_plain byte h = ap (λ t. t || (byte == 32)) h

all_below : (p : ℕ → Bool) → ((byte : ℕ) → p byte ≡ true → byte < 128) → (text : List ℕ) → list_all p text ≡ true → All (λ byte. byte < 128) text
all_below p each text h = λ k d within. each (get_or text k d) (AllPass-from_list_all p text h k d within)

pub graphic_text : (text : List ℕ) → IsGraphic text → IsUtf8 text
graphic_text text h = IsUtf8-from_ascii text (IsAscii-from_all text (all_below is_ascii_graphic small text h))

-- no graphic byte yet
pub graphic_start : (bytes : List ℕ) (from : ℕ) → IsGraphic (take (from - from) (drop from bytes))
graphic_start bytes from = let none : from - from ≡ 0 = omega arith in rw none refl

-- one more graphic byte
pub graphic_more : (bytes : List ℕ) (from end : ℕ) → from ≤ end → end < length bytes → IsGraphic (take (end - from) (drop from bytes)) → is_ascii_graphic (get_or bytes end 0) ≡ true
    → IsGraphic (take (end + 1 - from) (drop from bytes))
graphic_more bytes from end after within h next =
    let here : from + (end - from) ≡ end = omega arith in
    let room : end - from < length (drop from bytes) = omega (arith, length-drop from bytes) in
    let one : end + 1 - from ≡ end - from + 1 = omega arith in
    let byte : get_or (drop from bytes) (end - from) 0 ≡ get_or bytes end 0 = get_or-drop from bytes (end - from) 0 ∙ ap (λ n. get_or bytes n 0) here in
    rw one
    (list_all_more is_ascii_graphic (drop from bytes) (end - from) 0 room ∙ ap (λ t. t && is_ascii_graphic (get_or (drop from bytes) (end - from) 0)) h
    ∙ ap is_ascii_graphic byte ∙ next)

-- text without a carriage return
pub no_return : (text : List ℕ) → HasNone 13 text → without_return text ≡ text
no_return [] none = refl
no_return (byte ∷ []) none = ap (λ t. cond t [] (byte ∷ [])) (first_none 13 byte [] none).0
no_return (byte ∷ next ∷ text) none = ap (λ bytes. byte ∷ bytes) (no_return (next ∷ text) (first_none 13 byte (next ∷ text) none).1)

-- the bytes of a plain line are graphic or spaces
plain_bytes : (left operator right : List ℕ) → IsGraphic left → IsGraphic operator → IsGraphic right → list_all is_plain (left ++ 32 ∷ (operator ++ 32 ∷ right)) ≡ true
plain_bytes left operator right p q r =
    let plain : (text : List ℕ) → IsGraphic text → list_all is_plain text ≡ true = all_pass is_ascii_graphic is_plain graphic_plain in
    list_all-append is_plain left (32 ∷ (operator ++ 32 ∷ right)) ∙ ap (λ t. t && list_all is_plain (operator ++ 32 ∷ right)) (plain left p)
    ∙ list_all-append is_plain operator (32 ∷ right) ∙ ap (λ t. t && list_all is_plain right) (plain operator q) ∙ plain right r

parts_of_plain : (left operator right : List ℕ) → IsGraphic left → IsGraphic operator → IsGraphic right
    → slice_split is_space (left ++ 32 ∷ (operator ++ 32 ∷ right)) ≡ left ∷ operator ∷ right ∷ []
parts_of_plain left operator right p q r =
    first_of_parts _ left (operator ++ 32 ∷ right) refl (none_passes is_ascii_graphic 32 refl left p)
    ∙ ap (λ parts. left ∷ parts) (first_of_parts _ operator right refl (none_passes is_ascii_graphic 32 refl operator q))
    ∙ ap (λ parts. left ∷ operator ∷ parts) (one_part right (none_passes is_ascii_graphic 32 refl right r))

plain_length : (left operator right : List ℕ) → length (left ++ 32 ∷ (operator ++ 32 ∷ right)) ≡ length left + length operator + length right + 2
plain_length left operator right = omega (arith, length-append left (32 ∷ (operator ++ 32 ∷ right)), length-append operator (32 ∷ right))

plain_split : (left operator right after : List ℕ) → left ++ 32 ∷ (operator ++ 32 ∷ (right ++ 10 ∷ after)) ≡ (left ++ 32 ∷ (operator ++ 32 ∷ right)) ++ 10 ∷ after
plain_split left operator right after =
    ap (λ xs. left ++ 32 ∷ xs) (sym (append_assoc operator (32 ∷ right) (10 ∷ after))) ∙ sym (append_assoc left (32 ∷ (operator ++ 32 ∷ right)) (10 ∷ after))

named_some : (name : List ℕ) (operator : Operator) → operator_of name ≡ Some operator → has_byte name ≡ true
named_some [] operator named = absurd (let no : operator_of [] ≡ None = refl in cc)
named_some (byte ∷ name) operator named = some_byte (length name)

-- three parts are a chain of one operator
chained : (left name right answer : List ℕ) (operator : Operator) → operator_of name ≡ Some operator → has_byte left ≡ true → has_byte right ≡ true
    → IsTextsAnswer (operator ∷ []) left (right ∷ []) answer → IsPartsAnswer (left ∷ name ∷ right ∷ []) answer
chained left name right answer operator named left_some right_some h =
    let is : is_chain (left ∷ name ∷ right ∷ []) ≡ true =
    chain_of left name right [] ∙ ap (λ t. t && (has_byte name && (has_byte right && true))) left_some
    ∙ ap (λ t. t && (has_byte right && true)) (named_some name operator named) ∙ ap (λ t. t && true) right_some in
    let operators : operators_of (name ∷ []) ≡ Some (operator ∷ []) = ap (option_and_then (λ first. option_map (λ others. first ∷ others) (Some []))) named in
    rw (is, operators) h

-- the answer to the operator and the operands of a plain line is the answer to the line
pub plain_answered : (bytes left : List ℕ) (operator : Operator) (right after answer : List ℕ) → BeginsPlain bytes left operator right after
    → IsTextsAnswer (operator ∷ []) left (right ∷ []) answer → IsFirstAnswer (Some []) bytes after answer
plain_answered bytes left operator right after answer p h =
    let line = left ++ 32 ∷ (p.name ++ 32 ∷ right) in
    let plain = plain_bytes left p.name right p.left_graphic p.name_graphic p.right_graphic in
    let text : IsUtf8 line = IsUtf8-from_ascii line (IsAscii-from_all line (all_below is_plain plain_small line plain)) in
    let same : slice_split is_space (without_return line) ≡ left ∷ p.name ∷ right ∷ [] =
    ap (slice_split is_space) (no_return line (none_passes is_plain 13 refl line plain))
    ∙ parts_of_plain left p.name right p.left_graphic p.name_graphic p.right_graphic in
    let short : length line ≤ longest_line = omega (arith, p.short, plain_length left p.name right) in
    record {
      ended = line;
      none = none_passes is_plain 10 refl line plain;
      split = p.split ∙ plain_split left p.name right after;
      answers = answer_kept line answer (is_text line answer short text (rw same (chained left p.name right answer operator p.named p.left_some p.right_some h)));
    }

-- ---- where the parts of a plain line end

part_split : (bytes : List ℕ) (from byte end : ℕ) → from ≤ end → end < length bytes → get_or bytes end 0 ≡ byte
    → drop from bytes ≡ take (end - from) (drop from bytes) ++ byte ∷ drop (end + 1) bytes
part_split bytes from byte end after within is =
    let same : from + (end - from) ≡ end = omega arith in
    let back : drop (end - from) (drop from bytes) ≡ byte ∷ drop (end + 1) bytes =
    drop-drop (end - from) from bytes ∙ ap (λ n. drop n bytes) same ∙ drop_more bytes end 0 within ∙ ap (λ b. b ∷ drop (end + 1) bytes) is in
    sym (take-append-drop (end - from) (drop from bytes)) ∙ ap (λ xs. take (end - from) (drop from bytes) ++ xs) back

-- a part that ends at a byte
pub part_ends : (bytes : List ℕ) (from byte end : ℕ) → from ≤ end → end < length bytes → IsGraphic (take (end - from) (drop from bytes)) → get_or bytes end 0 ≡ byte
    → EndsPart bytes from byte end
part_ends bytes from byte end after within graphic is = record {
  after = after;
  within = within;
  graphic = graphic;
  split = part_split bytes from byte end after within is;
}

-- the answer to the line before the first line end
pub line_answered : (bytes line after answer : List ℕ) → HasNone 10 line → bytes ≡ line ++ 10 ∷ after → IsAnswer line answer → IsFirstAnswer (Some []) bytes after answer
line_answered bytes line after answer none split h = record { ended = line; none = none; split = split; answers = answer_kept line answer h }

-- an empty line stays empty, whether a line ended or not
pub empty_either_way : (ended : Bool) (line : Option (List ℕ)) → line ≡ Some [] → line ≡ cond ended (Some []) line
empty_either_way true line empty = empty
empty_either_way false line empty = refl
