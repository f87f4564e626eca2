-- Where bytes are cut.
use Rattle.std.proofs.Common.{◌≡◌, ℕ, zero, suc, ◌<◌, ◌≤◌, ◌+◌, ◌-◌, List, [], ◌∷◌, ◌++◌, length, take, drop, get_or, true, false, cond, refl, sym, ap, ◌∙◌, arith, ◌==◌, ◌||◌}
use Rattle.std.specs.List.{slice_split, onto_first, list_any}
use Rattle.std.proofs.Math.Seq.{take-length}
use Rattle.std.proofs.lemmas.List.{drop_more, take-append-drop, take_rest}
use Rattle.ratio_lines.specs.Answers.{is_space}
use Rattle.ratio_lines.specs.Cuts.{HasNone}
use Rattle.ratio_lines.proofs.Bytes.{equal_itself, same_byte}

-- no byte before the n-th has this value
pub none_before : (c : ℕ) (bytes : List ℕ) (n : ℕ) → n ≤ length bytes → ((k : ℕ) → k < n → ¬ ((get_or bytes k 0 == c) ≡ true)) → HasNone c (take n bytes)
none_before c bytes zero within none = refl
none_before c [] (suc n) within none = refl
none_before c (byte ∷ bytes) (suc n) within none =
    elim (byte == c) as (λ t. (byte == c) ≡ t → (t || list_any (λ b. b == c) (take n bytes)) ≡ false) [
      | true ↦ λ t. absurd (none 0 (omega arith) t)
      | false ↦ λ t. none_before c bytes n (omega arith) (λ k below. none (suc k) (omega arith))
    ] refl

pub none_at_all : (c : ℕ) (bytes : List ℕ) → ((k : ℕ) → k < length bytes → ¬ ((get_or bytes k 0 == c) ≡ true)) → HasNone c bytes
none_at_all c bytes none =
    let all : HasNone c (take (length bytes) bytes) = none_before c bytes (length bytes) (omega arith) none in rw take-length at all

-- the bytes before a place, the byte there, and the bytes after it
pub cut_before : (bytes : List ℕ) (at byte : ℕ) → at < length bytes → get_or bytes at 0 ≡ byte → bytes ≡ take at bytes ++ byte ∷ drop (at + 1) bytes
cut_before bytes at byte within is =
    sym (take-append-drop at bytes) ∙ ap (λ xs. take at bytes ++ xs) (drop_more bytes at 0 within ∙ ap (λ b. b ∷ drop (at + 1) bytes) is)

-- the bytes on both sides of a byte with this value
pub cut_at : (c : ℕ) (bytes : List ℕ) (at : ℕ) → at < length bytes → (get_or bytes at 0 == c) ≡ true → bytes ≡ take at bytes ++ c ∷ drop (at + 1) bytes
cut_at c bytes at within is = cut_before bytes at c within (same_byte (get_or bytes at 0) c is)

-- the same, where the second part is a slice from there on
pub cut_slice : (c : ℕ) (bytes : List ℕ) (at : ℕ) → at < length bytes → (get_or bytes at 0 == c) ≡ true
    → bytes ≡ take at bytes ++ c ∷ take (length bytes - (at + 1)) (drop (at + 1) bytes)
cut_slice c bytes at within is = cut_at c bytes at within is ∙ ap (λ rest. take at bytes ++ c ∷ rest) (sym (take_rest bytes (at + 1)))

-- a byte that equals one below 128 is below 128 too
pub small_at : (c : ℕ) (bytes : List ℕ) (at : ℕ) → c < 128 → (get_or bytes at 0 == c) ≡ true → get_or bytes at 0 < 128
small_at c bytes at small is = rw (same_byte (get_or bytes at 0) c is) small

pub first_none : (c byte : ℕ) (bytes : List ℕ) → HasNone c (byte ∷ bytes) → ((byte == c) ≡ false) × HasNone c bytes
first_none c byte bytes none =
    elim (byte == c) as (λ t. (t || list_any (λ b. b == c) bytes) ≡ false → (t ≡ false) × HasNone c bytes)
    [ true ↦ λ n. absurd (let no : true ≡ false = n in cc) | false ↦ λ n. (refl, n) ] none

pub split_uncut : (c : ℕ) (text : List ℕ) → HasNone c text → slice_split (λ b. b == c) text ≡ text ∷ []
split_uncut c [] none = refl
split_uncut c (byte ∷ text) none =
    let first = first_none c byte text none in
    ap (λ t. cond t ([] ∷ slice_split (λ b. b == c) text) (onto_first byte (slice_split (λ b. b == c) text))) first.0 ∙ ap (onto_first byte) (split_uncut c text first.1)

pub split_cut : (c : ℕ) (before after : List ℕ) → HasNone c before → slice_split (λ b. b == c) (before ++ c ∷ after) ≡ before ∷ slice_split (λ b. b == c) after
split_cut c [] after none = ap (λ t. cond t ([] ∷ slice_split (λ b. b == c) after) (onto_first c (slice_split (λ b. b == c) after))) (equal_itself c)
split_cut c (byte ∷ before) after none =
    let first = first_none c byte before none in
    ap (λ t. cond t ([] ∷ slice_split (λ b. b == c) (before ++ c ∷ after)) (onto_first byte (slice_split (λ b. b == c) (before ++ c ∷ after)))) first.0
    ∙ ap (onto_first byte) (split_cut c before after first.1)

-- ---- the parts of a line

-- a text without a space is one part
pub one_part : (text : List ℕ) → HasNone 32 text → slice_split is_space text ≡ text ∷ []
one_part text none = split_uncut 32 text none

-- the bytes before the first space are the first part
pub first_of_parts : (text part rest : List ℕ) → text ≡ part ++ 32 ∷ rest → HasNone 32 part → slice_split is_space text ≡ part ∷ slice_split is_space rest
first_of_parts text part rest cut none = ap (slice_split is_space) cut ∙ split_cut 32 part rest none
