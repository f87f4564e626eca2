-- A trailing carriage return.
use Rattle.std.proofs.Common.{◌≡◌, ℕ, List, [], ◌∷◌, ◌++◌, length, true, false, cond, Option, None, Some, refl, ap, ◌∙◌, sym, arith, ◌≢◌, Bor, ◌==◌, nat_lt, ◌≤◌}
use Rattle.std.specs.Prelude.{MatchBool, codes, unwrap_or}
use Rattle.std.specs.List.{slice_split}
use Rattle.std.specs.Str.{IsUtf8, is_utf8}
use Rattle.std.proofs.lemmas.Str.{IsUtf8-from_is_utf8, is_utf8-from_IsUtf8}
use Rattle.std.specs.Option.{MatchOption}
use Rattle.std.proofs.lemmas.Bool.Decides.{nat_tests}
use Rattle.ratio_lines.proofs.Bytes.{same_byte}
use Rattle.ratio_lines.specs.Answers.{IsAnswer, IsPartsAnswer, is_space, without_return}
use Rattle.ratio_lines.specs.Lines.{longest_line}

dropped : (front : List ℕ) → without_return (front ++ 13 ∷ []) ≡ front
dropped [] = refl
dropped (b ∷ []) = refl
dropped (b ∷ c ∷ bytes) = ap (λ xs. b ∷ xs) (dropped (c ∷ bytes))

kept : (bytes : List ℕ) → ((front : List ℕ) → bytes ≢ front ++ 13 ∷ []) → without_return bytes ≡ bytes
kept [] h = refl
kept (b ∷ []) h =
    elim (b == 13) as (λ t. (b == 13) ≡ t → cond t [] (b ∷ []) ≡ b ∷ [])
    [ true ↦ λ t. absurd (h [] (ap (λ x. x ∷ []) (same_byte b 13 t))) | false ↦ λ t. refl ] refl
kept (b ∷ c ∷ bytes) h = ap (λ xs. b ∷ xs) (kept (c ∷ bytes) (λ front e. h (b ∷ front) (ap (λ xs. b ∷ xs) e)))

-- the bytes before a carriage return at the end, or else all bytes
pub stripped : (text out : Bor (List ℕ)) (r : Option (Bor (List ℕ))) → MatchOption r ((front : List ℕ) → text.now ≢ front ++ 13 ∷ []) (λ x. text.now ≡ x.now ++ 13 ∷ [])
    → out ≡ unwrap_or r text → without_return text.now ≡ out.now
stripped text out None h e = kept text.now h ∙ ap (λ (x : Bor (List ℕ)). x.now) (sym e)
stripped text out (Some x) h e = ap without_return h ∙ dropped x.now ∙ ap (λ (x : Bor (List ℕ)). x.now) (sym e)

short : (n : ℕ) → n ≤ longest_line → nat_lt longest_line n ≡ false
short n h = grind (arith, nat_tests)

pub not_text : (line : List ℕ) → length line ≤ longest_line → ¬ (IsUtf8 line) → IsAnswer line (codes "error: not UTF-8")
not_text line small no_text =
    rw (short (length line) small)
    (elim (is_utf8 line)
    as (λ t. is_utf8 line ≡ t → MatchBool t (IsPartsAnswer (slice_split is_space (without_return line)) (codes "error: not UTF-8")) (codes "error: not UTF-8" ≡ codes "error: not UTF-8"))
    [ true ↦ λ t. absurd (no_text (IsUtf8-from_is_utf8 line t)) | false ↦ λ t. refl ] refl)

pub is_text : (line answer : List ℕ) → length line ≤ longest_line → IsUtf8 line → IsPartsAnswer (slice_split is_space (without_return line)) answer → IsAnswer line answer
is_text line answer small text parts = rw (short (length line) small, is_utf8-from_IsUtf8 line text) parts
