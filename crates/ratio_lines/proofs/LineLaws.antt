-- Cutting an input into lines loses nothing and adds nothing, and no line has a line end in it.
use Rattle.std.proofs.Common.{◌≡◌, ℕ, ◌<◌, List, [], ◌∷◌, ◌++◌, length, Bool, true, false, not, cond, refl, ap, ◌∙◌, sym, arith}
use Rattle.std.specs.List.{slice_split, onto_first, flat_map, list_all, list_any}
use Rattle.std.proofs.lemmas.List.Splits.{length-slice_split}
use Rattle.ratio_lines.proofs.Bytes.{same_byte}
use Rattle.ratio_lines.specs.Lines.{begun_line, front_of, is_line_end, last_of, whole_lines}

-- each part but the last one with a line end, and then the last one
abbrev rejoined : List (List ℕ) → List ℕ
rejoined parts = flat_map (λ line. line ++ 10 ∷ []) (front_of parts) ++ last_of parts

some_part : (xs : List ℕ) → 0 < length (slice_split is_line_end xs)
some_part xs = omega (arith, length-slice_split is_line_end xs)

rejoined-ended : (parts : List (List ℕ)) → 0 < length parts → rejoined ([] ∷ parts) ≡ 10 ∷ rejoined parts
rejoined-ended [] some = absurd (omega arith)
rejoined-ended (part ∷ parts) some = refl

rejoined-onto_first : (byte : ℕ) (parts : List (List ℕ)) → 0 < length parts → rejoined (onto_first byte parts) ≡ byte ∷ rejoined parts
rejoined-onto_first byte [] some = absurd (omega arith)
rejoined-onto_first byte (part ∷ []) some = refl
rejoined-onto_first byte (part ∷ next ∷ parts) some = refl

rejoined-split : (input : List ℕ) → rejoined (slice_split is_line_end input) ≡ input
rejoined-split [] = refl
rejoined-split (byte ∷ input) =
    elim (is_line_end byte)
    as (λ t. is_line_end byte ≡ t → rejoined (cond t ([] ∷ slice_split is_line_end input) (onto_first byte (slice_split is_line_end input))) ≡ byte ∷ input) [
      | true ↦ λ t. rejoined-ended (slice_split is_line_end input) (some_part input) ∙ ap (λ xs. 10 ∷ xs) (rejoined-split input) ∙ ap (λ b. b ∷ input) (sym (same_byte byte 10 t))
      | false ↦ λ t. rejoined-onto_first byte (slice_split is_line_end input) (some_part input) ∙ ap (λ xs. byte ∷ xs) (rejoined-split input)
    ] refl

-- the whole lines, each with its line end, and then the begun line, are the input
pub input_rejoined : (input : List ℕ) → flat_map (λ line. line ++ 10 ∷ []) (whole_lines input) ++ begun_line input ≡ input
input_rejoined input = rejoined-split input

-- no part has a line end in it
abbrev pub are_lines : List (List ℕ) → Bool
are_lines parts = list_all (λ line. not (list_any is_line_end line)) parts

are_lines-onto_first : (byte : ℕ) (parts : List (List ℕ)) → is_line_end byte ≡ false → are_lines (onto_first byte parts) ≡ are_lines parts
are_lines-onto_first byte [] ends = rw ends refl
are_lines-onto_first byte (part ∷ parts) ends = rw ends refl

pub lines_have_no_end : (input : List ℕ) → are_lines (slice_split is_line_end input) ≡ true
lines_have_no_end [] = refl
lines_have_no_end (byte ∷ input) =
    elim (is_line_end byte)
    as (λ t. is_line_end byte ≡ t → are_lines (cond t ([] ∷ slice_split is_line_end input) (onto_first byte (slice_split is_line_end input))) ≡ true) [
      | true ↦ λ t. lines_have_no_end input
      | false ↦ λ t. are_lines-onto_first byte (slice_split is_line_end input) t ∙ lines_have_no_end input
    ] refl
