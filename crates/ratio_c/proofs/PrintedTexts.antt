-- The texts that were written so far, and their places.
use Rattle.std.proofs.Common.{◌≡◌, refl, sym, ◌∙◌, ap, subst, inl, inr, arith, ℕ, suc, ◌+◌, ◌-◌, ◌*◌, ◌<◌, ◌≤◌, List, [], ◌∷◌, ◌++◌, append-nil, append_assoc, length, length-append, max, take, drop, get_or, set, pos, negsuc, ◌^◌, eq-zero-or-pos}
use Rattle.std.specs.List.{concat}
use Rattle.std.proofs.lemmas.List.{drop-drop, drop_at, get_or_append_left, get_or_at, get_or_default, get_or-set_other, get_or-set_same, take-append-drop, take-append-le, take_at}
use Rattle.std.proofs.lemmas.List.Folds.{concat-append}
use Rattle.std.proofs.Math.Nat.{max-le, suc-mul}
use Rattle.std.specs.Fmt.{decimal, signed_decimal}
use Rattle.std.proofs.lemmas.Fmt.{length-decimal-le_wide}
use Rattle.ratio_core.specs.Printing.{base_ten_room}
use Rattle.ratio_c.specs.Codes.{code_answered}
use Rattle.ratio_c.specs.Texts.{ArePrinted, IsTextPut, IsTextAnswer, decimal_longest}
use Rattle.ratio_c.specs.declared.printing.Text.{Text}

-- ---- the texts of the first n items

module _ {A : Type 0} (Shows : A → ℕ → List ℕ → Type 0) (room : ℕ) (asked : List A) (old : List ℕ) where
  pub record ArePrintedTo (new : List ℕ) (answers : List Text) (n at : ℕ) : Type 0 where
    pub texts : List (List ℕ)
    pub many : length texts ≡ n
    pub counted : at ≡ length (concat texts)
    pub roomy : at ≤ n * room
    pub written : new ≡ concat texts ++ drop at old
    pub each : (k : ℕ) → k < n → (d : A) (e : Text) → IsTextAnswer (Shows (get_or asked k d)) (length (concat (take k texts))) (get_or texts k []) (get_or answers k e)

  pub none_printed : (answers : List Text) → ArePrintedTo old answers 0 0
  none_printed answers = record { texts = []; many = refl; counted = refl; roomy = omega arith; written = refl; each = λ k within d e. absurd (omega arith) }

  one_text_more : (texts : List (List ℕ)) (bytes : List ℕ) → concat (texts ++ bytes ∷ []) ≡ concat texts ++ bytes
  one_text_more texts bytes = concat-append texts (bytes ∷ []) ∙ ap (λ xs. concat texts ++ xs) (append-nil bytes)

  pub printed_next : (mid new : List ℕ) (answers : List Text) (longest n at : ℕ) (x : A) (text : Text) → ArePrintedTo mid answers n at → n < length asked → n < length answers
      → x ≡ get_or asked n x → IsTextPut (Shows x) longest at mid new text → longest ≤ room → ArePrintedTo new (set answers n text) (n + 1) text.span.end
  printed_next mid new answers longest n at x text so_far inside place here put fits =
      let texts = so_far.texts in
      let bytes = put.text in
      let front : take at mid ≡ concat texts = ap (take at) so_far.written ∙ take_at (concat texts) (drop at old) at (sym so_far.counted) in
      let back : drop text.span.end mid ≡ drop text.span.end old =
      ap (λ k. drop k mid) (put.is.end ∙ omega arith) ∙ sym (drop-drop (length bytes) at mid) ∙ ap (λ xs. drop (length bytes) (drop at xs)) so_far.written
      ∙ ap (drop (length bytes)) (drop_at (concat texts) (drop at old) at (sym so_far.counted)) ∙ drop-drop (length bytes) at old ∙ ap (λ k. drop k old) (omega arith ∙ sym put.is.end) in
      let next : n + 1 ≡ suc n = omega arith in
      record {
        texts = texts ++ bytes ∷ [];
        many = length-append texts (bytes ∷ []) ∙ ap (λ k. k + 1) so_far.many;
        counted = put.is.end ∙ ap (λ k. k + length bytes) so_far.counted ∙ sym (length-append (concat texts) bytes) ∙ ap length (sym (one_text_more texts bytes));
        roomy = omega (arith, so_far.roomy, put.is.end, put.short, fits, suc-mul n room, ap (λ k. k * room) next);
        written = put.written ∙ ap (λ xs. xs ++ (bytes ++ drop text.span.end mid)) front ∙ ap (λ xs. concat texts ++ (bytes ++ xs)) back
            ∙ sym (append_assoc (concat texts) bytes (drop text.span.end old)) ∙ ap (λ xs. xs ++ drop text.span.end old) (sym (one_text_more texts bytes));
        each = λ k within d e.
            elim (eq-zero-or-pos (n - k)) [
              | inl last ↦ let same : k ≡ n = omega (arith, last, within) in
                  rw (same, get_or_default asked n d x inside ∙ sym here, get_or-set_same answers n text e place, get_or_at texts bytes [] [] n so_far.many, take_at texts (bytes ∷ []) n so_far.many, sym so_far.counted) put.is
              | inr before ↦ let earlier : k < n = omega (arith, before) in
                  let short : k < length texts = omega (arith, earlier, so_far.many) in
                  let few : k ≤ length texts = omega (arith, short) in
                  rw (get_or-set_other answers n k text e (λ same. omega (arith, before, same)), get_or_append_left texts (bytes ∷ []) [] k short, take-append-le k texts (bytes ∷ []) few) (so_far.each k earlier d e)
            ];
      }

  pub all_printed : (new : List ℕ) (answers : List Text) (n at : ℕ) → ArePrintedTo new answers n at → n ≡ length asked → length asked ≡ length answers → ArePrinted Shows asked old new answers
  all_printed new answers n at done all same = record {
    texts = done.texts;
    written = done.written ∙ ap (λ k. concat done.texts ++ drop k old) done.counted;
    as_many = (done.many ∙ all, same);
    each = λ k within. done.each k (omega (arith, all, within));
  }

-- ---- one text

-- the bytes of a text are written
pub text_put : (Shows : ℕ → List ℕ → Type 0) (longest at : ℕ) (old new bytes : List ℕ) (answer : Text) → Shows code_answered bytes → length bytes ≤ longest
    → answer.code ≡ code_answered → answer.span.start ≡ at → answer.span.end ≡ at + length bytes → new ≡ take at old ++ (bytes ++ drop answer.span.end old) → IsTextPut Shows longest at old new answer
text_put Shows longest at old new bytes answer shows short code start end written =
    record { text = bytes; is = record { shows = subst (λ k. Shows k bytes) (sym code) shows; start = start; end = end }; short = short; written = written }

-- there is no text, and nothing is written
pub nothing_put : (Shows : ℕ → List ℕ → Type 0) (longest at code : ℕ) (old : List ℕ) (answer : Text) → Shows code [] → answer.code ≡ code → answer.span.start ≡ at → answer.span.end ≡ at
    → IsTextPut Shows longest at old old answer
nothing_put Shows longest at code old answer shows same start end = record {
  text = [];
  is = record { shows = subst (λ k. Shows k []) (sym same) shows; start = start; end = end ∙ omega arith };
  short = omega arith;
  written = sym (take-append-drop at old) ∙ ap (λ k. take at old ++ drop k old) (sym end);
}

-- ---- how much room the texts of a type take

longer_within : (digits lower upper : ℕ) → 0 < digits → suc lower < 10 ^ digits → upper < 10 ^ digits → suc lower < 10 ^ 64 → upper < 10 ^ 64
    → max (length (signed_decimal (negsuc lower))) (length (signed_decimal (pos upper))) ≤ digits + 1
longer_within digits lower upper some low high low_wide high_wide =
    max-le {a = suc (length (decimal (suc lower)))} {b = length (decimal upper)} {k = digits + 1} (omega (arith, length-decimal-le_wide digits (suc lower) some low low_wide)) (omega (arith, length-decimal-le_wide digits upper some high high_wide))

pub room_within : {room : ℕ} (digits lower upper : ℕ) → 0 < digits → suc lower < 10 ^ digits → upper < 10 ^ digits → suc lower < 10 ^ 64 → upper < 10 ^ 64 → 2 * digits + 3 ≤ room → base_ten_room (negsuc lower) (pos upper) ≤ room
room_within digits lower upper some low high low_wide high_wide room = omega (arith, room, longer_within digits lower upper some low high low_wide high_wide)

pub decimal_room_within : {room : ℕ} (digits lower upper : ℕ) → 0 < digits → suc lower < 10 ^ digits → upper < 10 ^ digits → suc lower < 10 ^ 64 → upper < 10 ^ 64 → digits + 40 ≤ room → decimal_longest (negsuc lower) (pos upper) ≤ room
decimal_room_within digits lower upper some low high low_wide high_wide room = omega (arith, room, longer_within digits lower upper some low high low_wide high_wide)
