-- The text of a whole part and a rest.
use Rattle.std.proofs.Common.{◌≡◌, ◌∙◌, ◌++◌, ◌∷◌, [], ◌||◌, ◌↔◌, IsTrue, ℤ, pos, ℕ, List, Bool, true, false, Result, Ok, Err, cond, refl, sym, ap}
use Rattle.std.specs.Prelude.{IfOk}
use Rattle.std.specs.Ordering.{int_eq}
use Rattle.std.proofs.lemmas.Bool.Decides.{Decides-int_eq}
use Rattle.ratio_big.proofs.LargeLemmas.{false_true}
use Rattle.ratio_big.specs.Texts.{fraction_text}
use Rattle.ratio_big.specs.Values.{absolute_pair}
use Rattle.ratio_core.specs.Rounding.{IsFractionalPart, IsTruncation}
use Rattle.ratio_expressions.specs.Forms.{IsInMixedForm, parts_text}

not_zero : (n : ℤ) (b : Bool) → IsTrue b ↔ (n ≡ pos 0) → b ≡ false → int_eq n (pos 0) ≡ false
not_zero n b says is_false = unlike (int_eq n (pos 0)) refl
  where
    unlike : (r : Bool) → int_eq n (pos 0) ≡ r → r ≡ false
    unlike true e = absurd (false_true (sym is_false ∙ says.1 ((Decides-int_eq n (pos 0)).0 e)))
    unlike false e = refl

parts_written : (x w r : ℤ × ℤ) (text : List ℕ) (none nothing : Bool) → IsTrue none ↔ (w.0 ≡ pos 0) → none ≡ false → IsTrue nothing ↔ (r.0 ≡ pos 0) → nothing ≡ false
    → w.1 ≡ pos 1 → r.1 ≡ x.1 → text ≡ fraction_text w ++ 32 ∷ [] ++ fraction_text (absolute_pair r) → text ≡ parts_text x w.0 r.0
parts_written x w r text none nothing whole_says whole_is rest_says rest_is is_one same is =
    let joined : List ℕ = fraction_text (w.0, pos 1) ++ 32 ∷ [] ++ fraction_text (absolute_pair (r.0, x.1)) in
    is
    ∙ ap (λ k. fraction_text (w.0, k) ++ 32 ∷ [] ++ fraction_text (absolute_pair r)) is_one
    ∙ ap (λ k. fraction_text (w.0, pos 1) ++ 32 ∷ [] ++ fraction_text (absolute_pair (r.0, k))) same
    ∙ sym (ap (λ b. cond (b || int_eq r.0 (pos 0)) (fraction_text x) joined) (not_zero w.0 none whole_says whole_is)
    ∙ ap (λ b. cond (false || b) (fraction_text x) joined) (not_zero r.0 nothing rest_says rest_is))

-- the text of a number in the mixed form
pub mixed_written : {V E : Type 0} (result : Result V E) (bytes : V → List ℕ) (x w r : ℤ × ℤ) (none nothing : Bool) → IsTruncation x.0 x.1 w.0 → IsFractionalPart x.0 x.1 r.0
    → IsTrue none ↔ (w.0 ≡ pos 0) → none ≡ false → IsTrue nothing ↔ (r.0 ≡ pos 0) → nothing ≡ false → w.1 ≡ pos 1 → r.1 ≡ x.1
    → IfOk result (λ v. bytes v ≡ fraction_text w ++ 32 ∷ [] ++ fraction_text (absolute_pair r)) → IfOk result (λ v. IsInMixedForm x (bytes v))
mixed_written (Ok v) bytes x w r none nothing truncation part whole_says whole_is rest_says rest_is is_one same is = record {
  whole = w.0;
  rest = r.0;
  truncation = truncation;
  part = part;
  written = parts_written x w r (bytes v) none nothing whole_says whole_is rest_says rest_is is_one same is;
}
mixed_written (Err e) bytes x w r none nothing truncation part whole_says whole_is rest_says rest_is is_one same is = tt
