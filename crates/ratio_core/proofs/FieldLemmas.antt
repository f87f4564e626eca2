-- Fractions in lowest terms have the same value exactly if they have the same fields. With this a
-- crate above proves the laws of what is compared and hashed by its fields.
use Rattle.std.specs.Prelude.{◌≡◌, ◌⊎◌, ◌↔◌, ◌*ℤ◌, ℕ, ℤ, Bool, true, false, IsTrue, List, ◌++◌}
use Rattle.std.proofs.Common.{sym, ap, inl, inr, ◌∙◌}
use Rattle.std.proofs.lemmas.Bool.{both_ways, cases_Bool}
use Rattle.std.proofs.lemmas.Bool.Decides.{Decides-int_eq}
use Rattle.std.specs.Ordering.{int_eq}
use Rattle.ratio_integer.specs.Fraction.{IsLowestTerms, SameValue}
use Rattle.ratio_integer.proofs.LowestTerms.{lowest_same}

same_by_fields : (n d m e : ℤ) → n ≡ m → d ≡ e → SameValue n d m e
same_by_fields n d m e numers denoms = ap (λ t. t *ℤ e) numers ∙ ap (λ t. m *ℤ t) (sym denoms)

answer_by : (n d m e : ℤ) (answer : Bool) → IsTrue answer ↔ ((n ≡ m) × (d ≡ e)) → IsLowestTerms n d → IsLowestTerms m e
    → (int_eq (n *ℤ e) (m *ℤ d) ≡ true) ⊎ (int_eq (n *ℤ e) (m *ℤ d) ≡ false) → (answer ≡ true) ⊎ (answer ≡ false) → answer ≡ int_eq (n *ℤ e) (m *ℤ d)
answer_by n d m e answer told first second (inl is) said = told.1 (lowest_same n d m e first second ((Decides-int_eq (n *ℤ e) (m *ℤ d)).0 is)) ∙ sym is
answer_by n d m e answer told first second (inr isnt) (inl said) =
    let same = told.0 said in
    absurd (both_ways (int_eq (n *ℤ e) (m *ℤ d)) isnt ((Decides-int_eq (n *ℤ e) (m *ℤ d)).1 (same_by_fields n d m e same.0 same.1)))
answer_by n d m e answer told first second (inr isnt) (inr said) = said ∙ sym isnt

-- in lowest terms, a test for equal fields gives the same result as a test for equal cross products
pub answer_by_fields : (n d m e : ℤ) (answer : Bool) → IsTrue answer ↔ ((n ≡ m) × (d ≡ e)) → IsLowestTerms n d → IsLowestTerms m e → answer ≡ int_eq (n *ℤ e) (m *ℤ d)
answer_by_fields n d m e answer told first second = answer_by n d m e answer told first second (cases_Bool (int_eq (n *ℤ e) (m *ℤ d))) (cases_Bool answer)

-- if values in lowest terms are hashed by their two numbers, those of one value feed a hasher the same
pub same_writes_by_fields : {K : Type 0} (n d : K → ℤ) → ((x : K) → IsLowestTerms (n x) (d x)) → (write : ℤ → List (List ℕ)) (x y : K)
    → int_eq (n x *ℤ d y) (n y *ℤ d x) ≡ true → write (n x) ++ write (d x) ≡ write (n y) ++ write (d y)
same_writes_by_fields n d lowest write x y h =
    let same = lowest_same (n x) (d x) (n y) (d y) (lowest x) (lowest y) ((Decides-int_eq (n x *ℤ d y) (n y *ℤ d x)).0 h) in
    ap (λ t. write t ++ write (d x)) same.0 ∙ ap (λ t. write (n y) ++ write t) same.1
