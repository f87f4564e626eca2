-- Reading the JSON list of two whole numbers gives these two.
use Rattle.std.proofs.Common.{◌≡◌, ◌≢◌, refl, sym, ◌∙◌, ap, subst, ℤ, pos, negsuc, Some, Result, Ok, Err, inl, inr}
use Rattle.std.specs.Prelude.{option_and_then}
use Rattle.serde_json.specs.Data.{Data, number}
use Rattle.serde_json.specs.Find.{as_integer, as_number, of_integer}
use Rattle.ratio_integer.specs.Range.{IsHeld}
use Rattle.num_rational.specs.Json.{AnswersJson, IsJsonInteger, json_pair, list_of_two}
use Rattle.num_rational.specs.declared.json.JsonRatioError.{JsonRatioError}
use Rattle.num_rational.specs.declared.json.JsonRatioError.TheVariants.{NotAPair, NotAnInteger, ZeroDenominator}

integer_back : (z : ℤ) → option_and_then as_integer (as_number (number (of_integer z))) ≡ Some z
integer_back (pos n) = refl
integer_back (negsuc n) = refl

pub is_integer : (lo hi z : ℤ) → IsHeld lo hi z → IsJsonInteger lo hi (number (of_integer z)) z
is_integer lo hi z held = record { whole = integer_back z; held = held }

only_integer : (lo hi z y : ℤ) (v : Data) → v ≡ number (of_integer z) → IsJsonInteger lo hi v y → y ≡ z
only_integer lo hi z y v is integer = let h : Some y ≡ Some z = sym integer.whole ∙ ap (λ x. option_and_then as_integer (as_number x)) is ∙ integer_back z in cc

first_of : (a b x y : Data) → list_of_two a b ≡ list_of_two x y → a ≡ x
first_of a b x y e = cc

second_of : (a b x y : Data) → list_of_two a b ≡ list_of_two x y → b ≡ y
second_of a b x y e = cc

pair_same : (p : ℤ × ℤ) (n d : ℤ) → p.0 ≡ n → p.1 ≡ d → p ≡ (n, d)
pair_same p n d first second = ap (λ x. (x, p.1)) first ∙ ap (λ y. (n, y)) second

pub pair_back : (lo hi n d : ℤ) (r : Result (ℤ × ℤ) JsonRatioError) → IsHeld lo hi n → IsHeld lo hi d → d ≢ pos 0 → AnswersJson (λ x. x.0) (λ x. x.1) lo hi (json_pair n d) r → r ≡ Ok (n, d)
pair_back lo hi n d (Ok p) n_held d_held nonzero h =
    let both = sym h.0.list in
    ap Ok (pair_same p n d (only_integer lo hi n p.0 h.0.first (first_of _ _ _ _ both) h.0.numer) (only_integer lo hi d p.1 h.0.second (second_of _ _ _ _ both) h.0.denom))
pair_back lo hi n d (Err NotAPair) n_held d_held nonzero h = absurd (h (number (of_integer n)) (number (of_integer d)) refl)
pair_back lo hi n d (Err NotAnInteger) n_held d_held nonzero h =
    let both = sym h.list in
    absurd (elim h.other [
      | inl other ↦ other n (subst (λ x. IsJsonInteger lo hi x n) (sym (first_of _ _ _ _ both)) (is_integer lo hi n n_held))
      | inr other ↦ other d (subst (λ x. IsJsonInteger lo hi x d) (sym (second_of _ _ _ _ both)) (is_integer lo hi d d_held))
    ])
pair_back lo hi n d (Err ZeroDenominator) n_held d_held nonzero h =
    let both = sym h.1.list in
    absurd (nonzero (sym (only_integer lo hi d (pos 0) h.1.second (second_of _ _ _ _ both) h.1.denom)))
