-- Multiples, as answers say them.
use Rattle.std.specs.Prelude.{◌≡◌, ℤ, IsNone, Option, Some, None, false, option_map, true}
use Rattle.std.proofs.Common.{refl, subst}
use Rattle.ratio_decimal.specs.Products.{ChecksRoundedQuotientTo}
use Rattle.ratio_decimal.specs.RoundingRules.{ChecksRounded}
use Rattle.ratio_decimal.specs.declared.rounding_rule.Rounding.{Rounding}
use Rattle.ratio_c.specs.Crossing.{Said, Says, said_of}

-- a multiple, as the pair of its numbers
multiple_mapped : {R : Type 0} (first second : R → ℤ) (lo hi : ℤ) (rule : Rounding) (parts n d : ℤ) (r : Option R) → ChecksRounded first second lo hi rule parts n d r
    → ChecksRounded (λ (z : ℤ × ℤ). z.0) (λ (z : ℤ × ℤ). z.1) lo hi rule parts n d (option_map (λ z. (first z, second z)) r)
multiple_mapped first second lo hi rule parts n d None checks = (checks.0, checks.1, checks.2)
multiple_mapped first second lo hi rule parts n d (Some z) checks = (checks.0, checks.1, checks.2)

none_mapped : {A B : Type 0} (f : A → B) (r : Option A) → IsNone r → IsNone (option_map f r)
none_mapped f None h = refl
none_mapped f (Some z) h = absurd (let no : true ≡ false = h in cc)

-- a multiple, as an answer says it
pub rounded_said : {R : Type 0} (first second : R → ℤ) (lo hi : ℤ) (rule other : Rounding) (parts more n d : ℤ) (r : Option R) (answer : Said)
    → rule ≡ other → parts ≡ more → ChecksRounded first second lo hi rule parts n d r
    → answer ≡ said_of (option_map (λ z. (first z, second z)) r) → Says (ChecksRounded (λ (z : ℤ × ℤ). z.0) (λ (z : ℤ × ℤ). z.1) lo hi other more n d) answer
rounded_said first second lo hi rule other parts more n d r answer rules numbers told said = record {
  result = option_map (λ z. (first z, second z)) r;
  is_result = multiple_mapped first second lo hi other more n d r
      (subst (λ t. ChecksRounded first second lo hi other t n d r) numbers (subst (λ t. ChecksRounded first second lo hi t parts n d r) rules told));
  is_said = said;
}

-- a multiple of a quotient, as an answer says it
pub rounded_quotient_said : {R : Type 0} (first second : R → ℤ) (lo hi : ℤ) (rule other : Rounding) (parts more : ℤ) (x : ℤ × ℤ) (r : Option R) (answer : Said)
    → rule ≡ other → parts ≡ more → ChecksRoundedQuotientTo first second lo hi rule parts x r
    → answer ≡ said_of (option_map (λ z. (first z, second z)) r) → Says (ChecksRoundedQuotientTo (λ (z : ℤ × ℤ). z.0) (λ (z : ℤ × ℤ). z.1) lo hi other more x) answer
rounded_quotient_said {R = R} first second lo hi rule other parts more x r answer rules numbers told said =
    record {
      result = option_map pair r;
      is_result = subst (λ t. ChecksRoundedQuotientTo (λ (z : ℤ × ℤ). z.0) (λ (z : ℤ × ℤ). z.1) lo hi t more x (option_map pair r)) rules
          (subst (λ t. ChecksRoundedQuotientTo (λ (z : ℤ × ℤ). z.0) (λ (z : ℤ × ℤ). z.1) lo hi rule t x (option_map pair r)) numbers mapped);
      is_said = said;
    }
  where
    pair : R → ℤ × ℤ
    pair z = (first z, second z)

    mapped : ChecksRoundedQuotientTo (λ (z : ℤ × ℤ). z.0) (λ (z : ℤ × ℤ). z.1) lo hi rule parts x (option_map pair r)
    mapped = record {
      above = λ h. multiple_mapped first second lo hi rule parts _ _ r (told.above h);
      below = λ h. multiple_mapped first second lo hi rule parts _ _ r (told.below h);
      none = λ h. none_mapped pair r (told.none h);
    }
