-- The lowest terms of the 100th part of a fraction.
use Rattle.std.proofs.Common.{◌≡◌, ◌≢◌, ◌∙◌, ℤ, pos, sym, ap, subst, arith}
use Rattle.std.specs.Prelude.{◌*ℤ◌}
use Rattle.std.proofs.lemmas.Int.{ints}
use Rattle.ratio_integer.specs.Arithmetic.{quotient_of}
use Rattle.ratio_integer.specs.Fraction.{IsLowestTermsOf, SameValue}
use Rattle.ratio_integer.proofs.LowestTerms.{lowest_moved}
use Rattle.ratio_integer.proofs.Whole.{mul_assoc}

-- a number that is not 0 keeps so a hundred times
hundredfold : (d : ℤ) → d ≢ pos 0 → pos 100 *ℤ d ≢ pos 0
hundredfold d some e = some (omega (arith, ints))

past : (a d : ℤ) → a *ℤ (pos 100 *ℤ d) ≡ pos 100 *ℤ (a *ℤ d)
past a d = sym (mul_assoc a (pos 100) d) ∙ ap (λ (z : ℤ). z *ℤ d) (turn a) ∙ mul_assoc (pos 100) a d
  where
    turn : (a : ℤ) → a *ℤ pos 100 ≡ pos 100 *ℤ a
    turn a = omega (arith, ints)

over_hundred : (n d a b : ℤ) → SameValue n d a b → SameValue n (pos 100 *ℤ d) a (pos 100 *ℤ b)
over_hundred n d a b same = past n b ∙ ap (λ (z : ℤ). pos 100 *ℤ z) same ∙ sym (past a d)

-- the lowest terms of the 100th part of n/d, from those of n/d
pub share_terms : (n d : ℤ) (x r : ℤ × ℤ) → IsLowestTermsOf n d x.0 x.1 → IsLowestTermsOf x.0 (pos 100 *ℤ x.1) r.0 r.1 → IsLowestTermsOf n (pos 100 *ℤ d) r.0 r.1
share_terms n d x r low part = lowest_moved x.0 (pos 100 *ℤ x.1) n (pos 100 *ℤ d) r.0 r.1 (hundredfold d low.fraction) (over_hundred n d x.0 x.1 low.same) part

-- dividing by 100 gives the 100th part
pub divided_terms : (x y r : ℤ × ℤ) → y ≡ (pos 100, pos 1) → IsLowestTermsOf (quotient_of x.0 x.1 y.0 y.1).0 (quotient_of x.0 x.1 y.0 y.1).1 r.0 r.1 → IsLowestTermsOf x.0 (pos 100 *ℤ x.1) r.0 r.1
divided_terms x y r hundred part =
    let plain : IsLowestTermsOf (x.0 *ℤ pos 1) (x.1 *ℤ pos 100) r.0 r.1 = subst (λ (z : ℤ × ℤ). IsLowestTermsOf (x.0 *ℤ z.1) (x.1 *ℤ z.0) r.0 r.1) hundred part in
    let numer : x.0 *ℤ pos 1 ≡ x.0 = omega (arith, ints) in
    let denom : x.1 *ℤ pos 100 ≡ pos 100 *ℤ x.1 = omega (arith, ints) in
    let moved : IsLowestTermsOf x.0 (x.1 *ℤ pos 100) r.0 r.1 = subst (λ (z : ℤ). IsLowestTermsOf z (x.1 *ℤ pos 100) r.0 r.1) numer plain in
    subst (λ (z : ℤ). IsLowestTermsOf x.0 z r.0 r.1) denom moved
