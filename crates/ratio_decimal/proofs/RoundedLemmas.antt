-- A fraction rounded to a multiple of 1/m, as a whole number and a part.
use Rattle.std.specs.Prelude.{◌≡◌, ◌≢◌, ◌⊎◌, ◌≤ℤ◌, ◌<ℤ◌, ◌*ℤ◌, ◌+ℤ◌, ℤ, pos}
use Rattle.std.proofs.Common.{sym, ap, arith, ◌∙◌, inl, inr}
use Rattle.std.proofs.lemmas.Int.{ints}
use lib.IntN.{*ℤ_comm, zero-*ℤ}
use Rattle.ratio_integer.specs.Fraction.{Fits, IsHeldLowest, IsLowestTermsOf}
use Rattle.ratio_integer.specs.Range.{IsHeld, IsRange}
use Rattle.ratio_integer.proofs.DivisionLemmas.{low_below}
use Rattle.ratio_integer.proofs.LowestTerms.{numer_out}
use Rattle.ratio_integer.proofs.Whole.{add-mul, mul_assoc}
use Rattle.ratio_core.specs.Parts.{IsDivided, IsPart}
use Rattle.ratio_core.proofs.Around.{up_product}
use Rattle.ratio_core.proofs.MixedLemmas.{shifted}
use Rattle.ratio_core.proofs.PartLemmas.{part_positive, quotient_part}
use Rattle.ratio_core.proofs.ProductOrder.{more-times, times_le, whole_at_most}

-- ---- one part more

pub next_held : (lo hi p m : ℤ) → IsRange lo hi → IsHeld lo hi m → IsPart p m → IsHeld lo hi (p +ℤ pos 1)
next_held lo hi p m range held is =
    let low = low_below lo hi range in
    let a = is.above in
    let b = is.below in
    let h = held.below in
    record { above = omega (arith, ints); below = omega (arith, ints) }

pub next_carried : (w m p next zero : ℤ) → next ≡ w +ℤ pos 1 → p +ℤ pos 1 ≡ m → zero ≡ pos 0 → next *ℤ m +ℤ zero ≡ (w *ℤ m +ℤ p) +ℤ pos 1
next_carried w m p next zero next-is all none = let e : next *ℤ m ≡ w *ℤ m +ℤ m = ap (λ (z : ℤ). z *ℤ m) next-is ∙ more-times w m in omega (arith, ints)

pub next_kept : (w m p next : ℤ) → next ≡ p +ℤ pos 1 → w *ℤ m +ℤ next ≡ (w *ℤ m +ℤ p) +ℤ pos 1
next_kept w m p next next-is = omega (arith, ints)

pub next_part : (p m next : ℤ) → IsPart p m → next ≡ p +ℤ pos 1 → next ≢ m → IsPart next m
next_part p m next is next-is other =
    let a = is.above in
    let b = is.below in
    record { above = omega (arith, ints); below = less next m (omega (arith, ints)) other }
  where
    less : (a b : ℤ) → a ≤ℤ b → a ≢ b → a <ℤ b
    less a b h k = grind (arith, ints)

-- ---- the multiple below

-- n/d is whole and rest/d, and the multiples of the rest make up those of n/d
pub multiple_divided : (n d m whole rest part left : ℤ) → IsDivided n d whole rest → IsDivided (rest *ℤ m) d part left → IsDivided (n *ℤ m) d (whole *ℤ m +ℤ part) left
multiple_divided n d m whole rest part left is more =
    let all : n *ℤ m ≡ (whole *ℤ d) *ℤ m +ℤ rest *ℤ m = ap (λ (z : ℤ). z *ℤ m) is.sum ∙ add-mul (whole *ℤ d) rest m in
    let turn : (whole *ℤ d) *ℤ m ≡ (whole *ℤ m) *ℤ d = turned in
    let split : (whole *ℤ m +ℤ part) *ℤ d ≡ (whole *ℤ m) *ℤ d +ℤ part *ℤ d = add-mul (whole *ℤ m) part d in
    let e = more.sum in
    record { sum = omega (arith, ints); rest = more.rest }
  where
    turned : (whole *ℤ d) *ℤ m ≡ (whole *ℤ m) *ℤ d
    turned = mul_assoc whole d m ∙ ap (λ (z : ℤ). whole *ℤ z) (*ℤ_comm d m) ∙ sym (mul_assoc whole m d)

-- the rest has fewer parts than 1 has
pub part_of_rest : (rest d m part left : ℤ) → IsPart rest d → pos 0 <ℤ m → IsDivided (rest *ℤ m) d part left → IsPart part m
part_of_rest rest d m part left is some more = quotient_part _ _ _ _ _ more (up_product rest m is.above (omega (arith, ints))) below
  where
    below : (rest *ℤ m) <ℤ (m *ℤ d)
    below =
        let b = is.below in
        let up : ((rest +ℤ pos 1) *ℤ m) ≤ℤ (d *ℤ m) = times_le (rest +ℤ pos 1) d m (omega (arith, ints)) (omega (arith, ints)) in
        omega (arith, ints, more-times rest m, *ℤ_comm d m)

-- a rest of the multiple needs a rest of the fraction
pub rest_of_multiple : (rest d m part left : ℤ) → IsPart rest d → IsDivided (rest *ℤ m) d part left → IsPart part m → pos 0 <ℤ left → pos 0 <ℤ rest
rest_of_multiple rest d m part left is more below some = go (which rest is.above)
  where
    which : (z : ℤ) → pos 0 ≤ℤ z → (z ≡ pos 0) ⊎ (pos 0 <ℤ z)
    which z h = grind (arith, ints)

    go : (rest ≡ pos 0) ⊎ (pos 0 <ℤ rest) → pos 0 <ℤ rest
    go (inl e) =
        let none : rest *ℤ m ≡ pos 0 = ap (λ (z : ℤ). z *ℤ m) e ∙ zero-*ℤ m in
        let s = more.sum in
        let up : pos 0 ≤ℤ (part *ℤ d) = up_product part d below.above (let p = part_positive rest d is in omega (arith, ints)) in
        absurd (omega (arith, ints))
    go (inr h) = h

-- ---- lowest terms

pub lowest_part : (p m u v : ℤ) → IsPart p m → IsLowestTermsOf p m u v → IsPart u v
lowest_part p m u v is terms = record { above = low; below = omega (arith, ints, high) }
  where
    positive : pos 0 <ℤ m
    positive = part_positive p m is

    under : pos 0 <ℤ v
    under = terms.lowest.positive

    low : pos 0 ≤ℤ u
    low =
        let e = terms.same in
        let s = positive in
        let up : pos 0 ≤ℤ (p *ℤ v) = up_product p v is.above (let h = under in omega (arith, ints)) in
        whole_at_most (pos 0) u m s (omega (arith, ints, zero-*ℤ m))

    high : (u +ℤ pos 1) ≤ℤ v
    high =
        let e = terms.same in
        let s = positive in
        let b = is.below in
        let h = under in
        let up : ((p +ℤ pos 1) *ℤ v) ≤ℤ (m *ℤ v) = times_le (p +ℤ pos 1) m v (omega (arith, ints)) (omega (arith, ints)) in
        whole_at_most (u +ℤ pos 1) v m s (omega (arith, ints, more-times p v, more-times u m, *ℤ_comm m v))

-- w and the part of it
pub rounded_terms : (lo hi w p m u v : ℤ) → IsHeldLowest lo hi p m u v → IsLowestTermsOf (w *ℤ m +ℤ p) m (w *ℤ v +ℤ u) v
rounded_terms lo hi w p m u v is = shifted p m w u v is.terms

pub rounded_out : (lo hi w p m u v : ℤ) → IsHeldLowest lo hi p m u v → ¬ (IsHeld lo hi (w *ℤ v +ℤ u)) → ¬ (Fits lo hi (w *ℤ m +ℤ p) m)
rounded_out lo hi w p m u v is out = numer_out lo hi _ _ _ _ (rounded_terms lo hi w p m u v is) out

pub rounded_answer : (lo hi w p m u v n : ℤ) → IsHeldLowest lo hi p m u v → IsHeld lo hi (w *ℤ v +ℤ u) × (n ≡ w *ℤ v +ℤ u) → IsHeldLowest lo hi (w *ℤ m +ℤ p) m n v
rounded_answer lo hi w p m u v n is numer = rw numer.1 (record { terms = rounded_terms lo hi w p m u v is; numer_held = numer.0; denom_held = is.denom_held })
