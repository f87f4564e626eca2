-- Whole numbers and parts of 1: one fraction made of both, and the sum of two fractions.
use Rattle.std.specs.Prelude.{◌≡◌, ◌⊎◌, ◌≤ℤ◌, ◌<ℤ◌, ◌+ℤ◌, ◌-ℤ◌, ◌*ℤ◌, ℤ, Bool, true, false, pos, neg_ℤ}
use Rattle.std.proofs.Common.{refl, sym, ap, subst, inl, inr, arith, ◌∙◌}
use Rattle.std.proofs.lemmas.Int.{ints}
use lib.IntN.{*ℤ_comm}
use Rattle.ratio_integer.specs.Fraction.{Fits, IsHeldLowest, IsLowestTerms, IsLowestTermsOf}
use Rattle.ratio_integer.specs.Range.{IsHeld, IsRange}
use Rattle.ratio_integer.proofs.CommonDivisors.{divides_multiple, multiple_divides}
use Rattle.ratio_integer.proofs.DivisionLemmas.{low_below}
use Rattle.ratio_integer.proofs.LowestTerms.{numer_out}
use Rattle.ratio_integer.proofs.Whole.{add-mul, mul_assoc, mul_positive, mul-swap_last, neg-mul, positive_factor}
use Rattle.ratio_core.specs.Parts.{IsDenominatorOut, IsDivided, IsPart, IsPartsSum, carried}
use Rattle.ratio_core.proofs.Floored.{one-mul}
use Rattle.ratio_core.proofs.KeptLowest.{multiple_sum}
use Rattle.ratio_core.proofs.PartsSumLemmas.{what_is_left}
use Rattle.ratio_core.proofs.ProductOrder.{down_times, more-times, times_le, up_times, whole_at_most}

-- ---- the numerator of a whole number and a part

pub next_held : (lo hi w : ℤ) → IsRange lo hi → IsHeld lo hi w → w <ℤ pos 0 → IsHeld lo hi (w +ℤ pos 1)
next_held lo hi w range held below =
    let top = range.high in
    let a = held.above in
    let b = held.below in
    record { above = omega (arith, ints); below = omega (arith, ints) }

pub next_numer : (w next d product missing p : ℤ) → next ≡ w +ℤ pos 1 → product ≡ next *ℤ d → missing ≡ d -ℤ p → product -ℤ missing ≡ w *ℤ d +ℤ p
next_numer w next d product missing p next-is product-is missing-is =
    let e : next *ℤ d ≡ w *ℤ d +ℤ d = ap (λ (t : ℤ). t *ℤ d) next-is ∙ more-times w d in
    omega (arith, ints)

-- below 0 the product with the next whole number is nearer to 0 than the numerator, and from 0 on that with this one is
pub next_out : (lo hi w next d p : ℤ) → IsRange lo hi → w <ℤ pos 0 → pos 0 ≤ℤ p → p ≤ℤ d → next ≡ w +ℤ pos 1 → ¬ (IsHeld lo hi (next *ℤ d)) → ¬ (IsHeld lo hi (w *ℤ d +ℤ p))
next_out lo hi w next d p range below some most next-is out held =
    let top = range.high in
    let a = held.above in
    let e : next *ℤ d ≡ w *ℤ d +ℤ d = ap (λ (t : ℤ). t *ℤ d) next-is ∙ more-times w d in
    let under : (next *ℤ d) ≤ℤ (pos 0 *ℤ d) = times_le next (pos 0) d (omega (arith, ints)) (omega (arith, ints)) in
    out (record { above = omega (arith, ints); below = omega (arith, ints) })

pub product_out : (lo hi w d p : ℤ) → IsRange lo hi → pos 0 ≤ℤ w → pos 0 ≤ℤ p → p ≤ℤ d → ¬ (IsHeld lo hi (w *ℤ d)) → ¬ (IsHeld lo hi (w *ℤ d +ℤ p))
product_out lo hi w d p range above some most out held =
    let low = low_below lo hi range in
    let b = held.below in
    let over : (pos 0 *ℤ d) ≤ℤ (w *ℤ d) = times_le (pos 0) w d above (omega (arith, ints)) in
    out (record { above = omega (arith, ints); below = omega (arith, ints) })

-- if the numerator is in range, so is the whole number
pub whole_held : (lo hi w d p : ℤ) → IsRange lo hi → IsPart p d → IsHeld lo hi (w *ℤ d +ℤ p) → IsHeld lo hi w
whole_held lo hi w d p range part held = cases (sides w)
  where
    sides : (z : ℤ) → (pos 0 ≤ℤ z) ⊎ (z <ℤ pos 0)
    sides z = grind (arith, ints)

    cases : (pos 0 ≤ℤ w) ⊎ (w <ℤ pos 0) → IsHeld lo hi w
    cases (inl above) =
        let low = low_below lo hi range in
        let some = part.above in
        let less = part.below in
        let b = held.below in
        let up : w ≤ℤ (w *ℤ d) = up_times w d above (omega (arith, ints)) in
        record { above = omega (arith, ints); below = omega (arith, ints) }
    cases (inr below) =
        let top = range.high in
        let some = part.above in
        let less = part.below in
        let a = held.above in
        let down : ((w +ℤ pos 1) *ℤ d) ≤ℤ (w +ℤ pos 1) = down_times (w +ℤ pos 1) d (omega (arith, ints)) (omega (arith, ints)) in
        record { above = omega (arith, ints, more-times w d); below = omega (arith, ints) }

-- ---- floors and ceilings

-- if a number in range leaves a rest, the whole number after its floor is in range
pub after_floor_held : (lo hi a b w p : ℤ) → IsRange lo hi → IsHeld lo hi a → IsHeld lo hi w → IsDivided a b w p → pos 0 <ℤ p → IsHeld lo hi (w +ℤ pos 1)
after_floor_held lo hi a b w p range a_held w_held is some = cases (sides w)
  where
    sides : (z : ℤ) → (pos 0 ≤ℤ z) ⊎ (z <ℤ pos 0)
    sides z = grind (arith, ints)

    cases : (pos 0 ≤ℤ w) ⊎ (w <ℤ pos 0) → IsHeld lo hi (w +ℤ pos 1)
    cases (inl above) =
        let low = low_below lo hi range in
        let e = is.sum in
        let less = is.rest.below in
        let most = a_held.below in
        let up : w ≤ℤ (w *ℤ b) = up_times w b above (omega (arith, ints)) in
        record { above = omega (arith, ints); below = omega (arith, ints) }
    cases (inr below) = next_held lo hi w range w_held below

pub negative_divided : (c d w p : ℤ) → IsDivided c d w p → p ≡ pos 0 → IsDivided (neg_ℤ c) d (neg_ℤ w) p
negative_divided c d w p is none =
    let e = is.sum in
    record { sum = omega (arith, ints, neg-mul w d); rest = is.rest }

pub ceiling_divided : (c d w p next missing : ℤ) → IsDivided c d w p → pos 0 <ℤ p → next ≡ w +ℤ pos 1 → missing ≡ d -ℤ p → IsDivided (neg_ℤ c) d (neg_ℤ next) missing
ceiling_divided c d w p next missing is some next-is missing-is =
    let e = is.sum in
    let less = is.rest.below in
    let f : next *ℤ d ≡ w *ℤ d +ℤ d = ap (λ (t : ℤ). t *ℤ d) next-is ∙ more-times w d in
    record { sum = omega (arith, ints, neg-mul next d); rest = record { above = omega (arith, ints); below = omega (arith, ints) } }

pub rest_lowest : (n d w p : ℤ) → IsLowestTerms n d → IsDivided n d w p → IsLowestTerms p d
rest_lowest n d w p lowest is = record {
  positive = lowest.positive;
  only_one = λ k x y. lowest.only_one k (multiple_divides n (pos k) (multiple_sum w d p n (pos k) (divides_multiple d (pos k) y) (divides_multiple p (pos k) x) is.sum)) y;
}

-- ---- a carry

-- if two parts carry, the first is not 0
carry_part : (lo hi p b r d u v : ℤ) → IsPart p b → IsPart r d → IsPartsSum lo hi (p *ℤ d +ℤ r *ℤ b, b *ℤ d) true u v → pos 0 <ℤ p
carry_part lo hi p b r d u v left right is =
    let la = left.above in
    let lb = left.below in
    let ra = right.above in
    let rb = right.below in
    let ua = is.part.above in
    let ub = is.part.below in
    let b_positive : pos 0 <ℤ b = omega (arith, ints) in
    let d_positive : pos 0 <ℤ d = omega (arith, ints) in
    let both : pos 0 <ℤ (b *ℤ d) = mul_positive b d b_positive d_positive in
    let same : (p *ℤ d +ℤ r *ℤ b) *ℤ v ≡ (pos 1 *ℤ v +ℤ u) *ℤ (b *ℤ d) = is.terms.same in
    let up : (v *ℤ (b *ℤ d)) ≤ℤ ((pos 1 *ℤ v +ℤ u) *ℤ (b *ℤ d)) = times_le v (pos 1 *ℤ v +ℤ u) (b *ℤ d) (omega (arith, ints, one-mul v)) (omega (arith, ints)) in
    let reach : (b *ℤ d) ≤ℤ (p *ℤ d +ℤ r *ℤ b) = no_less (b *ℤ d) (p *ℤ d +ℤ r *ℤ b) v (omega (arith, ints)) (omega (arith, ints, *ℤ_comm v (b *ℤ d))) in
    let under : ((r +ℤ pos 1) *ℤ b) ≤ℤ (d *ℤ b) = times_le (r +ℤ pos 1) d b (omega (arith, ints)) (omega (arith, ints)) in
    positive_factor p d d_positive (omega (arith, ints, more-times r b, *ℤ_comm d b))
  where
    no_less : (m n v : ℤ) → pos 0 <ℤ v → (m *ℤ v) ≤ℤ (n *ℤ v) → m ≤ℤ n
    no_less m n v positive h = whole_at_most m n v positive (omega (arith, ints))

pub carry_held : (lo hi a b w p r d u v : ℤ) (carry : Bool) → IsRange lo hi → IsHeld lo hi a → IsHeld lo hi w → IsDivided a b w p → IsPart r d → IsPartsSum lo hi (p *ℤ d +ℤ r *ℤ b, b *ℤ d) carry u v → IsHeld lo hi (w +ℤ carried carry)
carry_held lo hi a b w p r d u v true range a_held w_held is right parts = after_floor_held lo hi a b w p range a_held w_held is (carry_part lo hi p b r d u v is.rest right parts)
carry_held lo hi a b w p r d u v false range a_held w_held is right parts =
    let above = w_held.above in
    let below = w_held.below in
    record { above = omega (arith, ints); below = omega (arith, ints) }

-- ---- the sum

-- w more
pub shifted : (n m w x v : ℤ) → IsLowestTermsOf n m x v → IsLowestTermsOf (w *ℤ m +ℤ n) m (w *ℤ v +ℤ x) v
shifted n m w x v is = record {
  fraction = is.fraction;
  same =
      add-mul (w *ℤ m) n v
      ∙ ap (λ (t : ℤ). t +ℤ n *ℤ v) (mul-swap_last w m v ∙ sym (mul_assoc w v m))
      ∙ ap (λ (t : ℤ). (w *ℤ v) *ℤ m +ℤ t) is.same
      ∙ sym (add-mul (w *ℤ v) x m);
  lowest = record {
    positive = is.lowest.positive;
    only_one = λ k p q. is.lowest.only_one k (multiple_divides x (pos k) (what_is_left x w v (w *ℤ v +ℤ x) k (divides_multiple (w *ℤ v +ℤ x) (pos k) p) (divides_multiple v (pos k) q) refl)) q;
  };
}

-- a is w times b and p, and e is y times d and r
module _ (lo hi a b e d w p y r : ℤ) (range : IsRange lo hi) (left : IsDivided a b w p) (right : IsDivided e d y r) where
  apart : a *ℤ d +ℤ e *ℤ b ≡ (w +ℤ y) *ℤ (b *ℤ d) +ℤ (p *ℤ d +ℤ r *ℤ b)
  apart =
      let first : a *ℤ d ≡ w *ℤ (b *ℤ d) +ℤ p *ℤ d = ap (λ (t : ℤ). t *ℤ d) left.sum ∙ add-mul (w *ℤ b) p d ∙ ap (λ (t : ℤ). t +ℤ p *ℤ d) (mul_assoc w b d) in
      let second : e *ℤ b ≡ y *ℤ (b *ℤ d) +ℤ r *ℤ b = ap (λ (t : ℤ). t *ℤ b) right.sum ∙ add-mul (y *ℤ d) r b ∙ ap (λ (t : ℤ). t +ℤ r *ℤ b) (mul_assoc y d b ∙ ap (λ (t : ℤ). y *ℤ t) (*ℤ_comm d b)) in
      let all = add-mul w y (b *ℤ d) in
      omega (arith, ints)

  parts_again : neg_ℤ (w +ℤ y) *ℤ (b *ℤ d) +ℤ (a *ℤ d +ℤ e *ℤ b) ≡ p *ℤ d +ℤ r *ℤ b
  parts_again = let e1 = apart in let e2 = neg-mul (w +ℤ y) (b *ℤ d) in omega (arith, ints)

  -- if the denominator of the parts is out of range, so is the denominator of the sum
  pub parts_out : IsDenominatorOut lo hi (p *ℤ d +ℤ r *ℤ b, b *ℤ d) → ¬ (Fits lo hi (a *ℤ d +ℤ e *ℤ b) (b *ℤ d))
  parts_out out fits =
      out.each (neg_ℤ (w +ℤ y) *ℤ fits.denom +ℤ fits.numer) fits.denom
      (subst (λ (t : ℤ). IsLowestTermsOf t (b *ℤ d) (neg_ℤ (w +ℤ y) *ℤ fits.denom +ℤ fits.numer) fits.denom) parts_again (shifted (a *ℤ d +ℤ e *ℤ b) (b *ℤ d) (neg_ℤ (w +ℤ y)) fits.numer fits.denom fits.low.terms))
      fits.low.denom_held

  module _ (carry : Bool) (u v all : ℤ) (parts : IsPartsSum lo hi (p *ℤ d +ℤ r *ℤ b, b *ℤ d) carry u v) (all-is : all ≡ (w +ℤ carried carry) +ℤ y) where
    numer : (w +ℤ y) *ℤ v +ℤ (carried carry *ℤ v +ℤ u) ≡ all *ℤ v +ℤ u
    numer =
        let f : all *ℤ v ≡ (w *ℤ v +ℤ carried carry *ℤ v) +ℤ y *ℤ v = ap (λ (t : ℤ). t *ℤ v) all-is ∙ add-mul (w +ℤ carried carry) y v ∙ ap (λ (t : ℤ). t +ℤ y *ℤ v) (add-mul w (carried carry) v) in
        regroup (w *ℤ v) (y *ℤ v) (carried carry *ℤ v) u (all *ℤ v) ((w +ℤ y) *ℤ v) f (add-mul w y v)
      where
        regroup : (a b c u n m : ℤ) → n ≡ (a +ℤ c) +ℤ b → m ≡ a +ℤ b → m +ℤ (c +ℤ u) ≡ n +ℤ u
        regroup a b c u n m e f = omega (arith, ints)

    pub mixed_terms : IsLowestTermsOf (a *ℤ d +ℤ e *ℤ b) (b *ℤ d) (all *ℤ v +ℤ u) v
    mixed_terms =
        subst (λ (t : ℤ). IsLowestTermsOf t (b *ℤ d) (all *ℤ v +ℤ u) v) (sym apart) (
        subst (λ (t : ℤ). IsLowestTermsOf ((w +ℤ y) *ℤ (b *ℤ d) +ℤ (p *ℤ d +ℤ r *ℤ b)) (b *ℤ d) t v) numer (
        shifted (p *ℤ d +ℤ r *ℤ b) (b *ℤ d) (w +ℤ y) (carried carry *ℤ v +ℤ u) v parts.terms))

    pub numer_not_held : ¬ (IsHeld lo hi (all *ℤ v +ℤ u)) → ¬ (Fits lo hi (a *ℤ d +ℤ e *ℤ b) (b *ℤ d))
    numer_not_held out = numer_out lo hi (a *ℤ d +ℤ e *ℤ b) (b *ℤ d) (all *ℤ v +ℤ u) v mixed_terms out

    pub whole_not_held : ¬ (IsHeld lo hi all) → ¬ (Fits lo hi (a *ℤ d +ℤ e *ℤ b) (b *ℤ d))
    whole_not_held out = numer_not_held (λ held. out (whole_held lo hi all v u range parts.part held))

    pub mixed_answer : (n : ℤ) → IsHeld lo hi (all *ℤ v +ℤ u) × (n ≡ all *ℤ v +ℤ u) → IsHeldLowest lo hi (a *ℤ d +ℤ e *ℤ b) (b *ℤ d) n v
    mixed_answer n is = rw is.1 (record { terms = mixed_terms; numer_held = is.0; denom_held = parts.denom_held })

-- a difference is the sum with the negative
pub difference_turned : (a b c d : ℤ) → a *ℤ d +ℤ neg_ℤ c *ℤ b ≡ a *ℤ d -ℤ c *ℤ b
difference_turned a b c d = ap (λ (t : ℤ). a *ℤ d +ℤ t) (neg-mul c b)
