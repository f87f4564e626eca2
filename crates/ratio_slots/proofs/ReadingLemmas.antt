-- The sum of a table with a sign and a magnitude.
use Rattle.std.specs.Prelude.{◌≡◌, ◌≢◌, ◌+◌, ◌<◌, ◌≤◌, ◌-ℤ◌, ◌*ℤ◌, true, false, Bool, ℕ, pos, List, ◌++◌, length, take, drop, neg_ℤ}
use Rattle.std.specs.declared.cmp.Ordering.TheVariants.{Less, Equal, Greater}
use Rattle.std.specs.Ordering.{nat_cmp}
use Rattle.std.specs.Cmp.{nat_cmp_is}
use Rattle.std.proofs.Common.{refl, sym, ap, arith, ◌∙◌, inl, inr}
use Rattle.std.proofs.lemmas.Bool.{cases_order}
use Rattle.std.proofs.Math.Seq.{drop-append_seam, take-append_seam}
use Rattle.std.proofs.Math.Nat.{dvd_antisymm}
use Rattle.std.proofs.lemmas.Int.{ints}
use Rattle.ratio_integer.proofs.Whole.{mul_cancel}
use Rattle.ratio_slots.proofs.MergeSums.{sum_positive}
use Rattle.ratio_slots.specs.Common.{CommonsAgree, ReadsAgree, whole_number}
use Rattle.ratio_slots.specs.Sums.{sum_of_slots}

equal_not_less : Equal ≡ Less → ⊥
equal_not_less e = cc

greater_not_less : Greater ≡ Less → ⊥
greater_not_less e = cc

pub less_from : (a b : ℕ) → nat_cmp a b ≡ Less → a < b
less_from a b h =
    elim (cases_order a b) [
      | inl e ↦ absurd (equal_not_less (nat_cmp_is a b Equal e ∙ h))
      | inr (inl l) ↦ l
      | inr (inr g) ↦ absurd (greater_not_less (nat_cmp_is a b Greater g ∙ h))
    ]

pub not_less_from : (a b : ℕ) → nat_cmp a b ≢ Less → b ≤ a
not_less_from a b h =
    elim (cases_order a b) [
      | inl e ↦ omega (arith, e)
      | inr (inl l) ↦ absurd (h (sym (nat_cmp_is a b Less l)))
      | inr (inr g) ↦ omega (arith, g)
    ]

pub below_zero_by : (new a b : ℕ) → new + a ≡ b → neg_ℤ (pos new) ≡ pos a -ℤ pos b
below_zero_by new a b e = omega (arith, ints, e)

pub above_zero_by : (new a b : ℕ) → new + b ≡ a → pos new ≡ pos a -ℤ pos b
above_zero_by new a b e = omega (arith, ints, e)

-- the second of three parts
pub middle : (xs ys zs : List ℕ) (n k : ℕ) → length xs ≡ n → length ys ≡ k → take k (drop n (xs ++ (ys ++ zs))) ≡ ys
middle xs ys zs n k long short =
    ap (λ i. take k (drop i (xs ++ (ys ++ zs)))) (sym long) ∙ ap (take k) (drop-append_seam xs (ys ++ zs)) ∙ ap (λ i. take i (ys ++ zs)) (sym short) ∙ take-append_seam ys zs

-- ---- one read

pub commons_agree : CommonsAgree
commons_agree slots l m p q = dvd_antisymm (p.least m q.multiple) (q.least l p.multiple)

pub signs_agree : (negative other : Bool) (x y : ℕ) → (negative ≡ true → 0 < x) → (other ≡ true → 0 < y) → whole_number negative x ≡ whole_number other y → (negative ≡ other) × (x ≡ y)
signs_agree false false x y f g e = (refl, omega (arith, ints, e))
signs_agree true true x y f g e = (refl, omega (arith, ints, e))
signs_agree true false x y f g e = absurd (omega (arith, ints, e, f refl))
signs_agree false true x y f g e = absurd (omega (arith, ints, e, g refl))

pub reads_agree : ReadsAgree
reads_agree slots negative other numer second denom third p q =
    let all = sum_of_slots slots in
    let same : denom ≡ third = commons_agree slots denom third p.common q.common in
    let positive : 0 < all.1 = sum_positive slots in
    let value : whole_number negative numer ≡ whole_number other second =
    mul_cancel (whole_number negative numer) (whole_number other second) (pos all.1) (λ e. omega (arith, ints, positive, e)) (p.value ∙ ap (λ (d : ℕ). all.0 *ℤ pos d) same ∙ sym q.value) in
    let parts = signs_agree negative other numer second p.sign q.sign value in
    (parts.0, parts.1, same)
