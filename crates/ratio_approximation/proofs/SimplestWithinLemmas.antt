-- The first of the held fractions within two bounds is the simplest of all fractions there. So a type that holds any fraction within
-- the bounds holds the simplest one.
use Rattle.std.specs.Prelude.{◌≡◌, ◌⊎◌, ◌≤◌, ◌≤ℤ◌, ◌<ℤ◌, ◌+ℤ◌, ◌-ℤ◌, ◌*ℤ◌, ℤ, zero, suc, pos, negsuc, unsigned_abs}
use Rattle.std.proofs.Common.{arith, inl, inr}
use Rattle.std.proofs.lemmas.Int.{ints}
use Rattle.std.specs.declared.ops.Bound.{Bound}
use Rattle.ratio_integer.specs.Range.{IsHeld, IsRange}
use Rattle.ratio_integer.proofs.Whole.{neg-mul}
use Rattle.ratio_approximation.specs.Bounds.{HasPositiveDenominator, IsWithin}
use Rattle.ratio_approximation.specs.EndChoice.{IsAsSimple, IsFirstHeld}
use Rattle.ratio_approximation.specs.SimplestWithin.{IsSimplestWithin}
use Rattle.ratio_approximation.proofs.HeldAround.{between_held}
use Rattle.ratio_approximation.proofs.Shares.{times_up}
use Rattle.ratio_approximation.proofs.SimplestBeginning.{times_less}
use Rattle.ratio_approximation.proofs.WithinLemmas.{at_most_or_above, within_kept, zero_or_side}

pub times_down : (p k j : ℤ) → p <ℤ pos 0 → k ≤ℤ j → (p *ℤ j) ≤ℤ (p *ℤ k)
times_down (pos p) k j down less = absurd (omega (arith, ints))
times_down (negsuc p) k j down less =
    let more = times_up (pos (suc p)) k j (omega (arith, ints)) less in
    let left = neg-mul (pos (suc p)) k in
    let right = neg-mul (pos (suc p)) j in
    omega (arith, ints, more, left, right)

no_size : (p : ℤ) → unsigned_abs p ≤ unsigned_abs (pos 0) → p ≡ pos 0
no_size (pos p) none = omega (arith, ints)
no_size (negsuc p) none = absurd (omega arith)

size_above : (p a : ℤ) → pos 0 <ℤ p → p ≤ℤ a → unsigned_abs p ≤ unsigned_abs a
size_above p a up less = omega (arith, ints)

size_below : (p a : ℤ) → p <ℤ pos 0 → a ≤ℤ p → unsigned_abs p ≤ unsigned_abs a
size_below p a down less = omega (arith, ints)

pub as_simple_denom : (p q a b : ℤ) → IsAsSimple p q a b → q ≤ℤ b
as_simple_denom p q a b (inl less) = omega (arith, ints)
as_simple_denom p q a b (inr same) = (let e = same.0 in omega (arith, ints))

-- of two fractions of one denominator, the one nearer to 0 is not preceded by the other
not_first_above : (p q : ℤ) → pos 0 <ℤ p → IsAsSimple p q (p -ℤ pos 1) q → ⊥
not_first_above p q up (inl less) = omega (arith, ints)
not_first_above (pos (suc p)) q up (inr same) = (let size = same.1 in omega (arith, ints))
not_first_above (pos zero) q up (inr same) = omega (arith, ints)
not_first_above (negsuc p) q up (inr same) = omega (arith, ints)

not_first_below : (p q : ℤ) → p <ℤ pos 0 → IsAsSimple p q (p +ℤ pos 1) q → ⊥
not_first_below p q down (inl less) = omega (arith, ints)
not_first_below (pos p) q down (inr same) = omega (arith, ints)
not_first_below (negsuc zero) q down (inr same) = (let size = same.1 in omega (arith, ints))
not_first_below (negsuc (suc p)) q down (inr same) = (let size = same.1 in omega (arith, ints))

module _ (low high : Bound (ℤ × ℤ)) (low_up : HasPositiveDenominator low) (high_up : HasPositiveDenominator high) (lo hi p q : ℤ) (range : IsRange lo hi) (p_held : IsHeld lo hi p) (q_held : IsHeld lo hi q) (is : IsFirstHeld lo hi low high p q) where
  below_held : (b : ℤ) → pos 0 ≤ℤ b → b ≤ℤ q → IsHeld lo hi b
  below_held b up less = between_held lo hi q b range q_held (inl (up, less))

  zero_alone : IsWithin low high (pos 0) (pos 1) → (p ≡ pos 0) × (q ≡ pos 1)
  zero_alone within =
      let up = is.within.positive in
      by (is.first (pos 0) (pos 1) (below_held _ (omega (arith, ints)) (omega (arith, ints))) (below_held _ (omega (arith, ints)) (omega (arith, ints))) within)
    where
      by : IsAsSimple p q (pos 0) (pos 1) → (p ≡ pos 0) × (q ≡ pos 1)
      by (inl less) = (let up = is.within.positive in absurd (omega (arith, ints)))
      by (inr same) = (no_size p same.1, same.0)

  module _ (a b : ℤ) (other : IsWithin low high a b) where
    denom_above : pos 0 <ℤ a → pos 0 <ℤ p → q ≤ℤ b
    denom_above a_up p_up = by (at_most_or_above q b)
      where
        by : (q ≤ℤ b) ⊎ (b <ℤ q) → q ≤ℤ b
        by (inl most) = most
        by (inr less) = near (at_most_or_above a p)
          where
            near : (a ≤ℤ p) ⊎ (p <ℤ a) → q ≤ℤ b
            near (inl most) =
                let b_up = other.positive in
                let a_held = between_held lo hi p a range p_held (inl (omega (arith, ints), most)) in
                as_simple_denom p q a b (is.first a b a_held (below_held b (omega (arith, ints)) (omega (arith, ints))) other)
            near (inr more) =
                let b_up = other.positive in
                let left = times_up p b q (omega (arith, ints)) (omega (arith, ints)) in
                let right = times_less b a p b_up (omega (arith, ints)) in
                let within = within_kept low high low_up high_up p q a b p b is.within other b_up left right in
                as_simple_denom p q p b (is.first p b p_held (below_held b (omega (arith, ints)) (omega (arith, ints))) within)

    denom_below : a <ℤ pos 0 → p <ℤ pos 0 → q ≤ℤ b
    denom_below a_down p_down = by (at_most_or_above q b)
      where
        by : (q ≤ℤ b) ⊎ (b <ℤ q) → q ≤ℤ b
        by (inl most) = most
        by (inr less) = near (at_most_or_above p a)
          where
            near : (p ≤ℤ a) ⊎ (a <ℤ p) → q ≤ℤ b
            near (inl most) =
                let b_up = other.positive in
                let a_held = between_held lo hi p a range p_held (inr (most, omega (arith, ints))) in
                as_simple_denom p q a b (is.first a b a_held (below_held b (omega (arith, ints)) (omega (arith, ints))) other)
            near (inr more) =
                let b_up = other.positive in
                let left = times_less b p a b_up (omega (arith, ints)) in
                let right = times_down p b q p_down (omega (arith, ints)) in
                let within = within_kept low high low_up high_up a b p q p b other is.within b_up left right in
                as_simple_denom p q p b (is.first p b p_held (below_held b (omega (arith, ints)) (omega (arith, ints))) within)

    numer_above : pos 0 <ℤ a → pos 0 <ℤ p → unsigned_abs p ≤ unsigned_abs a
    numer_above a_up p_up = by (at_most_or_above p a)
      where
        by : (p ≤ℤ a) ⊎ (a <ℤ p) → unsigned_abs p ≤ unsigned_abs a
        by (inl most) = size_above p a p_up most
        by (inr less) =
            let b_up = other.positive in
            let q_up = is.within.positive in
            let most = denom_above a_up p_up in
            let step = times_up a q b (omega (arith, ints)) most in
            let far = times_less b (p -ℤ pos 1) a b_up (omega (arith, ints)) in
            let near = times_less q p (p -ℤ pos 1) q_up (omega (arith, ints)) in
            let held = between_held lo hi p (p -ℤ pos 1) range p_held (inl (omega (arith, ints), omega (arith, ints))) in
            let within = within_kept low high low_up high_up a b p q (p -ℤ pos 1) q other is.within q_up (omega (arith, ints, step, far)) near in
            absurd (not_first_above p q p_up (is.first (p -ℤ pos 1) q held q_held within))

    numer_below : a <ℤ pos 0 → p <ℤ pos 0 → unsigned_abs p ≤ unsigned_abs a
    numer_below a_down p_down = by (at_most_or_above a p)
      where
        by : (a ≤ℤ p) ⊎ (p <ℤ a) → unsigned_abs p ≤ unsigned_abs a
        by (inl most) = size_below p a p_down most
        by (inr more) =
            let b_up = other.positive in
            let q_up = is.within.positive in
            let most = denom_below a_down p_down in
            let step = times_down a q b a_down most in
            let far = times_less b a (p +ℤ pos 1) b_up (omega (arith, ints)) in
            let near = times_less q (p +ℤ pos 1) p q_up (omega (arith, ints)) in
            let held = between_held lo hi p (p +ℤ pos 1) range p_held (inr (omega (arith, ints), omega (arith, ints))) in
            let within = within_kept low high low_up high_up p q a b (p +ℤ pos 1) q is.within other q_up near (omega (arith, ints, step, far)) in
            absurd (not_first_below p q p_down (is.first (p +ℤ pos 1) q held q_held within))

    both_least : (q ≤ℤ b) × (unsigned_abs p ≤ unsigned_abs a)
    both_least = by (zero_or_side low high low_up high_up a b p q other is.within)
      where
        by : IsWithin low high (pos 0) (pos 1) ⊎ ((pos 0 <ℤ a) × (pos 0 <ℤ p)) ⊎ ((a <ℤ pos 0) × (p <ℤ pos 0)) → (q ≤ℤ b) × (unsigned_abs p ≤ unsigned_abs a)
        by (inl zero_is) =
            let b_up = other.positive in
            let alone = zero_alone zero_is in
            let p_is = alone.0 in
            let q_is = alone.1 in
            (omega (arith, ints), omega (arith, ints))
        by (inr (inl up)) = (denom_above up.0 up.1, numer_above up.0 up.1)
        by (inr (inr down)) = (denom_below down.0 down.1, numer_below down.0 down.1)

  pub first_simplest : IsSimplestWithin low high p q
  first_simplest = record {
    within = is.within;
    denom = λ a b other. (both_least a b other).0;
    numer = λ a b other. (both_least a b other).1;
  }
