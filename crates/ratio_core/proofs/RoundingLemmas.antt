-- The whole numbers near n/d, from the quotient q cut towards zero and its rest r.
use Rattle.std.specs.Prelude.{◌≡◌, ◌≢◌, ◌⊎◌, ◌↔◌, ◌*◌, ◌%◌, ◌<◌, ◌≤◌, ◌≤ℤ◌, ◌<ℤ◌, ◌*ℤ◌, ◌+ℤ◌, ◌-ℤ◌, ℕ, ℤ, zero, suc, pos, negsuc, neg_ℤ, unsigned_abs, int_div, int_rem}
use Rattle.std.proofs.Common.{sym, arith, inl, inr}
use Rattle.std.proofs.lemmas.Int.{ints, quot-rem}
use Rattle.std.proofs.Math.Nat.{mod-lt}
use Rattle.ratio_integer.specs.Range.{IsHeld, IsRange}
use Rattle.ratio_core.specs.Rounding.{IsBelowHalf, IsCeiling, IsTruncatedDivision, IsFloor, IsFractionalPart, IsRounded, IsTruncation}
use Rattle.ratio_core.proofs.ProductOrder.{down_times, less-times, more-times, up_times, whole_at_most}

-- ---- the division

below : (a k : ℕ) → a % suc k < suc k
below a k = mod-lt a (let h : 0 < suc k = omega arith in h)

pub cut_division : (n d q r : ℤ) → pos 0 <ℤ d → q ≡ int_div n d → r ≡ int_rem n d → IsTruncatedDivision n d q r
cut_division n d q r u eq er = rw (eq, er) (go n d u)
  where
    go : (n d : ℤ) → pos 0 <ℤ d → IsTruncatedDivision n d (int_div n d) (int_rem n d)
    go n (negsuc k) u = absurd (omega (arith, ints))
    go n (pos zero) u = absurd (omega (arith, ints))
    go (pos zero) (pos (suc k)) u = let t = below 0 k in record {
      sum = sym (quot-rem (pos zero) (pos (suc k)));
      rest = record { above = omega (arith, ints); below = omega (arith, ints) };
      above = λ h. (omega (arith, ints), omega (arith, ints));
      below = λ h. (omega (arith, ints), omega (arith, ints));
    }
    go (pos (suc a)) (pos (suc k)) u = let t = below (suc a) k in record {
      sum = sym (quot-rem (pos (suc a)) (pos (suc k)));
      rest = record { above = omega (arith, ints); below = omega (arith, ints) };
      above = λ h. (omega (arith, ints), omega (arith, ints));
      below = λ h. absurd (omega (arith, ints));
    }
    go (negsuc a) (pos (suc k)) u = let t = below (suc a) k in record {
      sum = sym (quot-rem (negsuc a) (pos (suc k)));
      rest = record { above = omega (arith, ints); below = omega (arith, ints) };
      above = λ h. absurd (omega (arith, ints));
      below = λ h. (omega (arith, ints), omega (arith, ints));
    }

-- ---- the truncation and its rest

not_below : (a b : ℤ) → ¬ (a <ℤ b) → b ≤ℤ a
not_below a b h = grind (arith, ints)

sides : (n : ℤ) → (n <ℤ pos 0) ⊎ (pos 0 ≤ℤ n)
sides n = grind (arith, ints)

pub truncation_of_cut : (n d q r : ℤ) → IsTruncatedDivision n d q r → IsTruncation n d q
truncation_of_cut n d q r c = record {
  floor = λ h. let s = c.sum in let k = c.rest in let a = c.above h in record { at_most = omega (arith, ints); next_above = omega (arith, ints) };
  ceiling = λ h. let s = c.sum in let k = c.rest in let a = c.below h in record { last_below = omega (arith, ints); at_least = omega (arith, ints) };
}

pub part_of_cut : (n d q r : ℤ) → IsTruncatedDivision n d q r → IsFractionalPart n d r
part_of_cut n d q r c = record { whole = q; truncation = truncation_of_cut n d q r c; sum = c.sum }

-- ---- floor and ceiling

pub floor_less : (n d q r : ℤ) → IsTruncatedDivision n d q r → r <ℤ pos 0 → IsFloor n d (q -ℤ pos 1)
floor_less n d q r c h = let s = c.sum in let k = c.rest in record { at_most = omega (arith, ints, less-times q d); next_above = omega (arith, ints, less-times q d) }

pub floor_same : (n d q r : ℤ) → IsTruncatedDivision n d q r → ¬ (r <ℤ pos 0) → IsFloor n d q
floor_same n d q r c h = let s = c.sum in let k = c.rest in let a = not_below r (pos 0) h in record { at_most = omega (arith, ints); next_above = omega (arith, ints) }

pub ceiling_more : (n d q r : ℤ) → IsTruncatedDivision n d q r → pos 0 <ℤ r → IsCeiling n d (q +ℤ pos 1)
ceiling_more n d q r c h = let s = c.sum in let k = c.rest in record { last_below = omega (arith, ints, more-times q d); at_least = omega (arith, ints, more-times q d) }

pub ceiling_same : (n d q r : ℤ) → IsTruncatedDivision n d q r → ¬ (pos 0 <ℤ r) → IsCeiling n d q
ceiling_same n d q r c h = let s = c.sum in let k = c.rest in let a = not_below (pos 0) r h in record { last_below = omega (arith, ints); at_least = omega (arith, ints) }

-- ---- the results are in range

pub less_held : (lo hi n d q r : ℤ) → IsRange lo hi → IsHeld lo hi n → IsTruncatedDivision n d q r → r <ℤ pos 0 → IsHeld lo hi (q -ℤ pos 1)
less_held lo hi n d q r range held c h = go (sides n)
  where
    go : (n <ℤ pos 0) ⊎ (pos 0 ≤ℤ n) → IsHeld lo hi (q -ℤ pos 1)
    go (inl s) =
        let sum = c.sum in let k = c.rest in let a = c.below (omega (arith, ints)) in
        let t = down_times q d a.0 (omega (arith, ints)) in
        let top : pos 2 ≤ℤ hi = range.high in
        record { above = omega (arith, ints); below = omega (arith, ints) }
    go (inr s) = absurd (let a = c.above s in omega (arith, ints))

pub more_held : (lo hi n d q r : ℤ) → IsRange lo hi → IsHeld lo hi n → IsTruncatedDivision n d q r → ¬ (r <ℤ pos 0) → r ≢ pos 0 → IsHeld lo hi (q +ℤ pos 1)
more_held lo hi n d q r range held c h nz = go (sides n)
  where
    low : (z : ℤ) → pos 0 ≤ℤ z → lo ≤ℤ z
    low z k = grind (arith, ints)

    go : (n <ℤ pos 0) ⊎ (pos 0 ≤ℤ n) → IsHeld lo hi (q +ℤ pos 1)
    go (inl s) = absurd (let a = c.below (omega (arith, ints)) in let b = not_below r (pos 0) h in nz (omega (arith, ints)))
    go (inr s) =
        let sum = c.sum in let k = c.rest in let a = c.above s in
        let t = up_times q d a.0 (omega (arith, ints)) in
        record { above = low (q +ℤ pos 1) (omega (arith, ints)); below = omega (arith, ints) }

-- ---- the nearest

further_down : (s t : ℤ) → t ≤ℤ s → s ≤ℤ pos 0 → unsigned_abs s ≤ unsigned_abs t
further_down s t h k = omega (arith, ints)

further_up : (s t : ℤ) → s ≤ℤ t → pos 0 ≤ℤ s → unsigned_abs s ≤ unsigned_abs t
further_up s t h k = omega (arith, ints)

-- if n/d ≤ 0, and t is within a half but not a half above, t is the one further from 0
pub round_below : (n d t : ℤ) → pos 0 <ℤ d → n ≤ℤ pos 0 → neg_ℤ d <ℤ (pos 2 *ℤ n -ℤ pos 2 *ℤ (t *ℤ d)) → (pos 2 *ℤ n -ℤ pos 2 *ℤ (t *ℤ d)) ≤ℤ d → IsRounded n d t
round_below n d t u h low up = record {
  near = record { above = omega (arith, ints); below = up };
  furthest = λ s k. let a = k.above in let b = k.below in further_down s t
      (whole_at_most t s d u (omega (arith, ints)))
      (whole_at_most s (pos 0) d u (omega (arith, ints)));
}

-- the same for n/d ≥ 0 and a half below
pub round_above : (n d t : ℤ) → pos 0 <ℤ d → pos 0 ≤ℤ n → neg_ℤ d ≤ℤ (pos 2 *ℤ n -ℤ pos 2 *ℤ (t *ℤ d)) → (pos 2 *ℤ n -ℤ pos 2 *ℤ (t *ℤ d)) <ℤ d → IsRounded n d t
round_above n d t u h low up = record {
  near = record { above = low; below = omega (arith, ints) };
  furthest = λ s k. let a = k.above in let b = k.below in further_up s t
      (whole_at_most s t d u (omega (arith, ints)))
      (whole_at_most (pos 0) s d u (omega (arith, ints)));
}

pub rounded_same : (n d q r : ℤ) → IsTruncatedDivision n d q r → IsBelowHalf d r → IsRounded n d q
rounded_same n d q r c less = go (sides n)
  where
    go : (n <ℤ pos 0) ⊎ (pos 0 ≤ℤ n) → IsRounded n d q
    go (inl s) = let sum = c.sum in let k = c.rest in round_below n d q (omega (arith, ints)) (omega (arith, ints)) (omega (arith, ints)) (omega (arith, ints))
    go (inr s) = let sum = c.sum in let k = c.rest in round_above n d q (omega (arith, ints)) s (omega (arith, ints)) (omega (arith, ints))

pub rounded_less : (n d q r : ℤ) → IsTruncatedDivision n d q r → ¬ (IsBelowHalf d r) → r <ℤ pos 0 → IsRounded n d (q -ℤ pos 1)
rounded_less n d q r c half h = go (sides n)
  where
    enough : d ≤ℤ pos (2 * unsigned_abs r)
    enough = not_below (pos (2 * unsigned_abs r)) d half

    go : (n <ℤ pos 0) ⊎ (pos 0 ≤ℤ n) → IsRounded n d (q -ℤ pos 1)
    go (inl s) = let sum = c.sum in let k = c.rest in let e = enough in round_below n d (q -ℤ pos 1) (omega (arith, ints)) (omega (arith, ints)) (omega (arith, ints, less-times q d)) (omega (arith, ints, less-times q d))
    go (inr s) = absurd (let a = c.above s in omega (arith, ints))

pub rounded_more : (n d q r : ℤ) → IsTruncatedDivision n d q r → ¬ (IsBelowHalf d r) → ¬ (r <ℤ pos 0) → IsRounded n d (q +ℤ pos 1)
rounded_more n d q r c half h = go (sides n)
  where
    enough : d ≤ℤ pos (2 * unsigned_abs r)
    enough = not_below (pos (2 * unsigned_abs r)) d half

    go : (n <ℤ pos 0) ⊎ (pos 0 ≤ℤ n) → IsRounded n d (q +ℤ pos 1)
    go (inl s) = absurd (let a = c.below (omega (arith, ints)) in let k = c.rest in let b = not_below r (pos 0) h in let e = enough in omega (arith, ints))
    go (inr s) = let sum = c.sum in let k = c.rest in let b = not_below r (pos 0) h in let e = enough in round_above n d (q +ℤ pos 1) (omega (arith, ints)) s (omega (arith, ints, more-times q d)) (omega (arith, ints, more-times q d))

-- if r is not below a half, it is not 0
pub half_nonzero : (n d q r : ℤ) → IsTruncatedDivision n d q r → ¬ (IsBelowHalf d r) → r ≢ pos 0
half_nonzero n d q r c half z = let k = c.rest in let e = not_below (pos (2 * unsigned_abs r)) d half in omega (arith, ints)

-- r is below a half exactly if its magnitude is less than what it lacks to d; r may be on either side of 0
pub missing_below : (d r minus plus nought : ℤ) → r <ℤ pos 0 → nought ≡ pos 0 → minus ≡ nought -ℤ r → plus ≡ r +ℤ d → (minus <ℤ plus) ↔ IsBelowHalf d r
missing_below d r minus plus nought h z m p = ((λ l. omega (arith, ints)), (λ l. omega (arith, ints)))

pub missing_above : (d r missing : ℤ) → ¬ (r <ℤ pos 0) → missing ≡ d -ℤ r → (r <ℤ missing) ↔ IsBelowHalf d r
missing_above d r missing h m = let k = not_below r (pos 0) h in ((λ l. omega (arith, ints)), (λ l. omega (arith, ints)))
