-- Floored division: n/d is q + r/d, with 0 ≤ r/d < 1.
use Rattle.std.specs.Prelude.{◌≡◌, ◌≢◌, ◌⊎◌, ◌+◌, ◌*◌, ◌<◌, ◌≤◌, ◌≤ℤ◌, ◌<ℤ◌, ◌+ℤ◌, ◌-ℤ◌, ◌*ℤ◌, ℕ, ℤ, zero, suc, pos, negsuc, neg_ℤ, unsigned_abs, int_div, int_rem}
use Rattle.std.proofs.Common.{refl, sym, ap, arith, inl, inr, ⊎_elim, ◌∙◌}
use Rattle.std.proofs.Math.Nat.{mul-le-mul_right}
use Rattle.std.proofs.lemmas.Int.{ints}
use borrow.Author.Differences.{up, down}
use Rattle.ratio_integer.specs.Division.{IsAboveMax, IsFloored}
use Rattle.ratio_integer.specs.Range.{IsRange}
use Rattle.ratio_integer.proofs.DivisionLemmas.{Same, Side, floored_less, floored_same, sides}
use Rattle.ratio_core.specs.Order.{sign}

-- ---- a number by its sign and its magnitude

pub one-mul : (x : ℤ) → pos 1 *ℤ x ≡ x
one-mul x = omega (arith, ints)

pub minus_one-mul : (x : ℤ) → negsuc 0 *ℤ x ≡ neg_ℤ x
minus_one-mul x = omega (arith, ints)

pub sign-mul : (d : ℤ) → sign d *ℤ d ≡ pos (unsigned_abs d)
sign-mul (pos d) = omega (arith, ints)
sign-mul (negsuc d) = omega (arith, ints)

-- ---- the rest

-- 0 ≤ r/d < 1, by the sign of d
abbrev IsPart : ℤ → ℤ → Type 0
IsPart (pos d) r = (pos 0 ≤ℤ r) × (r <ℤ pos d)
IsPart (negsuc d) r = (negsuc d <ℤ r) × (r ≤ℤ pos 0)

part : (d r : ℤ) → ((pos 0 ≤ℤ r) × (r <ℤ d)) ⊎ ((d <ℤ r) × (r ≤ℤ pos 0)) → IsPart d r
part (pos d) r (inl h) = h
part (pos d) r (inr h) = absurd (omega (arith, ints))
part (negsuc d) r (inl h) = absurd (omega (arith, ints))
part (negsuc d) r (inr h) = h

part-sum : (n d q r : ℤ) → IsPart d r → n ≡ q *ℤ d +ℤ r → sign d *ℤ n ≡ q *ℤ pos (unsigned_abs d) +ℤ pos (unsigned_abs r)
part-sum n (pos d) q (pos r) h e = omega (arith, ints)
part-sum n (pos d) q (negsuc r) h e = absurd (omega (arith, ints))
part-sum n (negsuc d) q (pos zero) h e = omega (arith, ints)
part-sum n (negsuc d) q (pos (suc r)) h e = absurd (omega (arith, ints))
part-sum n (negsuc d) q (negsuc r) h e = omega (arith, ints)

part_below : (d r : ℤ) → IsPart d r → unsigned_abs r < unsigned_abs d
part_below (pos d) (pos r) h = omega (arith, ints)
part_below (pos d) (negsuc r) h = absurd (omega (arith, ints))
part_below (negsuc d) (pos zero) h = omega (arith, ints)
part_below (negsuc d) (pos (suc r)) h = absurd (omega (arith, ints))
part_below (negsuc d) (negsuc r) h = omega (arith, ints)

part_sign : (d r : ℤ) → IsPart d r → r ≢ pos 0 → sign r ≡ sign d
part_sign (pos d) (pos r) h k = refl
part_sign (pos d) (negsuc r) h k = absurd (omega (arith, ints))
part_sign (negsuc d) (pos zero) h k = absurd (k refl)
part_sign (negsuc d) (pos (suc r)) h k = absurd (omega (arith, ints))
part_sign (negsuc d) (negsuc r) h k = refl

part_nonzero : (d r : ℤ) → IsPart d r → d ≢ pos 0
part_nonzero (pos d) r h e = omega (arith, ints)
part_nonzero (negsuc d) r h e = omega (arith, ints)

module _ (n d q r : ℤ) (is : IsFloored n d q r) where
  pub floored_nonzero : d ≢ pos 0
  floored_nonzero = part_nonzero d r (part d r is.rest)

  pub floored_below : unsigned_abs r < unsigned_abs d
  floored_below = part_below d r (part d r is.rest)

  pub floored_sign : r ≢ pos 0 → sign r ≡ sign d
  floored_sign = part_sign d r (part d r is.rest)

  -- the same division, with the sign of d moved to n
  pub floored-sum : sign d *ℤ n ≡ q *ℤ pos (unsigned_abs d) +ℤ pos (unsigned_abs r)
  floored-sum = part-sum n d q r (part d r is.rest) is.sum

-- ---- there is only one quotient

-- if q < p, then q*k + k ≤ p*k
pub room : (q p : ℤ) (k : ℕ) → q <ℤ p → (q *ℤ pos k +ℤ pos k) ≤ℤ (p *ℤ pos k)
room q p k h =
    let h1 : suc (up q + down p) ≤ up p + down q = omega (arith, ints) in
    let h2 : suc (up q + down p) * k ≤ (up p + down q) * k = mul-le-mul_right k h1 in
    omega (arith, ints)

no_gap : (x y : ℤ) (d r s : ℕ) → x *ℤ pos d +ℤ pos r ≡ y *ℤ pos d +ℤ pos s → r < d → x <ℤ y → ⊥
no_gap x y d r s e h l =
    let m = room x y d l in
    omega (arith, ints)

pub neither : (x y : ℤ) → (x <ℤ y → ⊥) → (y <ℤ x → ⊥) → x ≡ y
neither x y a b = grind (arith, ints)

pub quotient_unique : (n d x r y s : ℤ) → IsFloored n d x r → IsFloored n d y s → x ≡ y
quotient_unique n d x r y s f g =
    let e = sym (floored-sum n d x r f) ∙ floored-sum n d y s g in
    neither x y
    (no_gap x y (unsigned_abs d) (unsigned_abs r) (unsigned_abs s) e (floored_below n d x r f))
    (no_gap y x (unsigned_abs d) (unsigned_abs s) (unsigned_abs r) (sym e) (floored_below n d y s g))

pub rest_unique : (n d x r y s : ℤ) → IsFloored n d x r → IsFloored n d y s → r ≡ s
rest_unique n d x r y s f g =
    let same : x *ℤ d ≡ y *ℤ d = ap (λ (t : ℤ). t *ℤ d) (quotient_unique n d x r y s f g) in
    omega (arith, ints, f.sum, g.sum)

-- a number over 1 is its own quotient
pub floored_by_one : (n d : ℤ) → d ≡ pos 1 → IsFloored n d n (pos 0)
floored_by_one n d one = record { sum = (let whole : n *ℤ d ≡ n *ℤ pos 1 = ap (λ (t : ℤ). n *ℤ t) one in omega (arith, ints)); rest = inl (omega (arith, ints), omega (arith, ints)) }

-- ---- a quotient exists

pub record HasFloored (n d : ℤ) : Type 0 where
  pub quotient : ℤ
  pub rest : ℤ
  pub floored : IsFloored n d quotient rest

pub floored_exists : (n d : ℤ) → d ≢ pos 0 → HasFloored n d
unfolding Side Same
floored_exists n d nonzero = ⊎_elim
    (λ s. record { quotient = int_div n d -ℤ pos 1; rest = int_rem n d +ℤ d; floored = floored_less n d s })
    (λ s. record { quotient = int_div n d; rest = int_rem n d; floored = floored_same n d nonzero s })
    (sides (int_rem n d) d nonzero)

-- ---- and it is in range, except for -hi-1 over -1

-- the value of any other pair is below hi + 1
pub below_above_max : (h : ℕ) (m e : ℤ) → m ≤ℤ pos h → (neg_ℤ (pos h) -ℤ pos 1) ≤ℤ m → e ≢ pos 0 → ¬ (IsAboveMax (pos h) m e) → (sign e *ℤ m) <ℤ pos (suc h * unsigned_abs e)
below_above_max h m (pos zero) below above nonzero out = absurd (nonzero refl)
below_above_max h m (pos (suc e)) below above nonzero out =
    let k : pos 1 *ℤ m ≡ m = one-mul m in
    omega (arith, ints)
below_above_max h m (negsuc zero) below above nonzero out =
    let k : negsuc 0 *ℤ m ≡ neg_ℤ m = minus_one-mul m in
    let least : m ≢ neg_ℤ (pos h) -ℤ pos 1 = λ e. out (record { numer = e; denom = refl }) in
    omega (arith, ints)
below_above_max h m (negsuc (suc e)) below above nonzero out =
    let k : negsuc 0 *ℤ m ≡ neg_ℤ m = minus_one-mul m in
    omega (arith, ints)

pub low_above : (lo hi : ℤ) → IsRange lo hi → (neg_ℤ hi -ℤ pos 1) ≤ℤ lo
low_above lo hi range = grind (arith, ints)
