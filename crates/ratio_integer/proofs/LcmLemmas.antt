-- The least common multiple of two numbers: computed from the gcd, and it exists.
use Rattle.std.specs.Prelude.{◌≡◌, ◌≢◌, ◌⊎◌, ◌*◌, ◌≤◌, ◌≤ℤ◌, ◌<ℤ◌, ◌*ℤ◌, ◌-ℤ◌, ◌+ℤ◌, ℕ, ℤ, suc, pos, negsuc, neg_ℤ, unsigned_abs, int_div, int_rem, Option, Some, None}
use Rattle.std.specs.Int.{◌∣◌}
use Rattle.std.proofs.Common.{sym, ap, arith, ◌∙◌, inl, inr}
use Rattle.std.proofs.lemmas.Int.{ints, quot-rem, unsigned_abs-mul}
use Rattle.std.proofs.lemmas.Nat.Gcd.{IsGcd-from_zero}
use Rattle.std.proofs.Math.Nat.{dvd_antisymm, dvd-mul_left, dvd-zero, dvd_refl, eq-zero_of_zero-dvd, le_of_dvd, mod-eq-zero_of_dvd}
use lib.IntN.{*ℤ_comm, +ℤ_idr}
use Rattle.ratio_integer.specs.Division.{ChecksLcm, GcdHeld, IsGcdAboveMax, IsGcdOf, IsLcmOf, LcmHeld}
use Rattle.ratio_integer.specs.HeldResults.{GcdHeldButThree}
use Rattle.ratio_integer.specs.Range.{Checks, IsHeld, IsRange}
use Rattle.ratio_integer.proofs.DivisionLemmas.{abs-rem, abs-zero, abs_pos, low_below}
use Rattle.ratio_integer.proofs.GcdLemmas.{lcm_least}

-- ---- the gcd of two numbers in range

bounded : (lo hi n d m : ℤ) → IsRange lo hi → IsHeld lo hi n → IsHeld lo hi d → ¬ (IsGcdAboveMax hi n d) → pos 0 ≤ℤ m → (n ≢ pos 0 → unsigned_abs m ≤ unsigned_abs n) → (d ≢ pos 0 → unsigned_abs m ≤ unsigned_abs d) → (n ≡ pos 0 → d ≡ pos 0 → m ≡ pos 0) → IsHeld lo hi m
bounded lo hi n d m range hn hd out up first second both =
    let not_same : n ≡ neg_ℤ hi -ℤ pos 1 → d ≡ neg_ℤ hi -ℤ pos 1 → ⊥ = λ e f. out (inl (e, inl f)) in
    let not_right : n ≡ neg_ℤ hi -ℤ pos 1 → d ≡ pos 0 → ⊥ = λ e f. out (inl (e, inr f)) in
    let not_left : n ≡ pos 0 → d ≡ neg_ℤ hi -ℤ pos 1 → ⊥ = λ e f. out (inr (e, f)) in
    grind (arith, ints)

-- it is in range, unless one number is -hi-1 and the other is -hi-1 or 0
pub gcd_held : (lo hi n d : ℤ) → IsRange lo hi → IsHeld lo hi n → IsHeld lo hi d → ¬ (IsGcdAboveMax hi n d) → GcdHeld lo hi n d
gcd_held lo hi n d range hn hd out = record {
  each = λ m is. bounded lo hi n d m range hn hd out is.sign
      (λ nonzero. le_of_dvd (abs_pos n nonzero) is.divisor.0)
      (λ nonzero. le_of_dvd (abs_pos d nonzero) is.divisor.1)
      (λ e f. abs-zero m (eq-zero_of_zero-dvd (is.divisor.2 0 (rw (ap unsigned_abs e) (dvd-zero 0)) (rw (ap unsigned_abs f) (dvd-zero 0)))));
}

-- for those pairs it is hi+1
gcd_at_top : (h : ℕ) (n d : ℤ) → IsGcdAboveMax (pos h) n d → IsGcdOf n d (pos (suc h))
gcd_at_top h n d (inl (e, inl f)) =
    let left : unsigned_abs n ≡ suc h = omega (arith, ints) in
    let right : unsigned_abs d ≡ suc h = omega (arith, ints) in
    record { sign = omega (arith, ints); divisor = rw (left, right) (dvd_refl (suc h), dvd_refl (suc h), λ k p q. p) }
gcd_at_top h n d (inl (e, inr f)) =
    let left : unsigned_abs n ≡ suc h = omega (arith, ints) in
    record { sign = omega (arith, ints); divisor = rw left (IsGcd-from_zero (suc h) (unsigned_abs d) (ap unsigned_abs f)) }
gcd_at_top h n d (inr (e, f)) =
    let left : unsigned_abs n ≡ 0 = ap unsigned_abs e in
    let right : unsigned_abs d ≡ suc h = omega (arith, ints) in
    record { sign = omega (arith, ints); divisor = rw (left, right) (dvd-zero (suc h), dvd_refl (suc h), λ k p q. q) }

pub gcd_held_but_three : GcdHeldButThree
gcd_held_but_three lo (pos h) n d range n_held d_held = (
  (λ held is. let bad = (held.each (pos (suc h)) (gcd_at_top h n d is)).below in omega (arith, ints)),
  gcd_held lo (pos h) n d range n_held d_held,
)
gcd_held_but_three lo (negsuc h) n d range n_held d_held = absurd (let high = range.high in omega (arith, ints))

-- if one number is not 0, the gcd is not 0
pub divisor_nonzero : (n d g : ℤ) → d ≢ pos 0 → IsGcdOf n d g → g ≢ pos 0
divisor_nonzero n d g zd is e =
    let h : 0 ∣ unsigned_abs d = rw (ap unsigned_abs e) at is.divisor.1 in
    let z = eq-zero_of_zero-dvd h in
    let up = abs_pos d zd in
    omega arith

-- dividing by a divisor leaves no rest
pub exact_quotient : (n g : ℤ) → unsigned_abs g ∣ unsigned_abs n → int_div n g *ℤ g ≡ n
exact_quotient n g h =
    let none_left : int_rem n g ≡ pos 0 = abs-zero _ (abs-rem n g ∙ mod-eq-zero_of_dvd (unsigned_abs g) h) in
    sym (+ℤ_idr (int_div n g *ℤ g)) ∙ ap (λ (t : ℤ). int_div n g *ℤ g +ℤ t) (sym none_left) ∙ quot-rem n g

-- ---- three ways to a least common multiple

-- if a or b is 0, it is 0
pub lcm_of_zero : (a b l : ℤ) → (a ≡ pos 0) ⊎ (b ≡ pos 0) → l ≡ pos 0 → IsLcmOf a b l
lcm_of_zero a b l z e = rw e (record {
  sign = omega (arith, ints);
  first = dvd-zero (unsigned_abs a);
  second = dvd-zero (unsigned_abs b);
  least = λ m p q. by_zero z m p q;
})
  where
    by_zero : (a ≡ pos 0) ⊎ (b ≡ pos 0) → (m : ℕ) → unsigned_abs a ∣ m → unsigned_abs b ∣ m → 0 ∣ m
    by_zero (inl f) m p q = rw (ap unsigned_abs f) at p
    by_zero (inr f) m p q = rw (ap unsigned_abs f) at q

-- of a number and itself, it is the magnitude
pub lcm_of_same : (a b : ℤ) → a ≡ b → IsLcmOf a b (pos (unsigned_abs a))
lcm_of_same a b e = record {
  sign = omega (arith, ints);
  first = dvd_refl (unsigned_abs a);
  second = rw (← ap unsigned_abs e) (dvd_refl (unsigned_abs a));
  least = λ m p q. p;
}

-- else it is the magnitude of a/g * b, where g is the gcd
pub lcm_by_gcd : (a b g u : ℤ) → b ≢ pos 0 → IsGcdOf a b g → u ≡ int_div a g → IsLcmOf a b (pos (unsigned_abs (u *ℤ b)))
lcm_by_gcd a b g u zb is eu =
    let whole_a : u *ℤ g ≡ a = ap (λ (t : ℤ). t *ℤ g) eu ∙ exact_quotient a g is.divisor.0 in
    let v : ℤ = int_div b g in
    let whole_b : v *ℤ g ≡ b = exact_quotient b g is.divisor.1 in
    let size_a : unsigned_abs a ≡ unsigned_abs g * unsigned_abs u = ap unsigned_abs (sym whole_a ∙ *ℤ_comm u g) ∙ unsigned_abs-mul g u in
    let size_b : unsigned_abs b ≡ unsigned_abs g * unsigned_abs v = ap unsigned_abs (sym whole_b ∙ *ℤ_comm v g) ∙ unsigned_abs-mul g v in
    let size_l : unsigned_abs (u *ℤ b) ≡ (unsigned_abs g * unsigned_abs v) * unsigned_abs u = ap unsigned_abs (*ℤ_comm u b) ∙ unsigned_abs-mul b u ∙ ap (λ t. t * unsigned_abs u) size_b in
    record {
      sign = omega (arith, ints);
      first = rw (size_l ∙ turn (unsigned_abs g) (unsigned_abs v) (unsigned_abs u), size_a) (dvd-mul_left (unsigned_abs g * unsigned_abs u) (unsigned_abs v));
      second = rw (unsigned_abs-mul u b) (dvd-mul_left (unsigned_abs b) (unsigned_abs u));
      least = λ m p q. rw size_l (lcm_least (unsigned_abs u) (unsigned_abs v) (unsigned_abs g) m (abs_pos g (divisor_nonzero a b g zb is)) (rw (size_a, size_b) at is.divisor) (rw size_a at p) (rw size_b at q));
    }
  where
    turn : (x y z : ℕ) → (x * y) * z ≡ y * (x * z)
    turn x y z = omega arith

-- there is only one
pub lcm_unique : (a b l m : ℤ) → IsLcmOf a b l → IsLcmOf a b m → l ≡ m
lcm_unique a b l m p q =
    let same_size : unsigned_abs l ≡ unsigned_abs m = dvd_antisymm (p.least (unsigned_abs m) q.first q.second) (q.least (unsigned_abs l) p.first p.second) in
    let up_l : pos 0 ≤ℤ l = p.sign in
    let up_m : pos 0 ≤ℤ m = q.sign in
    omega (arith, ints)

pub lcm_held : (lo hi a b l : ℤ) → IsLcmOf a b l → IsHeld lo hi l → LcmHeld lo hi a b
lcm_held lo hi a b l is h = record { each = λ m other. rw (lcm_unique a b m l other is) h }

-- ---- what `try_lcm` returns

pub zero_held : (lo hi z : ℤ) → IsRange lo hi → z ≡ pos 0 → IsHeld lo hi z
zero_held lo hi z range e =
    let low : lo ≤ℤ pos 0 = low_below lo hi range in
    let high : pos 2 ≤ℤ hi = range.high in
    record { above = omega (arith, ints); below = omega (arith, ints) }

-- a product is in range if its magnitude is
pub magnitude_held : (lo hi u b : ℤ) → IsRange lo hi → IsHeld lo hi u → IsHeld lo hi b → IsHeld lo hi (pos (unsigned_abs (u *ℤ b))) → IsHeld lo hi (u *ℤ b)
magnitude_held lo hi (pos n) (pos m) range hu hb h = h
magnitude_held lo hi (pos n) (negsuc m) range hu hb h = by_range lo hi (pos n *ℤ negsuc m) range (grind (arith, ints)) h
  where
    by_range : (lo hi z : ℤ) → IsRange lo hi → lo <ℤ pos 0 → IsHeld lo hi (pos (unsigned_abs z)) → IsHeld lo hi z
    by_range lo hi z range low h = grind (arith, ints)
magnitude_held lo hi (negsuc n) (pos m) range hu hb h = by_range lo hi (negsuc n *ℤ pos m) range (grind (arith, ints)) h
  where
    by_range : (lo hi z : ℤ) → IsRange lo hi → lo <ℤ pos 0 → IsHeld lo hi (pos (unsigned_abs z)) → IsHeld lo hi z
    by_range lo hi z range low h = grind (arith, ints)
magnitude_held lo hi (negsuc n) (negsuc m) range hu hb h = h

-- the result for a number with the magnitude of the multiple: its negative if it is below 0, and else the number
checks_lcm : {T : Type 0} (value : T → ℤ) (lo hi a b l : ℤ) (r : Option T) → IsLcmOf a b l → Checks value lo hi l r → ChecksLcm value lo hi a b r
checks_lcm value lo hi a b l None is h = λ held. h (held.each l is)
checks_lcm value lo hi a b l (Some y) is h = (lcm_held lo hi a b l is h.0, rw h.1 is)

pub below_zero : {T : Type 0} (value : T → ℤ) (lo hi a b z test zero : ℤ) (r : Option T) → IsLcmOf a b (pos (unsigned_abs z)) → test ≡ pos 0 → zero ≡ pos 0 → z <ℤ test → Checks value lo hi (zero -ℤ z) r → ChecksLcm value lo hi a b r
below_zero value lo hi a b z test zero r is e f negative h =
    let size : zero -ℤ z ≡ pos (unsigned_abs z) = omega (arith, ints) in
    checks_lcm value lo hi a b (pos (unsigned_abs z)) r is (rw size at h)

pub from_zero : (lo hi a b z test : ℤ) → IsLcmOf a b (pos (unsigned_abs z)) → test ≡ pos 0 → test ≤ℤ z → IsHeld lo hi z → LcmHeld lo hi a b × IsLcmOf a b z
from_zero lo hi a b z test is e up h =
    let size : pos (unsigned_abs z) ≡ z = omega (arith, ints) in
    let is_z : IsLcmOf a b z = rw size at is in
    (lcm_held lo hi a b z is_z h, is_z)
