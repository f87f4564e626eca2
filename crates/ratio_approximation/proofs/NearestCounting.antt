-- The number of rounds: each but the first at least halves the product of both gaps.
use Rattle.std.specs.Prelude.{◌≡◌, ◌≢◌, ◌⊎◌, ◌+◌, ◌*◌, ◌^◌, ◌<◌, ◌≤◌, ◌≤ℤ◌, ◌<ℤ◌, ◌+ℤ◌, ◌-ℤ◌, ◌*ℤ◌, ℕ, ℤ, zero, suc, pos, unsigned_abs}
use Rattle.std.proofs.Common.{refl, ap, arith, inl, inr}
use Rattle.std.proofs.Math.Nat.{mul-le-mul, mul-le-mul_left}
use Rattle.std.proofs.Math.Pow.{pow-add}
use Rattle.std.proofs.lemmas.Nat.{mul-lt, pow_below}
use Rattle.std.proofs.lemmas.Int.{ints}
use Rattle.ratio_integer.specs.Division.{IsFloored}
use Rattle.ratio_core.specs.ContinuedFraction.{IsWithinBits}
use Rattle.ratio_approximation.specs.Convergents.{IsConvergentCount}
use Rattle.ratio_core.proofs.Around.{made}
use Rattle.ratio_approximation.proofs.Convergents.{HavePassed, passed_first, passed_last, passed_more, passed_none}
use Rattle.ratio_approximation.proofs.Shares.{IsShare}

-- after k rounds the gaps are g and h; the fixed neighbour has h
pub data AreRounds (d : ℕ) : ℕ → ℕ → ℕ → Type 0 where
  begun : {g h : ℕ} → 0 < g → g + h ≡ d → AreRounds d 0 g h
  going : {k g h : ℕ} → h < g → 2 ^ k * (2 * (g * h)) ≤ d * d → AreRounds d k g h

pub either_way : (a b : ℕ) → (a ≤ b) ⊎ (b < a)
either_way zero b = inl (omega arith)
either_way (suc a) zero = inr (omega arith)
either_way (suc a) (suc b) = elim (either_way a b) [
  | inl h ↦ inl (omega arith)
  | inr h ↦ inr (omega arith)
]

-- 4*g*h is at most the square of g + h
pub four_products : (g h : ℕ) → 4 * (g * h) ≤ (g + h) * (g + h)
four_products zero h = omega arith
four_products (suc g) zero = omega arith
four_products (suc g) (suc h) = omega (arith, four_products g h)

-- one more round
pub more : (d k g h w r : ℕ) → 0 < h → g ≡ r + w * h → r < h → AreRounds d k g h → AreRounds d (k + 1) h r
more d zero g h w r up is less (begun g_up sum) =
    let one : 2 ^ (0 + 1) ≡ 2 = refl in
    let smaller : h * r ≤ h * g = mul-le-mul_left h (omega arith) in
    let square : 4 * (g * h) ≤ (g + h) * (g + h) = four_products g h in
    let whole : (g + h) * (g + h) ≡ d * d = ap (λ t. t * t) sum in
    going less (rw one (omega arith))
more d k g h zero r up is less (going above bound) = absurd (omega arith)
more d k g h (suc w) r up is less (going above bound) =
    let power : 2 ^ (k + 1) ≡ 2 ^ k * 2 ^ 1 = pow-add 2 k 1 in
    let half : h * (2 * r) ≤ h * g = mul-le-mul_left h (omega arith) in
    let scaled : 2 ^ k * (h * (2 * r)) ≤ 2 ^ k * (h * g) = mul-le-mul_left (2 ^ k) half in
    going less (rw power (omega arith))

-- with the last round, and the division before the first
pub counted : (d k g h : ℕ) → 0 < h → AreRounds d k g h → IsWithinBits d (k + 2)
counted d zero g h h_up (begun g_up sum) zero less = absurd (omega arith)
counted d zero g h h_up (begun g_up sum) (suc zero) less = absurd (omega arith)
counted d zero g h h_up (begun g_up sum) (suc (suc j)) less = omega arith
counted d k g h h_up (going above bound) j less =
    let product : 2 * 1 ≤ g * h = mul-le-mul (let up : 2 ≤ g = omega arith in up) h_up in
    let scaled : 2 ^ k * (2 * 1) ≤ 2 ^ k * (g * h) = mul-le-mul_left (2 ^ k) product in
    let square : d * d < 2 ^ j * 2 ^ j = mul-lt d d (2 ^ j) (2 ^ j) less less in
    let power : 2 ^ (k + 2) ≡ 2 ^ k * 2 ^ 2 = pow-add 2 k 2 in
    let double : 2 ^ (j + j) ≡ 2 ^ j * 2 ^ j = pow-add 2 j j in
    elim (either_way (k + 2) (2 * j)) [
      | inl h ↦ h
      | inr h ↦ absurd (let larger : 2 ^ (j + j) < 2 ^ (k + 2) = pow_below (j + j) (k + 2) (omega arith) in omega arith)
    ]

-- one division alone
pub once : (d : ℕ) → 0 < d → IsWithinBits d 1
once d up zero less = absurd (omega arith)
once d up (suc j) less = omega arith

pub never : (d : ℕ) → IsWithinBits d 0
never d j less = omega arith

-- ---- as the search counts them

-- since the counts were `left` and `right`, there was one division on the left, and then a number of rounds with one division a
-- side. Now the two neighbours have the gaps g and h and the denominators p and e
pub record HaveGone (n d most : ℤ) (left left' right right' : ℕ) (p g e h : ℤ) : Type 0 where
  pub rounds : ℕ
  pub left_rose : left' ≡ left + (rounds + 1)
  pub right_rose : right' ≡ right + rounds
  pub gaps : AreRounds (unsigned_abs d) rounds (unsigned_abs g) (unsigned_abs h)
  pub passed : HavePassed n d most rounds p g e h

pub gone_begun : (n d most f r p g e : ℤ) (left left' right right' : ℕ) → left' ≡ left + 1 → right' ≡ right → pos 0 <ℤ d → IsFloored n d f r → r ≢ pos 0 → p ≡ pos 1 → g ≡ d -ℤ r → e ≡ pos 1 → HaveGone n d most left left' right right' p g e r
gone_begun n d most f r p g e left left' right right' next same up is above p-is g-is e-is =
    let rest : (pos 0 ≤ℤ r) × (r <ℤ d) = (let rest = is.rest in grind (arith, ints)) in
    record { rounds = 0; left_rose = omega arith; right_rose = omega arith; gaps = begun (omega (arith, ints)) (omega (arith, ints)); passed = passed_first n d most f r p g e p-is e-is g-is is above }

-- w steps lead from the denominator p and the gap g to q and z
pub gone_more : {n d most p g e h w q z : ℤ} {left left' left'' right right' right'' : ℕ} → left'' ≡ left' + 1 → right'' ≡ right' + 1 → pos 0 <ℤ h → pos 0 <ℤ z → e ≤ℤ most → pos 0 <ℤ e → IsShare g h w → q ≡ p +ℤ e *ℤ w → z ≡ g -ℤ h *ℤ w → HaveGone n d most left left' right right' p g e h → HaveGone n d most left left'' right right'' e h q z
gone_more {n} {d} {most} {p} {g} {e} {h} {w} {q} {z} left_next right_next up z_up within e_up is q-is z-is gone =
    let rest : z <ℤ h = rw z-is is.rest in
    let sum : unsigned_abs g ≡ unsigned_abs z + unsigned_abs w * unsigned_abs h = made z h w g (omega (arith, ints)) (omega (arith, ints)) is.up (omega (arith, ints)) in
    let left_rose = gone.left_rose in
    let right_rose = gone.right_rose in
    record {
      rounds = gone.rounds + 1;
      left_rose = omega arith;
      right_rose = omega arith;
      gaps = more (unsigned_abs d) gone.rounds (unsigned_abs g) (unsigned_abs h) (unsigned_abs w) (unsigned_abs z) (omega (arith, ints)) sum (omega (arith, ints)) gone.gaps;
      passed = passed_more n d most gone.rounds p g e h w q z within (omega (arith, ints)) is (omega (arith, ints)) q-is z-is (λ zero. omega (arith, ints)) gone.passed;
    }

module _ {n d most p g e h : ℤ} {left left' right right' : ℕ} (gone : HaveGone n d most left left' right right' p g e h) where
  bound : pos 0 <ℤ h → IsWithinBits (unsigned_abs d) (gone.rounds + 2)
  bound up = counted (unsigned_abs d) gone.rounds (unsigned_abs g) (unsigned_abs h) (omega (arith, ints)) gone.gaps

  -- the last round, counted on the left side
  pub left_ended : (next : ℕ) → next ≡ left' + 1 → pos 0 <ℤ h → (k : ℕ) × (next ≡ left + k) × IsWithinBits (unsigned_abs d) k
  left_ended next one up = (gone.rounds + 2, (let rose = gone.left_rose in omega arith), bound up)

  -- the last round, counted on the right side
  pub right_ended : (next : ℕ) → next ≡ right' + 1 → pos 0 <ℤ h → (k : ℕ) × (next ≡ right + k) × IsWithinBits (unsigned_abs d) k
  right_ended next one up =
      (gone.rounds + 1, (let rose = gone.right_rose in omega arith), λ j less. (let most : gone.rounds + 2 ≤ 2 * j = bound up j less in omega arith))

  -- the exact count: w steps fit the gap, and they lead to n/d or beyond the bound
  pub steps_ended : (left'' right'' : ℕ) (w : ℤ) → left'' ≡ left' + 1 → right'' ≡ right' + 1 → e ≤ℤ most → pos 0 <ℤ e → IsShare g h w → ((g -ℤ h *ℤ w) ≡ pos 0) ⊎ (most <ℤ (p +ℤ e *ℤ w)) → (k : ℕ) × (left'' ≡ left + (k + 1)) × (right'' ≡ right + k) × IsConvergentCount n d most k
  steps_ended left'' right'' w left_next right_next within e_up is end = (
    gone.rounds + 1,
    (let rose = gone.left_rose in omega arith),
    (let rose = gone.right_rose in omega arith),
    passed_last n d most gone.rounds p g e h w (g -ℤ h *ℤ w) within (omega (arith, ints)) is refl end gone.passed,
  )

-- if the first division leaves no rest, it is the only one
pub steps_none : (n d most f r : ℤ) (left left' right right' : ℕ) → left' ≡ left + 1 → right' ≡ right → IsFloored n d f r → r ≡ pos 0 → (k : ℕ) × (left' ≡ left + (k + 1)) × (right' ≡ right + k) × IsConvergentCount n d most k
steps_none n d most f r left left' right right' one same floored exact = (0, omega arith, omega arith, passed_none n d most f r floored exact)
