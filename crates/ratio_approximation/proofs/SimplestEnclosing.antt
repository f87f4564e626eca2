-- Two neighbours around both ends, over natural numbers: what lies between, and the first fraction that does.
use Rattle.std.specs.Prelude.{◌≡◌, ◌⊎◌, ◌+◌, ◌*◌, ◌<◌, ◌≤◌, ◌≤ℤ◌, ◌<ℤ◌, ◌+ℤ◌, ◌-ℤ◌, ◌*ℤ◌, ℕ, ℤ, zero, suc, pos, negsuc, unsigned_abs}
use Rattle.std.proofs.Common.{refl, ap, arith, inl, inr}
use Rattle.std.proofs.lemmas.Int.{ints}
use Rattle.std.proofs.Math.Nat.{mul-le-mul_left, mul-le-mul_right}
use borrow.Author.Differences.{up, down}
use Rattle.ratio_approximation.proofs.NearestCounting.{either_way}
use Rattle.ratio_core.proofs.Neighbours.{AreAround, compared, flat, numer_made, denom_made, never_left, never_right}
use Rattle.ratio_approximation.specs.Enclosing.{IsOnOneSide}
use Rattle.ratio_approximation.specs.Simplest.{IsBetween, IsSimplest}

-- two places cannot be in both orders
crossed : (x y lo rt lt ro k h i : ℕ) → k * rt ≤ lo → lt ≤ k * ro → suc h + y * lo ≡ x * rt → suc i + x * ro ≡ y * lt → ⊥
crossed x y lo rt lt ro k h i over under first second =
    let a : y * (k * rt) ≤ y * lo = mul-le-mul_left y over in
    let b : y * lt ≤ y * (k * ro) = mul-le-mul_left y under in
    let c : (y * k) * rt < x * rt = omega arith in
    let e : x * ro < (y * k) * ro = omega arith in
    elim (either_way x (y * k)) [
      | inl less ↦ (let f : x * rt ≤ (y * k) * rt = mul-le-mul_right rt less in omega arith)
      | inr more ↦ (let f : (y * k) * ro ≤ x * ro = mul-le-mul_right ro (omega arith) in omega arith)
    ]

-- how far two whole numbers differ
pub excess : (u w : ℤ) → w <ℤ u → (h : ℕ) × (u ≡ w +ℤ pos (suc h))
excess u w less = by (u -ℤ w) refl
  where
    by : (z : ℤ) → z ≡ u -ℤ w → (h : ℕ) × (u ≡ w +ℤ pos (suc h))
    by (pos zero) e = absurd (omega (arith, ints))
    by (pos (suc t)) e = (t, omega (arith, ints))
    by (negsuc t) e = absurd (omega (arith, ints))

nothing : (h q z : ℕ) → 0 < q → suc h * q + z ≡ 0 → ⊥
nothing h zero z up e = omega arith
nothing h (suc q) z up e = omega arith

-- p lies from 0 to a
abbrev pub IsToward : ℤ → ℤ → Type 0
IsToward p a = ((pos 0 ≤ℤ p) × (p ≤ℤ a)) ⊎ ((a ≤ℤ p) × (p ≤ℤ pos 0))

pub toward : (lp rp p a : ℤ) (x y : ℕ) → IsOnOneSide lp rp → p ≡ lp +ℤ rp → a ≡ lp *ℤ pos (suc y) +ℤ rp *ℤ pos (suc x) → IsToward p a
toward (pos i) (pos j) p a x y side sum made = inl (rw sum (omega (arith, ints)), rw (sum, made) (omega (arith, ints)))
toward (pos zero) (negsuc j) p a x y side sum made = inr (rw (sum, made) (omega (arith, ints)), rw sum (omega (arith, ints)))
toward (pos (suc i)) (negsuc j) p a x y side sum made = absurd (grind (arith, ints))
toward (negsuc i) (pos zero) p a x y side sum made = inr (rw (sum, made) (omega (arith, ints)), rw sum (omega (arith, ints)))
toward (negsuc i) (pos (suc j)) p a x y side sum made = absurd (grind (arith, ints))
toward (negsuc i) (negsuc j) p a x y side sum made = inr (rw (sum, made) (omega (arith, ints)), rw sum (omega (arith, ints)))

-- the numerator of a fraction between is no nearer to 0 than the sum
pub no_nearer : (lp rp p a : ℤ) (x y : ℕ) → IsOnOneSide lp rp → p ≡ lp +ℤ rp → a ≡ lp *ℤ pos (suc y) +ℤ rp *ℤ pos (suc x) → unsigned_abs p ≤ unsigned_abs a
no_nearer (pos i) (pos j) p a x y side sum made = rw (sum, made) (omega (arith, ints))
no_nearer (pos zero) (negsuc j) p a x y side sum made = rw (sum, made) (omega (arith, ints))
no_nearer (pos (suc i)) (negsuc j) p a x y side sum made = absurd (grind (arith, ints))
no_nearer (negsuc i) (pos zero) p a x y side sum made = rw (sum, made) (omega (arith, ints))
no_nearer (negsuc i) (pos (suc j)) p a x y side sum made = absurd (grind (arith, ints))
no_nearer (negsuc i) (negsuc j) p a x y side sum made = rw (sum, made) (omega (arith, ints))

module _ (n : ℤ) (d : ℕ) (m : ℤ) (e : ℕ) (lp : ℤ) (lq lo lt : ℕ) (rp : ℤ) (rq ro rt : ℕ) (low : AreAround n d lp lq lo rp rq rt) (high : AreAround m e lp lq lt rp rq ro) where
  -- a fraction between both ends lies between both neighbours
  module _ (lq_up : 0 < lq) (rq_up : 0 < rq) (a : ℤ) (b : ℕ) (between : IsBetween n (pos d) m (pos e) a (pos b)) where
    pub above-left : (x : ℕ) × (a *ℤ pos lq ≡ lp *ℤ pos b +ℤ pos (suc x))
    above-left =
        let over = excess (a *ℤ pos d) (n *ℤ pos b) between.above in
        elim (compared a lp lq b) [
          | inl (zero, same) ↦ absurd (nothing over.0 lq _ lq_up (never_left n d lp lq lo rp rq rt low a b 0 (suc over.0) (omega (arith, ints)) over.1))
          | inl (suc x, same) ↦ (x, same)
          | inr (t, same) ↦ absurd (nothing over.0 lq _ lq_up (never_left n d lp lq lo rp rq rt low a b (suc t) (suc over.0) same over.1))
        ]

    pub below-right : (y : ℕ) × (rp *ℤ pos b ≡ a *ℤ pos rq +ℤ pos (suc y))
    below-right =
        let over = excess (m *ℤ pos b) (a *ℤ pos e) between.below in
        elim (compared rp a b rq) [
          | inl (zero, same) ↦ absurd (nothing over.0 rq _ rq_up (never_right m e lp lq lt rp rq ro high a b 0 (suc over.0) (omega (arith, ints)) over.1))
          | inl (suc y, same) ↦ (y, same)
          | inr (t, same) ↦ absurd (nothing over.0 rq _ rq_up (never_right m e lp lq lt rp rq ro high a b (suc t) (suc over.0) same over.1))
        ]

    pub within : AreAround a b lp lq (suc above-left.0) rp rq (suc below-right.0)
    within = record { left = above-left.1; right = below-right.1; unit = low.unit }

  -- where it lies between both neighbours, against the low end and against the high one
  pub beside_low : (a : ℤ) (b x y h : ℕ) → AreAround a b lp lq x rp rq y → a *ℤ pos d ≡ n *ℤ pos b +ℤ pos h → h + y * lo ≡ x * rt
  beside_low a b x y h in_ e =
      let num = numer_made a b lp lq x rp rq y in_ in
      let den : b ≡ lq * y + rq * x = denom_made a b lp lq x rp rq y in_ in
      let s : up a + down lp * y + down rp * x ≡ down a + up lp * y + up rp * x = omega (arith, ints) in
      let l : up n * lq + down lp * d ≡ down n * lq + up lp * d + lo = flat n lp lq d lo low.left in
      let r : up rp * d + down n * rq ≡ down rp * d + up n * rq + rt = flat rp n d rq rt low.right in
      let c : up a * d + down n * b ≡ down a * d + up n * b + h = flat a n d b h e in
      omega (arith, ap (λ z. z * d) s, ap (λ z. z * up n) den, ap (λ z. z * down n) den, ap (λ z. z * y) l, ap (λ z. z * x) r)

  pub beside_high : (a : ℤ) (b x y h : ℕ) → AreAround a b lp lq x rp rq y → m *ℤ pos b ≡ a *ℤ pos e +ℤ pos h → h + x * ro ≡ y * lt
  beside_high a b x y h in_ c_ =
      let num = numer_made a b lp lq x rp rq y in_ in
      let den : b ≡ lq * y + rq * x = denom_made a b lp lq x rp rq y in_ in
      let s : up a + down lp * y + down rp * x ≡ down a + up lp * y + up rp * x = omega (arith, ints) in
      let l : up m * lq + down lp * e ≡ down m * lq + up lp * e + lt = flat m lp lq e lt high.left in
      let r : up rp * e + down m * rq ≡ down rp * e + up m * rq + ro = flat rp m e rq ro high.right in
      let c : up m * b + down a * e ≡ down m * b + up a * e + h = flat m a b e h c_ in
      omega (arith, ap (λ z. z * e) s, ap (λ z. z * up m) den, ap (λ z. z * down m) den, ap (λ z. z * y) l, ap (λ z. z * x) r)

  pub sum_toward : 0 < lq → 0 < rq → IsOnOneSide lp rp → (p : ℤ) → p ≡ lp +ℤ rp → (a b : ℤ) → IsBetween n (pos d) m (pos e) a b → IsToward p a
  sum_toward lq_up rq_up side p sum a (negsuc b) between = absurd (let up = between.positive in omega (arith, ints))
  sum_toward lq_up rq_up side p sum a (pos b) between = toward lp rp p a _ _ side sum (numer_made a b lp lq _ rp rq _ (within lq_up rq_up a b between))

  -- the sum of both is the simplest fraction, where it lies between
  pub sum_simplest : 0 < lq → 0 < rq → IsOnOneSide lp rp → lo < rt → ro < lt → (p : ℤ) → p ≡ lp +ℤ rp → IsSimplest n (pos d) m (pos e) p (pos (lq + rq))
  sum_simplest lq_up rq_up side low_less high_less p sum =
      let s : up p + down lp + down rp ≡ down p + up lp + up rp = omega (arith, ints) in
      let l : up n * lq + down lp * d ≡ down n * lq + up lp * d + lo = flat n lp lq d lo low.left in
      let r : up rp * d + down n * rq ≡ down rp * d + up n * rq + rt = flat rp n d rq rt low.right in
      let l' : up m * lq + down lp * e ≡ down m * lq + up lp * e + lt = flat m lp lq e lt high.left in
      let r' : up rp * e + down m * rq ≡ down rp * e + up m * rq + ro = flat rp m e rq ro high.right in
      record {
        between = record {
          positive = omega (arith, ints);
          above = omega (arith, ints, ap (λ z. z * d) s);
          below = omega (arith, ints, ap (λ z. z * e) s);
        };
        denom = denom;
        numer = numer;
      }
    where
      denom : (a b : ℤ) → IsBetween n (pos d) m (pos e) a b → pos (lq + rq) ≤ℤ b
      denom a (negsuc b) between = absurd (let up = between.positive in omega (arith, ints))
      denom a (pos b) between =
          let made : b ≡ lq * suc (below-right lq_up rq_up a b between).0 + rq * suc (above-left lq_up rq_up a b between).0 = denom_made a b lp lq _ rp rq _ (within lq_up rq_up a b between) in
          omega (arith, ints)

      numer : (a b : ℤ) → IsBetween n (pos d) m (pos e) a b → unsigned_abs p ≤ unsigned_abs a
      numer a (negsuc b) between = absurd (let up = between.positive in omega (arith, ints))
      numer a (pos b) between = no_nearer lp rp p a _ _ side sum (numer_made a b lp lq _ rp rq _ (within lq_up rq_up a b between))

  -- there is none between, where the low end is not below the high one
  pub none_past_left : 0 < lq → 0 < rq → 0 < ro → (k : ℕ) → k * rt ≤ lo → lt ≤ k * ro → (a b : ℤ) → ¬ (IsBetween n (pos d) m (pos e) a b)
  none_past_left lq_up rq_up ro_up k over under a (negsuc b) between = (let up = between.positive in omega (arith, ints))
  none_past_left lq_up rq_up ro_up k over under a (pos b) between =
      let x : ℕ = (above-left lq_up rq_up a b between).0 in
      let y : ℕ = (below-right lq_up rq_up a b between).0 in
      let above = excess (a *ℤ pos d) (n *ℤ pos b) between.above in
      let below = excess (m *ℤ pos b) (a *ℤ pos e) between.below in
      let first : suc above.0 + suc y * lo ≡ suc x * rt = beside_low a b _ _ _ (within lq_up rq_up a b between) above.1 in
      let second : suc below.0 + suc x * ro ≡ suc y * lt = beside_high a b _ _ _ (within lq_up rq_up a b between) below.1 in
      crossed (suc x) (suc y) lo rt lt ro k above.0 below.0 over under first second

  pub none_past_right : 0 < lq → 0 < rq → 0 < rt → (k : ℕ) → k * lt ≤ ro → rt ≤ k * lo → (a b : ℤ) → ¬ (IsBetween n (pos d) m (pos e) a b)
  none_past_right lq_up rq_up rt_up k over under a (negsuc b) between = (let up = between.positive in omega (arith, ints))
  none_past_right lq_up rq_up rt_up k over under a (pos b) between =
      let above = excess (a *ℤ pos d) (n *ℤ pos b) between.above in
      let below = excess (m *ℤ pos b) (a *ℤ pos e) between.below in
      let first : suc above.0 + suc (below-right lq_up rq_up a b between).0 * lo ≡ suc (above-left lq_up rq_up a b between).0 * rt = beside_low a b _ _ _ (within lq_up rq_up a b between) above.1 in
      let second : suc below.0 + suc (above-left lq_up rq_up a b between).0 * ro ≡ suc (below-right lq_up rq_up a b between).0 * lt = beside_high a b _ _ _ (within lq_up rq_up a b between) below.1 in
      crossed (suc (below-right lq_up rq_up a b between).0) (suc (above-left lq_up rq_up a b between).0) ro lt rt lo k below.0 above.0 over under second first
