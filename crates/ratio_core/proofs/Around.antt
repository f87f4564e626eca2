-- Two neighbours around n/d, with whole numbers as the type has them.
use Rattle.std.specs.Prelude.{◌≡◌, ◌⊎◌, ◌+◌, ◌*◌, ◌≤◌, ◌≤ℤ◌, ◌<ℤ◌, ◌+ℤ◌, ◌-ℤ◌, ◌*ℤ◌, ◌-◌, ℕ, ℤ, zero, suc, pos, negsuc, unsigned_abs}
use Rattle.std.proofs.Common.{refl, sym, ap, arith, inl, inr, ◌∙◌}
use Rattle.std.proofs.lemmas.Int.{ints}
use borrow.Author.Differences.{up, down}
use Rattle.ratio_integer.specs.Division.{IsFloored}
use Rattle.ratio_core.proofs.Neighbours.{AreAround, left_moved, raised, right_moved}

-- p is 0 or on the same side of 0 as n
abbrev pub IsAlong : ℤ → ℤ → Type 0
IsAlong n p = ((pos 0 ≤ℤ n) × (pos 0 ≤ℤ p)) ⊎ ((n <ℤ pos 0) × (p ≤ℤ pos 0))

-- p/q can be a neighbour of n/d, with the gap g
pub record IsNeighbour (n most p q g : ℤ) : Type 0 where
  pub along : IsAlong n p
  pub positive : pos 0 <ℤ q
  pub within : q ≤ℤ most
  pub gap_up : pos 0 ≤ℤ g

-- two neighbours lie around n/d, the first on the left
pub record StandAround (n d most lp lq lg rp rq rg : ℤ) : Type 0 where
  pub left : IsNeighbour n most lp lq lg
  pub right : IsNeighbour n most rp rq rg
  pub around : AreAround n (unsigned_abs d) lp (unsigned_abs lq) (unsigned_abs lg) rp (unsigned_abs rq) (unsigned_abs rg)

-- the same, on either side
abbrev pub Surround : ℤ → ℤ → ℤ → ℤ → ℤ → ℤ → ℤ → ℤ → ℤ → Type 0
Surround n d most p q g m e h = StandAround n d most p q g m e h ⊎ StandAround n d most m e h p q g

-- ---- moving one of them k times towards the other

pub made : (a b k z : ℤ) → pos 0 ≤ℤ a → pos 0 ≤ℤ b → pos 0 ≤ℤ k → z ≡ a +ℤ b *ℤ k → unsigned_abs z ≡ unsigned_abs a + unsigned_abs k * unsigned_abs b
made (negsuc a) b k z ap_ bp kp e = absurd (omega (arith, ints))
made a (negsuc b) k z ap_ bp kp e = absurd (omega (arith, ints))
made a b (negsuc k) z ap_ bp kp e = absurd (omega (arith, ints))
made (pos a) (pos b) (pos k) z ap_ bp kp e = ap unsigned_abs e ∙ (let s : a + b * k ≡ a + k * b = omega arith in s)

-- ---- signs

pub up_product : (a k : ℤ) → pos 0 ≤ℤ a → pos 0 ≤ℤ k → pos 0 ≤ℤ (a *ℤ k)
up_product (pos a) (pos k) h l = omega (arith, ints)
up_product (negsuc a) k h l = absurd (omega (arith, ints))
up_product a (negsuc k) h l = absurd (omega (arith, ints))

down_product : (a k : ℤ) → a ≤ℤ pos 0 → pos 0 ≤ℤ k → (a *ℤ k) ≤ℤ pos 0
down_product (pos zero) (pos k) h l = omega (arith, ints)
down_product (pos (suc a)) k h l = absurd (omega (arith, ints))
down_product (negsuc a) (pos k) h l = omega (arith, ints)
down_product a (negsuc k) h l = absurd (omega (arith, ints))

pub along_product : (n a k : ℤ) → IsAlong n a → pos 0 ≤ℤ k → IsAlong n (a *ℤ k)
along_product n a k (inl h) up = inl (h.0, up_product a k h.1 up)
along_product n a k (inr h) up = inr (h.0, down_product a k h.1 up)

along_sum : (n a b : ℤ) → IsAlong n a → IsAlong n b → IsAlong n (a +ℤ b)
along_sum n a b h l = grind (arith, ints)

-- ---- one step, on either side

module _ (n d most p q g m e h k p' q' g' : ℤ) (up : pos 0 ≤ℤ k) (p-is : p' ≡ p +ℤ m *ℤ k) (q-is : q' ≡ q +ℤ e *ℤ k) (g-is : g' ≡ g -ℤ h *ℤ k) (g_up : pos 0 ≤ℤ g') (within : q' ≤ℤ most) where
  moved_neighbour : IsNeighbour n most p q g → IsNeighbour n most m e h → IsNeighbour n most p' q' g'
  moved_neighbour moving fixed = record {
    along = rw p-is (along_sum n p (m *ℤ k) moving.along (along_product n m k fixed.along up));
    positive =
        let add : pos 0 ≤ℤ (e *ℤ k) = up_product e k (let a = fixed.positive in omega (arith, ints)) up in
        let a = moving.positive in
        omega (arith, ints);
    within = within;
    gap_up = g_up;
  }

  counted : pos (unsigned_abs k) ≡ k
  counted = natural k up
    where
      natural : (z : ℤ) → pos 0 ≤ℤ z → pos (unsigned_abs z) ≡ z
      natural (pos z) h = refl
      natural (negsuc z) h = absurd (omega (arith, ints))

  numer-moved : p' ≡ p +ℤ m *ℤ pos (unsigned_abs k)
  numer-moved = p-is ∙ ap (λ (t : ℤ). p +ℤ m *ℤ t) (sym counted)

  module _ (moving : IsNeighbour n most p q g) (fixed : IsNeighbour n most m e h) where
    denom-moved : unsigned_abs q' ≡ unsigned_abs q + unsigned_abs k * unsigned_abs e
    denom-moved = made q e k q' (let a = moving.positive in omega (arith, ints)) (let a = fixed.positive in omega (arith, ints)) up q-is

    gap-moved : unsigned_abs g ≡ unsigned_abs k * unsigned_abs h + unsigned_abs g'
    gap-moved =
        let sum : unsigned_abs g ≡ unsigned_abs g' + unsigned_abs k * unsigned_abs h = made g' h k g g_up fixed.gap_up up (omega (arith, ints)) in
        omega arith

  pub surround_moved : Surround n d most p q g m e h → Surround n d most m e h p' q' g'
  surround_moved (inl stand) = inr (record {
    left = moved_neighbour stand.left stand.right;
    right = stand.right;
    around = rw (denom-moved stand.left stand.right) (left_moved n _ p _ _ m _ _ stand.around p' (unsigned_abs k) (unsigned_abs g') numer-moved (gap-moved stand.left stand.right));
  })
  surround_moved (inr stand) = inl (record {
    left = stand.left;
    right = moved_neighbour stand.right stand.left;
    around = rw (denom-moved stand.right stand.left) (right_moved n _ m _ _ p _ _ stand.around p' (unsigned_abs k) (unsigned_abs g') numer-moved (gap-moved stand.right stand.left));
  })

-- ---- the start of the search: the whole numbers below and above n/d

floor_along : (n d f r : ℤ) → pos 0 <ℤ d → n ≡ f *ℤ d +ℤ r → pos 0 ≤ℤ r → r <ℤ d → IsAlong n f × IsAlong n (f +ℤ pos 1)
floor_along n (negsuc d) f r d_up sum up less = absurd (omega (arith, ints))
floor_along (pos n) (pos d) (pos f) r d_up sum up less = (inl (omega (arith, ints), omega (arith, ints)), inl (omega (arith, ints), omega (arith, ints)))
floor_along (pos n) (pos d) (negsuc f) r d_up sum up less = absurd (omega (arith, ints))
floor_along (negsuc n) (pos d) (pos f) r d_up sum up less = absurd (omega (arith, ints))
floor_along (negsuc n) (pos d) (negsuc f) r d_up sum up less = (inr (omega (arith, ints), omega (arith, ints)), inr (omega (arith, ints), omega (arith, ints)))

whole_around : (n f : ℤ) (d r : ℕ) → n ≡ f *ℤ pos d +ℤ pos r → r ≤ d → AreAround n d f 1 r (f +ℤ pos 1) 1 (d - r)
whole_around n f d r sum less = around (f +ℤ pos 1) refl
  where
    around : (c : ℤ) → c ≡ f +ℤ pos 1 → AreAround n d f 1 r c 1 (d - r)
    around c c-is =
        let s : up c + down f ≡ down c + up f + 1 = omega (arith, ints) in
        record {
          left = omega (arith, ints);
          right = raised c n d 1 (d - r) (omega (arith, ints, ap (λ t. t * d) s));
          unit = omega (arith, ints);
        }

pub begin : (n d most f r : ℤ) → pos 0 <ℤ d → pos 0 <ℤ most → IsFloored n d f r → StandAround n d most f (pos 1) r (f +ℤ pos 1) (pos 1) (d -ℤ r)
begin n (negsuc d) most f r d_up most_up is = absurd (omega (arith, ints))
begin n (pos d) most f (negsuc r) d_up most_up is = absurd (let rest = is.rest in grind (arith, ints))
begin n (pos d) most f (pos r) d_up most_up is =
    let less : pos r <ℤ pos d = (let rest = is.rest in grind (arith, ints)) in
    let sum = is.sum in
    let along = floor_along n (pos d) f (pos r) d_up sum (omega (arith, ints)) less in
    let size : unsigned_abs (pos d -ℤ pos r) ≡ d - r = omega (arith, ints) in
    record {
      left = record { along = along.0; positive = omega (arith, ints); within = omega (arith, ints); gap_up = omega (arith, ints) };
      right = record { along = along.1; positive = omega (arith, ints); within = omega (arith, ints); gap_up = omega (arith, ints) };
      around = rw size (whole_around n f d r sum (omega (arith, ints)));
    }
