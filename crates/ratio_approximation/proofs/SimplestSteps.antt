-- What the small steps require and return.
use Rattle.std.specs.Prelude.{◌≡◌, ◌≢◌, ◌≤ℤ◌, ◌<ℤ◌, ◌+ℤ◌, ◌-ℤ◌, ◌*ℤ◌, ℤ, zero, suc, pos, negsuc}
use Rattle.std.proofs.Common.{arith, inl, inr}
use Rattle.std.proofs.lemmas.Int.{ints}
use borrow.Author.Differences.{up}
use Rattle.ratio_integer.specs.Range.{IsHeld, IsRange}
use Rattle.ratio_integer.specs.Division.{IsFloored}
use Rattle.ratio_approximation.proofs.NearestMoves.{natural_held}
use Rattle.ratio_approximation.specs.Enclosing.{IsNearestZero, IsOnOneSide, IsRoom}

-- ---- the room of a gap

up_quotient : (a b c r : ℤ) → pos 0 <ℤ a → pos 0 <ℤ b → IsFloored a b c r → pos 0 ≤ℤ c
up_quotient (negsuc a) b c r a_up b_up is = absurd (omega (arith, ints))
up_quotient (pos a) (negsuc b) c r a_up b_up is = absurd (omega (arith, ints))
up_quotient (pos a) (pos b) (pos c) r a_up b_up is = omega (arith, ints)
up_quotient (pos a) (pos b) (negsuc c) r a_up b_up is = absurd (let sum = is.sum in let rest = is.rest in grind (arith, ints))

pub some_quotient : (a b c r : ℤ) → pos 0 <ℤ a → pos 0 <ℤ b → IsFloored a b c r → r ≡ pos 0 → pos 0 <ℤ c
some_quotient (negsuc a) b c r a_up b_up is none = absurd (omega (arith, ints))
some_quotient (pos a) (negsuc b) c r a_up b_up is none = absurd (omega (arith, ints))
some_quotient (pos a) (pos b) (pos zero) r a_up b_up is none = absurd (let sum = is.sum in omega (arith, ints))
some_quotient (pos a) (pos b) (pos (suc c)) r a_up b_up is none = omega (arith, ints)
some_quotient (pos a) (pos b) (negsuc c) r a_up b_up is none = absurd (let sum = is.sum in grind (arith, ints))

pub room_whole : (a b c r k : ℤ) → pos 0 <ℤ a → pos 0 <ℤ b → IsFloored a b c r → r ≡ pos 0 → k ≡ c -ℤ pos 1 → IsRoom a b k
room_whole a b c r k a_up b_up is none k-is =
    let some = some_quotient a b c r a_up b_up is none in
    by a b c r k a_up b_up some is none k-is
  where
    by : (a b c r k : ℤ) → pos 0 <ℤ a → pos 0 <ℤ b → pos 0 <ℤ c → IsFloored a b c r → r ≡ pos 0 → k ≡ c -ℤ pos 1 → IsRoom a b k
    by (negsuc a) b c r k a_up b_up some is none k-is = absurd (omega (arith, ints))
    by (pos a) (negsuc b) c r k a_up b_up some is none k-is = absurd (omega (arith, ints))
    by (pos a) (pos b) (negsuc c) r k a_up b_up some is none k-is = absurd (omega (arith, ints))
    by (pos a) (pos b) (pos zero) r k a_up b_up some is none k-is = absurd (omega (arith, ints))
    by (pos a) (pos b) (pos (suc c)) r (negsuc k) a_up b_up some is none k-is = absurd (omega (arith, ints))
    by (pos a) (pos b) (pos (suc c)) r (pos k) a_up b_up some is none k-is =
        let sum = is.sum in
        let same : k ≡ c = omega (arith, ints) in
        rw same (record { up = omega (arith, ints); left = omega (arith, ints); next = omega (arith, ints) })

pub room_part : (a b c r : ℤ) → pos 0 <ℤ a → pos 0 <ℤ b → IsFloored a b c r → r ≢ pos 0 → IsRoom a b c
room_part (negsuc a) b c r a_up b_up is some = absurd (omega (arith, ints))
room_part (pos a) (negsuc b) c r a_up b_up is some = absurd (omega (arith, ints))
room_part (pos a) (pos b) (negsuc c) r a_up b_up is some = absurd (let up = up_quotient (pos a) (pos b) (negsuc c) r a_up b_up is in omega (arith, ints))
room_part (pos a) (pos b) (pos c) r a_up b_up is some =
    let sum = is.sum in
    let rest = is.rest in
    record { up = omega (arith, ints); left = grind (arith, ints); next = grind (arith, ints) }

pub one_less_held : (lo hi c k : ℤ) → IsRange lo hi → IsHeld lo hi c → pos 0 <ℤ c → IsHeld lo hi (c -ℤ pos 1)
one_less_held lo hi c k range held up = grind (arith, ints)

-- ---- a part of a number in range is in range

sided_held : (lo hi p z : ℤ) → IsRange lo hi → IsOnOneSide p z → IsHeld lo hi (p +ℤ z) → IsHeld lo hi z
sided_held lo hi p z range side held = grind (arith, ints)

along : (p a k : ℤ) → IsOnOneSide p a → pos 0 ≤ℤ k → IsOnOneSide p (a *ℤ k)
along p a (negsuc k) side up = absurd (omega (arith, ints))
along p (pos a) (pos k) (inl s) up = inl (s.0, omega (arith, ints))
along p (negsuc a) (pos k) (inl s) up = absurd (let below = s.1 in omega (arith, ints))
along p (pos zero) (pos k) (inr s) up = inr (s.0, omega (arith, ints))
along p (pos (suc a)) (pos k) (inr s) up = absurd (let below = s.1 in omega (arith, ints))
along p (negsuc a) (pos k) (inr s) up = inr (s.0, omega (arith, ints))

pub part_held : (lo hi p a k : ℤ) → IsRange lo hi → IsOnOneSide p a → pos 0 ≤ℤ k → IsHeld lo hi (p +ℤ a *ℤ k) → IsHeld lo hi (a *ℤ k)
part_held lo hi p a k range side up held = sided_held lo hi p (a *ℤ k) range (along p a k side up) held

-- ---- a step that is out of range

module _ (lo hi p q a b k : ℤ) (range : IsRange lo hi) (side : IsOnOneSide p a) (q_up : pos 0 <ℤ q) (b_up : pos 0 <ℤ b) (k_up : pos 0 <ℤ k) where
  step_out : ¬ (IsHeld lo hi k) → ¬ (IsHeld lo hi (q +ℤ b *ℤ k))
  step_out out held = out (by lo hi q b k range q_up b_up k_up held)
    where
      by : (lo hi q b k : ℤ) → IsRange lo hi → pos 0 <ℤ q → pos 0 <ℤ b → pos 0 <ℤ k → IsHeld lo hi (q +ℤ b *ℤ k) → IsHeld lo hi k
      by lo hi q (negsuc b) k range q_up b_up k_up held = absurd (omega (arith, ints))
      by lo hi q (pos b) (negsuc k) range q_up b_up k_up held = absurd (omega (arith, ints))
      by lo hi q (pos zero) (pos k) range q_up b_up k_up held = absurd (omega (arith, ints))
      by lo hi q (pos (suc b)) (pos k) range q_up b_up k_up held = grind (arith, ints)

  denom_part_out : ¬ (IsHeld lo hi (b *ℤ k)) → ¬ (IsHeld lo hi (q +ℤ b *ℤ k))
  denom_part_out out held = out (by lo hi q b k range q_up b_up k_up held)
    where
      by : (lo hi q b k : ℤ) → IsRange lo hi → pos 0 <ℤ q → pos 0 <ℤ b → pos 0 <ℤ k → IsHeld lo hi (q +ℤ b *ℤ k) → IsHeld lo hi (b *ℤ k)
      by lo hi q (negsuc b) k range q_up b_up k_up held = absurd (omega (arith, ints))
      by lo hi q (pos b) (negsuc k) range q_up b_up k_up held = absurd (omega (arith, ints))
      by lo hi q (pos b) (pos k) range q_up b_up k_up held = natural_held lo hi (q +ℤ pos b *ℤ pos k) (pos b *ℤ pos k) range held (omega (arith, ints)) (omega (arith, ints))

  numer_part_out : ¬ (IsHeld lo hi (a *ℤ k)) → ¬ (IsHeld lo hi (p +ℤ a *ℤ k))
  numer_part_out out held = out (part_held lo hi p a k range side (omega (arith, ints)) held)

  pub not_times : ¬ (IsHeld lo hi k) → ¬ (IsHeld lo hi (p +ℤ a *ℤ k) × IsHeld lo hi (q +ℤ b *ℤ k))
  not_times out held = step_out out held.1

  pub not_numer_part : ¬ (IsHeld lo hi (a *ℤ k)) → ¬ (IsHeld lo hi (p +ℤ a *ℤ k) × IsHeld lo hi (q +ℤ b *ℤ k))
  not_numer_part out held = numer_part_out out held.0

  pub not_denom_part : ¬ (IsHeld lo hi (b *ℤ k)) → ¬ (IsHeld lo hi (p +ℤ a *ℤ k) × IsHeld lo hi (q +ℤ b *ℤ k))
  not_denom_part out held = denom_part_out out held.1

pub next_up : (k : ℤ) → pos 0 ≤ℤ k → pos 0 <ℤ (k +ℤ pos 1)
next_up k up = omega (arith, ints)

pub below_zero_nearest : (a b : ℤ) → a ≤ℤ b → b <ℤ pos 0 → IsNearestZero a b b
below_zero_nearest a b order below = record { first = order; last = omega (arith, ints); nearest = λ z over under. (omega (arith, ints, over, under)) }
