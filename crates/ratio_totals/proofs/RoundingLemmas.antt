-- What was read of a total and rounded is its result over a type of at most 64 bits.
use Rattle.std.specs.Prelude.{◌≡◌, ◌^◌, ◌<◌, ◌*ℤ◌, ℕ, ℤ, pos, unsigned_abs, Option, Some, None}
use Rattle.std.proofs.Common.{subst, arith}
use Rattle.ratio_decimal.specs.RoundingRules.{ChecksRounded, IsRoundedBy}
use Rattle.ratio_decimal.specs.declared.rounding_rule.Rounding.{Rounding}
use Rattle.ratio_integer.specs.Fraction.{ChecksLowest, Fits}
use Rattle.ratio_integer.specs.Range.{Checks, IsHeld}
use Rattle.ratio_slots.proofs.KeptLemmas.{held_of}
use Rattle.ratio_slots.specs.Integers.{ChecksInteger}
use Rattle.ratio_slots.specs.Multiples.{ChecksMultipleBelow}
use Rattle.ratio_totals.specs.Rounding.{ChecksRoundedInteger}
use Rattle.ratio_totals.proofs.NumberLemmas.{long_out, terms_moved}

pub integer_some : {T : Type 0} (value : T → ℤ) (lo hi : ℤ) (rule : Rounding) (x : ℤ × ℕ) (read : Option ℤ) (n : ℤ) (r : Option T) → read ≡ Some n → ChecksInteger rule x read → Checks value lo hi n r
    → ChecksRoundedInteger value lo hi rule x r
integer_some value lo hi rule x read n r is integer checks =
    let found : ChecksInteger rule x (Some n) = subst (ChecksInteger rule x) is integer in
    record { number = found.number; rounded = found.rounded; checks = subst (λ (z : ℤ). Checks value lo hi z r) found.held.1 checks }

pub integer_none : {T : Type 0} (value : T → ℤ) (lo hi : ℤ) (rule : Rounding) (x : ℤ × ℕ) (read : Option ℤ) → ((y : ℤ) → IsHeld lo hi y → unsigned_abs y < 2 ^ 64) → read ≡ None → ChecksInteger rule x read
    → ChecksRoundedInteger value lo hi rule x None
integer_none value lo hi rule x read small is integer =
    let found : ChecksInteger rule x None = subst (ChecksInteger rule x) is integer in
    record { number = found.number; rounded = found.rounded; checks = λ held. found.held (held_of found.number (omega (arith, small found.number held))) }

pub multiple_some : {bound : ℕ} {R : Type 0} (numer denom : R → ℤ) (lo hi : ℤ) (rule : Rounding) (parts : ℕ) (p : ℤ) (x : ℤ × ℕ) (n : ℤ) (d : ℕ) (read : Option (ℤ × ℕ)) (r : Option R) → pos parts ≡ p → read ≡ Some (n, d)
    → ChecksMultipleBelow bound rule parts x read → ChecksLowest numer denom lo hi (n, pos d) r → ChecksRounded numer denom lo hi rule p x.0 (pos x.1) r
multiple_some {bound = bound} numer denom lo hi rule parts p x n d read r same is multiple checks =
    let found : ChecksMultipleBelow bound rule parts x (Some (n, d)) = subst (ChecksMultipleBelow bound rule parts x) is multiple in
    subst (λ (z : ℤ). ChecksRounded numer denom lo hi rule z x.0 (pos x.1) r) same
    (found.number, found.rounded, terms_moved {bound = bound} numer denom lo hi (found.number, parts) n d r found.terms checks)

-- no multiple: its lowest terms do not fit
abbrev RoundsOut : ℤ → ℤ → Rounding → ℤ × ℕ → ℤ → Type 0
RoundsOut lo hi rule x p = (z : ℤ) × IsRoundedBy rule (x.0 *ℤ p) (pos x.1) z × (¬ (Fits lo hi z p))

pub multiple_none : {bound : ℕ} (lo hi : ℤ) (rule : Rounding) (parts : ℕ) (p : ℤ) (x : ℤ × ℕ) (read : Option (ℤ × ℕ)) → ((y : ℤ) → IsHeld lo hi y → unsigned_abs y < bound) → pos parts ≡ p → read ≡ None
    → ChecksMultipleBelow bound rule parts x read → RoundsOut lo hi rule x p
multiple_none {bound = bound} lo hi rule parts p x read small same is multiple =
    let found : ChecksMultipleBelow bound rule parts x None = subst (ChecksMultipleBelow bound rule parts x) is multiple in
    subst (RoundsOut lo hi rule x) same (found.number, found.rounded, long_out {bound = bound} lo hi (found.number, parts) small found.terms)
