-- Sums and differences over the least common denominator: their values, and when they are in range.
use Rattle.std.specs.Prelude.{◌≡◌, ◌<ℤ◌, ◌*ℤ◌, ℤ, Option, Some, None, pos}
use Rattle.std.proofs.Common.{sym, ap, ◌∙◌}
use lib.IntN.{*ℤ_comm}
use Rattle.ratio_integer.specs.Arithmetic.{IsScaled}
use Rattle.ratio_integer.specs.Fraction.{AnswersLowest, ChecksLowest, Fits, IsHeldLowest, SameValue}
use Rattle.ratio_integer.specs.Range.{IsHeld}
use Rattle.ratio_integer.proofs.LowestTerms.{held_lowest_moved}
use Rattle.ratio_integer.proofs.Whole.{mul_assoc, mul_nonzero, mul-swap_last, positive_nonzero}
use Rattle.ratio_core.proofs.ScalingLemmas.{same_left, same_right, scaled_equals}

-- ---- the values

-- if a/b is p/l, then a*d*l = p*b*d
pub over_common : (a b d l p : ℤ) → p *ℤ b ≡ a *ℤ l → (a *ℤ d) *ℤ l ≡ p *ℤ (b *ℤ d)
over_common a b d l p scaled = mul-swap_last a d l ∙ sym (mul_assoc a l d) ∙ ap (λ (t : ℤ). t *ℤ d) (sym scaled) ∙ mul_assoc p b d

pub over_common_right : (b c d l q : ℤ) → q *ℤ d ≡ c *ℤ l → (c *ℤ b) *ℤ l ≡ q *ℤ (b *ℤ d)
over_common_right b c d l q scaled = over_common c d b l q scaled ∙ ap (λ (t : ℤ). q *ℤ t) (*ℤ_comm d b)

-- ---- an operation over which products distribute, such as a sum or a difference

module _ (op : ℤ → ℤ → ℤ) (spread : (x y z : ℤ) → op x y *ℤ z ≡ op (x *ℤ z) (y *ℤ z)) where
  -- it has the same value over the least common denominator
  pub formed_same : (a b c d l p q : ℤ) → IsScaled a b c d l p q → SameValue (op (a *ℤ d) (c *ℤ b)) (b *ℤ d) (op p q) l
  formed_same a b c d l p q is =
      spread (a *ℤ d) (c *ℤ b) l
      ∙ ap (λ (t : ℤ). op t ((c *ℤ b) *ℤ l)) (over_common a b d l p is.left)
      ∙ ap (λ (t : ℤ). op (p *ℤ (b *ℤ d)) t) (over_common_right b c d l q is.right)
      ∙ sym (spread p q (b *ℤ d))

  module _ (lo hi a b c d : ℤ) (b_positive : pos 0 <ℤ b) (d_positive : pos 0 <ℤ d) where
    -- the lowest terms of what is computed there are the result
    pub formed_lowest : (l p q n u v : ℤ) → IsScaled a b c d l p q → n ≡ op p q → IsHeldLowest lo hi n l u v → IsHeldLowest lo hi (op (a *ℤ d) (c *ℤ b)) (b *ℤ d) u v
    formed_lowest l p q n u v is n-is low =
        held_lowest_moved lo hi (op p q) l _ (b *ℤ d) u v (mul_nonzero b d (positive_nonzero b b_positive) (positive_nonzero d d_positive)) (formed_same a b c d l p q is) (rw n-is at low)

    pub formed_of_equals : b ≡ d → (n u v : ℤ) → n ≡ op a c → IsHeldLowest lo hi n b u v → IsHeldLowest lo hi (op (a *ℤ d) (c *ℤ b)) (b *ℤ d) u v
    formed_of_equals equal n u v = formed_lowest b a c n u v (scaled_equals a b c d equal b_positive)

    -- if the result over one such triple is in range, so is that over another
    pub formed_held : (l p q m r s : ℤ) → IsScaled a b c d l p q → IsScaled a b c d m r s → IsHeld lo hi (op r s) → IsHeld lo hi (op p q)
    formed_held l p q m r s is other held = rw (same_left a b c d l p q m r s b_positive d_positive is other, same_right a b c d l p q m r s b_positive d_positive is other) held

-- ---- types of exact sums

pub fits_by : (lo hi n d a b : ℤ) → IsHeldLowest lo hi n d a b → Fits lo hi n d
fits_by lo hi n d a b low = record { numer = a; denom = b; low = low }

-- `ChecksLowest` is `AnswersLowest` under the condition that the lowest terms fit
pub exact_answer : {R : Type 0} (numer denom : R → ℤ) (lo hi n d : ℤ) (r : Option R) → ChecksLowest numer denom lo hi (n, d) r → AnswersLowest numer denom lo hi (Fits lo hi n d) (n, d) r
exact_answer numer denom lo hi n d None out = out
exact_answer numer denom lo hi n d (Some r) low = (fits_by lo hi n d (numer r) (denom r) low, low)
