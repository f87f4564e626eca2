-- The six rules by which n/d is rounded to a whole number, where d is above 0, and their laws. The rules are the `Rounding` of
-- `src/rounding_rule.rt`: `HalfAway`, `HalfEven`, `Down`, `Up`, `Floor` and `Ceil`.
use Rattle.std.specs.Prelude.{◌≡◌, ◌⊎◌, ◌≤ℤ◌, ◌<ℤ◌, ◌+ℤ◌, ◌-ℤ◌, ◌*ℤ◌, ℕ, ℤ, pos, neg_ℤ, Bool, true, false, Option}
use Rattle.ratio_integer.specs.{Division.IsMultiple, Fraction.ChecksLowest}
use Rattle.ratio_core.specs.Rounding.{IsCeiling, IsFloor, IsRounded, IsTruncation, IsWithinHalf}
use Rattle.ratio_decimal.specs.declared.rounding_rule.Rounding.{Rounding}
use Rattle.ratio_decimal.specs.declared.rounding_rule.Rounding.TheVariants.{HalfAway, HalfEven, Down, Up, Floor, Ceil}

-- r is n/d rounded, a half to the even number: at most a half from n/d, and even if another number is as near
-- Example: 5/2: 2
pub record IsRoundedToEven (n d r : ℤ) : Type 0 where
  pub near : IsWithinHalf n d r
  pub even : (s : ℤ) → IsWithinHalf n d s → (s ≡ r) ⊎ IsMultiple r (pos 2)

-- r is n/d rounded away from zero: the ceiling if n/d is not below 0, and the floor if it is not above 0
-- Example: 5/2: 3; -9/4: -3
pub record IsAwayFromZero (n d r : ℤ) : Type 0 where
  pub ceiling : pos 0 ≤ℤ n → IsCeiling n d r
  pub floor : n ≤ℤ pos 0 → IsFloor n d r

-- r is n/d rounded by the rule. The six rules `HalfAway`, `HalfEven`, `Down`, `Up`, `Floor` and `Ceil` are `IsRounded`, `IsRoundedToEven`,
-- `IsTruncation`, `IsAwayFromZero`, `IsFloor` and `IsCeiling`
-- Example: -5/2: -3, -2, -2, -3, -3, -2
abbrev pub IsRoundedBy : Rounding → ℤ → ℤ → ℤ → Type 0
IsRoundedBy HalfAway n d r = IsRounded n d r
IsRoundedBy HalfEven n d r = IsRoundedToEven n d r
IsRoundedBy Down n d r = IsTruncation n d r
IsRoundedBy Up n d r = IsAwayFromZero n d r
IsRoundedBy Floor n d r = IsFloor n d r
IsRoundedBy Ceil n d r = IsCeiling n d r

-- the result is z/parts in lowest terms, where z is n·parts/d, rounded by the rule; it is `None` if these do not fit
-- Example: 2/3 in hundredths by `HalfEven`: `Some(67/100)`
abbrev pub ChecksRounded : {R : Type 0} → (R → ℤ) → (R → ℤ) → ℤ → ℤ → Rounding → ℤ → ℤ → ℤ → Option R → Type 0
ChecksRounded numer denom lo hi rule parts n d result = (z : ℤ) × IsRoundedBy rule (n *ℤ parts) d z × ChecksLowest numer denom lo hi (z, parts) result

-- n/d is a half more than a whole number
-- Example: 5/2
abbrev pub IsTie : ℤ → ℤ → Type 0
IsTie n d = (w : ℤ) × (pos 2 *ℤ n ≡ pos 2 *ℤ (w *ℤ d) +ℤ d)

-- Law: `HalfAway` and `HalfEven` differ only at a tie
-- Example: 5/2: 3 and 2
abbrev pub HalvesDifferAtTies : Type 0
HalvesDifferAtTies = (n d r s : ℤ) → pos 0 <ℤ d → IsRoundedBy HalfAway n d r → IsRoundedBy HalfEven n d s → (r ≡ s) ⊎ IsTie n d

-- Law: the rounded value is less than 1 away from n/d
abbrev pub RoundedIsNear : Type 0
RoundedIsNear = (rule : Rounding) (n d r : ℤ) → pos 0 <ℤ d → IsRoundedBy rule n d r → ((r *ℤ d -ℤ d) <ℤ n) × (n <ℤ (r *ℤ d +ℤ d))

-- Law: by the same rule, a greater fraction never has a smaller rounded value
abbrev pub RoundedIsMonotone : Type 0
RoundedIsMonotone = (rule : Rounding) (n d m e r s : ℤ) → pos 0 <ℤ d → pos 0 <ℤ e → (n *ℤ e) ≤ℤ (m *ℤ d) → IsRoundedBy rule n d r → IsRoundedBy rule m e s → r ≤ℤ s

-- Inner: n is z*d + r, where r/d is a part of 1. By the rule n/d is rounded to z + 1, and not to z
abbrev pub GoesUp : Rounding → ℤ → ℤ → ℤ → Type 0
GoesUp HalfAway z r d = (d <ℤ (r +ℤ r)) ⊎ ((r +ℤ r ≡ d) × ¬ (z <ℤ pos 0))
GoesUp HalfEven z r d = (d <ℤ (r +ℤ r)) ⊎ ((r +ℤ r ≡ d) × ¬ (IsMultiple z (pos 2)))
GoesUp Down z r d = (z <ℤ pos 0) × (pos 0 <ℤ r)
GoesUp Up z r d = (¬ (z <ℤ pos 0)) × (pos 0 <ℤ r)
GoesUp Floor z r d = pos 0 <ℤ pos 0
GoesUp Ceil z r d = pos 0 <ℤ r

-- Inner: the rule for the other side of 0
abbrev pub mirrored : Rounding → Rounding
mirrored HalfAway = HalfAway
mirrored HalfEven = HalfEven
mirrored Down = Down
mirrored Up = Up
mirrored Floor = Ceil
mirrored Ceil = Floor

-- Inner: the number of this magnitude, below 0 or not
abbrev pub signed : Bool → ℕ → ℤ
signed true n = neg_ℤ (pos n)
signed false n = pos n
