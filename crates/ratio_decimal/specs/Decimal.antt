-- What text a fraction n/d has as a decimal, where d is above 0.
use Rattle.std.specs.Prelude.{◌≡◌, ◌≢◌, ◌⊎◌, ◌≤◌, ◌*◌, ◌/◌, ◌%◌, ◌^◌, ◌*ℤ◌, ℕ, zero, suc, ℤ, pos, negsuc, List, ◌∷◌, ◌++◌, Option, Some, None}
use Rattle.std.specs.Int.{◌∣◌}
use Rattle.ratio_core.specs.Reading.{minus}
use Rattle.ratio_integer.specs.LastDigits.{last_digits}
use Rattle.ratio_natural.specs.Decimal.{decimal_text}
use Rattle.ratio_decimal.specs.RoundingRules.{IsRoundedBy}
use Rattle.ratio_decimal.specs.declared.rounding_rule.Rounding.{Rounding}

-- the byte of `.`, which is 46
abbrev pub point : ℕ
point = 46

-- n/10^places with all its places, and a point before them if there are any; n may have any length
-- Example: 507 with two places: `5.07`
abbrev pub unsigned_places : ℕ → ℕ → List ℕ
unsigned_places zero n = decimal_text n
unsigned_places (suc k) n = decimal_text (n / 10 ^ suc k) ++ point ∷ last_digits (suc k) n

-- the text of `unsigned_places`, after a minus if the number is below 0
-- Example: -507 with two places: `-5.07`
abbrev pub places_text : ℕ → ℤ → List ℕ
places_text places (pos n) = unsigned_places places n
places_text places (negsuc n) = minus ∷ unsigned_places places (suc n)

-- the text is n/d to so many places: the multiple of 1/10^places that the rule says
-- Example: 2/3 to two by `HalfEven`: `0.67`
pub record IsDecimalOf (rule : Rounding) (places : ℕ) (n d : ℤ) (text : List ℕ) : Type 0 where
  pub multiple : ℤ
  pub rounded : IsRoundedBy rule (n *ℤ pos (10 ^ places)) d multiple
  pub written : text ≡ places_text places multiple

-- the text is all of n/d: the decimal of its value with the fewest places
-- Example: 99/8: `12.375`
pub record IsExactDecimal (n d : ℤ) (text : List ℕ) : Type 0 where
  pub places : ℕ
  pub multiple : ℤ
  pub same : n *ℤ pos (10 ^ places) ≡ multiple *ℤ d
  pub fewest : (k : ℕ) (z : ℤ) → n *ℤ pos (10 ^ k) ≡ z *ℤ d → places ≤ k
  pub written : text ≡ places_text places multiple

-- the result is all of n/d (`IsExactDecimal`), and `None` if no decimal has its value
-- Example: 99/8: `12.375`; 1/3: `None`
abbrev pub ChecksExactDecimal : ℤ → ℤ → Option (List ℕ) → Type 0
ChecksExactDecimal n d None = (k : ℕ) (z : ℤ) → ¬ (n *ℤ pos (10 ^ k) ≡ z *ℤ d)
ChecksExactDecimal n d (Some text) = IsExactDecimal n d text

-- Inner: d divides 10^places and no lower power of ten
-- Example: 8: 3
pub record IsPlacesOf (d places : ℕ) : Type 0 where
  pub multiple : ℕ
  pub product : multiple * d ≡ 10 ^ places
  pub least : (k : ℕ) → d ∣ 10 ^ k → places ≤ k
  pub few : 2 ^ places ≤ d

-- Inner: the places of `IsPlacesOf`, and `None` if d divides no power of ten
abbrev pub ChecksPlaces : ℕ → Option ℕ → Type 0
ChecksPlaces d None = (k : ℕ) → ¬ (d ∣ 10 ^ k)
ChecksPlaces d (Some places) = IsPlacesOf d places

-- Inner: the number without one 2 and without one 5, and `None` if neither divides it
-- Example: 60: 6; 6: 3; 15: 3
abbrev pub ChecksLessTen : ℕ → Option ℕ → Type 0
ChecksLessTen n None = (n % 2 ≢ 0) × (n % 5 ≢ 0)
ChecksLessTen n (Some m) = (n ≡ m * 10) ⊎ (((n ≡ m * 2) × (m % 5 ≢ 0)) ⊎ ((n ≡ m * 5) × (m % 2 ≢ 0)))
