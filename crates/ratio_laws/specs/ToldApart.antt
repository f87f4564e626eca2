-- Numbers that feed a hasher unlike lists.
use Rattle.std.specs.Prelude.{◌≡◌, ◌-◌, ◌^◌, ℕ, ℤ, pos, negsuc, unsigned_abs, List, length}
use Rattle.ratio_integer.specs.Range.{IsHeld}

-- the numbers from lo to hi feed a hasher lists of one length, and no two feed it the same list
pub record AreToldApart (lo hi : ℤ) (write : ℤ → List (List ℕ)) : Type 0 where
  pub size : ℕ
  pub long : (z : ℤ) → IsHeld lo hi z → length (write z) ≡ size
  pub apart : (y z : ℤ) → IsHeld lo hi y → IsHeld lo hi z → write y ≡ write z → y ≡ z

-- the signed numbers of so many bits feed a hasher lists of one length, and no two feed it the same list
abbrev pub AreSignedToldApart : ℕ → (ℤ → List (List ℕ)) → Type 0
AreSignedToldApart bits write = AreToldApart (negsuc (2 ^ (bits - 1) - 1)) (pos (2 ^ (bits - 1) - 1)) write

-- the unsigned numbers of so many bits feed a hasher lists of one length, and no two feed it the same list
abbrev pub AreUnsignedToldApart : ℕ → (ℕ → List (List ℕ)) → Type 0
AreUnsignedToldApart bits write = AreToldApart (pos 0) (pos (2 ^ bits - 1)) (λ z. write (unsigned_abs z))
