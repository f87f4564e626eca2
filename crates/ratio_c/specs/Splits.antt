-- An amount split by shares or by weights: what a call returns, and the parts that it writes.
use Rattle.std.specs.Prelude.{◌≡◌, ◌⊎◌, ℕ, ℤ, List, length}
use Rattle.ratio_integer.specs.SignedBits.{greatest64, least64}
use Rattle.num_rational.specs.Split.{CanBeSplit, IsSplitBy, RefusesToSplit}
use Rattle.num_rational.specs.Weights.{CanSplitByWeights, RefusesWeights, share_of}
use Rattle.num_rational.specs.declared.splitting.SplitRefusal.{SplitRefusal}
use Rattle.num_rational.specs.declared.splitting.SplitRefusal.TheVariants.{BelowZero, Length, NotHeld, NotOne}
use Rattle.num_rational.specs.declared.splitting.WeightRefusal.{WeightRefusal}
use Rattle.num_rational.specs.declared.splitting.WeightRefusal.TheVariants.{AllZero, BelowZero, Length, NotHeld}
use Rattle.ratio_c.specs.declared.numbers64.Fraction64.{Fraction64}
use Rattle.ratio_c.specs.Calls.{Tested}
use Rattle.ratio_c.specs.Codes.{code_all_zero, code_answered, code_below_zero, code_denominator_not_positive, code_not_held, code_not_one, code_unlike_lengths}
use Rattle.ratio_c.specs.Many.{AreOverPositive}
use Rattle.ratio_c.specs.Numbers64.{fraction64}

-- the code of a split by shares that was refused: 15, 12, 1 or 13
-- Example: `NotOne`: 13
abbrev pub code_of_shares : SplitRefusal → ℕ
code_of_shares Length = code_unlike_lengths
code_of_shares BelowZero = code_below_zero
code_of_shares NotHeld = code_not_held
code_of_shares NotOne = code_not_one

-- the code of a split by weights that was refused: 15, 12, 1 or 14
-- Example: `AllZero`: 14
abbrev pub code_of_weights : WeightRefusal → ℕ
code_of_weights Length = code_unlike_lengths
code_of_weights BelowZero = code_below_zero
code_of_weights NotHeld = code_not_held
code_of_weights AllZero = code_all_zero

-- the amount can be split, the code is 0, and the parts are as `IsSplit` says
pub record IsSplitDone (CanSplit : Type 0) (IsSplit : List ℤ → Type 0) (new : List ℤ) (result : ℕ) : Type 0 where
  pub can : CanSplit
  pub parts : IsSplit new
  pub code_is : result ≡ code_answered

-- a split was refused: the code says why, and no part has changed
pub record IsSplitRefused {Why : Type 0} (code_of : Why → ℕ) (Refuses : Why → Type 0) (old new : List ℤ) (result : ℕ) : Type 0 where
  pub why : Why
  pub reason : Refuses why
  pub code_is : result ≡ code_of why
  pub kept : new ≡ old

-- the amount is split by the shares, where `CanBeSplit`. Else no part has changed, and the code says why: 3 where a denominator is not positive
-- Example: 100 by 1/3, 1/3 and 1/3: code 0, and 33, 34 and 33; by 1/3 and 1/3: code 13
abbrev pub SplitsByShares : ℤ → List Fraction64 → List ℤ → List ℤ → ℕ → Type 0
SplitsByShares amount shares old new result =
    Tested (AreOverPositive shares)
    (IsSplitDone (CanBeSplit fraction64 least64 greatest64 amount shares (length old)) (IsSplitBy fraction64 (λ z. z) amount shares) new result
    ⊎ IsSplitRefused code_of_shares (RefusesToSplit fraction64 least64 greatest64 amount shares (length old)) old new result)
    ((result ≡ code_denominator_not_positive) × (new ≡ old))

-- the amount is split by the weights, where `CanSplitByWeights` holds. Elsewhere the code says why not, and no part has changed
-- Example: 100 by 1, 1 and 1: code 0, and 33, 34 and 33; by 0 and 0: code 14
abbrev pub SplitsByWeights : ℤ → List ℤ → List ℤ → List ℤ → ℕ → Type 0
SplitsByWeights amount weights old new result =
    IsSplitDone (CanSplitByWeights (λ z. z) least64 greatest64 weights (length old)) (IsSplitBy (share_of (λ z. z) weights) (λ z. z) amount weights) new result
    ⊎ IsSplitRefused code_of_weights (RefusesWeights (λ z. z) least64 greatest64 weights (length old)) old new result
