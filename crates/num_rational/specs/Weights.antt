-- An amount split by weights. A weight and a part are whole numbers here, by `value`. In the examples 100 is split by the weights 1, 1 and 1.
use Rattle.std.specs.Prelude.{◌≡◌, ◌≢◌, ℕ, ℤ, pos, List, codes, length}
use Rattle.ratio_integer.specs.Range.{IsHeld}
use Rattle.num_rational.specs.Split.{NoShareIsBelowZero, total_of}
use Rattle.num_rational.specs.declared.splitting.WeightRefusal.{WeightRefusal}
use Rattle.num_rational.specs.declared.splitting.WeightRefusal.TheVariants.{AllZero, BelowZero, Length, NotHeld}

-- the share of a weight: it over the sum of all weights, not reduced
-- Example: 1: (1, 3)
abbrev pub share_of : {A : Type 0} → (A → ℤ) → List A → A → ℤ × ℤ
share_of value weights weight = (value weight, total_of value weights)

-- no weight is below 0, and so no share is
-- Example: not 2, -1
abbrev pub NoWeightIsBelowZero : {A : Type 0} → (A → ℤ) → List A → Type 0
NoWeightIsBelowZero value weights = NoShareIsBelowZero (share_of value weights) weights

-- the weights can split an amount into `parts` parts: there are as many, `NoWeightIsBelowZero`, and their sum fits and is not 0
pub record CanSplitByWeights {A : Type 0} (value : A → ℤ) (lo hi : ℤ) (weights : List A) (parts : ℕ) : Type 0 where
  pub as_many : parts ≡ length weights
  pub none_below : NoWeightIsBelowZero value weights
  pub held : IsHeld lo hi (total_of value weights)
  pub some : total_of value weights ≢ pos 0

-- the refusal names the first condition of `CanSplitByWeights` that does not hold: `Length`, `BelowZero`, `NotHeld` or `AllZero`
-- Example: 0 and 0: `AllZero`
abbrev pub RefusesWeights : {A : Type 0} → (A → ℤ) → ℤ → ℤ → List A → ℕ → WeightRefusal → Type 0
RefusesWeights value lo hi weights parts Length = parts ≢ length weights
RefusesWeights value lo hi weights parts BelowZero = (parts ≡ length weights) × ¬ (NoWeightIsBelowZero value weights)
RefusesWeights value lo hi weights parts NotHeld = (parts ≡ length weights) × NoWeightIsBelowZero value weights × ¬ (IsHeld lo hi (total_of value weights))
RefusesWeights value lo hi weights parts AllZero = (parts ≡ length weights) × NoWeightIsBelowZero value weights × (total_of value weights ≡ pos 0)

-- the text that a refusal prints
-- Example: `AllZero`: `no weight is above 0`
abbrev pub weight_refusal_text : WeightRefusal → List ℕ
weight_refusal_text Length = codes "the number of parts is not the number of weights"
weight_refusal_text BelowZero = codes "a weight is below 0"
weight_refusal_text NotHeld = codes "the sum of the weights does not fit the type"
weight_refusal_text AllZero = codes "no weight is above 0"
