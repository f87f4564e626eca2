-- Fractions that lie apart in memory.
use Rattle.std.specs.Prelude.{◌≡◌, ◌+◌, ◌-◌, ◌*◌, ◌<◌, ◌≤◌, ℕ, ℤ, pos, List, length, slice_index_or}
use Rattle.ratio_c.specs.Calls.{Tested}
use Rattle.ratio_c.specs.Codes.{return_bad_length, return_done}
use Rattle.ratio_c.specs.declared.numbers64.Fraction64.{Fraction64}
use Rattle.ratio_c.specs.declared.numbers64.Pair64.{Pair64}

-- the fraction at a place: its numerator so many words after that of the place before, and its denominator the next word
abbrev pub strided : List ℤ → ℕ → ℕ → Fraction64
strided words stride place = record { numer = slice_index_or words (place * stride) (pos 0); denom = slice_index_or words (place * stride + 1) (pos 0) }

-- the words have so many fractions: the last one ends within them
-- Example: 8 words have 3 fractions with 3 words from one to the next
pub record Reaches (words : List ℤ) (stride count : ℕ) : Type 0 where
  pub last : 0 < count → (count - 1) * stride + 2 ≤ length words

-- each answer is right for the pair of the fractions at its place, and the call returns 0. If the words of a side have fewer fractions than
-- there are answers, it returns 1 and writes nothing
abbrev pub AnswersStrided : {B : Type 0} → (Pair64 → B → Type 0) → List ℤ → ℕ → List ℤ → ℕ → List B → List B → ℕ → Type 0
AnswersStrided {B} Gives left left_stride right right_stride old new result =
    Tested (Reaches left left_stride (length old) × Reaches right right_stride (length old))
    ((result ≡ return_done) × ((i : ℕ) (e : B) → i < length old → Gives (record { left = strided left left_stride i; right = strided right right_stride i }) (slice_index_or new i e)))
    ((result ≡ return_bad_length) × (new ≡ old))
