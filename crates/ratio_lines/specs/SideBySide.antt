-- The answers to an input that is cut after a line end.
use Rattle.std.specs.Prelude.{◌≡◌, ℕ, List, [], ◌∷◌, ◌++◌, ◌⊎◌}
use Rattle.ratio_lines.specs.Answers.{AreAnswersOf}

-- the input is empty, or its last byte is a line end
-- Example: `1 + 1\n`
abbrev pub EndsLine : List ℕ → Type 0
EndsLine input = (input ≡ []) ⊎ ((front : List ℕ) × (input ≡ front ++ 10 ∷ []))

-- Law (`laws::side_by_side`): cut an input after a line end. The answers to the first part, and then the answers to the second, are the
-- answers to the whole
-- Example: the lines `1 + 1` and `2 + 2` have the answers `2` and `4`, together or each on its own
abbrev pub AnswersJoin : Type 0
AnswersJoin = (before after xs ys : List ℕ) → EndsLine before → AreAnswersOf before xs → AreAnswersOf after ys → AreAnswersOf (before ++ after) (xs ++ ys)

-- Law (`laws::side_by_side`): the whole has no other answers than those to its two parts, one after the other
abbrev pub AnswersPart : Type 0
AnswersPart =
    (before after all : List ℕ)
    → EndsLine before
    → AreAnswersOf (before ++ after) all
    → (xs : List ℕ) × (ys : List ℕ) × AreAnswersOf before xs × AreAnswersOf after ys × (all ≡ xs ++ ys)

-- Law (`laws::answers`): each input has answers, and no others
abbrev pub EachIsAnswered : Type 0
EachIsAnswered = (input : List ℕ) → (xs : List ℕ) × AreAnswersOf input xs × ((ys : List ℕ) → AreAnswersOf input ys → ys ≡ xs)
