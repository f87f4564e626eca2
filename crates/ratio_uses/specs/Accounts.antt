-- Two accounts, and a part that moves from one to the other.
use Rattle.std.specs.Prelude.{◌⊎◌, Option, None, Some}
use Rattle.num_rational.specs.declared.reduced.Reduced.{Reduced}
use Rattle.ratio_laws.specs.ReducedLaws.{AnswersDifference, AnswersSum, AreOneAnswer}

-- the result is from - part and part + to, or `None` exactly if one of these is
-- Example: 1/2 and 1/3 with the part 1/6: 1/3 and 1/2
abbrev pub MovesPart : {T : _} {i : _} {o : _} {e : _} {p : _} {h : _} → Reduced T i o e p h → Reduced T i o e p h → Reduced T i o e p h → Option (Reduced T i o e p h × Reduced T i o e p h) → Type 0
MovesPart from to part None = AnswersDifference from part None ⊎ AnswersSum part to None
MovesPart from to part (Some accounts) = AnswersDifference from part (Some accounts.0) × AnswersSum part to (Some accounts.1)

-- the sum of the old accounts and the sum of the new ones are one result, `None` included
abbrev pub KeepsTotal : {T : _} {i : _} {o : _} {e : _} {p : _} {h : _} → Reduced T i o e p h → Reduced T i o e p h → Reduced T i o e p h → Reduced T i o e p h → Type 0
KeepsTotal {T} {i} {o} {e} {p} {h} from to new_from new_to =
    (old new : Option (Reduced T i o e p h)) → AnswersSum from to old → AnswersSum new_from new_to new → AreOneAnswer old new
