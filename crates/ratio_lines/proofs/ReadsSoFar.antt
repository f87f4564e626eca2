-- What had moved before each read of a run.
use Rattle.std.proofs.Common.{◌≡◌, ℕ, List, [], ◌∷◌, ◌++◌, Option, ap, ◌∙◌, sym, append_assoc}
use Rattle.std.proofs.lemmas.List.{append-nil}
use Rattle.std.proofs.lemmas.List.Elements.{All-nil, All-push}
use Rattle.ratio_lines.specs.declared.counted.Calls.{Calls}
use Rattle.ratio_lines.specs.declared.counted.Moments.{Moments}
use Rattle.ratio_lines.specs.Devices.{Device, after_moment}
use Rattle.ratio_lines.specs.Run.{AnsweredAt, AnswersFirst}
use Rattle.ratio_lines.proofs.RunSoFar.{Progress}

pub no_read : (given taken : List ℕ) (moments : Moments) → AnswersFirst given taken moments moments
no_read given taken moments = record { reads = []; made = sym (append-nil moments.reads); answered = All-nil (AnsweredAt given taken) }

-- one more read, after all that the reader gave was answered
pub one_more_read : (reader a writer b : Device) (line : Option (List ℕ)) (waiting : List ℕ) (count : ℕ) (old new next : Moments) → Progress reader a writer b line waiting count
    → AnswersFirst reader.1.moved writer.1.moved old new → next ≡ after_moment new a.1 b.1 → AnswersFirst reader.1.moved writer.1.moved old next
one_more_read reader a writer b line waiting count old new next p first is =
    let moment : List ℕ × List ℕ × ℕ = (a.1.moved, b.1.moved, b.1.mark) in
    let at : AnsweredAt reader.1.moved writer.1.moved moment = record {
      read = p.read;
      written = p.answers;
      gave = ap (λ (calls : Calls). calls.moved) p.gave.calls;
      took = ap (λ (calls : Calls). calls.moved) p.took.calls;
      answered = p.whole;
    } in
    record {
      reads = first.reads ++ moment ∷ [];
      made = ap (λ (moments : Moments). moments.reads) is ∙ ap (λ reads. reads ++ moment ∷ []) first.made ∙ append_assoc old.reads first.reads (moment ∷ []);
      answered = All-push (AnsweredAt reader.1.moved writer.1.moved) first.reads moment first.answered at;
    }
