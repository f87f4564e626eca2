-- What was read and written so far, as the calls say, and what had moved before each read.
use Rattle.std.proofs.Common.{◌≡◌, ◌∙◌, ◌++◌, ◌∷◌, ◌&&◌, [], ℕ, All, Bool, true, List, Option, Ok, length, ap, sym, append_assoc}
use Rattle.std.proofs.lemmas.List.{append-nil}
use Rattle.std.proofs.lemmas.List.Elements.{All-nil, All-push}
use Rattle.std.proofs.lemmas.List.Folds.{concat-append}
use Rattle.std.specs.Io.{StopsAt}
use Rattle.std.specs.List.{concat}
use Rattle.ratio_expressions.specs.Worths.{Worth}
use Rattle.ratio_expressions.specs.declared.replies.form.Form.{Form}
use Rattle.ratio_lines.specs.Devices.{after_moment, after_moving}
use Rattle.ratio_lines.specs.declared.counted.Calls.{Calls}
use Rattle.ratio_lines.specs.declared.counted.Moments.{Moments}
use Rattle.ratio.specs.Answers.{AnswersLine, AreAnswered, IsUnnamed, and_line, no_line}
use Rattle.ratio.specs.Devices.{DeviceChange}
use Rattle.ratio.specs.Order.{LinesAnsweredAt, AnswersLinesFirst}
use Rattle.ratio.specs.Settings.{prompt_of, start_of}
use Rattle.ratio.specs.declared.setting.Setting.{Setting}

pub no_read : (form : Form) (t : Setting) (given taken : List ℕ) (moments : Moments) → AnswersLinesFirst form t given taken moments moments
no_read form t given taken moments = record { reads = []; made = sym (append-nil moments.reads); answered = All-nil (LinesAnsweredAt form t given taken) }

module _ (form : Form) (t : Setting) (given taken : List ℕ) (old : Moments) where
  -- these lines were given, their answers were taken and flushed, and so it was before each read
  pub record Turns (reads writes : Calls) (now : Moments) (named : List ℕ → Option Worth) (all : Bool) : Type 0 where
    pub lines : List (List ℕ)
    pub written : List ℕ
    pub gave : reads.moved ≡ given ++ concat lines
    pub are_lines : All (λ line. StopsAt line 10) lines
    pub took : writes.moved ≡ taken ++ written
    pub answered : AreAnswered form t lines named written all
    pub flushed : writes.mark ≡ length writes.moved
    pub first : AnswersLinesFirst form t given taken old now

  pub turns_begin : (reads writes : Calls) (named : List ℕ → Option Worth) → reads.moved ≡ given → writes.moved ≡ taken ++ start_of t → writes.mark ≡ length writes.moved → IsUnnamed named
      → Turns reads writes old named true
  turns_begin reads writes named gave took flushed unnamed = record {
    lines = [];
    written = start_of t;
    gave = gave ∙ sym (append-nil given);
    are_lines = All-nil (λ line. StopsAt line 10);
    took = took;
    answered = no_line named unnamed;
    flushed = flushed;
    first = no_read form t given taken old;
  }

  module _ (reads writes : Calls) (now next : Moments) (named : List ℕ → Option Worth) (all : Bool) (turns : Turns reads writes now named all) (is : next ≡ after_moment now reads writes) where
    -- one more read, after all that the reader gave was answered
    pub one_more_read : AnswersLinesFirst form t given taken old next
    one_more_read =
        let moment : List ℕ × List ℕ × ℕ = (reads.moved, writes.moved, writes.mark) in
        let at : LinesAnsweredAt form t given taken moment = record {
          lines = turns.lines;
          behind = named;
          written = turns.written;
          all = all;
          gave = turns.gave;
          are_lines = turns.are_lines;
          took = turns.took;
          answered = turns.answered;
          flushed = turns.flushed;
        } in
        record {
          reads = turns.first.reads ++ moment ∷ [];
          made = ap (λ (moments : Moments). moments.reads) is ∙ ap (λ reads. reads ++ moment ∷ []) turns.first.made ∙ append_assoc old.reads turns.first.reads (moment ∷ []);
          answered = All-push (LinesAnsweredAt form t given taken) turns.first.reads moment turns.first.answered at;
        }

    -- the line that was read is answered
    pub one_more_turn : (reads' writes' : Calls) (line : List ℕ) (behind : List ℕ → Option Worth) (accepted : Bool) (output : DeviceChange) → reads' ≡ after_moving reads line → StopsAt line 10
        → AnswersLine line form t named behind output writes writes' (Ok accepted) → writes'.mark ≡ length writes'.moved → Turns reads' writes' next behind (all && accepted)
    one_more_turn reads' writes' line behind accepted output read stops h flushed = record {
      lines = turns.lines ++ line ∷ [];
      written = turns.written ++ (h.0 ++ prompt_of t);
      gave = ap (λ (calls : Calls). calls.moved) read ∙ ap (λ l. l ++ line) turns.gave ∙ append_assoc given (concat turns.lines) line
          ∙ ap (λ l. given ++ l) (sym (concat-append turns.lines (line ∷ []) ∙ ap (λ l. concat turns.lines ++ l) (append-nil line)));
      are_lines = All-push (λ l. StopsAt l 10) turns.lines line turns.are_lines stops;
      took = h.3 ∙ ap (λ l. l ++ (h.0 ++ prompt_of t)) turns.took ∙ append_assoc taken turns.written (h.0 ++ prompt_of t);
      answered = and_line turns.lines line named behind turns.written h.0 all accepted turns.answered h.1;
      flushed = flushed;
      first = one_more_read;
    }
