-- That each line is answered, and its answer flushed, before the next line is read.
use Rattle.std.specs.Prelude.{◌≡◌, ◌++◌, ℕ, All, Bool, List, Option, length}
use Rattle.std.specs.Io.{StopsAt}
use Rattle.std.specs.List.{concat}
use Rattle.ratio_expressions.specs.Worths.{Worth}
use Rattle.ratio_expressions.specs.declared.replies.form.Form.{Form}
use Rattle.ratio_lines.specs.declared.counted.Moments.{Moments}
use Rattle.ratio.specs.Answers.{AreAnswered}
use Rattle.ratio.specs.declared.setting.Setting.{Setting}

-- before a read, the reader had given some lines, and the writer had taken exactly what is written for them (`AreAnswered`), all flushed, of a
-- run that began with `given` and `taken`
-- Example: the reader gave `1 + 1\n`: the writer took `2\n`
pub record LinesAnsweredAt (form : Form) (setting : Setting) (given taken : List ℕ) (moment : List ℕ × List ℕ × ℕ) : Type 0 where
  pub lines : List (List ℕ)
  pub behind : List ℕ → Option Worth
  pub written : List ℕ
  pub all : Bool
  pub gave : moment.0 ≡ given ++ concat lines
  pub are_lines : All (λ line. StopsAt line 10) lines
  pub took : moment.1 ≡ taken ++ written
  pub answered : AreAnswered form setting lines behind written all
  pub flushed : moment.2 ≡ length moment.1

-- a run that began with `given` and `taken` made some reads, and had answered before each of them (`LinesAnsweredAt`)
pub record AnswersLinesFirst (form : Form) (setting : Setting) (given taken : List ℕ) (old new : Moments) : Type 0 where
  pub reads : List (List ℕ × List ℕ × ℕ)
  pub made : new.reads ≡ old.reads ++ reads
  pub answered : All (LinesAnsweredAt form setting given taken) reads
