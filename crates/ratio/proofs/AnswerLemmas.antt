-- What was read and written so far, line by line.
use Rattle.std.proofs.Common.{◌≡◌, ◌≤◌, ◌+◌, ◌-◌, ◌^◌, ◌∙◌, ◌++◌, ◌∷◌, ◌&&◌, [], ℕ, Bool, true, false, List, Option, None, Some, IfSome, Ok, Err, refl, sym, ap, subst, arith, length, length-append, append_assoc}
use Rattle.std.proofs.KnownBytes.{Appends-trans}
use Rattle.std.specs.Io.KnownBytes.{Consumes, IsAtEnd}
use Rattle.ratio_expressions.specs.Worths.{Worth}
use Rattle.ratio_expressions.specs.declared.replies.form.Form.{Form}
use Rattle.ratio_lines.specs.declared.counted.Calls.{Calls}
use Rattle.ratio.specs.Answers.{AnswersInput, AnswersLine, AnswersSome, AnswersSomeOfLine, AreAnswered, AreAnsweredBefore, IsUnnamed, and_line, no_line, with_end}
use Rattle.ratio.specs.Devices.{DeviceChange, GivesLine, Takes, TakesFront, WritesAll}
use Rattle.ratio.specs.Failures.{is_write}
use Rattle.ratio.specs.Lines.{input_lines, without_end}
use Rattle.ratio.specs.Settings.{end_of, ends_lines, prompt_of, start_of}
use Rattle.ratio.specs.declared.fault.Fault.{Fault}
use Rattle.ratio.specs.declared.setting.Setting.{Setting}
use Rattle.ratio.specs.declared.fault.Fault.TheVariants as faults
use Rattle.ratio.proofs.DeviceLemmas.{changing, front_after, front_of_more}

-- what holds of an option's value
pub when_some : {X : Type 0} (o : Option X) {P : X → Type 0} → ((x : X) → o ≡ Some x → P x) → IfSome o P
when_some None h = tt
when_some (Some x) h = h x refl

-- the lines so far have their answers, they are at least so many, and the reader has the rest of the input left
pub record SoFar (form : Form) (t : Setting) (input : List ℕ) (left old new : Option (List ℕ)) (named : List ℕ → Option Worth) (all : Bool) (count : ℕ) : Type 0 where
  pub lines : List (List ℕ)
  pub rest : List ℕ
  pub written : List ℕ
  pub left_is : left ≡ Some rest
  pub split : input_lines input ≡ lines ++ input_lines rest
  pub answered : AreAnswered form t lines named written all
  pub takes : Takes (changing old new) written
  pub counted : count ≤ length lines

-- a fault of a writer, whichever
at_write : (form : Form) (t : Setting) (input : List ℕ) (left : Option (List ℕ)) (output : DeviceChange) (fault : Fault) → is_write fault ≡ true → AnswersSome form t input output
    → AnswersInput form t input left output (Err fault)
at_write form t input left output faults.Write e h = h
at_write form t input left output faults.Unread e h = h
at_write form t input left output faults.Arguments e h = absurd cc
at_write form t input left output (faults.UnknownOption name) e h = absurd cc
at_write form t input left output faults.NoPlaces e h = absurd cc
at_write form t input left output faults.Memory e h = absurd cc
at_write form t input left output faults.Read e h = absurd cc
at_write form t input left output faults.Endless e h = absurd cc

-- a line ends the lines, as a test of its text without the end says
pub ends_at : (t : Setting) (line read text : List ℕ) (r : Bool) → read ≡ line → text ≡ without_end read → r ≡ ends_lines t text → r ≡ true → ends_lines t (without_end line) ≡ true
ends_at t line read text r is cut tested ends = ap (λ l. ends_lines t (without_end l)) (sym is) ∙ ap (ends_lines t) (sym cut) ∙ sym tested ∙ ends

-- a front of what is written is one with its end
front_of_end : (t : Setting) (last : List (List ℕ)) (a b : Option (List ℕ)) (written : List ℕ) → TakesFront (changing a b) written → TakesFront (changing a b) (with_end t last written)
front_of_end t [] a b written some = front_of_more (changing a b) written (end_of t) _ refl some
front_of_end t (line ∷ last) a b written some = some

module _ (form : Form) (t : Setting) (input : List ℕ) where
  -- no line is read yet
  pub none_read : (left old new : Option (List ℕ)) (named : List ℕ → Option Worth) → left ≡ Some input → IsUnnamed named → Takes (changing old new) (start_of t)
      → SoFar form t input left old new named true 0
  none_read left old new named left_is unnamed takes = record {
    lines = [];
    rest = input;
    written = start_of t;
    left_is = left_is;
    split = refl;
    answered = no_line named unnamed;
    takes = takes;
    counted = omega arith;
  }

  -- the start was not written
  pub no_start : (left old new : Option (List ℕ)) (fault : Fault) → WritesAll {T = Unit {0}} (changing old new) (start_of t) (Err fault)
      → AnswersInput form t input left (changing old new) (Err fault)
  no_start left old new fault h = at_write form t input left (changing old new) fault h.0 (
    input_lines input,
    start_of t,
    true,
    record { lines = []; behind = λ _. None; split = refl; answered = no_line (λ _. None) (λ _. refl) },
    front_of_end t (input_lines input) old new (start_of t) h.1,
  )

  module _ (left next old new : Option (List ℕ)) (named : List ℕ → Option Worth) (all : Bool) (count : ℕ) (so_far : SoFar form t input left old new named all count) where
    abbrev answered_before : (last : List (List ℕ)) → input_lines so_far.rest ≡ last → AreAnsweredBefore form t input last so_far.written all
    answered_before last e = record { lines = so_far.lines; behind = named; split = so_far.split ∙ ap (λ l. so_far.lines ++ l) e; answered = so_far.answered }

    -- the reader failed
    pub not_read : (line : List ℕ) (fault : Fault) → GivesLine (changing left next) line (Err fault) → AnswersInput form t input next (changing old new) (Err fault)
    not_read line fault h = subst (λ e. AnswersInput form t input next (changing old new) (Err e)) (sym h.0) (
      so_far.rest,
      line,
      so_far.written,
      all,
      answered_before (input_lines so_far.rest) refl,
      so_far.takes,
      subst (λ l. Consumes l next line) so_far.left_is h.1,
      h.2,
    )

    -- there are more lines than can be counted
    pub too_many : 2 ^ 64 - 1 ≤ count → AnswersInput form t input left (changing old new) (Err faults.Endless)
    too_many many = (
      input_lines so_far.rest,
      so_far.written,
      all,
      answered_before (input_lines so_far.rest) refl,
      so_far.takes,
      let so_many = so_far.counted in omega arith,
    )

    module _ (line : List ℕ) (last : Option (List ℕ)) (given : GivesLine (changing left next) line (Ok false)) where
      none_left : input_lines so_far.rest ≡ []
      none_left = ap input_lines (subst IsAtEnd so_far.left_is given)

      -- all lines are answered
      pub read_all : Takes (changing new last) (end_of t) → AnswersInput form t input next (changing old last) (Ok all)
      read_all takes = ([], so_far.written, answered_before [] none_left, tt, Appends-trans old new last so_far.written (end_of t) so_far.takes takes)

      -- the end was not written
      pub no_end : (fault : Fault) → WritesAll {T = Unit {0}} (changing new last) (end_of t) (Err fault) → AnswersInput form t input next (changing old last) (Err fault)
      no_end fault stopped = at_write form t input next (changing old last) fault stopped.0 (
        [],
        so_far.written,
        all,
        answered_before [] none_left,
        front_after old new last so_far.written (end_of t) _ refl so_far.takes stopped.1,
      )

    module _ (line : List ℕ) (last : Option (List ℕ)) (given : GivesLine (changing left next) line (Ok true)) (behind : List ℕ → Option Worth) where
      read : (rest : List ℕ) × (next ≡ Some rest) × (input_lines so_far.rest ≡ line ∷ input_lines rest)
      read = subst (λ l. GivesLine (changing l next) line (Ok true)) so_far.left_is given

      split_behind : input_lines input ≡ (so_far.lines ++ line ∷ []) ++ input_lines read.0
      split_behind = so_far.split ∙ ap (λ l. so_far.lines ++ l) read.2 ∙ sym (append_assoc so_far.lines (line ∷ []) (input_lines read.0))

      -- the line ends the lines
      pub ended_by : ends_lines t (without_end line) ≡ true → AnswersInput form t input next (changing old new) (Ok all)
      ended_by ends = (line ∷ input_lines read.0, so_far.written, answered_before (line ∷ input_lines read.0) read.2, (ends, read.0, read.1, refl), so_far.takes)

      -- the line is answered
      pub one_more : (accepted : Bool) (writes writes' : Calls) → AnswersLine line form t named behind (changing new last) writes writes' (Ok accepted) → SoFar form t input next old last behind (all && accepted) (count + 1)
      one_more accepted writes writes' h = record {
        lines = so_far.lines ++ line ∷ [];
        rest = read.0;
        written = so_far.written ++ (h.0 ++ prompt_of t);
        left_is = read.1;
        split = split_behind;
        answered = and_line so_far.lines line named behind so_far.written h.0 all accepted so_far.answered h.1;
        takes = Appends-trans old new last so_far.written (h.0 ++ prompt_of t) so_far.takes h.2;
        counted = let so_many = so_far.counted in omega (arith, length-append so_far.lines (line ∷ []));
      }

      -- a front of what is written for the line is one of what is written so far
      line_stops_writing : AnswersSomeOfLine line form t named behind (changing new last) → AnswersSome form t input (changing old last)
      line_stops_writing h =
          let written = so_far.written ++ (h.0 ++ prompt_of t) in (
            input_lines read.0,
            written,
            all && h.1,
            record {
              lines = so_far.lines ++ line ∷ [];
              behind = behind;
              split = split_behind;
              answered = and_line so_far.lines line named behind so_far.written h.0 all h.1 so_far.answered h.2;
            },
            front_of_end t (input_lines read.0) old last written (front_after old new last so_far.written (h.0 ++ prompt_of t) written refl so_far.takes h.3),
          )

      -- the line is not answered, or not whole
      pub line_stops : (fault : Fault) (writes writes' : Calls) → AnswersLine line form t named behind (changing new last) writes writes' (Err fault) → AnswersInput form t input next (changing old last) (Err fault)
      line_stops faults.Write writes writes' h = line_stops_writing h
      line_stops faults.Unread writes writes' h = line_stops_writing h
      line_stops faults.Memory writes writes' h = (
        line,
        input_lines read.0,
        so_far.written,
        all,
        h.0,
        answered_before (line ∷ input_lines read.0) read.2,
        subst (λ o. Takes (changing old o) so_far.written) (sym h.1) so_far.takes,
      )
      line_stops faults.Arguments writes writes' h = absurd h
      line_stops (faults.UnknownOption name) writes writes' h = absurd h
      line_stops faults.NoPlaces writes writes' h = absurd h
      line_stops faults.Read writes writes' h = absurd h
      line_stops faults.Endless writes writes' h = absurd h
