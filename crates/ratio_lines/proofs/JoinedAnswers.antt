-- The lines of an input that is cut after a line end.
use Rattle.std.proofs.Common.{◌≡◌, ℕ, ◌<◌, List, [], ◌∷◌, ◌++◌, length, true, false, cond, refl, ap, ◌∙◌, sym, arith, inl, inr, append_assoc, subst}
use Rattle.std.specs.List.{slice_split, onto_first}
use Rattle.std.proofs.lemmas.List.{append-nil}
use Rattle.std.proofs.lemmas.List.Splits.{length-slice_split}
use Rattle.ratio_lines.specs.Answers.{AreAnswers}
use Rattle.ratio_lines.specs.Lines.{front_of, if_begun, is_line_end, last_of, lines_of}
use Rattle.ratio_lines.specs.SideBySide.{AnswersJoin, AnswersPart, EachIsAnswered, EndsLine}
use Rattle.ratio_lines.proofs.AnswerLaws.{one_list_of}
use Rattle.ratio_lines.proofs.AnswersExist.{answers_exist}
use Rattle.ratio_lines.proofs.LinesSoFar.{answers_both}

some_line : (input : List ℕ) → 0 < length (slice_split is_line_end input)
some_line input = omega (arith, length-slice_split is_line_end input)

onto_both : (byte : ℕ) (lines more : List (List ℕ)) → 0 < length lines → onto_first byte (lines ++ more) ≡ onto_first byte lines ++ more
onto_both byte [] more some = absurd (omega arith)
onto_both byte (line ∷ lines) more some = refl

-- bytes with a line end in them are cut into the parts before it, and then the parts after it
split_at_end : (before after : List ℕ) → slice_split is_line_end (before ++ 10 ∷ after) ≡ slice_split is_line_end before ++ slice_split is_line_end after
split_at_end [] after = refl
split_at_end (byte ∷ before) after =
    rw (split_at_end before after)
    (elim (is_line_end byte)
    as (λ t. cond t ([] ∷ (slice_split is_line_end before ++ slice_split is_line_end after)) (onto_first byte (slice_split is_line_end before ++ slice_split is_line_end after))
    ≡ cond t ([] ∷ slice_split is_line_end before) (onto_first byte (slice_split is_line_end before)) ++ slice_split is_line_end after)
    [ true ↦ refl | false ↦ onto_both byte (slice_split is_line_end before) (slice_split is_line_end after) (some_line before) ])

front_both : (lines more : List (List ℕ)) → 0 < length more → front_of (lines ++ more) ≡ lines ++ front_of more
front_both [] more some = refl
front_both (line ∷ []) [] some = absurd (omega arith)
front_both (line ∷ []) (next ∷ more) some = refl
front_both (line ∷ next ∷ lines) more some = ap (λ xs. line ∷ xs) (front_both (next ∷ lines) more some)

last_both : (lines more : List (List ℕ)) → 0 < length more → last_of (lines ++ more) ≡ last_of more
last_both [] more some = refl
last_both (line ∷ []) [] some = absurd (omega arith)
last_both (line ∷ []) (next ∷ more) some = refl
last_both (line ∷ next ∷ lines) more some = last_both (next ∷ lines) more some

lines_after : (before after : List ℕ) → lines_of (before ++ 10 ∷ after) ≡ slice_split is_line_end before ++ lines_of after
lines_after before after =
    let lines = slice_split is_line_end before in let more = slice_split is_line_end after in
    ap (λ xs. front_of xs ++ if_begun (last_of xs)) (split_at_end before after)
    ∙ ap (λ xs. xs ++ if_begun (last_of (lines ++ more))) (front_both lines more (some_line after))
    ∙ ap (λ xs. (lines ++ front_of more) ++ if_begun xs) (last_both lines more (some_line after))
    ∙ append_assoc lines (front_of more) (if_begun (last_of more))

lines_ended : (front : List ℕ) → lines_of (front ++ 10 ∷ []) ≡ slice_split is_line_end front
lines_ended front = lines_after front [] ∙ append-nil (slice_split is_line_end front)

-- the lines of the whole are the lines before the cut, and then those after it
lines_both : (before after : List ℕ) → EndsLine before → lines_of (before ++ after) ≡ lines_of before ++ lines_of after
lines_both before after (inl empty) = rw empty refl
lines_both before after (inr ended) =
    rw (ended.1, append_assoc)
    (lines_after ended.0 after ∙ ap (λ xs. xs ++ lines_of after) (sym (lines_ended ended.0)))

pub answers_join : AnswersJoin
answers_join before after xs ys ends h k =
    let P : List (List ℕ) → Type 0 = λ lines. AreAnswers lines (xs ++ ys) in
    subst P (sym (lines_both before after ends)) (answers_both (lines_of before) (lines_of after) xs ys h k)

pub answers_part : AnswersPart
answers_part before after all ends h =
    let first = answers_exist before in let second = answers_exist after in (
      first.0,
      second.0,
      first.1,
      second.1,
      one_list_of (before ++ after) all (first.0 ++ second.0) h (answers_join before after first.0 second.0 ends first.1 second.1),
    )

pub each_is_answered : EachIsAnswered
each_is_answered input = let found = answers_exist input in (found.0, found.1, λ ys h. one_list_of input ys found.0 h found.1)
