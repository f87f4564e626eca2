use Rattle.std.proofs.Common.{arith, ap, lit<, sym, ◌∙◌, ◌≡◌, subst, List, ℕ}
use Rattle.std.specs.List.{slice_split}
use Rattle.std.proofs.lemmas.Str.Pattern.{strip_suffix_char}
use Rattle.ratio_lines.specs.AnswerText.{bytes_of}
use Rattle.ratio_lines.specs.Answers.{IsPartsAnswer, is_space, without_return}
use Rattle.ratio_lines.proofs.Returns.{stripped, not_text, is_text}
use Rattle.ratio_lines.proofs.answer.answer.Goals as goal

pub returns-in_default : goal.returns-in_default
returns-in_default c = not_text c.args.line.now (omega arith) c.in_default.ensures.cases.0

pub returns : goal.returns
returns c =
    let text = c.in-Ok.ensures.cases in
    let found = strip_suffix_char 13 c.in-Ok.text.now c.strip_suffix.result c.strip_suffix.ensures.cases (lit< tt) in
    let bytes = stripped c.in-Ok.text c.unwrap_or.result c.strip_suffix.result found c.unwrap_or.ensures in
    let same : c.unwrap_or.result.now ≡ without_return c.args.line.now = sym bytes ∙ ap without_return text.0 in
    is_text c.args.line.now _ (omega arith) text.1 (subst (λ (xs : List ℕ). IsPartsAnswer (slice_split is_space xs) (bytes_of c.answer_parts.result)) same c.answer_parts.ensures)
