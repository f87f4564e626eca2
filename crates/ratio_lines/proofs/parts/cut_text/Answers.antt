use Rattle.std.proofs.Common.{◌++◌, ◌∷◌, ◌+◌, ◌∙◌, List, ℕ, take, drop, ap, sym, arith}
use Rattle.std.proofs.lemmas.Str.{IsCharBoundary-after_ascii}
use Rattle.ratio_lines.specs.Cuts.{HasNone}
use Rattle.ratio_lines.proofs.Cuts.{cut_at, none_at_all, none_before, small_at}
use Rattle.ratio_lines.proofs.parts.cut_text.Goals as goal

pub split_at-requires-in-Some : goal.split_at-requires-in-Some
split_at-requires-in-Some c =
    let found = rw c.as_bytes.ensures.value at c.in-Some.ensures in
    IsCharBoundary-after_ascii c.args.text.now c.in-Some.at c.utf8.text found.0.high (small_at c.args.byte c.args.text.now c.in-Some.at c.requires found.1)

pub returns-in-Some : goal.returns-in-Some
returns-in-Some c =
    let text = c.args.text.now in let at = c.in-Some.at in
    let found = rw c.as_bytes.ensures.value at c.in-Some.ensures in
    let before : HasNone c.args.byte (take at text) = none_before c.args.byte text at (omega (arith, found.0.high)) (λ k below. found.0.before k (omega arith) below) in (
      rw c.split_at.ensures.front before,
      cut_at c.args.byte text at found.0.high found.1 ∙ ap (λ (xs : List ℕ). xs ++ c.args.byte ∷ drop (at + 1) text) (sym c.split_at.ensures.front)
          ∙ ap (λ (ys : List ℕ). c.split_at.result.0.now ++ c.args.byte ∷ ys) (sym c.split_at-in-Some.ensures.back),
    )

pub returns-in-None : goal.returns-in-None
returns-in-None c =
    let none = rw c.as_bytes.ensures.value at c.in-None.ensures in none_at_all c.args.byte c.args.text.now (λ k below. none k (omega arith) below)
