use Rattle.std.proofs.Common.{◌≡◌, ◌∷◌, ◌++◌, [], ◌∙◌, ap, arith, get_or, sym, take}
use Rattle.std.proofs.Math.Seq.{take-length}
use Rattle.std.proofs.lemmas.Str.{IsCharBoundary-after_ascii}
use Rattle.ratio_lines.proofs.Cuts.{cut_before, first_of_parts, one_part}
use Rattle.ratio_lines.proofs.operand.rest_from.Goals as goal

pub returns-then-end-text : goal.returns-then-end-text
returns-then-end-text c =
    let all : take c.args.end c.args.text.now ≡ c.args.text.now = rw c.if-end-text.true (take-length c.args.text.now) in
    one_part c.args.text.now (rw all at c.requires.none) ∙ ap (λ part. part ∷ []) (sym all)

pub split_at-requires : goal.split_at-requires
split_at-requires c =
    let is : get_or c.args.text.now c.args.end 0 ≡ 32 = rw c.as_bytes.ensures.value at c.if-as_bytes-end-ne32.false in
    IsCharBoundary-after_ascii c.args.text.now c.args.end c.utf8.text (omega arith) (omega (arith, is))

pub returns : goal.returns
returns c =
    let text = c.args.text.now in
    let part = take c.args.end text in
    let is : get_or text c.args.end 0 ≡ 32 = rw c.as_bytes.ensures.value at c.if-as_bytes-end-ne32.false in
    first_of_parts text part _ (cut_before text c.args.end 32 (omega arith) is ∙ ap (λ rest. part ++ 32 ∷ rest) (sym c.split_at.ensures.back)) c.requires.none
