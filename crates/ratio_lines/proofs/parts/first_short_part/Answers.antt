use Rattle.std.proofs.Common.{◌≡◌, arith, get_or}
use Rattle.std.proofs.lemmas.Str.{IsCharBoundary-after_ascii}
use Rattle.ratio_lines.proofs.parts.first_short_part.Goals as goal

pub split_at-requires-then-bytes-eq32 : goal.split_at-requires-then-bytes-eq32
split_at-requires-then-bytes-eq32 c =
    let is : get_or c.args.text.now 1 0 ≡ 32 = rw c.as_bytes-bytes.ensures.value at c.if-bytes-eq32.true in
    IsCharBoundary-after_ascii c.args.text.now 1 c.utf8.text (omega arith) (omega (arith, is))
