use Rattle.std.proofs.Common.{◌≡◌, map, take}
use Rattle.ratio_expressions.specs.Refused.{shown}
use Rattle.ratio_expressions.proofs.replies.refused.shown_line.Given as goal

abbrev pub invariant-bytes : goal.invariant-bytes
invariant-bytes l = l.text.items ≡ map shown (take l.byte-index l.line)
