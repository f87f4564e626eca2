use Rattle.std.specs.Prelude.{encode_utf8}
use Rattle.std.specs.Fmt.{HasWrittenStyled, IsFlush}
use Rattle.core.specs.List.{repeat}
use Rattle.ratio_decimal.proofs.long.write_times.Given as goal

abbrev pub invariant-times : goal.invariant-times
invariant-times g l = IsFlush l.fn.f → HasWrittenStyled g.W.Write.write_str_gives l.fn.f (repeat l.counter (encode_utf8 l.c)) l.f
