use Rattle.std.specs.Prelude.{encode_utf8}
use Rattle.std.proofs.Common.{refl}
use native.Mathlib.Numerals.{add-one}
use Rattle.core.proofs.fmt.Output.{has_written_styled_append, has_written_styled_of_eq}
use Rattle.core.proofs.fmt.Padding.{repeat_more}
use Rattle.ratio_decimal.proofs.long.write_times.Goals as goal

pub times-preserved : goal.times-preserved
times-preserved g c = λ flush.
    let so_far = c.times.invariant flush in
    has_written_styled_of_eq _ _ _ _ _ (rw add-one (repeat_more c.times.counter (encode_utf8 c.args.c)))
    (has_written_styled_append _ _ _ _ _ _ so_far (c.in_ok-write_char.ensures.styled so_far.flush refl))
