use Rattle.std.specs.Prelude.{◌≡◌}
use Rattle.std.specs.Int.{bytes_high_first}
use Rattle.std.proofs.Common.{◌∙◌, arith}
use Rattle.ratio_c.proofs.SortedBytes.{two_parts}
use Rattle.ratio_c.proofs.sorting.bytes_of.Goals as goal

pub returns : goal.returns
returns c =
    let first : c.copy_from_slice.new.self ≡ bytes_high_first 8 c.args.high = c.copy_from_slice.ensures.after ∙ c.to_be_bytes.ensures in
    let second : c.copy_from_slice-2.new.self ≡ bytes_high_first 16 c.args.low = c.copy_from_slice-2.ensures.after ∙ c.to_be_bytes-2.ensures in
    rw (first, second) (two_parts c.args.high c.args.low (omega arith))
