use Rattle.std.proofs.Common.{◌-◌, ◌^◌, lit<, lit≤}
use Rattle.ratio_c.proofs.PrintedTexts.{decimal_room_within}
use Rattle.ratio_c.proofs.numbers64.ratio_print_decimal_i64.Goals as goal

pub print-requires : goal.print-requires
print-requires c = decimal_room_within 19 (2 ^ 63 - 1) (2 ^ 63 - 1) (lit< tt) (lit< tt) (lit< tt) (lit< tt) (lit< tt) (lit≤ tt)

pub returns : goal.returns
returns c = c.print.ensures
