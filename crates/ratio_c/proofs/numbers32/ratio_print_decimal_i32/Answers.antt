use Rattle.std.proofs.Common.{◌-◌, ◌^◌, lit<, lit≤}
use Rattle.ratio_c.proofs.PrintedTexts.{decimal_room_within}
use Rattle.ratio_c.proofs.numbers32.ratio_print_decimal_i32.Goals as goal

pub print-requires : goal.print-requires
print-requires c = decimal_room_within 10 (2 ^ 31 - 1) (2 ^ 31 - 1) (lit< tt) (lit< tt) (lit< tt) (lit< tt) (lit< tt) (lit≤ tt)

pub returns : goal.returns
returns c = c.print.ensures
