use Rattle.ratio_c.proofs.PrintedTexts.{ArePrintedTo}
use Rattle.ratio_c.proofs.printing.print.Given as goal

abbrev pub invariant-loop-i : goal.invariant-loop-i
invariant-loop-i g l = ArePrintedTo g.P.Printer.shows l.room l.asked l.fn.texts l.texts l.answers l.i l.at
