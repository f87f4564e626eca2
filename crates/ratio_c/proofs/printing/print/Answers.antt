use Rattle.std.proofs.Common.{arith, refl}
use Rattle.ratio_c.proofs.PrintedTexts.{all_printed, printed_next}
use Rattle.ratio_c.proofs.printing.print.Goals as goal

pub loop-i-preserved : goal.loop-i-preserved
loop-i-preserved g c =
    let l = c.loop-i in
    let p = c.put-text in
    let inside = c.loop-i-test.true in
    printed_next g.P.Printer.shows c.args.room c.args.asked.now c.args.texts.now l.texts p.new.texts l.answers g.P.Printer.longest l.i l.at c.index-asked-i.result p.result l.invariant
    (omega (arith, inside)) (omega (arith, inside, l.auto.answers, c.if-asked-answers.false)) c.index-asked-i.is p.ensures c.requires

pub returns : goal.returns
returns g c =
    let l = c.loop-i in
    record {
      yes = λ held. (
        refl,
        all_printed g.P.Printer.shows c.args.room c.args.asked.now c.args.texts.now l.texts l.answers l.i l.at l.invariant
            (omega (arith, c.loop-i-test.false, l.auto.i-end)) (omega (arith, l.auto.answers, held.0)),
      );
      no = λ short. absurd (short (c.if-asked-answers.false, c.if-not-has_room.ensures));
    }
