use Rattle.std.proofs.Common.{arith}
use Rattle.ratio_core.proofs.DigitGroups.{four_fit, next_four}
use Rattle.ratio_core.proofs.text.put_word.Goals as goal

pub overflow_sub-at : goal.overflow_sub-at
overflow_sub-at c =
    let l = c.fours in
    omega (arith, four_fit c.args.n c.args.end l.left l.at _ _ (omega (arith, c.fours-test.true)) (omega (arith, l.auto.left-fits.fits)) c.requires.room l.invariant)

pub slice_bounds-put_four-end : goal.slice_bounds-put_four-end
slice_bounds-put_four-end c =
    let l = c.fours in
    omega (arith, four_fit c.args.n c.args.end l.left l.at _ _ (omega (arith, c.fours-test.true)) (omega (arith, l.auto.left-fits.fits)) c.requires.room l.invariant, l.invariant.before, l.auto.buf, c.requires.inside)

pub fours-preserved : goal.fours-preserved
fours-preserved c =
    let l = c.fours in
    next_four c.args.n c.args.end l.left l.at _ _ _ (omega (arith, c.fours-test.true)) (omega (arith, l.auto.left-fits.fits)) c.requires.room (omega (arith, l.invariant.before, l.auto.buf, c.requires.inside)) c.put_four.ensures l.invariant
