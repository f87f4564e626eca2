use Rattle.ratio_core.proofs.DigitGroups.{IsLeft}
use Rattle.ratio_core.proofs.text.put_word.Given as goal

abbrev pub invariant-fours : goal.invariant-fours
invariant-fours l = IsLeft l.n l.end l.left l.at l.fn.buf l.buf

abbrev pub decreases-fours : goal.decreases-fours
decreases-fours l = l.left
