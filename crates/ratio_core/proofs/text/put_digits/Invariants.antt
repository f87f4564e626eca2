use Rattle.ratio_core.proofs.DigitGroups.{IsLeft}
use Rattle.ratio_core.proofs.text.put_digits.Given as goal

abbrev pub invariant-groups : goal.invariant-groups
invariant-groups l = IsLeft l.n l.end l.left l.at l.fn.buf l.buf

abbrev pub decreases-groups : goal.decreases-groups
decreases-groups l = l.left
