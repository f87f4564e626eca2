use Rattle.ratio_core.proofs.Numerals.{IsLeft}
use Rattle.ratio_core.proofs.text.numeral.put_numeral.Given as goal

abbrev pub invariant-groups : goal.invariant-groups
invariant-groups l = IsLeft l.base l.upper l.n l.end l.high l.at l.fn.buf l.buf

abbrev pub decreases-groups : goal.decreases-groups
decreases-groups l = l.high

abbrev pub invariant-digits : goal.invariant-digits
invariant-digits l = IsLeft l.base l.upper l.n l.end l.left l.at l.fn.buf l.buf

abbrev pub decreases-digits : goal.decreases-digits
decreases-digits l = l.left
