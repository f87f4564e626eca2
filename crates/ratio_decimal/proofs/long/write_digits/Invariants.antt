use Rattle.std.specs.Prelude.{◌-◌}
use Rattle.ratio_decimal.proofs.LongLemmas.{IsWrittenUpTo}
use Rattle.ratio_decimal.proofs.long.write_digits.Given as goal

abbrev pub invariant-digits : goal.invariant-digits
invariant-digits g l = IsWrittenUpTo g.W.Write.write_str_gives l.fn.f l.f l.fn.rest l.d l.fn.places l.part l.left

abbrev pub decreases-digits : goal.decreases-digits
decreases-digits g l = l.left - 39
