use Rattle.std.proofs.Common.{arith}
use Rattle.ratio_decimal.proofs.PlacesLemmas.{at_first, few_more, never_ends, next}
use Rattle.ratio_decimal.proofs.exact.places_of.Goals as goal

pub tens-init : goal.tens-init
tens-init c = at_first c.args.d c.requires

pub returns-in-None : goal.returns-in-None
returns-in-None c = never_ends c.args.d c.tens.left c.tens.places c.tens.invariant c.tens-test.true c.in-None.ensures

pub overflow_add-places : goal.overflow_add-places
overflow_add-places c = let few = few_more c.args.d c.tens.left c.tens.places c.tens.invariant c.ranges.d.fits in record { fits = omega arith }

pub tens-preserved : goal.tens-preserved
tens-preserved c = next c.args.d c.tens.left c.tens.places c.in-Some.smaller c.tens.invariant c.tens-test.true c.in-Some.ensures
