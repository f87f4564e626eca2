use Rattle.ratio_decimal.proofs.PlacesLemmas.{IsStripped}
use Rattle.ratio_decimal.proofs.exact.places_of.Given as goal

abbrev pub invariant-tens : goal.invariant-tens
invariant-tens l = IsStripped l.d l.left l.places

abbrev pub decreases-tens : goal.decreases-tens
decreases-tens l = l.left
