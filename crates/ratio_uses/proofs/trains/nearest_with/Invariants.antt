use Rattle.std.specs.Prelude.{◌≡◌, ◌*◌, ◌<◌, ◌^◌, pos}
use Rattle.ratio_approximation.specs.Nearest.{gap}
use Rattle.ratio_uses.specs.Gears.{IsQuotient}
use Rattle.ratio_uses.specs.Trains.{AreFirstOver}
use Rattle.ratio_uses.proofs.TrainLemmas.{IsMultipleBefore}
use Rattle.ratio_uses.proofs.trains.nearest_with.Given as goal

abbrev pub invariant-loop-large : goal.invariant-loop-large
invariant-loop-large l = record {
  first : AreFirstOver (pos l.request.numer, pos l.request.denom) l.request.least l.request.most (IsMultipleBefore l.small l.large) l.fn.nearest l.first;
  best : IsQuotient (l.request.numer * (l.large * l.small)) l.request.denom l.best.0 l.best.1;
  gap_is : l.gap ≡ gap (pos l.request.numer) (pos l.request.denom) (pos l.first.0) (pos l.first.1);
  gap_small : l.gap < 2 ^ 96;
}
