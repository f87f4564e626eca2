use Rattle.std.specs.Prelude.{◌≡◌, ◌*◌, ◌<◌, ◌^◌, pos}
use Rattle.ratio_approximation.specs.Nearest.{gap}
use Rattle.ratio_uses.specs.Gears.{IsQuotient}
use Rattle.ratio_uses.proofs.GearLemmas.{AreNearestUpTo}
use Rattle.ratio_uses.proofs.gears.nearest_wheels.Given as goal

abbrev pub invariant-loop-before : goal.invariant-loop-before
invariant-loop-before l = record {
  nearest : AreNearestUpTo (pos l.numer, pos l.denom) l.least l.most l.before l.first l.second;
  best : IsQuotient (l.numer * l.before) l.denom l.best.0 l.best.1;
  gap_is : l.gap ≡ gap (pos l.numer) (pos l.denom) (pos l.first) (pos l.second);
  gap_small : l.gap < 2 ^ 96;
}
