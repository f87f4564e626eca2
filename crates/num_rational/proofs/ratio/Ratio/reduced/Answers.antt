use Rattle.num_rational.proofs.RatioLemmas.{fits_itself, own_only}
use Rattle.num_rational.proofs.ratio.Ratio.reduced.Goals as goal

pub returns-clause-twice : goal.returns-clause-twice
returns-clause-twice g c = record {
  fits = fits_itself _ _ _ _ _ _ c.new.ensures;
  same = λ a b terms. own_only _ _ _ _ _ _ a b c.new.ensures terms;
}
