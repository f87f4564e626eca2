use Rattle.ratio_integer.specs.Comparison.{no, yes}
use Rattle.ratio_approximation.proofs.AsSimple.{end_first, found_first, only_end}
use Rattle.ratio_approximation.proofs.simplest.within.choice.simpler_of.Goals as goal

pub returns-in-None : goal.returns-in-None
returns-in-None g c = only_end _ _ _ _ _ _ _ _ c.lowest_terms.ensures c.in-None.is

pub returns-then-is_simpler : goal.returns-then-is_simpler
returns-then-is_simpler g c = end_first _ _ _ _ _ _ _ _ c.lowest_terms.ensures _ c.in-Some.is (yes _ c.is_simpler.ensures c.if-is_simpler.true)

pub returns-else-is_simpler : goal.returns-else-is_simpler
returns-else-is_simpler g c = found_first _ _ _ _ _ _ _ _ c.lowest_terms.ensures _ c.in-Some.is (no _ c.is_simpler.ensures c.if-is_simpler.false)
