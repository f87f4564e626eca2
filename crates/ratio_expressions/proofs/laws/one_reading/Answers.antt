use Rattle.ratio_expressions.proofs.ShownLaws.{shown_once}
use Rattle.ratio_expressions.proofs.laws.one_reading.Goals as goal

pub returns : goal.returns
returns c = shown_once
