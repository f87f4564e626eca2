use Rattle.ratio_expressions.proofs.TextLaws.{text_once}
use Rattle.ratio_expressions.proofs.value_laws.one_refusal.Goals as goal

pub returns : goal.returns
returns c = text_once
