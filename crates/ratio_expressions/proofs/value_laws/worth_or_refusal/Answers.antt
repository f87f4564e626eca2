use Rattle.ratio_expressions.proofs.TextLaws.{text_worth_not_refused}
use Rattle.ratio_expressions.proofs.value_laws.worth_or_refusal.Goals as goal

pub returns : goal.returns
returns c = text_worth_not_refused
