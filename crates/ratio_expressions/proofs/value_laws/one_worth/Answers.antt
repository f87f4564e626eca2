use Rattle.std.proofs.Common.{subst}
use Rattle.ratio_expressions.specs.Values.{IsWorth}
use Rattle.ratio_expressions.proofs.Refusals.{one_of_text}
use Rattle.ratio_expressions.proofs.ValueLaws.{worth_one}
use Rattle.ratio_expressions.proofs.value_laws.one_worth.Goals as goal

pub returns : goal.returns
returns c = λ text named v w h g.
    worth_one text named g.tree v w (subst (λ t. IsWorth text named t v) (one_of_text text h.tree g.tree h.has g.has) h.value) g.value
