use Rattle.std.proofs.Common.{subst}
use Rattle.ratio_expressions.specs.Forms.{ChecksShortDenominator}
use Rattle.ratio_expressions.proofs.DenominatorLemmas.{not_six}
use Rattle.ratio_expressions.proofs.replies.both.ends_in_six.Goals as goal

pub returns-in-None : goal.returns-in-None
returns-in-None c = λ d checks. not_six d (subst (ChecksShortDenominator d) c.in-None.is checks)
