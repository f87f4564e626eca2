use Rattle.ratio_core.proofs.LawLemmas.{formed_differences_fit, formed_sums_fit, sum_conditions_commute}
use Rattle.ratio_laws.proofs.laws.conditions.Goals as goal

pub returns-clause-commute : goal.returns-clause-commute
returns-clause-commute c = sum_conditions_commute

pub returns-clause-formed_sums_fit : goal.returns-clause-formed_sums_fit
returns-clause-formed_sums_fit c = formed_sums_fit

pub returns-clause-formed_differences_fit : goal.returns-clause-formed_differences_fit
returns-clause-formed_differences_fit c = formed_differences_fit
