use Rattle.ratio_decimal.proofs.RoundingRuleLaws.{each_by, halves_differ, rounded_monotone, rounded_near, same_by}
use Rattle.ratio_laws.proofs.laws.rounding_rules.Goals as goal

pub returns : goal.returns
returns c = record { one = each_by; value = same_by; halves = halves_differ; near = rounded_near; monotone = rounded_monotone }
