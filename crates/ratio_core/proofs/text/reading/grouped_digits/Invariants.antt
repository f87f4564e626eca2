use Rattle.std.proofs.Common.{◌≤◌, length, ◌+◌, ◌-◌}
use Rattle.ratio_core.proofs.LeadingDigits.{AreGroupsTo}
use Rattle.ratio_core.proofs.text.reading.grouped_digits.Given as goal

abbrev pub invariant-groups : goal.invariant-groups
invariant-groups l = AreGroupsTo l.fn.radix l.bytes l.at l.n × (l.count ≤ l.at)

abbrev pub decreases-groups : goal.decreases-groups
decreases-groups l = length l.bytes - l.at + l.count
