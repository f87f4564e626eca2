use Rattle.std.specs.Prelude.{◌+◌, ◌<◌, ℕ, ℤ, take}
use Rattle.num_rational.specs.Reduced.{lowest_numbers}
use Rattle.num_rational.specs.Split.{IsRoundedShare, total_of_shares}
use Rattle.ratio_uses.specs.Cents.{PartFits}
use Rattle.ratio_uses.proofs.CentLemmas.{IsMarkedSoFar}
use Rattle.ratio_uses.proofs.ledger.cents.check_parts.Given as goal

abbrev pub invariant-loop-share : goal.invariant-loop-share
invariant-loop-share l = record {
  fit : (k : ℕ) → k < l.share-index → (last : ℤ) → IsRoundedShare l.count (total_of_shares lowest_numbers (take k l.shares)) last → PartFits l.unit_parts l.count last (total_of_shares lowest_numbers (take (k + 1) l.shares));
  marked : IsMarkedSoFar lowest_numbers l.count l.shares l.share-index (lowest_numbers l.sum) l.mark;
}
