use Rattle.std.proofs.lemmas.Result.{on_ok_weaker}
use Rattle.ratio_totals.proofs.PairLemmas.{taken_out}
use Rattle.ratio_totals.proofs.total.Total.take_out.Goals as goal

pub returns-clause-sum : goal.returns-clause-sum
returns-clause-sum g c = on_ok_weaker c.merge_slots.result (λ m. taken_out _ _ _ m.sum) c.merge_slots.ensures.merged
