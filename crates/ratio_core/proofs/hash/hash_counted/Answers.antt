use Rattle.std.proofs.Common.{ap, ◌∙◌}
use Rattle.ratio_core.proofs.Codes.{codes_tell_apart}
use Rattle.ratio_core.proofs.HashLaws.{fold_takes}
use Rattle.ratio_core.proofs.Hashing.{codes_alone, count_alone}
use Rattle.ratio_core.proofs.hash.hash_counted.Goals as goal

pub returns-clause-codes : goal.returns-clause-codes
returns-clause-codes g c =
    let taken = c.take_codes.ensures.taken in
    let are = codes_alone taken.2 in
    let taken_at_end = ap g.L.CodeList.taken taken.3 ∙ fold_takes g.L.CodeList.after g.L.CodeList.taken g.met.L.CodeList.end_law _ taken.0 in
    (taken.0, are, codes_tell_apart _ _ _ _ _ g.met.T.Counted.range_law c.both_held.ensures.first c.both_held.ensures.second c.requires are, taken_at_end, taken.3)

pub returns-clause-left : goal.returns-clause-left
returns-clause-left g c =
    let taken = c.take_codes.ensures.taken in
    (taken.1, taken.4, count_alone taken.2)
