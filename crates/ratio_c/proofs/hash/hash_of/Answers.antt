use Rattle.std.proofs.Common.{◌∙◌, ap}
use Rattle.ratio_c.specs.declared.hash.Mixed.{Mixed}
use Rattle.ratio_c.proofs.Hashes.{hash_taken}
use Rattle.ratio_c.proofs.hash.hash_of.Goals as goal

pub returns : goal.returns
returns g c =
    let found = c.hash_counted.ensures.codes in
    record { codes = found.0; are_codes = found.1; is_hash = ap (λ (list : Mixed). list.hash) found.4 ∙ hash_taken found.0 (record { hash = 0; taken = c.none.result }) }
