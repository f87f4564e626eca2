use Rattle.std.proofs.Common.{◌≡◌, ◌∙◌, ap, refl, fold}
use Rattle.std.specs.List.{flat_map}
use Rattle.ratio_core.proofs.HashLaws.{codes_of_known, fold_keeps, fold_writes}
use Rattle.num_rational.specs.Hashing.{codes_of_ratio}
use Rattle.num_rational.specs.declared.ratio.traits.HashedCodes.{HashedCodes}
use Rattle.num_rational.proofs.ratio.traits.hash_codes.Goals as goal

pub returns-clause-same_reference : goal.returns-clause-same_reference
returns-clause-same_reference g c =
    let taken = c.hash_counted.ensures.codes in
    ap (λ list. list.state.ghost_name) taken.4 ∙ fold_keeps _ (λ (list : HashedCodes g.row.H.Denot). list.state.ghost_name) (λ s z. refl) _ taken.0

pub returns-clause-writes : goal.returns-clause-writes
returns-clause-writes g c =
    let taken = c.hash_counted.ensures.codes in
    let same : taken.0 ≡ codes_of_ratio c.args.x.now = codes_of_known _ _ _ _ c.args.x.now.nonzero taken.0 taken.1 in
    ap (λ list. list.state.now) taken.4 ∙ (fold_writes _ (λ (list : HashedCodes g.row.H.Denot). list.state.now) g.H.Hasher.write g.T.Integer.number_hash_input (λ s z. refl) _ taken.0 ∙ ap (λ codes. fold g.H.Hasher.write c.args.list.now.state.now (flat_map g.T.Integer.number_hash_input codes)) same)
