-- The hash of codes that were taken one after another.
use Rattle.std.proofs.Common.{◌≡◌, ◌∙◌, ℤ, List, [], ◌∷◌, ◌++◌, refl, sym, ap}
use Rattle.std.specs.Prelude.{fold}
use Rattle.ratio_core.proofs.HashLaws.{codes_of_known, codes_of_same}
use Rattle.ratio_c.specs.Calls.{EqualValuesHaveOneHash}
use Rattle.ratio_c.specs.Crossing.{mixed}
use Rattle.ratio_c.specs.declared.hash.Mixed.{Mixed}

-- the list after one more code
abbrev taking : Mixed → ℤ → Mixed
taking list z = record { hash = mixed list.hash z; taken = record { codes = list.taken.codes ++ z ∷ [] } }

pub hash_taken : (codes : List ℤ) (list : Mixed) → (fold taking list codes).hash ≡ fold mixed list.hash codes
hash_taken [] list = refl
hash_taken (code ∷ codes) list = hash_taken codes (taking list code)

pub equal_value_hashes : EqualValuesHaveOneHash
equal_value_hashes lo hi x y h k dn en value hx hy =
    let codes =
    codes_of_known lo hi x.0 x.1 dn hx.codes hx.are_codes ∙ codes_of_same lo hi x.0 x.1 y.0 y.1 dn en value ∙ sym (codes_of_known lo hi y.0 y.1 en hy.codes hy.are_codes)
    in
    hx.is_hash ∙ ap (fold mixed 0) codes ∙ sym hy.is_hash
