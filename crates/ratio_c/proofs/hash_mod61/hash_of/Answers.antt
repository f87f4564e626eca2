use Rattle.std.specs.Prelude.{◌≡◌, unsigned_abs}
use Rattle.std.specs.Int.{w64}
use Rattle.std.proofs.Common.{arith, of_z, to_z}
use Rattle.std.proofs.lemmas.Int.{ints, to_z-of_z}
use Rattle.ratio_c.proofs.Mod61Hashes.{hash_by_inverse}
use Rattle.ratio_c.proofs.hash_mod61.hash_of.Goals as goal

pub returns-in-Some : goal.returns-in-Some
returns-in-Some c =
    let n = to_z-of_z w64 c.args.n c.ranges.n in
    let d = to_z-of_z w64 c.args.d c.ranges.d in
    let denom : c.unsigned_abs.result ≡ unsigned_abs c.args.d = rw d at c.unsigned_abs.ensures.value in
    let numer : c.unsigned_abs-in-Some.result ≡ unsigned_abs c.args.n = rw n at c.unsigned_abs-in-Some.ensures.value in
    let back : to_z w64 (of_z w64 c.with_sign.result) ≡ c.with_sign.result = omega (arith, ints) in
    rw back (hash_by_inverse c.args.n c.args.d _ _ _ c.requires (rw denom at c.in-Some.ensures.1) (rw numer at c.product.ensures) (rw n at c.with_sign.ensures))
