use Rattle.std.specs.Prelude.{◌≡◌, unsigned_abs}
use Rattle.std.specs.Int.{w64}
use Rattle.std.proofs.Common.{arith, of_z, to_z}
use Rattle.std.proofs.lemmas.Int.{ints, to_z-of_z}
use Rattle.ratio_c.proofs.Mod61Hashes.{hash_of_lowest, hash_of_none}
use Rattle.ratio_c.proofs.hash_mod61.hash_of_lowest.Goals as goal

pub returns-in-Some : goal.returns-in-Some
returns-in-Some c =
    let n = to_z-of_z w64 c.args.n c.ranges.n in
    let d = to_z-of_z w64 c.args.d c.ranges.d in
    let a : to_z w64 (of_z w64 c.lowest_terms-a.result.0) ≡ c.lowest_terms-a.result.0 = omega (arith, ints) in
    let b : to_z w64 (of_z w64 c.lowest_terms-a.result.1) ≡ c.lowest_terms-a.result.1 = omega (arith, ints) in
    let denom : c.unsigned_abs.result ≡ unsigned_abs c.lowest_terms-a.result.1 = rw b at c.unsigned_abs.ensures.value in
    let numer : c.unsigned_abs-in-Some.result ≡ unsigned_abs c.lowest_terms-a.result.0 = rw a at c.unsigned_abs-in-Some.ensures.value in
    let back : to_z w64 (of_z w64 c.with_sign.result) ≡ c.with_sign.result = omega (arith, ints) in
    rw back (hash_of_lowest c.args.n c.args.d _ _ _ _ _ (rw (n, d) at c.lowest_terms-a.ensures.terms) (rw denom at c.in-Some.ensures.1) (rw numer at c.product.ensures) (rw a at c.with_sign.ensures))

pub returns-in-None : goal.returns-in-None
returns-in-None c =
    let n = to_z-of_z w64 c.args.n c.ranges.n in
    let d = to_z-of_z w64 c.args.d c.ranges.d in
    let a : to_z w64 (of_z w64 c.lowest_terms-a.result.0) ≡ c.lowest_terms-a.result.0 = omega (arith, ints) in
    let b : to_z w64 (of_z w64 c.lowest_terms-a.result.1) ≡ c.lowest_terms-a.result.1 = omega (arith, ints) in
    let denom : c.unsigned_abs.result ≡ unsigned_abs c.lowest_terms-a.result.1 = rw b at c.unsigned_abs.ensures.value in
    let back : to_z w64 (of_z w64 c.with_sign-in-None.result) ≡ c.with_sign-in-None.result = omega (arith, ints) in
    rw back (hash_of_none c.args.n c.args.d _ _ _ (rw (n, d) at c.lowest_terms-a.ensures.terms) (rw denom at c.in-None.ensures) (rw a at c.with_sign-in-None.ensures))
