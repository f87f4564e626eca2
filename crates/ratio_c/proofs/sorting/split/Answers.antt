use Rattle.std.specs.Prelude.{◌≡◌, ◌^◌, ◌+ℤ◌, pos, unsigned_abs}
use Rattle.std.specs.Int.{int_div_euclid, int_rem_euclid, w64, w128}
use Rattle.std.proofs.Common.{arith, of_z, to_z}
use Rattle.std.proofs.lemmas.Int.{ints, to_z-of_z}
use Rattle.ratio_c.proofs.SortedBytes.{whole_split}
use Rattle.ratio_c.proofs.sorting.split.Goals as goal

pub returns-clause-whole : goal.returns-clause-whole
returns-clause-whole c =
    let n = to_z-of_z w64 c.args.n c.ranges.n in
    let d = to_z-of_z w64 c.args.d c.ranges.d in
    let quotient : c.div_euclid.result ≡ int_div_euclid c.args.n c.args.d = rw (n, d) at c.div_euclid.ensures in
    let rest : c.rem_euclid.result ≡ int_rem_euclid c.args.n c.args.d = rw (n, d) at c.rem_euclid.ensures.value in
    let least = c.ranges.n in
    let top : unsigned_abs (to_z w128 (of_z w128 (to_z w128 (of_z w128 (to_z w64 (of_z w64 c.div_euclid.result))) +ℤ pos (2 ^ 63)))) ≡ unsigned_abs (c.div_euclid.result +ℤ pos (2 ^ 63)) = omega (arith, ints) in
    let part : unsigned_abs (to_z w64 (of_z w64 c.rem_euclid.result)) ≡ unsigned_abs c.rem_euclid.result = omega (arith, ints) in
    rw (top, part, quotient, rest) (whole_split c.args.n c.args.d c.requires (omega (arith, ints)))
