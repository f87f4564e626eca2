use Rattle.std.specs.Prelude.{◌≡◌, ◌^◌, unsigned_abs}
use Rattle.std.specs.Int.{w64}
use Rattle.std.proofs.Common.{sym}
use Rattle.std.proofs.lemmas.Int.{to_z-of_z}
use Rattle.ratio_c.proofs.SortedBytes.{places_split}
use Rattle.ratio_c.proofs.sorting.digits.Goals as goal

pub returns : goal.returns
returns c =
    let n = to_z-of_z w64 c.args.n c.ranges.n in
    let d = to_z-of_z w64 c.args.d c.ranges.d in
    let divisor : c.unsigned_abs-divisor.result ≡ unsigned_abs c.args.d = rw d at c.unsigned_abs-divisor.ensures.value in
    let whole = rw (n, d) at c.split-whole.ensures.whole in
    let high = rw divisor at c.next_places-high.ensures.places in
    let low = rw divisor at c.next_places-low.ensures.places in
    let short = rw divisor at c.next_places-low.ensures.rest in
    sym (places_split _ _ _ _ _ _ _ _ (2 ^ 64) whole high low short)
