use Rattle.std.specs.Prelude.{◌<◌, ◌^◌, unsigned_abs, pos, ◌<ℤ◌}
use Rattle.std.proofs.Common.{rules, arith}
use Rattle.std.proofs.lemmas.Int.{ints}
use mir.Facts.{to_z-of_z, to_z_pos}
use mir.Syntax.{w128}
use mir.Val.{SFits}
use Rattle.ratio_slots.proofs.ShortSumLemmas.{short_numbers}
use Rattle.ratio_slots.proofs.short_sums.short_pair.Goals as goal

pub returns : goal.returns
returns c =
    let numer : SFits w128 c.args.numer = search rules in
    let p_held : SFits w128 c.lowest_terms-p.result.0 = search rules in
    let q_held : SFits w128 c.lowest_terms-p.result.1 = search rules in
    let denom = to_z_pos w128 {n = c.args.denom} (omega arith) in
    let terms = rw (to_z-of_z numer, denom) at c.lowest_terms-p.ensures.terms in
    let size = rw (to_z-of_z p_held) at c.unsigned_abs.ensures.value in
    let below = rw (to_z-of_z q_held) at c.if-q.false in
    let p_short : unsigned_abs c.lowest_terms-p.result.0 < 2 ^ 64 = omega (arith, size, c.if-unsigned_abs.false) in
    let q_short : c.lowest_terms-p.result.1 <ℤ pos (2 ^ 64) = omega (arith, ints, below) in
    rw (to_z-of_z p_held, to_z-of_z q_held) (short_numbers c.args.numer c.args.denom _ _ terms p_short q_short)
