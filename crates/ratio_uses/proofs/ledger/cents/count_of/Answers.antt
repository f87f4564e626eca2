use Rattle.std.proofs.Common.{rules}
use Rattle.std.proofs.lemmas.Int.{to_z-of_z}
use mir.Syntax.{w128, w64}
use mir.Val.{SFits}
use Rattle.num_rational.specs.Reduced.{lowest_numbers}
use Rattle.ratio_uses.proofs.BeatLemmas.{number_held}
use Rattle.ratio_uses.proofs.CentLemmas.{count_told, multiple_told, wide_fits}
use Rattle.ratio_uses.proofs.ledger.cents.count_of.Goals as goal

pub returns-then-is_multiple_of : goal.returns-then-is_multiple_of
returns-then-is_multiple_of c =
    let unit_fits : SFits w64 c.args.unit_parts = c.ranges.unit_parts in
    let unit_wide : SFits w128 c.args.unit_parts = wide_fits c.args.unit_parts unit_fits in
    let denom_fits : SFits w64 c.denom-denom.result.now = search rules in
    let denom_wide : SFits w128 c.denom-denom.result.now = wide_fits c.denom-denom.result.now denom_fits in
    let numer_fits : SFits w64 c.numer-numer.result.now = search rules in
    let numer_wide : SFits w128 c.numer-numer.result.now = wide_fits c.numer-numer.result.now numer_fits in
    let told = rw c.denom-denom.ensures.value at (simp to_z-of_z at c.is_multiple_of.ensures) in
    let product = rw (c.numer-numer.ensures.value, c.denom-denom.ensures.value) at (simp to_z-of_z at c.rounded_product.ensures) in
    count_told c.args.unit_parts (lowest_numbers c.args.amount.now) c.rounded_product.result (told.0 c.if-is_multiple_of.true) unit_fits (rw c.numer-numer.ensures.value at (number_held c.numer-numer.result.now numer_fits)) c.requires.some c.args.amount.now.lowest.positive product

pub returns-else-is_multiple_of : goal.returns-else-is_multiple_of
returns-else-is_multiple_of c =
    let unit_fits : SFits w64 c.args.unit_parts = c.ranges.unit_parts in
    let denom_fits : SFits w64 c.denom-denom.result.now = search rules in
    let told = rw c.denom-denom.ensures.value at (simp to_z-of_z at c.is_multiple_of.ensures) in
    λ is. let yes = told.1 (multiple_told c.args.unit_parts (lowest_numbers c.args.amount.now) c.requires.some c.args.amount.now.lowest is) in let no = c.if-is_multiple_of.false in search rules
