use Rattle.std.specs.Int.RustNames.{FitsSigned}
use Rattle.std.proofs.Common.{rules}
use Rattle.std.proofs.lemmas.Int.{to_z-of_z}
use mir.Syntax.{w128}
use Rattle.ratio_natural.specs.Number.{base}
use Rattle.ratio_totals.proofs.ProductLemmas.{crossed_checked, crossed_lowest}
use Rattle.ratio_totals.proofs.total_changes.short_product.Goals as goal

pub short_crossed-requires-clause-lowest : goal.short_crossed-requires-clause-lowest
short_crossed-requires-clause-lowest g c =
    let first : FitsSigned w128 c.wide.result = search rules in
    let second : FitsSigned w128 c.wide-2.result = search rules in
    rw (to_z-of_z w128 c.wide.result first, to_z-of_z w128 c.wide-2.result second, c.wide.ensures.number, c.wide-2.ensures.number, c.size.ensures, c.size-2.ensures)
    (crossed_lowest _ _ _ _ _ _ _ _ c.denom-2.ensures.lowest c.denom.ensures.lowest
    (rw (c.numer.ensures.value, c.denom.ensures.value) at c.lowest_terms-p.ensures.terms)
    (rw (c.numer-2.ensures.value, c.denom-2.ensures.value) at c.lowest_terms-s.ensures.terms))

pub returns : goal.returns
returns g c =
    let first : FitsSigned w128 c.wide.result = search rules in
    let second : FitsSigned w128 c.wide-2.result = search rules in
    crossed_checked _ _ _ _ _ _ _ _ c.denom-2.ensures.lowest c.denom.ensures.lowest
    (rw (c.numer.ensures.value, c.denom.ensures.value) at c.lowest_terms-p.ensures.terms)
    (rw (c.numer-2.ensures.value, c.denom-2.ensures.value) at c.lowest_terms-s.ensures.terms)
    base c.short_crossed.result
    (rw (to_z-of_z w128 c.wide.result first, to_z-of_z w128 c.wide-2.result second, c.wide.ensures.number, c.wide-2.ensures.number, c.size.ensures, c.size-2.ensures) at c.short_crossed.ensures)
