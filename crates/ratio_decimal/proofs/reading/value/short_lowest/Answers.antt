use Rattle.std.specs.Prelude.{pos, ◌^◌, ◌++◌, length}
use Rattle.std.proofs.Common.{subst, ◌∙◌}
use Rattle.ratio_integer.specs.Fraction.{IsLowestTermsOf}
use Rattle.ratio_core.specs.Reading.{digits_sum}
use Rattle.ratio_decimal.proofs.DecimalValues.{joined}
use Rattle.ratio_decimal.proofs.ShortDecimals.{short_terms_moved}
use Rattle.ratio_decimal.proofs.reading.value.short_lowest.Goals as goal

pub returns : goal.returns
returns c =
    let p = c.short_terms.result.numer in
    let q = c.short_terms.result.denom in
    let whole = c.args.whole.now in
    let part = c.args.part.now in
    let number = c.in_ok-number.ensures ∙ joined whole part c.in_ok-first.first c.in_ok-first.ensures in
    short_terms_moved (digits_sum 10 (whole ++ part)) (length part) c.in_ok-places.places c.args.tens p q c.args.down c.in_ok-places.ensures.power
    (subst (λ s. IsLowestTermsOf (pos s) (pos (10 ^ c.in_ok-places.places)) (pos p) (pos q)) number c.short_terms.ensures)
