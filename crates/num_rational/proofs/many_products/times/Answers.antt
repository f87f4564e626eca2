use Rattle.std.specs.Prelude.{◌≡◌, false, true}
use Rattle.num_rational.specs.Operators.{numbers}
use Rattle.num_rational.specs.Reduced.{ratio_of}
use Rattle.num_rational.proofs.ManyProductLemmas.{factor_more, factor_out, formed, so_far_lowest}
use Rattle.num_rational.proofs.many_products.times.Goals as goal

pub returns : goal.returns
returns g c =
    let product = formed _ _ _ _ _ _ _ _ c.into_raw-p.ensures.numer c.into_raw-p.ensures.denom c.in-Some.ensures.1 c.in-Some-try_times.ensures.1 c.requires.up c.into_raw-p.ensures.lowest.positive in
    (product.0, product.1, λ never. absurd (let none : false ≡ true = never in cc))

pub returns-in_err-product : goal.returns-in_err-product
returns-in_err-product g c =
    let T = g.T.Integer in
    let x = numbers (ratio_of c.args.x.now) in
    let low = numbers (ratio_of c.in_lowest_terms.result) in
    rw c.from_residual.ensures (factor_out (T.value c.args.n) (T.value c.args.d) low.0 low.1 (so_far_lowest T.lo T.hi (T.value c.args.n) (T.value c.args.d) low.0 low.1 c.in_lowest_terms.ensures) T.lo T.hi x.0 x.1 c.in_err-product.ensures)

pub returns-2 : goal.returns-2
returns-2 g c =
    let T = g.T.Integer in
    let x = numbers (ratio_of c.args.x.now) in
    let low = numbers (ratio_of c.in_lowest_terms.result) in
    let product = numbers (ratio_of c.in_ok-product.product) in
    let whole = factor_more T.lo T.hi (T.value c.args.n) (T.value c.args.d) low.0 low.1 c.in_lowest_terms.ensures x.0 x.1 product.0 product.1 c.in_ok-product.ensures in
    rw (c.into_raw-numer.ensures.numer, c.into_raw-numer.ensures.denom) (whole.terms.lowest.positive, whole.terms.same, λ yes. whole.terms.lowest)
