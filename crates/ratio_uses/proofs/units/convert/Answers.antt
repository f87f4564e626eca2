use Rattle.std.proofs.Common.{sym, subst, take}
use borrow.Author.Count.{below_more}
use Rattle.ratio_integer.specs.Fraction.{IsLowestTermsOf}
use Rattle.ratio_integer.specs.SignedBits.{Fits64, greatest64, least64}
use Rattle.ratio_core.proofs.SumLemmas.{fits_by}
use Rattle.num_rational.specs.Reduced.{lowest_numbers}
use Rattle.num_rational.proofs.ValueLemmas.{product_held, product_out}
use Rattle.ratio_uses.specs.Units.{converted}
use Rattle.ratio_uses.proofs.ConversionLemmas.{converted-next}
use Rattle.ratio_uses.proofs.units.convert.Goals as goal

pub returns-in_err-total : goal.returns-in_err-total
returns-in_err-total c =
    let before = converted lowest_numbers (lowest_numbers c.args.amount.now) (take c.loop-rate.rate-index c.args.rates.now) in
    let rate = c.rate-item.result in
    let next = converted-next lowest_numbers (lowest_numbers c.args.amount.now) c.args.rates.now c.loop-rate.rate-index rate c.loop-rate-test.true c.rate-item.is in
    let out = product_out least64 greatest64 before (lowest_numbers c.loop-rate.total) (lowest_numbers rate) c.loop-rate.invariant.value rate.lowest.positive c.in_err-total.ensures in
    rw c.from_residual.ensures (λ each. out (subst Fits64 next (each c.loop-rate.rate-index c.loop-rate-test.true)))

pub loop-rate-preserved : goal.loop-rate-preserved
loop-rate-preserved c =
    let before = converted lowest_numbers (lowest_numbers c.args.amount.now) (take c.loop-rate.rate-index c.args.rates.now) in
    let rate = c.rate-item.result in
    let total = lowest_numbers c.in_ok-total.total in
    let next = converted-next lowest_numbers (lowest_numbers c.args.amount.now) c.args.rates.now c.loop-rate.rate-index rate c.loop-rate-test.true c.rate-item.is in
    let held = product_held least64 greatest64 before (lowest_numbers c.loop-rate.total) (lowest_numbers rate) c.loop-rate.invariant.value rate.lowest.positive total.0 total.1 c.in_ok-total.ensures in
    record {
      fits = below_more _ _ c.loop-rate.invariant.fits (subst Fits64 (sym next) (fits_by _ _ _ _ total.0 total.1 held));
      value = subst (λ x. IsLowestTermsOf x.0 x.1 total.0 total.1) (sym next) held.terms;
    }
