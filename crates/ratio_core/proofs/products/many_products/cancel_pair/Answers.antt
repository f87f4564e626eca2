use Rattle.std.proofs.Common.{◌∙◌, ap, sym}
use Rattle.ratio_integer.proofs.LowestTerms.{cancelled_coprime}
use Rattle.ratio_core.proofs.ManyProductLemmas.{coprime_one, factor_whole}
use Rattle.ratio_core.proofs.products.many_products.cancel_pair.Goals as goal

pub returns-then-eq-clause-factor : goal.returns-then-eq-clause-factor
returns-then-eq-clause-factor g c =
    let v = g.T.Integer.value in
    rw (c.ONE.ensures, c.ONE-then-eq.ensures, g.met.T.Integer.one_law) (factor_whole (v c.args.n) (v c.args.d) ((g.met.T.Integer.eq_law c.args.n c.args.d).0 (sym c.eq.ensures ∙ c.if-eq.true)))

pub returns-then-eq-clause-coprime : goal.returns-then-eq-clause-coprime
returns-then-eq-clause-coprime g c = coprime_one _ _ (ap g.T.Integer.value c.ONE-then-eq.ensures ∙ g.met.T.Integer.one_law)

pub returns-clause-coprime : goal.returns-clause-coprime
returns-clause-coprime g c = record { only_one = cancelled_coprime _ _ _ _ c.requires.fraction c.cancelled.ensures }
