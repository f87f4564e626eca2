use Rattle.std.specs.Prelude.{◌≡◌, ◌*ℤ◌}
use Rattle.std.proofs.Common.{ap, refl, subst, sym, ◌∙◌}
use Rattle.ratio_core.specs.Rounding.{IsRounded}
use Rattle.ratio_core.proofs.MultipleLemmas.{number_is, some_if_held}
use Rattle.num_rational.proofs.WeightLemmas.{mark_computed, mark_held, whole_rounded}
use Rattle.num_rational.proofs.splitting.mark_over.Goals as goal

pub returns-then-eq : goal.returns-then-eq
returns-then-eq g c =
    let T = g.T.Integer in
    let same : T.value c.args.sum ≡ T.value c.args.common = (g.met.T.Integer.eq_law c.args.sum c.args.common).0 (sym c.eq.ensures ∙ c.if-eq.true) in
    subst (λ n. IsRounded (T.value c.args.amount *ℤ n) (T.value c.args.common) (T.value c.args.amount)) (sym same) (whole_rounded (T.value c.args.amount) (T.value c.args.common) c.requires.common)

pub unwrap-requires : goal.unwrap-requires
unwrap-requires g c =
    let T = g.T.Integer in
    let product = c.rounded_product.ensures in
    let computed : IsRounded (T.value c.args.amount *ℤ T.value c.args.sum) (T.value c.args.common) product.0 =
    mark_computed (T.value c.args.amount) (T.value c.args.sum) (T.value c.ONE.result) (T.value c.args.common) (T.value c.args.sum) (T.value c.args.common) product.0
    refl (ap T.value c.ONE.ensures ∙ T.one_number) refl product.1 in
    some_if_held T.value T.lo T.hi product.0 c.rounded_product.result product.2
    (mark_held (T.value c.args.amount) (T.value c.args.sum) (T.value c.args.common) product.0 c.requires.common c.requires.above c.requires.below computed T.lo T.hi g.met.T.Integer.range_law c.held.ensures.range)

pub returns : goal.returns
returns g c =
    let T = g.T.Integer in
    let product = c.rounded_product.ensures in
    let computed : IsRounded (T.value c.args.amount *ℤ T.value c.args.sum) (T.value c.args.common) product.0 =
    mark_computed (T.value c.args.amount) (T.value c.args.sum) (T.value c.ONE.result) (T.value c.args.common) (T.value c.args.sum) (T.value c.args.common) product.0
    refl (ap T.value c.ONE.ensures ∙ T.one_number) refl product.1 in
    let is : T.value c.unwrap.result ≡ product.0 = number_is T.value T.lo T.hi product.0 c.rounded_product.result c.unwrap.result product.2 c.unwrap.ensures in
    subst (IsRounded (T.value c.args.amount *ℤ T.value c.args.sum) (T.value c.args.common)) (sym is) computed
