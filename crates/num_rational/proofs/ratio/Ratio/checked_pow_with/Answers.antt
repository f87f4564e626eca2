use Rattle.ratio_core.proofs.ReciprocalLemmas.{power_denom}
use Rattle.num_rational.proofs.ratio.Ratio.checked_pow_with.Goals as goal

pub new_raw-requires : goal.new_raw-requires
new_raw-requires g c =
    let v = g.T.Integer.value in
    power_denom _ _ (v c.args.self.now.numer) (v c.args.self.now.denom) (g.E.Exponent.number c.args.exponent) _ _ c.requires c.in-Some.ensures.0 c.in-Some.ensures.1
