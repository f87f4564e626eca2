use Rattle.std.specs.Bool.{passes}
use Rattle.std.proofs.Common.{◌∙◌, sym}
use Rattle.std.proofs.lemmas.Nat.{pow_pos}
use Rattle.ratio_decimal.proofs.FloatFields.{infinite_out, leading_value, low_value, nan_out, value_moved}
use Rattle.ratio_decimal.proofs.float.exact.from_float.Goals as goal

pub returns-then-is_nan : goal.returns-then-is_nan
returns-then-is_nan g c = nan_out _ _ c.args.x (sym c.is_nan.ensures.value ∙ c.if-is_nan.true)

pub returns-then-exponent-eq2047 : goal.returns-then-exponent-eq2047
returns-then-exponent-eq2047 g c = infinite_out c.args.x (passes _ c.well_formed.0.1) _ _ c.if-exponent-eq2047.true

pub returns-then-exponent-eq0 : goal.returns-then-exponent-eq0
returns-then-exponent-eq0 g c =
    let v = g.T.Integer.value in
    value_moved _ _ _ _ c.args.x _ _ _ c.scaled_by_powers.result (pow_pos 1074) (low_value c.args.x (passes _ c.well_formed.0.1) c.if-exponent-eq0.true) c.scaled_by_powers.ensures

pub returns : goal.returns
returns g c =
    let v = g.T.Integer.value in
    value_moved _ _ _ _ c.args.x _ _ _ c.scaled_by_powers-2.result (pow_pos 1074) (leading_value c.args.x (passes _ c.well_formed.0.1) c.if-exponent-eq0.false c.if-exponent-eq2047.false) c.scaled_by_powers-2.ensures
