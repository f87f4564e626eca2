use Rattle.std.specs.Prelude.{◌+◌}
use Rattle.std.specs.Float.{binary32}
use Rattle.std.proofs.Common.{ap}
use Rattle.ratio_decimal.proofs.FloatSign.{sign_bit32, signed_bits}
use Rattle.ratio_decimal.proofs.float.format.F32FloatType.of_bits.Goals as goal

pub float_from_bits-result : goal.float_from_bits-result
float_from_bits-result c = (signed_bits binary32 c.args.is_negative c.args.bits _ (ap (λ x. c.args.bits + x) (sign_bit32 c.args.is_negative)) c.requires).1

pub returns : goal.returns
returns c = (signed_bits binary32 c.args.is_negative c.args.bits _ (ap (λ x. c.args.bits + x) (sign_bit32 c.args.is_negative)) c.requires).0
