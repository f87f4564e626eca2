use Rattle.ratio_natural.specs.Number.{natural_of}
use Rattle.ratio_expressions.proofs.PowerBounds.{one_less}
use Rattle.ratio_expressions.proofs.power.is_at_most.Goals as goal

pub returns : goal.returns
returns c = one_less (natural_of c.args.digits.now) (natural_of c.take_one.new.digits) c.args.most c.has_bits.result c.take_one.ensures c.has_bits.ensures
