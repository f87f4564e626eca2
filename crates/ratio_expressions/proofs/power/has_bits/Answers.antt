use Rattle.std.proofs.Common.{subst}
use Rattle.ratio_natural.specs.Number.{IsDigitCount, natural_of}
use Rattle.ratio_expressions.proofs.PowerBounds.{few_bits, many_digits}
use Rattle.ratio_expressions.proofs.power.has_bits.Goals as goal

pub returns-then-count : goal.returns-then-count
returns-then-count c =
    few_bits (natural_of c.args.digits.now) c.bits.result c.args.most (subst (λ n. IsDigitCount 2 n c.bits.result) c.used-count.ensures.value c.bits.ensures.count)

pub returns-else-count : goal.returns-else-count
returns-else-count c = many_digits (natural_of c.args.digits.now) c.used-count.result c.args.most c.used-count.ensures.count c.requires c.if-count.false
