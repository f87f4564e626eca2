use Rattle.std.proofs.Common.{subst}
use Rattle.ratio_natural.specs.Number.{IsDigitCount, natural_of}
use Rattle.ratio_expressions.proofs.SizeLemmas.{size_of_few, size_of_many, size_of_zero}
use Rattle.ratio_expressions.proofs.size.size_in_bits.Goals as goal

pub returns-then-is_zero : goal.returns-then-is_zero
returns-then-is_zero c = size_of_zero (natural_of c.args.digits.now) (c.is_zero.ensures.zero.0 (c.if-is_zero.true))

pub returns-then-count : goal.returns-then-count
returns-then-count c = size_of_many (natural_of c.args.digits.now) (natural_of c.take_one.new.digits) c.used-count.result c.take_one.ensures c.used-count.ensures.count c.if-count.true

pub returns : goal.returns
returns c =
    size_of_few (natural_of c.args.digits.now) (natural_of c.take_one.new.digits) c.used-count.result c.bits.result c.take_one.ensures c.used-count.ensures.count c.if-count.false
    (subst (λ n. IsDigitCount 2 n c.bits.result) c.used-count.ensures.value c.bits.ensures.count)
