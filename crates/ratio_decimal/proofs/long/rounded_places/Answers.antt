use Rattle.std.proofs.Common.{arith}
use Rattle.ratio_decimal.proofs.LongLemmas.{last_digit, last_sum}
use Rattle.ratio_decimal.proofs.long.rounded_places.Goals as goal

pub overflow_add-result : goal.overflow_add-result
overflow_add-result c =
    let digit = c.multiple_over-digit in
    let carry = c.rounded-carry in
    let few = last_digit c.args.rest c.args.d digit.result.0 digit.result.1 carry.result.0 carry.result.1 c.requires c.ranges.d.fits digit.ensures carry.ensures.part carry.ensures.rounded in
    record { fits = omega (arith, few) }

pub returns-clause-digit : goal.returns-clause-digit
returns-clause-digit c =
    let digit = c.multiple_over-digit in
    let carry = c.rounded-carry in
    last_digit c.args.rest c.args.d digit.result.0 digit.result.1 carry.result.0 carry.result.1 c.requires c.ranges.d.fits digit.ensures carry.ensures.part carry.ensures.rounded

pub returns-clause-rounded : goal.returns-clause-rounded
returns-clause-rounded c =
    let digit = c.multiple_over-digit in
    let carry = c.rounded-carry in
    last_sum c.args.rest c.args.d digit.result.0 digit.result.1 carry.result.0 carry.result.1 c.requires c.ranges.d.fits digit.ensures carry.ensures.part carry.ensures.rounded
