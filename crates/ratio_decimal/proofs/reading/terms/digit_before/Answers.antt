use Rattle.std.proofs.Common.{arith, refl}
use Rattle.ratio_decimal.proofs.DecimalTerms.{digit_fine, digit_terms, rests_small, total_small}
use Rattle.ratio_decimal.proofs.reading.terms.digit_before.Goals as goal

pub overflow_mul-numer : goal.overflow_mul-numer
overflow_mul-numer c =
    let h = total_small c.args.digit c.args.behind.numer c.args.behind.denom c.divisor_with_ten-divisor.result c.requires.digit c.requires.below c.divisor_with_ten-divisor.ensures.divisor in
    let fits = c.in_ok-denom.ensures.0 in
    record { fits = omega arith }

pub overflow_add-numer : goal.overflow_add-numer
overflow_add-numer c =
    let h = total_small c.args.digit c.args.behind.numer c.args.behind.denom c.divisor_with_ten-divisor.result c.requires.digit c.requires.below c.divisor_with_ten-divisor.ensures.divisor in
    let fits = c.in_ok-denom.ensures.0 in
    record { fits = omega arith }

pub overflow_add-numer-3 : goal.overflow_add-numer-3
overflow_add-numer-3 c =
    let h = total_small c.args.digit c.args.behind.numer c.args.behind.denom c.divisor_with_ten-divisor.result c.requires.digit c.requires.below c.divisor_with_ten-divisor.ensures.divisor in
    let fits = c.in_ok-denom.ensures.0 in
    record { fits = omega arith }

pub overflow_mul-numer-2 : goal.overflow_mul-numer-2
overflow_mul-numer-2 c =
    let h = rests_small c.args.digit c.args.behind.numer c.args.behind.denom c.divisor_with_ten-divisor.result c.requires.digit c.divisor_with_ten-divisor.ensures.some c.divisor_with_ten-divisor.ensures.small in
    record { fits = omega arith }

pub overflow_add-numer-2 : goal.overflow_add-numer-2
overflow_add-numer-2 c =
    let h = rests_small c.args.digit c.args.behind.numer c.args.behind.denom c.divisor_with_ten-divisor.result c.requires.digit c.divisor_with_ten-divisor.ensures.some c.divisor_with_ten-divisor.ensures.small in
    record { fits = omega arith }

pub returns-in_err-denom : goal.returns-in_err-denom
returns-in_err-denom c = rw c.from_residual.ensures (digit_fine c.args.digit c.args.behind.numer c.args.behind.denom c.divisor_with_ten-divisor.result c.requires.lowest c.divisor_with_ten-divisor.ensures.divisor (let out = c.in_err-denom.ensures in omega arith))

pub returns : goal.returns
returns c = rw c.in_ok-denom.ensures.1 (digit_terms c.args.digit c.args.behind.numer c.args.behind.denom c.divisor_with_ten-divisor.result _ _ c.requires.digit c.requires.below c.requires.lowest c.divisor_with_ten-divisor.ensures.divisor refl refl)
