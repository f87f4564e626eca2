use Rattle.std.proofs.Common.{◌<◌, ◌^◌, arith, length, subst}
use Rattle.ratio_natural.specs.Number.{base, natural_of}
use Rattle.ratio_natural.proofs.NumberLemmas.{number_below}
use Rattle.ratio_expressions.proofs.PowerBounds.{one_taken}
use Rattle.ratio_expressions.proofs.size.take_one.Goals as goal

pub returns : goal.returns
returns c =
    let old = c.args.digits.now in
    let new = c.subtract_digit.new.a in
    let small : natural_of new < base ^ length old = subst (λ n. natural_of new < base ^ n) c.subtract_digit.auto.a (number_below new (λ k. omega (arith, c.type_inv.digits k))) in
    one_taken (natural_of old) (natural_of new) c.subtract_digit.result (length old) c.subtract_digit.ensures.difference small c.requires
