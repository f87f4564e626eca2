use Rattle.std.specs.Prelude.{◌-◌, ◌^◌}
use Rattle.std.proofs.Common.{arith}
use Rattle.ratio_decimal.proofs.GapLemmas.{next_over, reciprocal_held, reciprocal_simplest, rest_is, rest_less, unit_simplest}
use Rattle.ratio_decimal.proofs.float.gap.over_long.Goals as goal

pub returns-then-low-low_rest : goal.returns-then-low-low_rest
returns-then-low-low_rest c =
    let low_rest = rest_is c.args.power c.args.high c.args.low (omega (arith, c.requires.room)) in
    unit_simplest _ _ _ _ (omega (arith, low_rest, c.if-low-low_rest.true)) (next_over c.args.power c.args.high (omega (arith, c.requires.room)))

pub returns-in_err-more : goal.returns-in_err-more
returns-in_err-more c =
    let high_rest = rest_is c.args.power c.args.high c.args.high (omega arith) in
    let low_rest = rest_is c.args.power c.args.high c.args.low (omega (arith, c.requires.room)) in
    let less = rest_less c.args.power c.args.high (omega (arith, c.requires.room)) in
    absurd (reciprocal_held _ _ _ _ _ _ high_rest low_rest (2 ^ 64 - 1)
    (omega (arith, c.requires.room)) c.requires.power
    (omega (arith, less, c.requires.short, c.requires.room, c.if-low-low_rest.false))
    (omega (arith, c.requires.short, c.requires.room))
    c.in_err-more.ensures)

pub returns : goal.returns
returns c =
    let high_rest = rest_is c.args.power c.args.high c.args.high (omega arith) in
    let low_rest = rest_is c.args.power c.args.high c.args.low (omega (arith, c.requires.room)) in
    reciprocal_simplest _ _ _ _ _ _ high_rest low_rest _ _ c.in_ok-more.ensures
