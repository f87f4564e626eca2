use Rattle.std.specs.Prelude.{◌+◌, ◌*◌, ◌^◌}
use Rattle.std.proofs.Common.{arith, ◌∙◌}
use Rattle.ratio_decimal.proofs.DecimalLemmas.{no_minus, no_number, put_minus, some_number}
use Rattle.ratio_core.proofs.TestLemmas.{if_false}
use Rattle.ratio_decimal.proofs.places.put_places.Goals as goal

pub returns-then-has_minus-clause-written : goal.returns-then-has_minus-clause-written
returns-then-has_minus-clause-written c =
    let start = c.put_unsigned-start in
    let is = c.has_minus.ensures.0 c.if-has_minus.true in
    let n = c.args.whole * 10 ^ c.args.places + c.args.part in
    put_minus start.result c.args.places n start.new.buf c.args.below start.ensures.some
    (omega (arith, start.ensures.inside, start.auto.buf, c.requires.room)) start.ensures.written (some_number c.args.whole c.args.part c.args.places is.1) is.0

pub returns-clause-written : goal.returns-clause-written
returns-clause-written c =
    let start = c.put_unsigned-start in
    let n = c.args.whole * 10 ^ c.args.places + c.args.part in
    start.ensures.written ∙ no_minus c.args.places n c.args.below
    (λ below. no_number c.args.whole c.args.part c.args.places (λ some. if_false _ c.has_minus.ensures c.if-has_minus.false (below, some)))
