use Rattle.std.proofs.Common.{refl, ◌∙◌}
use Rattle.ratio_decimal.proofs.LongLemmas.{all_written, one_written}
use Rattle.ratio_decimal.proofs.long.write_digits.Goals as goal

pub digits-preserved : goal.digits-preserved
digits-preserved g c =
    let next = c.multiple_over-digit in
    one_written g.W.Write.write_str_gives c.args.f.now c.args.rest c.args.d c.args.places c.digits.f c.write_char.new.self c.digits.part c.digits.left next.result.0 next.result.1
    c.ranges.d.fits c.digits-test.true next.ensures c.digits.invariant (λ flush. c.in_ok-write_char.ensures.styled flush refl)

pub returns : goal.returns
returns g c = λ flush ok.
    all_written g.W.Write.write_str_gives c.args.f.now c.args.rest c.args.d c.args.places c.digits.f c.write_str.new.self c.digits.part c.digits.left c.as_str.result.now
    c.digits-test.false c.digits.invariant (c.as_str.ensures ∙ c.last_places.ensures) (λ still. c.write_str.ensures.styled still ok) flush
