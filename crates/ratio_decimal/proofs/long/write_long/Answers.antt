use Rattle.std.proofs.Common.{refl, ◌∙◌}
use Rattle.ratio_decimal.proofs.LongLemmas.{whole_written}
use Rattle.ratio_decimal.proofs.long.write_long.Goals as goal

pub returns : goal.returns
returns g c = λ flush ok.
    let x = c.in_ok-after.ensures.styled flush in
    let y = c.in_ok-write_str.ensures.styled x.flush refl in
    let z = c.in_ok-write_digits.ensures y.flush refl in
    whole_written g.W.Write.write_str_gives c.args.f.now c.write_front.new.f c.write_str.new.self c.write_digits.new.f c.write_times.new.f c.args.n c.args.d c.args.places c.in_ok-after.after c.fill-fill.result c.args.below c.as_str-whole.result.now
    c.ranges.n.fits c.requires.positive c.ranges.d.fits c.requires.many (c.as_str-whole.ensures ∙ c.before_places-whole.ensures) c.fill-fill.ensures c.in_ok-after.ensures.after x y z (c.write_times.ensures z.flush ok)
