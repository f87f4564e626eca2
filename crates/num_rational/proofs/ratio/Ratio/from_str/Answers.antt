use Rattle.num_rational.proofs.ratio.Ratio.from_str.Goals as goal

pub returns-in-Ok : goal.returns-in-Ok
returns-in-Ok g c = rw (c.new_raw.ensures.numer, c.new_raw.ensures.denom) c.in-Ok.ensures
