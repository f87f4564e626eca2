use Rattle.num_rational.proofs.ratio.Ratio.checked_sub.Goals as goal

pub returns-in-Some : goal.returns-in-Some
returns-in-Some g c = rw (c.new_raw.ensures.numer, c.new_raw.ensures.denom) c.in-Some.ensures
