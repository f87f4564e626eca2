use Rattle.std.proofs.Common.{arith}
use Rattle.std.proofs.lemmas.Int.{ints}
use Rattle.num_rational.proofs.reduced.Reduced.rationalize.Goals as goal

pub returns-in_err-numer : goal.returns-in_err-numer
returns-in_err-numer g c = rw c.from_residual.ensures c.in_err-numer.ensures.rational

pub new_raw-requires : goal.new_raw-requires
new_raw-requires g c = λ e. (let up = c.in_ok-numer.ensures.lowest.positive in omega (arith, ints, up, e))

pub invariant_of-result : goal.invariant_of-result
invariant_of-result g c = record { lowest = rw (c.new_raw.ensures.numer, c.new_raw.ensures.denom) c.in_ok-numer.ensures.lowest }

pub returns : goal.returns
returns g c = rw c.new_raw.ensures.fields c.in_ok-numer.ensures.rational
