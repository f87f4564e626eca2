use Rattle.std.proofs.Common.{subst}
use Rattle.ratio_core.specs.Reading.{ReadsNumber, SidesReadAs}
use Rattle.ratio_core.proofs.LeadingDigits.{read_fields}
use Rattle.ratio_core.proofs.text.reading.sides.Goals as goal

pub returns-in-None-number : goal.returns-in-None-number
returns-in-None-number g c = rw c.new-in-None-number.ensures (λ n d reads.
    subst (ReadsNumber g.T.Integer.value g.T.Integer.lo g.T.Integer.hi c.args.radix c.args.back.now) c.in-None-number.is c.number-in-Some.ensures d reads.denom)

pub returns-in-Some-number : goal.returns-in-Some-number
returns-in-Some-number g c =
    let t = g.T.Integer in
    read_fields t.value t.lo t.hi (SidesReadAs t.lo t.hi c.args.radix c.args.front.now c.args.back.now) c.in-Some.numer c.in-Some-number.denom
    (record { numer = c.in-Some.ensures; denom = c.in-Some-number.ensures }) c.nonzero.result c.nonzero.ensures
