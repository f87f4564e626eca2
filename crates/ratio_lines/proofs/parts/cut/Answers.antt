use Rattle.std.proofs.Common.{arith}
use Rattle.ratio_lines.proofs.Cuts.{cut_slice, none_at_all, none_before}
use Rattle.ratio_lines.proofs.parts.cut.Goals as goal

pub returns-in-Some : goal.returns-in-Some
returns-in-Some c =
    let found = c.in-Some.ensures in
    (none_before c.args.byte c.args.bytes.now c.in-Some.at (omega (arith, found.0.high)) (λ k below. found.0.before k (omega arith) below), cut_slice c.args.byte c.args.bytes.now c.in-Some.at found.0.high found.1)

pub returns-in-None : goal.returns-in-None
returns-in-None c = none_at_all c.args.byte c.args.bytes.now (λ k below. c.in-None.ensures k (omega arith) below)
