use Rattle.std.proofs.Common.{◌∙◌, Err, Ok, ap, refl, subst, sym}
use Rattle.num_rational.specs.Ratio.{denominator, numerator}
use Rattle.ratio_c.specs.Calls.{SaysRead}
use Rattle.ratio_c.specs.Crossing.{refused}
use Rattle.ratio_c.proofs.reading.FractionsReader.read.Goals as goal
use Rattle.ratio_c.proofs.reading.FractionsReader.read.Goals.{in-ParseError, in-ZeroDenominator}

pub returns-in-Ok : goal.returns-in-Ok
returns-in-Ok g c = record {
  read = Ok (numerator c.in-Ok.x, denominator c.in-Ok.x);
  is_read = c.in-Ok.ensures;
  is_said = rw (c.into_raw.ensures.numer, c.into_raw.ensures.denom) refl;
}

pub returns-after-kind : goal.returns-after-kind
returns-after-kind g c = record {
  read = Err c.in-Err.refusal;
  is_read = c.in-Err.ensures;
  is_said = elim c.match-kind.branch [
    | in-ParseError w ↦ subst (λ kind. SaysRead c.args.text.now (Err kind) (refused c.match-kind.result)) (sym w.in-ParseError.is ∙ c.kind.ensures) (w.wide_refusal.result, w.wide_refusal.ensures, ap refused w.result-is)
    | in-ZeroDenominator w ↦ subst (λ kind. SaysRead c.args.text.now (Err kind) (refused c.match-kind.result)) (sym w.in-ZeroDenominator.is ∙ c.kind.ensures) (ap refused w.result-is)
  ];
}
