use Rattle.std.proofs.lemmas.Result.{IfOk-weaker}
use Rattle.serde_json.specs.View.{view}
use Rattle.ratio_big.specs.Fractions.{GivesBigQuotient, big_numbers}
use Rattle.ratio_json.specs.BigJson.{DividesJsonWholes}
use Rattle.ratio_json.proofs.WholeLemmas.{divides}
use Rattle.ratio_json.proofs.reading.quotient.Goals as goal

pub returns-clause-read : goal.returns-clause-read
returns-clause-read c =
    let x = c.in_ok-dividend.dividend in
    let y = c.in_ok-divisor.divisor in
    let a = view c.args.numer.now in
    let b = view c.args.denom.now in
    IfOk-weaker c.divide.result (GivesBigQuotient (big_numbers x) (big_numbers y)) (DividesJsonWholes a b) (divides a b x y c.in_ok-dividend.ensures.value c.in_ok-divisor.ensures.value) c.divide.ensures.quotient
