use Rattle.std.proofs.Common.{subst}
use Rattle.ratio_big.specs.Fractions.{GivesBigQuotient, big_numbers}
use Rattle.ratio_expressions.proofs.ShareTerms.{divided_terms}
use Rattle.ratio_expressions.proofs.number.hundredth.Goals as goal

pub returns : goal.returns
returns c =
    let x = big_numbers c.args.x.now in
    let hundred = big_numbers c.from_integer.result in
    divided_terms x hundred (big_numbers c.in-Some.part) c.from_integer.ensures (subst (λ q. GivesBigQuotient x hundred q) c.in-Some.is c.in_ok-part.ensures.quotient)
