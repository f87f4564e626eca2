use Rattle.std.proofs.Common.{arith, subst}
use Rattle.std.proofs.lemmas.Int.{ints}
use Rattle.ratio_big.specs.Fractions.{big_numbers}
use Rattle.ratio_big.specs.Powers.{GivesBigPower}
use Rattle.ratio_expressions.proofs.FloatLemmas.{last_place_is}
use Rattle.ratio_expressions.proofs.replies.float.last_place.Goals as goal

pub returns : goal.returns
returns c =
    let ten = big_numbers c.from_integer.result in
    last_place_is c.args.places _ ten (big_numbers c.unwrap.result) (omega (arith, ints, c.from.ensures)) c.from_integer.ensures (subst (GivesBigPower ten _) c.unwrap.ensures c.in_ok-pow.ensures.power)
