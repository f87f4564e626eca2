use Rattle.std.proofs.Common.{refl}
use Rattle.std.proofs.Math.Nat.{pos_of_dvd_of_pos}
use Rattle.ratio_slots.proofs.CommonLemmas.{parts_by_gcd, parts_by_one}
use Rattle.ratio_slots.proofs.short_sums.parts_of.Goals as goal

pub divide_short-share-requires : goal.divide_short-share-requires
divide_short-share-requires c = pos_of_dvd_of_pos c.gcd-divisor.ensures.divisor.0 c.requires

pub returns : goal.returns
returns c =
    parts_by_gcd _ _ _ _ _ _ _ c.divide_short-quotient.ensures.quotient c.divide_short-quotient.ensures.rest c.gcd-divisor.ensures.divisor c.divide_short-share.ensures.quotient c.divide_short-share.ensures.rest

pub returns-then-divisor-eq1 : goal.returns-then-divisor-eq1
returns-then-divisor-eq1 c =
    parts_by_one _ _ _ _ _ _ c.divide_short-quotient.ensures.quotient c.divide_short-quotient.ensures.rest c.gcd-divisor.ensures.divisor c.if-divisor-eq1.true refl
