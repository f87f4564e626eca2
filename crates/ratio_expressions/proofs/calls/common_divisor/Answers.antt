use Rattle.std.proofs.Common.{◌≡◌, ◌∙◌, ◌<◌, arith, length, map, refl, subst, sym, take}
use Rattle.std.proofs.lemmas.List.{get_or_default, take_all}
use Rattle.ratio_core.specs.Divisors.{IsGcdOfFractions}
use Rattle.ratio_big.specs.Fractions.{big_numbers}
use Rattle.ratio_big.specs.declared.fraction.BigFraction.{BigFraction}
use Rattle.ratio_expressions.specs.Functions.{IsGcdOfAll}
use Rattle.ratio_expressions.proofs.DivisorLaws.{begun, gcd_alone, gcd_more, goes_on}
use Rattle.ratio_expressions.proofs.calls.common_divisor.Goals as goal

pub loop-next-init : goal.loop-next-init
loop-next-init c =
    let xs = c.args.numbers.now in
    let x : BigFraction = c.index-numbers-0.result in
    let y : BigFraction = c.index-numbers-0-2.result in
    let r = big_numbers c.in_ok-divisor.divisor in
    let some : 0 < length xs = omega (arith, c.requires) in
    let same : y ≡ x = c.index-numbers-0-2.is ∙ get_or_default xs 0 y x some ∙ sym c.index-numbers-0.is in
    let is = subst (λ (z : BigFraction). IsGcdOfFractions (big_numbers x).0 (big_numbers x).1 (big_numbers z).0 (big_numbers z).1 r.0 r.1) same c.in_ok-divisor.ensures.divisor in
    begun (λ l. IsGcdOfAll l r) xs 0 x some c.index-numbers-0.is refl (gcd_alone (big_numbers x) r is)

pub loop-next-preserved : goal.loop-next-preserved
loop-next-preserved c =
    let q = big_numbers c.in_ok-divisor-2.divisor in
    goes_on (λ l. IsGcdOfAll l q) c.args.numbers.now c.loop-next.next c.index-numbers-next.result c.loop-next-test.true c.index-numbers-next.is
    (gcd_more (map big_numbers (take c.loop-next.next c.args.numbers.now)) (big_numbers c.index-numbers-next.result) (big_numbers c.loop-next.divisor) q c.loop-next.invariant c.in_ok-divisor-2.ensures.divisor)

pub returns : goal.returns
returns c = subst (λ l. IsGcdOfAll (map big_numbers l) (big_numbers c.loop-next.divisor)) (take_all c.loop-next.next c.args.numbers.now c.loop-next-test.false) c.loop-next.invariant
