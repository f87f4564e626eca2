use Rattle.std.proofs.Common.{◌≡◌, ◌^◌, arith, pos, subst}
use Rattle.std.proofs.lemmas.Int.{ints}
use mir.Val.{to_z, of_z}
use mir.Syntax.{w128}
use Rattle.ratio_core.specs.Power.{ChecksBoth}
use Rattle.ratio_decimal.proofs.DecimalLemmas.{power_positive, power_small}
use Rattle.ratio_c.proofs.Narrowing.{narrow_some, same_terms}
use Rattle.ratio_c.proofs.scaled.from_scaled.Goals as goal

pub pow-power-requires : goal.pow-power-requires
pow-power-requires g c = let most = power_small c.args.scale c.requires in omega arith

pub overflow_cast-power : goal.overflow_cast-power
overflow_cast-power g c =
    let most = power_small c.args.scale c.requires in
    let is : c.pow-power.result ≡ 10 ^ c.args.scale = c.pow-power.ensures in
    omega (arith, ints)

pub lowest_terms-numer-requires : goal.lowest_terms-numer-requires
lowest_terms-numer-requires g c =
    let most = power_small c.args.scale c.requires in
    let some = power_positive c.args.scale in
    let is : c.pow-power.result ≡ 10 ^ c.args.scale = c.pow-power.ensures in
    omega (arith, ints)

pub returns : goal.returns
returns g c =
    let v = g.T.Integer.value in
    let most = power_small c.args.scale c.requires in
    let is : c.pow-power.result ≡ 10 ^ c.args.scale = c.pow-power.ensures in
    let first : to_z w128 (of_z w128 c.args.n) ≡ c.args.n = omega (arith, ints) in
    let second : to_z w128 c.pow-power.result ≡ pos (10 ^ c.args.scale) = omega (arith, ints) in
    let third : to_z w128 (of_z w128 c.lowest_terms-numer.result.0) ≡ c.lowest_terms-numer.result.0 = omega (arith, ints) in
    let fourth : to_z w128 (of_z w128 c.lowest_terms-numer.result.1) ≡ c.lowest_terms-numer.result.1 = omega (arith, ints) in
    let told = subst (λ t. ChecksBoth (λ r. v r.0) (λ r. v r.1) g.T.Integer.lo g.T.Integer.hi c.lowest_terms-numer.result.0 t c.cast.result) fourth
    (subst (λ t. ChecksBoth (λ r. v r.0) (λ r. v r.1) g.T.Integer.lo g.T.Integer.hi t (to_z w128 (of_z w128 c.lowest_terms-numer.result.1)) c.cast.result) third c.cast.ensures) in
    narrow_some (λ r. v r.0) (λ r. v r.1) g.T.Integer.lo g.T.Integer.hi _ _ _ _ c.cast.result (same_terms _ _ _ _ _ _ first second c.lowest_terms-numer.ensures.terms) told
