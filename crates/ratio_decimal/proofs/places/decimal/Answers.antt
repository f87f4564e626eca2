use Rattle.std.specs.Prelude.{◌≡◌, ◌+◌, ◌*◌, ◌^◌}
use Rattle.std.proofs.Common.{arith}
use Rattle.std.proofs.lemmas.Int.{ints}
use Rattle.ratio_decimal.specs.RoundingRules.{signed}
use Rattle.ratio_decimal.proofs.DecimalLemmas.{power_positive, power_small, rounded_magnitude}
use Rattle.ratio_decimal.proofs.places.decimal.Goals as goal

pub pow-power-requires : goal.pow-power-requires
pow-power-requires g c = let most = power_small c.args.places c.requires.few in omega arith

pub rounded-whole-requires-clause-some : goal.rounded-whole-requires-clause-some
rounded-whole-requires-clause-some g c =
    let e : c.pow-power.result ≡ 10 ^ c.args.places = c.pow-power.ensures in
    let some = power_positive c.args.places in
    omega (arith, ints)

pub returns : goal.returns
returns g c =
    let v = g.T.Integer.value in
    record {
      multiple = signed c.is_below_zero-below.result (c.rounded-whole.result.0 * 10 ^ c.args.places + c.rounded-whole.result.1);
      rounded = rounded_magnitude c.args.rule c.for_magnitude.result c.is_below_zero-below.result (v c.args.numer) (v c.args.denom) c.magnitude.result c.magnitude-2.result c.pow-power.result c.args.places
          c.rounded-whole.result.0 c.rounded-whole.result.1 c.is_below_zero-below.ensures c.requires.positive c.magnitude.ensures c.magnitude-2.ensures c.pow-power.ensures c.for_magnitude.ensures c.rounded-whole.ensures.rounded;
      written = c.put_places.ensures.written;
    }
