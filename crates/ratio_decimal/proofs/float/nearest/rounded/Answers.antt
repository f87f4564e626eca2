use Rattle.std.specs.Prelude.{◌≡◌, ◌+◌, ℕ}
use Rattle.std.specs.Float.Ieee.{low, prec}
use Rattle.std.proofs.Common.{arith, sym, subst, ◌∙◌}
use Rattle.core.specs.Dec2flt.Rounding.{IsNearestBits}
use Rattle.ratio_decimal.proofs.FloatRounding.{AreDropped, digits_held, in_units, place_is, significand}
use Rattle.ratio_decimal.proofs.float.nearest.rounded.Goals as goal

pub bits_of-requires-clause-digits : goal.bits_of-requires-clause-digits
bits_of-requires-clause-digits g c =
    let f = g.F.FloatType.format in
    let digits : c.DIGITS.result ≡ prec f = c.DIGITS.ensures ∙ g.met.F.FloatType.digits_law in
    let least : c.LEAST.result ≡ low f = c.LEAST.ensures ∙ g.met.F.FloatType.least_law in
    let are : AreDropped f c.args.digits (c.args.n_zeros + 63) c.args.d_zeros c.max-dropped.result = record { full = c.requires.full; short = c.ranges.digits.fits; is = omega (arith, c.max-dropped.ensures, c.saturating_sub.ensures) } in
    digits_held f _ _ _ _ (significand f _ _ _ _ are) c.kept_digits.ensures.small

pub returns : goal.returns
returns g c n d D is =
    let f = g.F.FloatType.format in
    let digits : c.DIGITS.result ≡ prec f = c.DIGITS.ensures ∙ g.met.F.FloatType.digits_law in
    let least : c.LEAST.result ≡ low f = c.LEAST.ensures ∙ g.met.F.FloatType.least_law in
    let are : AreDropped f c.args.digits (c.args.n_zeros + 63) c.args.d_zeros c.max-dropped.result = record { full = c.requires.full; short = c.ranges.digits.fits; is = omega (arith, c.max-dropped.ensures, c.saturating_sub.ensures) } in
    let units = in_units f n d _ _ _ _ _ _ (place_is f _ _ _ _ are) is in
    let P : ℕ → Type 0 = IsNearestBits f n d in
    subst P (sym (rw least at c.bits_of.ensures)) (c.kept_digits.ensures.nearest f n d _ D (significand f _ _ _ _ are) units)
