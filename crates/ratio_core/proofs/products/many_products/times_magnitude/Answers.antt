use Rattle.std.specs.Prelude.{◌≡◌, ◌≢◌, ◌-ℤ◌, ◌+ℤ◌, ◌<ℤ◌, false, true, pos, negsuc, unsigned_abs}
use Rattle.std.proofs.Common.{ap, sym, arith, ◌∙◌}
use Rattle.std.proofs.lemmas.Int.{ints}
use Rattle.ratio_core.proofs.ManyProductLemmas.{below_magnitude, magnitude_out}
use Rattle.ratio_core.proofs.products.many_products.times_magnitude.Goals as goal
use Rattle.ratio_core.proofs.products.many_products.times_magnitude.Goals.{then-is_below_zero+else-is_zero, else-is_below_zero}

pub returns-in-Some : goal.returns-in-Some
returns-in-Some g c =
    let v = g.T.Integer.value in
    let below = c.is_below_zero.ensures.0 c.if-not-is_below_zero.false in
    let size : v c.in-Some.magnitude ≡ pos (unsigned_abs (v c.args.x)) =
    c.in-Some.ensures.1 ∙ ap (λ z. z -ℤ v c.args.x) (ap v c.ZERO.ensures ∙ g.met.T.Integer.zero_law) ∙ below_magnitude (v c.args.x) below in
    rw (sym size) c.try_times-in-Some.ensures

pub returns-in-None-2 : goal.returns-in-None-2
returns-in-None-2 g c =
    let v = g.T.Integer.value in
    let below = c.is_below_zero.ensures.0 c.if-not-is_below_zero.false in
    let other : v c.args.total ≢ negsuc 0 = elim c.if-is_below_zero.branch [
      | then-is_below_zero+else-is_zero w ↦ λ e.
          let next : v w.plus.result ≡ negsuc 0 +ℤ pos 1 = rw (e, w.ONE.ensures, g.met.T.Integer.one_law) at w.plus.ensures in
          let none : v w.plus.result ≡ pos 0 = omega (arith, ints) in
          absurd (let yes : w.is_zero.result ≡ true = w.is_zero.ensures.1 none in let no : w.is_zero.result ≡ false = w.if-is_zero.false in cc)
      | else-is_below_zero w ↦ λ e.
          let total_below : v c.args.total <ℤ pos 0 = omega (arith, ints) in
          absurd (let no : false ≡ true = w.if-is_below_zero.ensures.1 total_below in cc)
    ] in
    magnitude_out _ _ (v c.args.total) (v c.args.x) g.met.T.Integer.range_law c.requires other below (rw (c.ZERO.ensures, g.met.T.Integer.zero_law) at c.in-None.ensures)
