use Rattle.std.specs.Int.RustNames.{FitsSigned}
use Rattle.std.proofs.Common.{rules}
use Rattle.std.proofs.lemmas.Int.{to_z-of_z}
use mir.Syntax.{w128}
use Rattle.ratio_totals.proofs.PairLemmas.{product_in}
use Rattle.ratio_totals.proofs.total.Total.add_product.Goals as goal

pub returns-in-Ok-clause-sum : goal.returns-in-Ok-clause-sum
returns-in-Ok-clause-sum g c =
    let fits : FitsSigned w128 c.in-Some.numer = search rules in
    product_in c.args.self.now.slots.now c.put.new.slots _ c.in-Some.numer c.in-Some.denom c.in-Some.ensures (rw (to_z-of_z w128 c.in-Some.numer fits) at c.in-Ok.ensures.sum)
