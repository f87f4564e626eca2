use Rattle.ratio_laws.proofs.UndoingLemmas.{is_product_undone, is_quotient_undone}
use Rattle.ratio_laws.proofs.undoing.products.Goals as goal

pub returns-clause-product : goal.returns-clause-product
returns-clause-product g c = is_product_undone c.args.x.now c.args.y.now (rw c.numer.ensures.value at c.both_held.ensures.first) (rw c.denom.ensures.value at c.both_held.ensures.second)

pub returns-clause-quotient : goal.returns-clause-quotient
returns-clause-quotient g c = is_quotient_undone c.args.x.now c.args.y.now (rw c.numer.ensures.value at c.both_held.ensures.first) (rw c.denom.ensures.value at c.both_held.ensures.second)
