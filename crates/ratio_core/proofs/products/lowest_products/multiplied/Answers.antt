use Rattle.ratio_core.proofs.ProductLemmas.{own_denom_out, own_numer_out}
use Rattle.ratio_core.proofs.products.lowest_products.multiplied.Goals as goal

pub returns-in_err-try_times : goal.returns-in_err-try_times
returns-in_err-try_times g c = rw c.from_residual.ensures (own_numer_out _ _ _ _ c.requires c.in_err-try_times.ensures)

pub returns-in_err-try_times-2 : goal.returns-in_err-try_times-2
returns-in_err-try_times-2 g c = rw c.from_residual-in_err-try_times-2.ensures (own_denom_out _ _ _ _ c.requires c.in_err-try_times-2.ensures)
