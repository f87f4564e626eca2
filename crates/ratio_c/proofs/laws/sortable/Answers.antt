use Rattle.ratio_c.proofs.SortedBytes.{keep_order}
use Rattle.ratio_c.proofs.laws.sortable.Goals as goal

pub returns : goal.returns
returns c = keep_order
