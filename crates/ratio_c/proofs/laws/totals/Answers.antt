use Rattle.ratio_c.proofs.TotalLaws.{any_order, calls_follow, each_is_brought, each_is_counted, out_undoes_in}
use Rattle.ratio_c.proofs.laws.totals.Goals as goal

pub returns-clause-brought : goal.returns-clause-brought
returns-clause-brought c = each_is_brought

pub returns-clause-counted : goal.returns-clause-counted
returns-clause-counted c = each_is_counted

pub returns-clause-order : goal.returns-clause-order
returns-clause-order c = any_order

pub returns-clause-calls : goal.returns-clause-calls
returns-clause-calls c = calls_follow

pub returns-clause-undone : goal.returns-clause-undone
returns-clause-undone c = out_undoes_in
