use Rattle.ratio_laws.proofs.ResultLemmas.{sum_known}
use Rattle.ratio_uses.proofs.accounts.move_part.Goals as goal

pub returns-clause-accounts : goal.returns-clause-accounts
returns-clause-accounts c = (c.in_ok-rest.ensures, c.in_ok-more.ensures)

-- (from - part) + part is from, by the first law. So the second is about from + to and the new accounts.
pub returns-clause-total : goal.returns-clause-total
returns-clause-total c =
    let from = c.args.from.now in
    let rest = c.in_ok-rest.rest in
    let back = sum_known rest c.args.part.now from (λ sum. c.sums.ensures.difference rest sum c.in_ok-rest.ensures) in
    λ old new. c.sums-2.ensures.associate from c.in_ok-more.more old new back c.in_ok-more.ensures
