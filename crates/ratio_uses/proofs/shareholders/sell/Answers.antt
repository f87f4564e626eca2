use Rattle.ratio_uses.proofs.ShareLemmas.{buyer_gains, more_refused, on_error, rest_refused, seller_keeps, total_stays}
use Rattle.ratio_uses.proofs.shareholders.sell.Goals as goal

pub returns-clause-seller : goal.returns-clause-seller
returns-clause-seller c = seller_keeps c.args.seller.now c.args.part.now c.in_ok-sold.sold c.in_ok-sold.ensures.product c.in_ok-rest.rest c.in_ok-rest.ensures.difference

pub returns-clause-buyer : goal.returns-clause-buyer
returns-clause-buyer c = buyer_gains c.args.seller.now c.args.part.now c.in_ok-sold.sold c.in_ok-sold.ensures.product c.args.buyer.now c.in_ok-more.more c.in_ok-more.ensures.sum

pub returns-clause-total : goal.returns-clause-total
returns-clause-total c = total_stays c.args.seller.now c.args.buyer.now c.in_ok-sold.sold c.in_ok-rest.rest c.in_ok-more.more c.in_ok-rest.ensures.difference c.in_ok-more.ensures.sum

pub returns-in_err-rest-clause-memory : goal.returns-in_err-rest-clause-memory
returns-in_err-rest-clause-memory c = on_error c.from_residual-in_err-rest.result (rest_refused c.args.seller.now c.args.part.now c.in_ok-sold.sold c.in_ok-sold.ensures.product c.args.buyer.now c.in_err-rest.ensures.memory)

pub returns-in_err-more-clause-memory : goal.returns-in_err-more-clause-memory
returns-in_err-more-clause-memory c = on_error c.from_residual-in_err-more.result (more_refused c.args.seller.now c.args.part.now c.in_ok-sold.sold c.in_ok-sold.ensures.product c.args.buyer.now c.in_err-more.ensures.memory)
