use Rattle.ratio_expressions.proofs.ReplyLaws.{reply_once}
use Rattle.ratio_expressions.proofs.replies.laws.one_reply.Goals as goal

pub returns-clause-reply : goal.returns-clause-reply
returns-clause-reply c = λ line form names behind after r q h g. (reply_once line form names behind after r q h g).0

pub returns-clause-names : goal.returns-clause-names
returns-clause-names c = λ line form names behind after r q h g. (reply_once line form names behind after r q h g).1
