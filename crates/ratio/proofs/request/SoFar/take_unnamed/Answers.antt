use Rattle.ratio.proofs.RequestLemmas.{with_number}
use Rattle.ratio.proofs.request.SoFar.take_unnamed.Goals as goal

pub returns-in-Some-places : goal.returns-in-Some-places
returns-in-Some-places c = λ ws h. with_number ws c.args.word.now c.args.self.now h c.in-Some.number.now c.in-Some-places.n c.requires.any c.in-Some.ensures c.in-Some-places.ensures
