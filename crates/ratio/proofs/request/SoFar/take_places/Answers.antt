use Rattle.ratio.proofs.RequestLemmas.{with_places}
use Rattle.ratio.proofs.request.SoFar.take_places.Goals as goal

pub returns-in-Some : goal.returns-in-Some
returns-in-Some c = λ ws h. with_places ws c.args.word.now c.args.self.now h c.in-Some.n c.requires c.in-Some.ensures
