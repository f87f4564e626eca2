use Rattle.std.proofs.Common.{arith, below_more, sym, ◌∙◌}
use Rattle.std.proofs.lemmas.Bool.{false≢true}
use Rattle.ratio_expressions.proofs.FloatLemmas.{fewest_given}
use Rattle.ratio_expressions.proofs.replies.float.fewest_places.Goals as goal

pub returns-then-branch : goal.returns-then-branch
returns-then-branch c = fewest_given c.args.float c.loop-places.places c.loop-places.invariant (c.in_ok-reads_back.ensures.0 c.if-branch.true)

pub loop-places-preserved : goal.loop-places-preserved
loop-places-preserved c = below_more _ _ c.loop-places.invariant (λ back. false≢true (sym c.if-branch.false ∙ c.in_ok-reads_back.ensures.1 back))

pub returns : goal.returns
returns c = fewest_given c.args.float 1074 (λ k less. c.loop-places.invariant k (omega (arith, c.loop-places-test.false))) c.requires.last
