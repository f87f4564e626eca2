use Rattle.ratio_expressions.proofs.ParserAnswers.{found_in, begun_at, stopped_at, unfinished_at, within_of}
use Rattle.ratio_expressions.proofs.parser.parse.Goals as goal

pub returns-clause-found : goal.returns-clause-found
returns-clause-found c = found_in (λ v. v.items) c.args.tokens.now c.read_all.result c.read_all.ensures.read

pub returns-clause-begun : goal.returns-clause-begun
returns-clause-begun c = begun_at (λ v. v.items) c.args.tokens.now c.read_all.result c.read_all.ensures.read

pub returns-clause-stopped : goal.returns-clause-stopped
returns-clause-stopped c = stopped_at (λ v. v.items) c.args.tokens.now c.read_all.result c.read_all.ensures.read

pub returns-clause-unfinished : goal.returns-clause-unfinished
returns-clause-unfinished c = unfinished_at (λ v. v.items) c.args.tokens.now c.read_all.result c.read_all.ensures.read

pub returns-clause-within : goal.returns-clause-within
returns-clause-within c = within_of (λ v. v.items) c.args.tokens.now c.read_all.result c.read_all.ensures.read
